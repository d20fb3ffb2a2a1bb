-- An entry that lies whole on its page, and what it is compared with.
use Rattle.std.proofs.Common.{◌≡◌, ◌∙◌, ◌<◌, ℕ, true, List, length, sym, ap}
use Rattle.std.specs.Prelude.{IfSome, Result, Ok, Err}
use Rattle.std.specs.Ordering.{is_eq}
use Rattle.std.specs.Result.{result_ok}
use Rattle.std.specs.declared.cmp.Ordering.{Ordering}
use Rattle.sqlval.specs.declared.collation.Collation.{Collation}
use Rattle.sqlval.specs.declared.fault.Fault.{Fault}
use Rattle.sqlval.specs.declared.value.Value.{Value}
use Rattle.pages.specs.Map.{PageMap, AreWhole, page_at}
use Rattle.tree_page.specs.Node.{Node}
use Rattle.tree_page.specs.Payload.{index_most}
use Rattle.tree_index.specs.Comparing.{ComparesEntry, HasEntries, LiesWhole}
use Rattle.tree_index.specs.Taking.{ComparesWhole, IsWholeAt}
use Rattle.tree_index.specs.Tree.{Held}
use Rattle.tree_index.proofs.Inserts.{nothing}

-- what the bytes of a page say, where so many of an entry lie in its cell
abbrev Reads : List ℕ → ℕ → ℕ → (PageMap → ℕ → Type 0) → Type 0
Reads bytes number most Says = (pages : PageMap) (size : ℕ) → bytes ≡ page_at pages number → most ≡ index_most size → Says pages size

abbrev There : ℕ → ℕ → PageMap → ℕ → Type 0
There number place pages size = (node : Node) (entries : List Held) → AreWhole size pages → HasEntries pages size number node entries → place < length entries

module _ (bytes : List ℕ) (number place most : ℕ) (columns : List Collation) (key : List Value) where
  pub compared_whole : (result : Result Ordering Fault) → Reads bytes number most (There number place) → Reads bytes number most (λ pages size. ComparesEntry pages size number place columns key result)
      → Reads bytes number most (λ pages size. LiesWhole pages size number place)
      → IfSome (result_ok result) (λ order. (pages : PageMap) (size : ℕ) → bytes ≡ page_at pages number → most ≡ index_most size → ComparesWhole pages size number place columns key order)
  compared_whole (Ok order) there compares whole = λ pages size read long node entries d sizes has.
      (let lt = there pages size read long node entries sizes has in (lt, compares pages size read long node entries d sizes has lt, whole pages size read long node entries d has lt))
  compared_whole (Err fault) there compares whole = tt

-- the entry there equals the key
pub equal_whole : (pages : PageMap) (size number place : ℕ) (columns : List Collation) (key : List Value) (order : Ordering) → is_eq order ≡ true → ComparesWhole pages size number place columns key order
    → IsWholeAt pages size number columns key place
equal_whole pages size number place columns key order same compares node entries sizes has =
    let it = compares node entries nothing sizes has in
    ((it.0, λ d. (let one = compares node entries d sizes has in ap is_eq (sym one.1) ∙ same)), λ d. (compares node entries d sizes has).2)
