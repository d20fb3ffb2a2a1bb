-- The steps in which packed pages are stored.
use Rattle.std.specs.Prelude.{◌≡◌, ◌⊎◌, ◌<◌, ◌≤◌, ◌+◌, ℕ, List, [], ◌∷◌, ◌++◌, length, ⊤, Option, None, Some, IfSome, Result, MatchResult}
use Rattle.std.specs.List.{AllByRecursion}
use Rattle.std.specs.Int.{w32, to_be_bytes}
use Rattle.sqlval.specs.Faults.{IsOutside}
use Rattle.sqlval.specs.declared.fault.Fault.{Fault}
use Rattle.sqlval.specs.declared.fault.Fault.TheVariants.{Full}
use Rattle.pages.specs.Counting.{occurs, start_of, Moves}
use Rattle.pages.specs.Map.{PageMap, page_at, with_page, written_over, Has, IsThere}
use Rattle.freelist.specs.Calls.{AreFree, HasFree, KeepsHeader}
use Rattle.tree_page.specs.Cells.{Pairwise, IsTreePage}
use Rattle.tree_page.specs.Reading.{type_of}
use Rattle.tree_page.specs.declared.items.Kind.{Kind}
use Rattle.tree_pack.specs.Building.{Fits, right_room}
use Rattle.tree_pack.specs.declared.freeing.FreeblockHead.{FreeblockHead}
use Rattle.tree_store.specs.Storing.{IsOn, AreOlds}

-- Pages moved, and the header tells those that are free now.
pub record HasMoved (old new : PageMap) (size : ℕ) (used free now_used now_free : List ℕ) : Type 0 where
  pub has : HasFree new size now_free
  pub moves : Moves old new used free now_used now_free
  pub header : KeepsHeader old new

-- ---- one freeblock

-- the pages where a page has the first bytes of a freeblock, if there is one
abbrev pub headed : PageMap → ℕ → Option FreeblockHead → PageMap
headed map number None = map
headed map number (Some head) = with_page map number (written_over head.at head.bytes (page_at map number))

-- these bytes end within a page
abbrev pub EndsOnPage : ℕ → Option FreeblockHead → Type 0
EndsOnPage size head = IfSome head (λ head. head.at + length head.bytes ≤ size)

-- where the page is there and has them, they are written; or memory was short, or a disk's call failed
abbrev pub WritesHead : PageMap → PageMap → ℕ → ℕ → Option FreeblockHead → Result ⊤ Fault → Type 0
WritesHead old new size number head result = IsThere old size number → EndsOnPage size head → MatchResult result (λ done. new ≡ headed old number head) IsOutside

-- ---- taking

-- Pages were taken, and their numbers stand after these. If the file grew, more were wanted and none is free.
pub record AreTaken (old new : PageMap) (size : ℕ) (free before : List ℕ) (count : ℕ) (numbers : List ℕ) : Type 0 where
  pub more : List ℕ
  pub now_free : List ℕ
  pub numbers_are : numbers ≡ before ++ more
  pub long : length numbers ≡ count
  pub moved : HasMoved old new size [] free more now_free
  pub rule : (length new ≡ length old) ⊎ ((now_free ≡ []) × (length before < count))

-- Where there aren't too many numbers, pages were taken until there are so many; or memory was short, a disk's call failed, or more were
-- wanted and there are as many pages as there may be.
abbrev pub TakesMore : {T : Type 0} → (T → List ℕ) → PageMap → PageMap → ℕ → List ℕ → ℕ → Result T Fault → Type 0
TakesMore view old new size before count result = (free : List ℕ) → AreFree old size free → length before ≤ count
    → MatchResult result (λ x. AreTaken old new size free before count (view x))
    (λ fault. IsOutside fault ⊎ ((fault ≡ Full) × (length before < count)))

-- ---- writing

-- The pages have these bytes now, and what is used and free is so still.
pub record AreWritten (old new : PageMap) (size : ℕ) (free numbers : List ℕ) (images : List (List ℕ)) : Type 0 where
  pub on : Pairwise (IsOn new) numbers images
  pub moved : HasMoved old new size numbers free numbers free
  pub same : length new ≡ length old

-- Where the pages can be written, they have these bytes then, in order; or memory was short, or a disk's call failed.
abbrev pub WritesAll : PageMap → PageMap → ℕ → List ℕ → List (List ℕ) → Result ⊤ Fault → Type 0
WritesAll old new size numbers images result = (free : List ℕ) → AreFree old size free → AreOlds old free numbers
    → AllByRecursion (λ image. length image ≡ size) images → length numbers ≡ length images
    → MatchResult result (λ done. AreWritten old new size free numbers images) IsOutside

-- ---- giving back

-- These pages are free now.
pub record AreGiven (old new : PageMap) (size : ℕ) (free spare : List ℕ) : Type 0 where
  pub now_free : List ℕ
  pub moved : HasMoved old new size spare free [] now_free
  pub same : length new ≡ length old

-- Where the pages can be written, they are free then; or memory was short, or a disk's call failed.
abbrev pub GivesAll : PageMap → PageMap → ℕ → List ℕ → Result ⊤ Fault → Type 0
GivesAll old new size spare result = (free : List ℕ) → AreFree old size free → AreOlds old free spare
    → MatchResult result (λ done. AreGiven old new size free spare) IsOutside

-- ---- a tree's root

-- The page is an interior page of these cells and this last child now, and what is used and free is so still.
pub record IsRaised (old new : PageMap) (size root : ℕ) (kind : Kind) (free : List ℕ) (last : ℕ) (cells : List (List ℕ)) : Type 0 where
  pub root_is : IsTreePage (type_of kind) (page_at new root) (start_of root) (to_be_bytes w32 last) cells
  pub others : (number : ℕ) → 1 ≤ number → (number ≡ root → ⊥) → page_at new number ≡ page_at old number
  pub moved : HasMoved old new size (root ∷ []) free (root ∷ []) free
  pub same : length new ≡ length old

-- Where the page isn't free and the cells fit it, it is an interior page of them then; or memory was short, or a disk's call failed.
abbrev pub Raises : PageMap → PageMap → ℕ → ℕ → Kind → ℕ → List (List ℕ) → Result ⊤ Fault → Type 0
Raises old new size root kind last cells result = (free : List ℕ) → AreFree old size free → Has old root → occurs root free ≡ 0
    → right_room kind ≡ 4 → Fits size (start_of root) 4 cells
    → MatchResult result (λ done. IsRaised old new size root kind free last cells) IsOutside
