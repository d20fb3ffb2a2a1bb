-- What becomes of a root whose tree lost rows.
use Rattle.std.specs.Prelude.{◌≡◌, ◌≤◌, ◌<◌, ◌+◌, ℕ, nat_lt, Bool, true, if◌then◌else◌, List, [], ◌∷◌, Option, None, ⊤, Result, MatchResult}
use Rattle.sqlval.specs.Faults.{IsOutside}
use Rattle.sqlval.specs.declared.fault.Fault.{Fault}
use Rattle.tree_leaf.specs.Leaf.{Entry}
use Rattle.pages.specs.Calls.{IsOutsideOrFull}
use Rattle.pages.specs.Counting.{occurs, Moves}
use Rattle.pages.specs.Map.{PageMap, page_at, AreWhole, Has}
use Rattle.freelist.specs.Calls.{AreFree, HasFree, KeepsHeader}
use Rattle.tree_page.specs.Node.{Node}
use Rattle.tree_page.specs.Reading.{count_of, last_of}
use Rattle.tree_store.specs.Saying.{Says}
use Rattle.tree_table.specs.Calls.{Stands, BecomesRows}

-- the one child of an interior page without cells
abbrev pub lone_of : Node → Option ℕ
lone_of node = if nat_lt 0 (count_of node) then None else last_of node

-- the one child of a page without cells is found; or memory was short, or a disk's call failed
abbrev pub FindsLone : PageMap → ℕ → ℕ → Result (Option ℕ) Fault → Type 0
FindsLone map size number result = (node : Node) → AreWhole size map → Says map number node
    → MatchResult result (λ found. found ≡ lone_of node) IsOutside

-- A page has the bytes of another one, which is free now.
pub record IsTakenOver (old new : PageMap) (size : ℕ) (free : List ℕ) (number child : ℕ) : Type 0 where
  pub now_free : List ℕ
  pub is : page_at new number ≡ page_at old child
  pub has : HasFree new size now_free
  pub moves : Moves old new (number ∷ child ∷ []) free (number ∷ []) now_free
  pub header : KeepsHeader old new

-- two pages other than page 1 that are there and not free
pub record AreApart (map : PageMap) (free : List ℕ) (number child : ℕ) : Type 0 where
  pub first : Has map number
  pub second : Has map child
  pub after_first : 1 < number
  pub after_second : 1 < child
  pub once : (n : ℕ) → occurs n (number ∷ child ∷ []) + occurs n free ≤ 1

-- where two pages aren't free, the first has the second one's bytes then; or memory was short, or a disk's call failed
abbrev pub TakesOver : PageMap → PageMap → ℕ → ℕ → ℕ → Result ⊤ Fault → Type 0
TakesOver old new size number child result = (free : List ℕ) → AreFree old size free → AreApart old free number child
    → MatchResult result (λ done. IsTakenOver old new size free number child) IsOutside

-- where a tree stands, it has the same rows and isn't deeper then; or memory was short, or a disk's call failed
abbrev pub LowersRoot : PageMap → PageMap → ℕ → ℕ → Result ⊤ Fault → Type 0
LowersRoot old new size root result = (rows : List Entry) (used free : List ℕ) (is : Stands old size root rows used free)
    → MatchResult result (λ done. (now : BecomesRows old new size root rows used free) × (now.stands.tree.depth ≤ is.tree.depth)) IsOutside

-- the tree has the same rows, isn't deeper, and without rows it is its root alone
abbrev pub IsSettled : PageMap → PageMap → ℕ → ℕ → ℕ → List Entry → List ℕ → List ℕ → Type 0
IsSettled old new size root depth rows used free =
    (now : BecomesRows old new size root rows used free) × (rows ≡ [] → now.now_used ≡ root ∷ []) × (now.stands.tree.depth ≤ depth)

-- where a tree stands, this becomes of it; or memory was short, or a disk's call failed
abbrev pub SettlesRoot : PageMap → PageMap → ℕ → ℕ → Result ⊤ Fault → Type 0
SettlesRoot old new size root result = (rows : List Entry) (used free : List ℕ) (is : Stands old size root rows used free)
    → MatchResult result (λ done. IsSettled old new size root is.tree.depth rows used free) IsOutside

-- ---- a root that got a row

-- where a tree stands, only one of several pages is found to end with a leaf without rows; or memory was short, or a disk's call failed
abbrev pub EndsBare : PageMap → ℕ → ℕ → Result Bool Fault → Type 0
EndsBare map size root result = (rows : List Entry) (used free : List ℕ) (is : Stands map size root rows used free)
    → MatchResult result (λ found. found ≡ true → 1 ≤ is.tree.depth) IsOutside

-- where a tree stands, it has the same rows and isn't deeper then; or memory was short, a disk's call failed, or there are as many pages as
-- there may be
abbrev pub TrimsRoot : PageMap → PageMap → ℕ → ℕ → Result ⊤ Fault → Type 0
TrimsRoot old new size root result = (rows : List Entry) (used free : List ℕ) (is : Stands old size root rows used free)
    → MatchResult result (λ done. (now : BecomesRows old new size root rows used free) × (now.stands.tree.depth ≤ is.tree.depth)) IsOutsideOrFull
