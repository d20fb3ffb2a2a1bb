-- What becomes of the root of an index's tree that lost an entry.
use Rattle.std.specs.Prelude.{◌≡◌, ◌≤◌, ◌<◌, ◌+◌, ℕ, List, [], ◌∷◌, Some, ⊤, Result, MatchResult}
use Rattle.sqlval.specs.Faults.{IsOutside}
use Rattle.sqlval.specs.declared.fault.Fault.{Fault}
use Rattle.pages.specs.Counting.{occurs, Moves}
use Rattle.pages.specs.Map.{PageMap, page_at, Has}
use Rattle.freelist.specs.Calls.{AreFree, HasFree, KeepsHeader}
use Rattle.tree_page.specs.Node.{Node, IsNode}
use Rattle.tree_page.specs.Reading.{count_of, last_of}
use Rattle.tree_pack.specs.declared.spreading.Packed.{Packed}

-- packed pages are one page without cells that leads to this child
pub record IsLone (packed : Packed) (child : ℕ) : Type 0 where
  pub alone : packed.pieces.items ≡ []
  pub bare : (node : Node) → IsNode packed.last.items 0 node → (count_of node ≡ 0) × (last_of node ≡ Some child)

-- A page has the bytes of another one, which is free now.
pub record IsTakenOver (old new : PageMap) (size : ℕ) (free : List ℕ) (number child : ℕ) : Type 0 where
  pub now_free : List ℕ
  pub is : page_at new number ≡ page_at old child
  pub has : HasFree new size now_free
  pub moves : Moves old new (number ∷ child ∷ []) free (number ∷ []) now_free
  pub header : KeepsHeader old new

-- two pages other than page 1 that are there and not free
pub record AreApart (map : PageMap) (free : List ℕ) (number child : ℕ) : Type 0 where
  pub first : Has map number
  pub second : Has map child
  pub after_first : 1 < number
  pub after_second : 1 < child
  pub once : (n : ℕ) → occurs n (number ∷ child ∷ []) + occurs n free ≤ 1

-- where two pages aren't free, the first has the second one's bytes then; or memory was short, or a disk's call failed
abbrev pub TakesOver : PageMap → PageMap → ℕ → ℕ → ℕ → Result ⊤ Fault → Type 0
TakesOver old new size number child result = (free : List ℕ) → AreFree old size free → AreApart old free number child
    → MatchResult result (λ done. IsTakenOver old new size free number child) IsOutside
