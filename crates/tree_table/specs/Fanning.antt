-- What becomes of the cells of an interior page when several pages stand in place of one child.
use Rattle.std.specs.Prelude.{◌≡◌, ◌≤◌, ◌<◌, ◌+◌, ◌-◌, ◌^◌, ℕ, zero, suc, ℤ}
use Rattle.std.specs.Prelude.{Bool, List, [], ◌∷◌, ◌++◌, length, map, take, Result, MatchResult}
use Rattle.std.specs.Global.{Vec}
use Rattle.sqlval.specs.declared.fault.Fault.{Fault}
use Rattle.sqlval.specs.declared.fault.Fault.TheVariants.{Memory}
use Rattle.tree_page.specs.Cells.{Pairwise}
use Rattle.tree_page.specs.Node.{Keys, IsNode, IsKeyCell}
use Rattle.tree_page.specs.declared.items.Kind.TheVariants.{TableInterior}
use Rattle.tree_pack.specs.Parts.{total}
use Rattle.tree_pack.specs.Building.{cell_room}
use Rattle.tree_pack.specs.Packing.{Packs}
use Rattle.tree_pack.specs.Splicing.{IsUsual}
use Rattle.tree_pack.specs.declared.spreading.Packed.{Packed}
use Rattle.tree_store.specs.Sides.{Side, behind}
use Rattle.tree_store.specs.Storing.{cells_of}
use Rattle.tree_store.specs.declared.storing.Fan.{Fan}

-- where a cell has a child's number and a key, the other one has this number and the key
abbrev pub Parents : List ℕ → ℕ → Result (Vec ℕ) Fault → Type 0
Parents cell child result = (kid : ℕ × ℤ) → IsKeyCell cell kid
    → MatchResult result (λ moved. IsKeyCell moved.items (child, kid.1) × (length moved.items ≡ length cell)) (λ fault. fault ≡ Memory)

-- the children where these stand in place of the one at a place; the last of them takes its key, or is the last child
abbrev pub fanned : ℕ → List (ℕ × ℤ) → ℕ → List (ℕ × ℤ) → ℕ → Side ℕ ℤ
fanned place news new [] last = (news, new)
fanned zero news new (kid ∷ kids) last = (news ++ (new, kid.1) ∷ kids, last)
fanned (suc place) news new (kid ∷ kids) last = behind (kid ∷ []) (fanned place news new kids last)

-- the children are packed, on no more room than the page and the fan's cells had
pub record IsFanned (page : List ℕ) (start : ℕ) (side : Side ℕ ℤ) (fan : Fan) (packed : Packed) : Type 0 where
  pub rises : Bool
  pub cells : List (List ℕ)
  pub packs : Packs TableInterior (length page) (take start page) rises cells (Keys side.0 side.1) packed
  pub say : Pairwise IsKeyCell cells side.0
  pub room : total (map cell_room cells) ≤ length page - start - 12 + total (map cell_room (cells_of fan))

-- where the page is an interior one and the fan's cells say these children, they are packed with it; or memory was short
abbrev pub Fans : List ℕ → ℕ → ℕ → Fan → Result Packed Fault → Type 0
Fans page start place fan result = (kids news : List (ℕ × ℤ)) (last : ℕ) → IsNode page start (Keys kids last) → IsUsual page start
    → place ≤ length kids → fan.last < 2 ^ 32
    → Pairwise IsKeyCell (cells_of fan) news
    → MatchResult result (IsFanned page start (fanned place news fan.last kids last) fan) (λ fault. fault ≡ Memory)
