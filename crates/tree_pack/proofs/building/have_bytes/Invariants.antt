use Rattle.std.proofs.Common.{◌↔◌, length, map}
use Rattle.tree_pack.proofs.BuildingLemmas.{AreSome}
use Rattle.tree_pack.proofs.building.have_bytes.Given as goal

abbrev pub invariant-cells : goal.invariant-cells
invariant-cells l = AreSome (map (λ cell. cell.now) l.cells) ↔ AreSome (map (λ cell. cell.now) l.left)

abbrev pub decreases-cells : goal.decreases-cells
decreases-cells l = length l.left
