use Rattle.std.proofs.Common.{◌≡◌, map, take}
use Rattle.tree_store.proofs.storing.lent.Given as goal

abbrev pub invariant-loop-cell : goal.invariant-loop-cell
invariant-loop-cell l = map (λ slice. slice.now) l.slices.items ≡ map (λ cell. cell.items) (take l.cell-index l.cells)
