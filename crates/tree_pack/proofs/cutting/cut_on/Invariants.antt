use Rattle.std.proofs.Common.{◌≤◌, ◌++◌, ℕ, List, length}
use Rattle.tree_pack.specs.Parts.{AreParts}
use Rattle.tree_pack.proofs.Totals.{rooms}
use Rattle.tree_pack.proofs.cutting.cut_on.Given as goal

abbrev pub invariant-parts : goal.invariant-parts
invariant-parts l = record {
  within : length l.left ≤ length l.cells;
  so_far : (more : List ℕ) → AreParts l.up l.room l.fn.goal more (rooms l.left) → AreParts l.up l.room l.fn.goal (l.counts.items ++ more) (rooms l.cells);
}

abbrev pub decreases-parts : goal.decreases-parts
decreases-parts l = length l.left
