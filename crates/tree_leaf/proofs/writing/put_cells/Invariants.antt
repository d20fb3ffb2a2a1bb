use Rattle.std.proofs.Common.{◌≡◌, ◌++◌, length, map, reverse}
use Rattle.std.specs.List.{flat_map}
use Rattle.tree_leaf.specs.Leaf.{entry_of}
use Rattle.tree_leaf.specs.Writing.{cell_text}
use Rattle.tree_leaf.proofs.writing.put_cells.Given as goal

abbrev pub invariant-cells : goal.invariant-cells
invariant-cells l =
    l.out.items ++ flat_map cell_text (reverse (map entry_of l.left)) ≡ l.initial.out.items ++ flat_map cell_text (reverse (map entry_of l.cells))

abbrev pub decreases-cells : goal.decreases-cells
decreases-cells l = length l.left
