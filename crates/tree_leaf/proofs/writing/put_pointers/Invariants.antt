use Rattle.std.proofs.Common.{◌≡◌, ◌≤◌, ◌++◌, length, map, sum_by}
use Rattle.std.specs.List.{AllByRecursion, flat_map}
use Rattle.tree_leaf.specs.Leaf.{entry_of}
use Rattle.tree_page.specs.Cells.{pointer}
use Rattle.tree_leaf.specs.Writing.{IsNumbered, cell_size, spans_below}
use Rattle.tree_leaf.proofs.writing.put_pointers.Given as goal

abbrev pub invariant-cells : goal.invariant-cells
invariant-cells l =
    (l.out.items ++ flat_map pointer (spans_below l.offset (map entry_of l.left)) ≡ l.initial.out.items ++ flat_map pointer (spans_below l.end (map entry_of l.cells)))
    × (sum_by cell_size (map entry_of l.left) ≤ l.offset) × (l.offset ≤ 65536) × (AllByRecursion IsNumbered (map entry_of l.left) → AllByRecursion IsNumbered (map entry_of l.cells))

abbrev pub decreases-cells : goal.decreases-cells
decreases-cells l = length l.left
