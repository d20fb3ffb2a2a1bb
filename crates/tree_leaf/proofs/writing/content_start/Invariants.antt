use Rattle.std.proofs.Common.{◌≡◌, ◌≤◌, length, map}
use Rattle.tree_leaf.specs.Leaf.{entry_of}
use Rattle.tree_leaf.specs.Writing.{content_below}
use Rattle.tree_leaf.proofs.writing.content_start.Given as goal

abbrev pub invariant-cells : goal.invariant-cells
invariant-cells l =
    (content_below l.page_size l.room l.content (map entry_of l.left) ≡ content_below l.page_size l.initial.room l.initial.content (map entry_of l.cells)) × (l.room ≤ l.content)

abbrev pub decreases-cells : goal.decreases-cells
decreases-cells l = length l.left
