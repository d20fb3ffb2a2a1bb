-- the cells up to here were put behind one another
use Rattle.std.proofs.Common.{length, map}
use Rattle.tree_page.specs.Node.{Node, IsNode}
use Rattle.tree_table.specs.Runs.{AreRising, cell_in}
use Rattle.tree_table.proofs.RunMade.{IsUpTo}
use Rattle.tree_table.proofs.runs.exchange.Given as goal

abbrev pub invariant-places : goal.invariant-places
invariant-places l = (node : Node) (is : IsNode l.bytes l.start node) → AreRising 0 (length is.cells) l.places
    → IsUpTo is.cells l.places (map cell_in l.cells) l.first l.from l.index (map (λ cell. cell.now) l.all.items)
