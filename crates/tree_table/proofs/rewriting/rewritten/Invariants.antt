-- the rows at the places up to here are those of the changes
use Rattle.std.proofs.Common.{ℤ, List, take}
use Rattle.tree_page.specs.Node.{Local, Rows, IsNode}
use Rattle.tree_table.specs.Rewriting.{AreRewritten}
use Rattle.tree_table.specs.Runs.{IsRun}
use Rattle.tree_table.proofs.rewriting.rewritten.Given as goal

abbrev pub invariant-places : goal.invariant-places
invariant-places l = (said : List (ℤ × Local)) (is : IsNode l.bytes l.start (Rows said)) → IsRun 0 said l.changes l.places
    → AreRewritten l.bytes l.start said is (take l.index l.places) (take l.index l.changes) l.page.items
