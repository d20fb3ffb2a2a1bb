use Rattle.tree_table.proofs.Batching.{HasPassed, left_from}
use Rattle.tree_table.proofs.scanning.Cursor.next_batch.Given as goal

abbrev pub invariant-leaves : goal.invariant-leaves
invariant-leaves g l =
    HasPassed g.P.Pages.below g.P.Pages.tells g.P.Pages.limits g.P.Pages.map g.P.Pages.count g.P.Pages.failures l.fn.pages l.pages l.fn.self.root l.self.root l.fn.self.next l.self.next l.batch

abbrev pub decreases-leaves : goal.decreases-leaves
decreases-leaves g l = left_from l.self.next
