use Rattle.std.proofs.Common.{length}
use Rattle.tree_table.proofs.Emptied.{no_start, memory_alone}
use Rattle.tree_table.proofs.leaf.emptied.Goals as goal

pub returns-then-page-start-clause-refused : goal.returns-then-page-start-clause-refused
returns-then-page-start-clause-refused c = λ sized. absurd (no_start (length c.args.page.now) c.args.number c.start_of-start.result sized c.start_of-start.ensures c.if-page-start.true)

pub returns-clause-refused : goal.returns-clause-refused
returns-clause-refused c = memory_alone c.without_cells.result (length c.args.page.now) c.args.number c.start_of-start.result c.start_of-start.ensures c.without_cells.ensures.refused
