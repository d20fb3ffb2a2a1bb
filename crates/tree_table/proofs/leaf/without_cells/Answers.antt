use Rattle.std.proofs.Common.{length, []}
use Rattle.tree_table.proofs.Rebuilding.{front_stays}
use Rattle.tree_table.proofs.leaf.without_cells.Goals as goal

pub returns-clause-front : goal.returns-clause-front
returns-clause-front c = front_stays c.build.result c.args.page.now (length c.args.page.now) c.args.start [] c.requires c.build.ensures.exact
