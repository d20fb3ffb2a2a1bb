use Rattle.tree_page.proofs.NodeLemmas.{on_place}
use Rattle.tree_page.proofs.page.TreePage.check.Goals as goal

pub returns-clause-only : goal.returns-clause-only
returns-clause-only c = λ node is. c.check_cells.ensures.only node (on_place c.args.self.now c.self.inside.bytes.now c.self.inside.start node c.self.view_is is)
