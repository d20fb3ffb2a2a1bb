use Rattle.db_write.proofs.Dropped.{index_freed}
use Rattle.db_write.proofs.dropping.free_index.Goals as goal

pub returns-clause-freed : goal.returns-clause-freed
returns-clause-freed g c = λ told.
    (let pages = g.P.Pages in
    index_freed (pages.map c.args.pages.now) (pages.map c.free_tree.new.pages) (pages.limits (pages.below c.args.pages.now)).page c.args.root c.free_tree.result (c.free_tree.ensures.freed told))
