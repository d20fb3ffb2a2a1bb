use Rattle.std.proofs.Common.{sym, subst, Option}
use Rattle.query_terms.specs.Terms.{Term}
use Rattle.db_write.specs.Changing.{DeletesInTrees}
use Rattle.db_write.proofs.deleting.delete_rows.Goals as goal

pub returns-in-None-clause-deleted : goal.returns-in-None-clause-deleted
returns-in-None-clause-deleted g c = λ told.
    (let pages = g.P.Pages in
    subst (λ (condition : Option Term). DeletesInTrees (pages.map c.args.pages.now) (pages.map c.clear_rows.new.pages) (pages.limits (pages.below c.args.pages.now)).page c.args.table.now condition c.clear_rows.result)
    (sym c.in-None.is) (c.clear_rows.ensures.deleted told))
