use Rattle.std.proofs.Common.{ℕ, subst, Option, Ok}
use Rattle.pages.specs.Map.{PageMap}
use Rattle.query_names.specs.declared.queries.BoundSource.{BoundSource}
use Rattle.query_terms.specs.Terms.{Term}
use Rattle.row_change.specs.Taking.{TakesRows}
use Rattle.db_write.specs.Reading.{LoadsEnough}
use Rattle.db_write.proofs.Deleted.{bare_taken, none_read}
use Rattle.db_write.proofs.Looping.{after_reading}
use Rattle.db_write.proofs.Needed.{same_source}
use Rattle.db_write.proofs.deleting.take_bare_rows.Goals as goal

pub returns-in_err-rows-clause-deleted : goal.returns-in_err-rows-clause-deleted
returns-in_err-rows-clause-deleted g c = λ told.
    (let pages = g.P.Pages in
    none_read (pages.map c.args.pages.now) (pages.map c.enough_rows.new.pages) (pages.limits (pages.below c.args.pages.now)).page c.args.table.now c.args.term.now
    c.args.condition.now c.in_err-rows.field-0.0 c.from_residual.result c.from_residual.ensures.1 (c.in_err-rows.ensures.loaded told))

pub returns-clause-deleted : goal.returns-clause-deleted
returns-clause-deleted g c = λ told.
    (let pages = g.P.Pages in
    let old = pages.map c.args.pages.now in
    let new = pages.map c.take_rows.new.pages in
    let size = (pages.limits (pages.below c.args.pages.now)).page in
    let table = c.args.table.now in
    let term = c.args.term.now in
    let rows = c.in_ok-rows.rows in
    let result = c.take_rows.result in
    let stays = c.in_ok-rows.ensures.stays in
    let same = same_source table c.source_of.result c.source_of.ensures.root c.source_of.ensures.shape in
    let takes = after_reading pages.below pages.tells pages.limits pages.map c.args.pages.now c.enough_rows.new.pages (λ (m : PageMap) (n : ℕ). TakesRows m new n c.source_of.result term rows result)
    stays.kept stays.same c.take_rows.ensures.taken told in
    bare_taken old new size table term rows (subst (λ (condition : Option Term). LoadsEnough old size table condition (Ok rows)) c.requires.is (c.in_ok-rows.ensures.loaded told))
    c.requires.bare result (subst (λ (source : BoundSource). TakesRows old new size source term rows result) same takes))
