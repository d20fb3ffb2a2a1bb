use Rattle.std.proofs.Common.{rules, Bool, List, ℕ, subst, Ok, Err}
use Rattle.std.specs.Prelude.{⊤}
use Rattle.pages.specs.Calls.{Stays}
use Rattle.pages.specs.Map.{PageMap}
use Rattle.catalog.specs.declared.tables.IndexColumn.{IndexColumn}
use Rattle.index_entries.specs.Keeping.{columns_in, row_in}
use Rattle.index_entries.specs.Others.{FindsAlone}
use Rattle.db_write.proofs.LookedAt.{rows_on, rows_stop, unrefused}
use Rattle.db_write.proofs.Looping.{after_reading}
use Rattle.db_write.proofs.alone.are_alone_at.Goals as goal

pub returns-in_err-is_alone-clause-seen : goal.returns-in_err-is_alone-clause-seen
returns-in_err-is_alone-clause-seen g c = λ told.
    (let pages = g.P.Pages in
    let old = c.args.pages.now in
    let size = (pages.limits (pages.below old)).page in
    let index = c.args.index.now in
    let row = c.row-item.result in
    let fault = c.in_err-is_alone.field-0.0 in
    let stays = c.rows.invariant.0 in
    let finds = after_reading pages.below pages.tells pages.limits pages.map old c.rows.pages
    (λ (m : PageMap) (n : ℕ). FindsAlone m n index.root (columns_in c.as_slice-columns.result.now) (row_in row) (Err fault)) stays.kept stays.same c.in_err-is_alone.ensures.found told in
    rows_stop (pages.map old) size index c.args.rows.now c.rows.row-index row c.rows-test.true c.row-item.is fault c.from_residual-in_err-is_alone.result c.from_residual-in_err-is_alone.ensures.1
    (subst (λ (columns : List IndexColumn). FindsAlone (pages.map old) size index.root (columns_in columns) (row_in row) (Err fault)) c.as_slice-columns.ensures finds))

pub rows-preserved : goal.rows-preserved
rows-preserved g c =
    let pages = g.P.Pages in
    let old = c.args.pages.now in
    let size = (pages.limits (pages.below old)).page in
    let index = c.args.index.now in
    let row = c.row-item.result in
    let before = c.rows.invariant.0 in
    let stays : Stays pages.below pages.map pages.count pages.failures {T = ⊤} unrefused old c.is_alone.new.pages = search rules in (
      stays,
      λ told.
          (let finds = after_reading pages.below pages.tells pages.limits pages.map old c.rows.pages
          (λ (m : PageMap) (n : ℕ). FindsAlone m n index.root (columns_in c.as_slice-columns.result.now) (row_in row) (Ok c.in_ok-is_alone.field-0)) before.kept before.same c.in_ok-is_alone.ensures.found told in
          rows_on (pages.map old) size index c.args.rows.now c.rows.row-index row c.rows-test.true c.row-item.is
          (subst (λ (b : Bool). FindsAlone (pages.map old) size index.root (columns_in index.columns) (row_in row) (Ok b)) c.if-not-branch.false
          (subst (λ (columns : List IndexColumn). FindsAlone (pages.map old) size index.root (columns_in columns) (row_in row) (Ok c.in_ok-is_alone.field-0)) c.as_slice-columns.ensures finds))
          (c.rows.invariant.1 told)),
    )
