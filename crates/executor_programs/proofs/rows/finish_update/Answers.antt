use Rattle.std.proofs.Common.{Err, Ok}
use Rattle.row_change.specs.NewRows.{row_of}
use Rattle.executor.specs.Rows.{SetsIn}
use Rattle.executor_programs.specs.Rows.{finished}
use Rattle.executor_programs.proofs.Finishing.{read_before, run_refused, update_changed, update_done, update_failed}
use Rattle.executor_programs.proofs.rows.finish_update.Goals as goal

pub returns-in_err-expect_unchanged-clause-finished : goal.returns-in_err-expect_unchanged-clause-finished
returns-in_err-expect_unchanged-clause-finished g c = λ told l change act i rowid kept same db f stored tabled for between untouched.
    run_refused _ l (finished change i f db) c.from_residual.result c.in_err-expect_unchanged.field-0.0 c.from_residual.ensures.1
    (update_changed c.listed_tables_are_found.ensures.finds _ _ l change db f c.args.table.now act c.args.old.now rowid kept stored tabled c.args.is_alone untouched i c.in_err-expect_unchanged.field-0.0 for between
    (c.in_err-expect_unchanged.ensures.expected told))

pub returns-in_err-row-clause-finished : goal.returns-in_err-row-clause-finished
returns-in_err-row-clause-finished g c = λ told l change act i rowid kept same db f stored tabled for between untouched.
    (let gs = g.P.Pages in
    let stays = c.in_ok-expect_unchanged.ensures.stays in
    run_refused _ l (finished change i f db) c.from_residual-in_err-row.result c.in_err-row.field-0.0 c.from_residual-in_err-row.ensures.1
    (update_failed c.listed_tables_are_found.ensures.finds _ _ l change db f c.args.table.now act c.args.old.now rowid kept stored tabled c.args.is_alone untouched i c.args.values.now c.in_err-row.field-0.0 same for between
    (c.in_ok-expect_unchanged.ensures.expected told)
    (read_before gs.below gs.tells gs.limits gs.map (λ m s. SetsIn m (gs.map c.set_row.new.pages) s c.args.table.now (row_of c.args.old.now) c.args.values.now (Err c.in_err-row.field-0.0)) c.args.pages.now c.expect_unchanged.new.pages stays.kept stays.same
    c.in_err-row.ensures.set told)))

pub returns-clause-finished : goal.returns-clause-finished
returns-clause-finished g c = λ told l change act i rowid kept same db f stored tabled for between untouched.
    (let gs = g.P.Pages in
    let stays = c.in_ok-expect_unchanged.ensures.stays in
    update_done c.listed_tables_are_found.ensures.finds _ _ l change db f c.args.table.now act c.args.old.now rowid kept stored tabled c.args.is_alone untouched (gs.map c.set_row.new.pages) i c.args.values.now c.in_ok-row.row same for between
    (c.in_ok-expect_unchanged.ensures.expected told)
    (read_before gs.below gs.tells gs.limits gs.map (λ m s. SetsIn m (gs.map c.set_row.new.pages) s c.args.table.now (row_of c.args.old.now) c.args.values.now (Ok c.in_ok-row.row)) c.args.pages.now c.expect_unchanged.new.pages stays.kept stays.same
    c.in_ok-row.ensures.set told))
