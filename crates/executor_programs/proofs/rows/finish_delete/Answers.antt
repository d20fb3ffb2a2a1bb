use Rattle.std.proofs.Common.{Err, Ok}
use Rattle.row_change.specs.NewRows.{row_of}
use Rattle.executor.specs.Rows.{TakesFrom}
use Rattle.executor_programs.specs.Rows.{finished}
use Rattle.executor_programs.proofs.Finishing.{delete_changed, delete_done, delete_failed, read_before, run_refused}
use Rattle.executor_programs.proofs.rows.finish_delete.Goals as goal

pub returns-in_err-expect_unchanged-clause-finished : goal.returns-in_err-expect_unchanged-clause-finished
returns-in_err-expect_unchanged-clause-finished g c = λ told l change act i db f stored tabled for between untouched.
    run_refused _ l (finished change i f db) c.from_residual.result c.in_err-expect_unchanged.field-0.0 c.from_residual.ensures.1
    (delete_changed c.listed_tables_are_found.ensures.finds _ _ l change db f c.args.table.now act c.args.old.now stored tabled c.args.is_alone untouched i c.in_err-expect_unchanged.field-0.0 between
    (c.in_err-expect_unchanged.ensures.expected told))

pub returns-in_err-take_row-clause-finished : goal.returns-in_err-take_row-clause-finished
returns-in_err-take_row-clause-finished g c = λ told l change act i db f stored tabled for between untouched.
    (let gs = g.P.Pages in
    let stays = c.in_ok-expect_unchanged.ensures.stays in
    run_refused _ l (finished change i f db) c.from_residual-in_err-take_row.result c.in_err-take_row.field-0.0 c.from_residual-in_err-take_row.ensures.1
    (delete_failed c.listed_tables_are_found.ensures.finds _ _ l change db f c.args.table.now act c.args.old.now stored tabled c.args.is_alone untouched i c.in_err-take_row.field-0.0 between (c.in_ok-expect_unchanged.ensures.expected told)
    (read_before gs.below gs.tells gs.limits gs.map (λ m s. TakesFrom m (gs.map c.take_row.new.pages) s c.args.table.now (row_of c.args.old.now) (Err c.in_err-take_row.field-0.0)) c.args.pages.now c.expect_unchanged.new.pages stays.kept stays.same
    c.in_err-take_row.ensures.taken told)))

pub returns-clause-finished : goal.returns-clause-finished
returns-clause-finished g c = λ told l change act i db f stored tabled for between untouched.
    (let gs = g.P.Pages in
    let stays = c.in_ok-expect_unchanged.ensures.stays in
    delete_done c.listed_tables_are_found.ensures.finds _ _ l change db f c.args.table.now act c.args.old.now stored tabled c.args.is_alone untouched (gs.map c.take_row.new.pages) i for between (c.in_ok-expect_unchanged.ensures.expected told)
    (read_before gs.below gs.tells gs.limits gs.map (λ m s. TakesFrom m (gs.map c.take_row.new.pages) s c.args.table.now (row_of c.args.old.now) (Ok tt)) c.args.pages.now c.expect_unchanged.new.pages stays.kept stays.same
    c.in_ok-take_row.ensures.taken told))
