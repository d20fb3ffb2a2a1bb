use Rattle.executor_programs.specs.Rows.{finished}
use Rattle.executor_programs.proofs.Finishing.{insert_done, insert_failed, run_refused}
use Rattle.executor_programs.proofs.rows.finish_insert.Goals as goal

pub returns-in_err-row-clause-finished : goal.returns-in_err-row-clause-finished
returns-in_err-row-clause-finished g c = λ told l change i rowid kept alone same db f stored tabled for between untouched.
    run_refused _ l (finished change i f db) c.from_residual.result c.in_err-row.field-0.0 c.from_residual.ensures.1
    (insert_failed c.listed_tables_are_found.ensures.finds _ _ l change db f c.args.table.now c.args.act.now i rowid kept c.deref.result.now c.args.given.now c.in_err-row.field-0.0 c.deref.ensures.value same stored tabled for between
    (c.in_err-row.ensures.inserted told))

pub returns-clause-finished : goal.returns-clause-finished
returns-clause-finished g c = λ told l change i rowid kept alone same db f stored tabled for between untouched.
    insert_done c.listed_tables_are_found.ensures.finds _ _ _ l change db f c.args.table.now c.args.act.now i rowid kept c.deref.result.now c.args.given.now c.in_ok-row.row c.deref.ensures.value same stored tabled for between
    (c.in_ok-row.ensures.inserted told)
