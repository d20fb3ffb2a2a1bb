use Rattle.query_terms.specs.Rows.{row_at}
use Rattle.row_change.specs.NewRows.{row_of}
use Rattle.row_change.proofs.SetRows.{set_quietly}
use Rattle.row_change.proofs.setting.row_set_at.Goals as goal

pub returns-clause-not_disk : goal.returns-clause-not_disk
returns-clause-not_disk c = set_quietly row_of c.changed_row.result c.args.table.now c.args.sets.now (row_at c.args.rows.now c.args.place) c.changed_row.ensures
