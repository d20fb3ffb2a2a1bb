use Rattle.row_change.proofs.Deletions.{deletes_rows, deletes_some}
use Rattle.row_change.proofs.deleting.delete_takes_its_rows.Goals as goal

pub returns-clause-all : goal.returns-clause-all
returns-clause-all c = deletes_rows c.other_rows_are_listed.ensures.triggers c.named_databases_are_one.ensures.one c.named_databases_are_one.ensures.named

pub returns-clause-some : goal.returns-clause-some
returns-clause-some c = deletes_some c.other_rows_are_listed.ensures.triggers c.named_databases_are_one.ensures.one c.named_databases_are_one.ensures.named
