use Rattle.std.proofs.Common.{◌∙◌}
use Rattle.sqlval.specs.Names.{is_same_name}
use Rattle.query_bind.proofs.SetColumns.{any_column}
use Rattle.query_bind.proofs.assigning.has_column.Goals as goal

pub returns : goal.returns
returns c = c.is_assigned.ensures ∙ any_column (is_same_name c.args.name.now) c.args.assignments.now
