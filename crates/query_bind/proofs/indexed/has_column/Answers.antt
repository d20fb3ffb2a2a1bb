use Rattle.std.proofs.Common.{◌∙◌}
use Rattle.sqlval.specs.Names.{is_same_name}
use Rattle.query_bind.proofs.IndexNames.{any_named}
use Rattle.query_bind.proofs.indexed.has_column.Goals as goal

pub returns : goal.returns
returns c = c.is_column.ensures ∙ any_named (is_same_name c.args.name.now) c.args.columns.now
