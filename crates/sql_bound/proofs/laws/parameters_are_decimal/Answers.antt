use Rattle.sql_bound.proofs.ParameterNames.{are_decimal}
use Rattle.sql_bound.proofs.laws.parameters_are_decimal.Goals as goal

pub returns : goal.returns
returns c = are_decimal
