use Rattle.sql_bound.proofs.Unbound.{same_copy}
use Rattle.sql_bound.proofs.WithValues.{none_is_left}
use Rattle.sql_bound.proofs.laws.parameters_are_replaced.Goals as goal

pub returns-clause-none_left : goal.returns-clause-none_left
returns-clause-none_left c = none_is_left

pub returns-clause-same : goal.returns-clause-same
returns-clause-same c = same_copy
