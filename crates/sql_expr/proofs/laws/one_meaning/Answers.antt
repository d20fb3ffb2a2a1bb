use Rattle.sql_expr.proofs.Meant.{means_meant, means_one}
use Rattle.sql_expr.proofs.laws.one_meaning.Goals as goal

pub returns-clause-some : goal.returns-clause-some
returns-clause-some c = λ m kind z next s. means_meant s

pub returns-clause-one : goal.returns-clause-one
returns-clause-one c = λ kind z p h. means_one h
