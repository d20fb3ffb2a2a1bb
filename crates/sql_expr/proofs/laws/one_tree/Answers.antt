use Rattle.sql_expr.proofs.Again as again
use Rattle.sql_expr.proofs.Exactly.{single_expression, single_expressions}
use Rattle.sql_expr.proofs.laws.one_tree.Goals as goal

pub returns-clause-whole : goal.returns-clause-whole
returns-clause-whole c = λ ts a b d x. again.one_tree ts a b d x

pub returns-clause-first : goal.returns-clause-first
returns-clause-first c = single_expression

pub returns-clause-list : goal.returns-clause-list
returns-clause-list c = single_expressions
