use Rattle.sql_expr.proofs.Exactly.{exact_expression, exact_expressions}
use Rattle.sql_expr.proofs.Parts.{exact_row, exact_enclosed_expression, exact_name, exact_name_row}
use Rattle.sql_expr.proofs.laws.exact_reading.Goals as goal

pub returns-clause-expression : goal.returns-clause-expression
returns-clause-expression c = exact_expression

pub returns-clause-list : goal.returns-clause-list
returns-clause-list c = exact_expressions

pub returns-clause-row : goal.returns-clause-row
returns-clause-row c = exact_row

pub returns-clause-enclosed : goal.returns-clause-enclosed
returns-clause-enclosed c = exact_enclosed_expression

pub returns-clause-name : goal.returns-clause-name
returns-clause-name c = exact_name

pub returns-clause-name_row : goal.returns-clause-name_row
returns-clause-name_row c = exact_name_row
