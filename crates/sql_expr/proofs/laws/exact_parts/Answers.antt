use Rattle.sql_expr.proofs.Parts.{exact_names, exact_maybe_name, exact_maybe_name_row, exact_maybe_after}
use Rattle.sql_expr.proofs.laws.exact_parts.Goals as goal

pub returns-clause-names : goal.returns-clause-names
returns-clause-names c = exact_names

pub returns-clause-maybe_name : goal.returns-clause-maybe_name
returns-clause-maybe_name c = exact_maybe_name

pub returns-clause-maybe_name_row : goal.returns-clause-maybe_name_row
returns-clause-maybe_name_row c = exact_maybe_name_row

pub returns-clause-maybe_after : goal.returns-clause-maybe_after
returns-clause-maybe_after c = λ keyword. exact_maybe_after keyword
