use Rattle.sql_query.proofs.SelectLaws.{exact_query, exact_selection}
use Rattle.sql_query.proofs.laws.queries_are_exact.Goals as goal

pub returns-clause-selections : goal.returns-clause-selections
returns-clause-selections c = exact_selection.exact

pub returns-clause-queries : goal.returns-clause-queries
returns-clause-queries c = exact_query.exact
