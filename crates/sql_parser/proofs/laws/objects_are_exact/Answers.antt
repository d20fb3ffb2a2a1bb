use Rattle.sql_query.proofs.InsertLaws.{exact_change}
use Rattle.sql_query.proofs.SelectLaws.{exact_selection}
use Rattle.sql_parser.proofs.NewObjectLaws.{exact_object}
use Rattle.sql_parser.proofs.ViewLaws.{exact_view}
use Rattle.sql_parser.proofs.laws.objects_are_exact.Goals as goal

pub returns-clause-views : goal.returns-clause-views
returns-clause-views c = exact_view.exact

pub returns-clause-all : goal.returns-clause-all
returns-clause-all c = (exact_object exact_selection exact_change exact_view).exact
