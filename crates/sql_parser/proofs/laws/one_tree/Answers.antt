use Rattle.sql_parser.proofs.Grammar.{exact_statement}
use Rattle.sql_parser.proofs.ParseLaws.{one_text, never_unserved}
use Rattle.sql_parser.proofs.laws.one_tree.Goals as goal

pub returns-clause-one : goal.returns-clause-one
returns-clause-one c = one_text exact_statement

pub returns-clause-served : goal.returns-clause-served
returns-clause-served c = never_unserved exact_statement
