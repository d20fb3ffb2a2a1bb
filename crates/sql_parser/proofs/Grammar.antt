-- Statements are read exactly: the parts put together.
use Rattle.std.proofs.Common.{ℕ, List}
use Rattle.sql_grammar.specs.Changes.{EndsStatement}
use Rattle.sql_parser.specs.StatementReading.{statement_from}
use Rattle.sql_grammar.specs.Statements.{IsStatement, is_statement_within}
use Rattle.sql_query.proofs.InsertLaws.{exact_change}
use Rattle.sql_grammar.proofs.Law.{Law}
use Rattle.sql_parser.proofs.NewObjectLaws.{exact_object}
use Rattle.sql_query.proofs.SelectLaws.{exact_selection}
use Rattle.sql_parser.proofs.StatementLaws as parts
use Rattle.sql_parser.proofs.ViewLaws.{exact_view}

pub exact_statement : (sql : List ℕ) → Law (statement_from sql) (IsStatement sql) is_statement_within EndsStatement
exact_statement = parts.exact_statement exact_change (exact_object exact_selection exact_change exact_view) exact_selection
