use Rattle.std.proofs.Common.{◌≡◌, ◌-◌, length}
use Rattle.sql_expr.specs.Symbols.{seen}
use Rattle.sql_grammar.specs.Readers.{listed, listed_upto}
use Rattle.sql_expr.specs.Reading.{row_from}
use Rattle.sql_query.proofs.changes.rows.Given as goal

abbrev pub invariant-rows : goal.invariant-rows
invariant-rows l = listed row_from (seen l.spelled l.tokens) ≡ listed_upto row_from (length l.tokens - l.counter) l.rows (seen l.spelled l.rest)
