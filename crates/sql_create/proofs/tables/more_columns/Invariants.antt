use Rattle.std.proofs.Common.{◌≡◌, ◌-◌, length}
use Rattle.sql_expr.specs.Symbols.{seen}
use Rattle.sql_grammar.specs.Readers.{many_upto}
use Rattle.sql_create.specs.TableReading.{next_column_from}
use Rattle.sql_create.proofs.tables.more_columns.Given as goal

abbrev pub invariant-columns : goal.invariant-columns
invariant-columns l =
    many_upto next_column_from (length (seen l.spelled l.tokens)) l.fn.found (seen l.spelled l.tokens)
    ≡ many_upto next_column_from (length l.tokens - l.counter) l.columns (seen l.spelled l.rest)
