use Rattle.std.proofs.Common.{◌≡◌, ◌-◌, length}
use Rattle.sql_expr.specs.Symbols.{seen}
use Rattle.sql_grammar.specs.Readers.{listed, listed_upto}
use Rattle.sql_create.proofs.indexes.index_columns.Given as goal
use Rattle.sql_create.specs.IndexReading.{index_column_from}

abbrev pub invariant-columns : goal.invariant-columns
invariant-columns l = listed index_column_from (seen l.spelled l.tokens) ≡ listed_upto index_column_from (length l.tokens - l.counter) l.columns (seen l.spelled l.rest)
