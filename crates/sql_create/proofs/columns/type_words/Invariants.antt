use Rattle.std.proofs.Common.{◌≡◌, ◌-◌, length}
use Rattle.sql_expr.specs.Symbols.{seen}
use Rattle.sql_grammar.specs.Readers.{many, many_upto}
use Rattle.sql_expr.specs.Reading.{maybe_name_from}
use Rattle.sql_create.proofs.columns.type_words.Given as goal

abbrev pub invariant-words : goal.invariant-words
invariant-words l = many maybe_name_from (seen l.spelled l.tokens) ≡ many_upto maybe_name_from (length l.tokens - l.counter) l.words (seen l.spelled l.rest)
