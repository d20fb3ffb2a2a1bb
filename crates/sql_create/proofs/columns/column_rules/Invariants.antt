use Rattle.std.proofs.Common.{◌≡◌, ◌-◌, length}
use Rattle.sql_expr.specs.Symbols.{seen}
use Rattle.sql_grammar.specs.Readers.{many, many_upto}
use Rattle.sql_create.specs.TableReading.{column_rule_from}
use Rattle.sql_create.proofs.columns.column_rules.Given as goal

abbrev pub invariant-rules : goal.invariant-rules
invariant-rules l = many column_rule_from (seen l.spelled l.tokens) ≡ many_upto column_rule_from (length l.tokens - l.counter) l.rules (seen l.spelled l.rest)
