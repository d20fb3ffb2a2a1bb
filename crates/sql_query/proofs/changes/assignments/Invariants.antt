use Rattle.std.proofs.Common.{◌≡◌, ◌-◌, length}
use Rattle.sql_expr.specs.Symbols.{seen}
use Rattle.sql_grammar.specs.Readers.{listed, listed_upto}
use Rattle.sql_query.specs.ChangeReading.{assignment_from}
use Rattle.sql_query.proofs.changes.assignments.Given as goal

abbrev pub invariant-assignments : goal.invariant-assignments
invariant-assignments l = listed assignment_from (seen l.spelled l.tokens) ≡ listed_upto assignment_from (length l.tokens - l.counter) l.assignments (seen l.spelled l.rest)
