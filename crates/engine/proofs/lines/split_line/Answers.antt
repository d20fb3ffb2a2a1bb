use Rattle.std.proofs.Common.{rules, inl, inr}
use Rattle.engine.proofs.LineLaws.{read_is_said, none_is_said}
use Rattle.engine.proofs.lines.split_line.Goals as goal

pub returns-in_default-clause-refused : goal.returns-in_default-clause-refused
returns-in_default-clause-refused c = inl (none_is_said _ (search rules))

pub returns-then-statement-gt-MAX_STATEMENT_BYTES-clause-refused : goal.returns-then-statement-gt-MAX_STATEMENT_BYTES-clause-refused
returns-then-statement-gt-MAX_STATEMENT_BYTES-clause-refused c = (c.in-Some.connection, c.in-Some.statement.now, read_is_said _ _ _ (search rules), search rules)

pub returns-in-Ok-clause-found : goal.returns-in-Ok-clause-found
returns-in-Ok-clause-found c = (read_is_said _ _ _ (search rules), search rules)

pub returns-in-Err-clause-refused : goal.returns-in-Err-clause-refused
returns-in-Err-clause-refused c = inr (c.in-Some.connection, c.in-Some.statement.now, read_is_said _ _ _ (search rules), search rules, search rules)
