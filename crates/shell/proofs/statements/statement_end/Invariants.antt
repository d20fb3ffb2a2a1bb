use Rattle.std.proofs.Common.{◌≡◌, ◌+◌, drop, length}
use Rattle.sql_lexer.specs.Lex.{plus}
use Rattle.shell.specs.Pieces.{text_pieces}
use Rattle.shell.specs.Statements.{end_from}
use Rattle.shell.specs.Statements as spec
use Rattle.shell.proofs.statements.statement_end.Given as goal

abbrev pub invariant-pieces : goal.invariant-pieces
invariant-pieces l = (plus l.at (end_from l.phase (text_pieces l.rest)) ≡ spec.statement_end l.text) × (l.at + length l.rest ≡ length l.text) × (l.rest ≡ drop l.at l.text)

abbrev pub decreases-pieces : goal.decreases-pieces
decreases-pieces l = length l.rest
