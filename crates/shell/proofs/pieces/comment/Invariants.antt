use Rattle.std.proofs.Common.{◌≡◌, ◌+◌, length}
use Rattle.sql_lexer.specs.Lex as lexed
use Rattle.sql_lexer.specs.Lex.{plus}
use Rattle.shell.proofs.pieces.comment.Given as goal

abbrev pub invariant-bytes : goal.invariant-bytes
invariant-bytes l = (plus l.at (lexed.comment l.rest) ≡ lexed.comment l.text) × (l.at + length l.rest ≡ length l.text)

abbrev pub decreases-bytes : goal.decreases-bytes
decreases-bytes l = length l.rest
