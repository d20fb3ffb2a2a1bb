use Rattle.std.proofs.Common.{◌≡◌, ◌+◌, length}
use Rattle.sql_lexer.specs.Lex as spec
use Rattle.sql_lexer.specs.Lex.{plus}
use Rattle.sql_lexer.proofs.spelling.closing.Given as goal

abbrev pub invariant-bytes : goal.invariant-bytes
invariant-bytes l = (plus l.at (spec.closing l.quote l.rest) ≡ spec.closing l.quote l.text) × (l.at + length l.rest ≡ length l.text)

abbrev pub decreases-bytes : goal.decreases-bytes
decreases-bytes l = length l.rest
