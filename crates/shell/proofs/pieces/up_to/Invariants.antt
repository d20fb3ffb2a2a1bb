use Rattle.std.proofs.Common.{◌≡◌, ◌+◌, length}
use Rattle.shell.specs.Pieces as spec
use Rattle.sql_lexer.specs.Lex.{plus}
use Rattle.shell.proofs.pieces.up_to.Given as goal

abbrev pub invariant-bytes : goal.invariant-bytes
invariant-bytes l = (plus l.at (spec.up_to l.quote l.rest) ≡ spec.up_to l.quote l.text) × (l.at + length l.rest ≡ length l.text)

abbrev pub decreases-bytes : goal.decreases-bytes
decreases-bytes l = length l.rest
