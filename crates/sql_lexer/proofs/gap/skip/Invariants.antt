use Rattle.std.proofs.Common.{◌≡◌, ◌-◌, ◌≤◌, length, drop}
use Rattle.std.specs.Str.{IsUtf8}
use Rattle.sql_lexer.specs.Lex.{gap}
use Rattle.sql_lexer.proofs.gap.skip.Given as goal

abbrev pub invariant-pieces : goal.invariant-pieces
invariant-pieces l = IsUtf8 l.rest × (length l.rest ≤ length l.text) × (l.rest ≡ drop (length l.text - length l.rest) l.text) × (gap l.rest ≡ gap l.text)

abbrev pub decreases-pieces : goal.decreases-pieces
decreases-pieces l = length l.rest
