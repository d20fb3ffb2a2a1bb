use Rattle.std.proofs.Common.{◌≡◌, ◌++◌, ◌<◌, length}
use denote.Shadow.{shadow}
use denote.Text.{Utf8}
use Rattle.std.specs.Prelude.{string_bytes}
use Rattle.sql_expr.specs.Spelling as spec
use Rattle.sql_expr.proofs.literals.undoubled.Given as goal

abbrev pub decreases-quotes : goal.decreases-quotes
decreases-quotes l = length l.rest

abbrev pub invariant-quotes : goal.invariant-quotes
invariant-quotes l = (l.quote < 128 → string_bytes l.plain ++ spec.undoubled l.quote l.rest ≡ spec.undoubled l.quote l.text) × shadow (Utf8 l.rest)
