use Rattle.std.proofs.Common.{◌≡◌, length}
use Rattle.shell.specs.Statements as spec
use Rattle.shell.proofs.statements.is_blank.Given as goal

abbrev pub invariant-pieces : goal.invariant-pieces
invariant-pieces l = spec.is_blank l.rest ≡ spec.is_blank l.text

abbrev pub decreases-pieces : goal.decreases-pieces
decreases-pieces l = length l.rest
