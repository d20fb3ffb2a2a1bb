-- what is left of the digits decides
use Rattle.std.proofs.Common.{◌≡◌, ◌≤◌, drop}
use Rattle.sql_bound.specs.Bound.{spelled_from}
use Rattle.sql_bound.proofs.parameters.number_of.Given as goal

abbrev pub invariant-digits : goal.invariant-digits
invariant-digits l = (spelled_from l.number (drop l.digit-index l.digits) ≡ spelled_from 0 l.digits) × (l.number ≤ 32766)
