use Rattle.std.proofs.Common.{◌≡◌, length}
use Rattle.query_names.specs.Scopes.{is_doubled}
use Rattle.query_bind.specs.Indexed.{names_in}
use Rattle.query_bind.proofs.indexed.has_doubled.Given as goal

-- what is left decides
abbrev pub invariant-columns : goal.invariant-columns
invariant-columns l = is_doubled (names_in l.rest) ≡ is_doubled (names_in l.columns)

abbrev pub decreases-columns : goal.decreases-columns
decreases-columns l = length l.rest
