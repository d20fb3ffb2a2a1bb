use Rattle.std.proofs.Common.{◌≡◌, length}
use Rattle.query_names.specs.Tables.{collation_of}
use Rattle.query_names.proofs.DefinedRules.{collation_after}
use Rattle.query_names.proofs.definitions.collation_in.Given as goal

-- what is left decides
abbrev pub invariant-rules : goal.invariant-rules
invariant-rules l = collation_after l.last l.left ≡ collation_of l.rules

abbrev pub decreases-rules : goal.decreases-rules
decreases-rules l = length l.left
