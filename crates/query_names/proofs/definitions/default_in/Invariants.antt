use Rattle.std.proofs.Common.{◌≡◌, length}
use Rattle.sqlval.specs.declared.value.Value.TheVariants.{Null}
use Rattle.query_names.specs.Tables.{default_of, last_of}
use Rattle.query_names.proofs.definitions.default_in.Given as goal

-- what is left decides
abbrev pub invariant-rules : goal.invariant-rules
invariant-rules l = last_of default_of l.last l.left ≡ last_of default_of Null l.rules

abbrev pub decreases-rules : goal.decreases-rules
decreases-rules l = length l.left
