-- what is left of the columns follows the key so far
use Rattle.std.proofs.Common.{◌≡◌, ◌++◌, drop}
use Rattle.query_plan.specs.Asking.{key_for}
use Rattle.query_plan.proofs.keys.key_for.Given as goal

abbrev pub invariant-columns : goal.invariant-columns
invariant-columns l = l.key ++ key_for l.source l.condition (drop l.column-index l.columns) ≡ key_for l.source l.condition l.columns
