use Rattle.std.proofs.Common.{◌∙◌, ◌≤◌, ap, sym, subst, map}
use Rattle.sqlval.specs.Fields.{value_of}
use Rattle.row_change.specs.Constraints.{set_values}
use Rattle.row_change.proofs.KeptRows.{none_to_put}
use Rattle.row_change.proofs.keeping.put_given.Goals as goal

pub returns : goal.returns
returns c =
    sym (ap (set_values (map value_of c.sets.fields.items)) (none_to_put c.args.sets.now c.args.given.now c.sets.index (subst (λ n. n ≤ c.sets.index) c.min-most.ensures c.sets-test.false))) ∙ c.sets.invariant
