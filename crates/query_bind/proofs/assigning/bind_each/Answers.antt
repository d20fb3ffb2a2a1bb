use Rattle.std.proofs.Common.{arith, subst}
use Rattle.query_names.specs.Bound.{IsFaultOf}
use Rattle.query_names.specs.Checked.{faults}
use Rattle.query_bind.specs.Assigned.{set_known, sets_known}
use Rattle.query_bind.proofs.Chains.{handed_on}
use Rattle.query_bind.proofs.Grown.{item_refused}
use Rattle.query_bind.proofs.assigning.bind_each.Goals as goal

pub returns-in_err-set : goal.returns-in_err-set
returns-in_err-set c =
    handed_on (λ sets. sets.items) (sets_known c.args.table.now.columns c.args.scope.now c.args.assignments.now) c.in_err-set.field-0.0 c.from_residual.result c.from_residual.ensures.1
    (subst (λ k. IsFaultOf (faults k) c.in_err-set.field-0.0) c.assignments.invariant
    (item_refused (set_known c.args.table.now.columns c.args.scope.now) c.args.assignments.now c.assignments.assignment-index c.assignment-item.result c.assignments.sets.items c.in_err-set.field-0.0
    (omega (arith, c.assignments-test.true)) c.assignment-item.is c.in_err-set.ensures))
