use Rattle.std.proofs.Common.{arith, subst}
use Rattle.query_names.specs.Bound.{IsFaultOf}
use Rattle.query_names.specs.Checked.{faults}
use Rattle.query_names.specs.Queries.{resolve_items}
use Rattle.query_bind.proofs.Chains.{handed_on}
use Rattle.query_bind.proofs.Grown.{result_refused}
use Rattle.query_bind.proofs.results.bind_results.Goals as goal

pub returns-in_err-push_item : goal.returns-in_err-push_item
returns-in_err-push_item c =
    handed_on (λ found. found.items) (resolve_items c.args.scope.now c.args.items.now) c.in_err-push_item.field-0.0 c.from_residual.result c.from_residual.ensures.1
    (subst (λ k. IsFaultOf (faults k) c.in_err-push_item.field-0.0) c.items.invariant
    (result_refused c.args.scope.now c.args.items.now c.items.item-index c.item-item.result c.items.found.items c.in_err-push_item.field-0.0
    (omega (arith, c.items-test.true)) c.item-item.is c.in_err-push_item.ensures))
