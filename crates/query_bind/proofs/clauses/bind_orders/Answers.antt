use Rattle.std.proofs.Common.{map, arith, subst}
use Rattle.query_names.specs.Bound.{IsFaultOf}
use Rattle.query_names.specs.Checked.{faults}
use Rattle.query_bind.specs.Named.{order_given, orders_checked}
use Rattle.query_bind.proofs.Chains.{handed_on}
use Rattle.query_bind.proofs.Grown.{order_refused}
use Rattle.query_bind.proofs.clauses.bind_orders.Goals as goal

pub returns-in_err-term : goal.returns-in_err-term
returns-in_err-term c = λ tables.
    handed_on (λ found. found.items) (orders_checked (map (order_given c.args.scope.now c.args.items.now c.args.results.now) c.args.orders.now)) c.in_err-term.field-0.0 c.from_residual.result c.from_residual.ensures.1
    (subst (λ k. IsFaultOf (faults k) c.in_err-term.field-0.0) (c.orders.invariant tables)
    (order_refused (order_given c.args.scope.now c.args.items.now c.args.results.now) c.args.orders.now c.orders.order-index c.order-item.result c.orders.found.items c.in_err-term.field-0.0
    (omega (arith, c.orders-test.true)) c.order-item.is (c.in_err-term.ensures tables)))
