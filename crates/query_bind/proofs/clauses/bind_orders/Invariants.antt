-- what is left of ORDER BY decides
use Rattle.query_names.specs.Checked.{onto_list}
use Rattle.std.proofs.Common.{◌≡◌, drop, map}
use Rattle.query_bind.specs.Named.{AreTables, order_given, orders_checked}
use Rattle.query_bind.proofs.clauses.bind_orders.Given as goal

abbrev pub invariant-orders : goal.invariant-orders
invariant-orders l =
    AreTables l.scope
    → onto_list l.found.items (orders_checked (map (order_given l.scope l.items l.results) (drop l.order-index l.orders))) ≡ orders_checked (map (order_given l.scope l.items l.results) l.orders)
