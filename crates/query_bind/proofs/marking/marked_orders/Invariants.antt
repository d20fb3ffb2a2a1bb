-- each term of ORDER BY so far is marked
use Rattle.std.proofs.Common.{◌≡◌, map, take}
use Rattle.query_names.specs.Grouping.{keyed}
use Rattle.query_bind.proofs.marking.marked_orders.Given as goal

abbrev pub invariant-orders : goal.invariant-orders
invariant-orders l = l.found.items ≡ map (λ o. (keyed l.keys o.0, o.1)) (take l.order-index l.orders)
