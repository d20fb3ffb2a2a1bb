-- the keys so far are those of the expressions so far
use Rattle.std.proofs.Common.{◌≡◌, map, take}
use Rattle.query_answer.specs.Sorting.{order_of}
use Rattle.query_answer.proofs.sorting.rising_orders.Given as goal

abbrev pub invariant-terms : goal.invariant-terms
invariant-terms l = l.orders.items ≡ map order_of (take l.term-index l.terms)
