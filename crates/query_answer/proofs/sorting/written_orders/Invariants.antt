-- the keys so far are those of the expressions so far
use Rattle.std.proofs.Common.{◌≡◌, map, take}
use Rattle.query_answer.specs.Sorting.{falling_or_rising}
use Rattle.query_answer.proofs.sorting.written_orders.Given as goal

abbrev pub invariant-terms : goal.invariant-terms
invariant-terms l = l.orders.items ≡ map falling_or_rising (take l.term-index l.order)
