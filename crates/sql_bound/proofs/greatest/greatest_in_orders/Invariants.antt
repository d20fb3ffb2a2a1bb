-- the greatest so far or the greatest of the rest
use Rattle.std.proofs.Common.{◌≡◌, max, drop}
use Rattle.sql_syntax.specs.declared.query.OrderTerm.{OrderTerm}
use Rattle.sql_bound.specs.Greatest.{greatest_in, greatest_of}
use Rattle.sql_bound.proofs.greatest.greatest_in_orders.Given as goal

abbrev pub invariant-terms : goal.invariant-terms
invariant-terms l = max l.greatest (greatest_of (λ (term : OrderTerm). greatest_in term.expression) (drop l.term-index l.terms)) ≡ greatest_of (λ (term : OrderTerm). greatest_in term.expression) l.terms
