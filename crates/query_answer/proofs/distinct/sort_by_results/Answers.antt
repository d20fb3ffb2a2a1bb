use Rattle.std.proofs.Common.{rules}
use Rattle.query_answer.specs.Numbers.{by_places}
use Rattle.query_answer.proofs.Places.{places_total}
use Rattle.sqlval.proofs.StableSorts.{sort_by_is}
use Rattle.query_answer.proofs.distinct.sort_by_results.Goals as goal

pub returns-clause-sorted : goal.returns-clause-sorted
returns-clause-sorted c =
    sort_by_is (by_places c.args.orders.now c.args.rows.now) c.args.places.now.items c.sort_by.new.self.items (places_total c.args.orders.now c.args.rows.now) c.in_ok-sort_by.ensures.sorted c.in_ok-sort_by.ensures.stable
    (λ a r q k. search rules)
