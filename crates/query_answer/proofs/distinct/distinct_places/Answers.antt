use Rattle.query_answer.proofs.Places.{told_apart}
use Rattle.query_answer.proofs.distinct.distinct_places.Goals as goal

pub returns-clause-distinct : goal.returns-clause-distinct
returns-clause-distinct c =
    told_apart c.args.orders.now c.args.rows.now c.in_ok-places.places.items c.sort_by_results.new.places.items c.in_ok-kept.kept.items c.sort_rising.new.places.items c.in_ok-places.ensures.places c.in_ok-sort_by_results.ensures.sorted c.in_ok-kept.ensures.kept
    c.in_ok-sort_rising.ensures.sorted
