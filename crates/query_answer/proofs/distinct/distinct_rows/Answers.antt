use Rattle.query_answer.proofs.Places.{places_rise, rows_told_apart, seen_apart}
use Rattle.query_answer.proofs.distinct.distinct_rows.Goals as goal

pub keep_rows-requires : goal.keep_rows-requires
keep_rows-requires c =
    places_rise c.args.orders.now c.args.found.items c.as_slice-2.result.now
    (seen_apart c.args.orders.now c.args.found.items c.as_slice.result.now c.in_ok-places.places.items c.as_slice-2.result.now c.as_slice-2.ensures.value c.in_ok-places.ensures.distinct c.as_slice.ensures.value)

pub returns-clause-distinct : goal.returns-clause-distinct
returns-clause-distinct c =
    rows_told_apart c.args.orders.now c.args.found.items c.keep_rows.new.rows.items c.as_slice-2.result.now
    (seen_apart c.args.orders.now c.args.found.items c.as_slice.result.now c.in_ok-places.places.items c.as_slice-2.result.now c.as_slice-2.ensures.value c.in_ok-places.ensures.distinct c.as_slice.ensures.value) c.keep_rows.ensures
