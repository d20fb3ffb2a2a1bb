use Rattle.query_answer.proofs.Places.{one_more_kept}
use Rattle.query_answer.proofs.distinct.firsts.Goals as goal

pub places-preserved : goal.places-preserved
places-preserved c = one_more_kept c.args.orders.now c.args.rows.now c.places.kept.items c.keep.new.kept.items c.places.yielded c.in-Some.place c.places.invariant c.in_ok-keep.ensures.kept
