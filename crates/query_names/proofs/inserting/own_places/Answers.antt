use Rattle.query_names.proofs.InsertNames.{own_next}
use Rattle.query_names.proofs.inserting.own_places.Goals as goal

pub columns-preserved : goal.columns-preserved
columns-preserved c = own_next c.columns.places.items c.push.new.self.items c.columns.index c.in_ok-push.ensures.items c.columns.invariant
