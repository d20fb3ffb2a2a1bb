use Rattle.std.proofs.Common.{rules}
use Rattle.query_names.proofs.InsertNames.{listed_next}
use Rattle.query_names.proofs.inserting.listed_places.Goals as goal

pub columns-preserved : goal.columns-preserved
columns-preserved c = listed_next c.args.names.now c.args.columns.now c.columns.column-index c.column-item.result c.place_in-place.result c.columns.places.items c.push.new.self.items
    c.columns-test.true c.column-item.is c.in_ok-push.ensures.items (search rules) c.columns.invariant
