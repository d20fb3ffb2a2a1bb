use Rattle.std.proofs.Common.{slice_index_or, subst}
use Rattle.std.specs.Prelude.{IfSome}
use Rattle.query_terms.specs.Rows.{row_at}
use Rattle.row_change.specs.Keeping.{IsKeptBy}
use Rattle.row_change.proofs.KeptRows.{changes_more}
use Rattle.row_change.proofs.keeping.changes_at.Goals as goal

pub places-preserved : goal.places-preserved
places-preserved c =
    let rows = c.args.rows.now in
    let places = c.args.places.now in
    let table = c.args.table.now in
    let sets = c.args.sets.now in
    let one : IsKeptBy table sets (row_at rows (slice_index_or places c.places.place-index 0)) c.in-Some.change =
    subst (λ found. IfSome found (IsKeptBy table sets (row_at rows (slice_index_or places c.places.place-index 0)))) c.in-Some.is c.in_ok-change.ensures in
    rw (c.in_ok-push.ensures.items) (changes_more (IsKeptBy table sets) rows places c.places.place-index c.places.changes.items c.in-Some.change c.places-test.true c.places.invariant one)
