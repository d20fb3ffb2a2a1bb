use Rattle.std.proofs.Common.{rules, ◌∙◌, ap, [], ◌∷◌, ◌++◌, SFits, w64}
use Rattle.std.proofs.lemmas.Int.{to_z-of_z}
use Rattle.query_terms.specs.Rows.{row_at}
use Rattle.catalog.specs.Rows.{rowid_number}
use Rattle.row_change.proofs.Taken.{rowid_on, rowids_at_end}
use Rattle.row_change.proofs.taking.rowids_at.Goals as goal

pub places-preserved : goal.places-preserved
places-preserved c =
    let rowid = c.rowid_at.result in
    let fits : SFits w64 rowid = search rules in
    rw (c.in_ok-push.ensures.items)
    (ap (λ n. c.places.rowids.items ++ n ∷ []) (to_z-of_z w64 rowid fits ∙ c.rowid_at.ensures)
    ∙ rowid_on (λ place. rowid_number (row_at c.args.rows.now place).rowid) c.args.places.now c.places.place-index c.places.rowids.items c.places-test.true c.places.invariant)

pub returns-clause-rowids : goal.returns-clause-rowids
returns-clause-rowids c = c.places.invariant ∙ rowids_at_end (λ place. rowid_number (row_at c.args.rows.now place).rowid) c.args.places.now c.places.place-index c.places-test.false
