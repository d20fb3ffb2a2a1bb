use Rattle.std.proofs.Common.{◌∙◌, ap, map, take, [], ◌∷◌, ◌++◌}
use Rattle.std.proofs.lemmas.List.{map_push}
use Rattle.query_terms.specs.Rows.{row_at}
use Rattle.catalog.specs.Rows.{as_row}
use Rattle.row_change.specs.NewRows.{row_of}
use Rattle.row_change.proofs.Meant.{one_further, up_to_end}
use Rattle.row_change.proofs.meaning.copies_at.Goals as goal

pub places-preserved : goal.places-preserved
places-preserved c =
    rw (c.in_ok-push.ensures.items)
    (map_push row_of c.places.them.items c.in_ok-row_copy.field-0
    ∙ (ap (λ them. them ++ row_of c.in_ok-row_copy.field-0 ∷ []) c.places.invariant
    ∙ (ap (λ row. map (λ place. as_row (row_at c.args.rows.now place)) (take c.places.place-index c.args.places.now) ++ row ∷ []) c.in_ok-row_copy.ensures.copied
    ∙ one_further (λ place. as_row (row_at c.args.rows.now place)) c.args.places.now c.places.place-index c.places-test.true)))

pub returns-clause-copied : goal.returns-clause-copied
returns-clause-copied c = c.places.invariant ∙ up_to_end (λ place. as_row (row_at c.args.rows.now place)) c.args.places.now c.places.place-index c.places-test.false
