use Rattle.std.proofs.Common.{◌≡◌, ◌∙◌, List, Option, Some, ap, length, subst, sym}
use Rattle.std.specs.Prelude.{IfOk}
use Rattle.catalog.specs.Database.{Name}
use Rattle.query_names.specs.Named.{NamesBy}
use Rattle.row_change.specs.Changes.{insert_places}
use Rattle.trigger_names.specs.Resolved.{values_for}
use Rattle.trigger_names.proofs.GivenRows.{all_placed, places_named, places_of_all}
use Rattle.trigger_names.proofs.places.value_places.Goals as goal

pub returns-in-None-clause-named : goal.returns-in-None-clause-named
returns-in-None-clause-named c =
    subst (λ (columns : Option (List Name)). NamesBy (λ places. places.items) (insert_places c.args.source.now columns) c.first_places.result) (sym c.in-None.is)
    (all_placed (λ places. places.items) c.args.source.now c.len.result c.first_places.result c.len.ensures c.first_places.ensures)

pub returns-in-None-clause-many : goal.returns-in-None-clause-many
returns-in-None-clause-many c =
    subst (λ (columns : Option (List Name)). IfOk c.first_places.result (λ places. length places.items ≡ values_for c.args.source.now columns)) (sym c.in-None.is)
    (places_of_all (λ places. places.items) c.len.result (length c.args.source.now.columns) c.first_places.result c.len.ensures c.first_places.ensures)

pub returns-in-Some-clause-many : goal.returns-in-Some-clause-many
returns-in-Some-clause-many c =
    let here : c.args.columns.now ≡ Some c.as_slice.result.now = c.in-Some.is ∙ ap Some (sym c.as_slice.ensures) in
    subst (λ (columns : Option (List Name)). IfOk c.bind_places.result (λ places. length places.items ≡ values_for c.args.source.now columns)) (sym here)
    (places_named (λ places. places.items) c.args.source.now c.as_slice.result.now c.bind_places.result c.bind_places.ensures.named)
