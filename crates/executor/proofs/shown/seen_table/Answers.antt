use Rattle.std.proofs.Common.{rules, IfSome, inr, refl, subst, Option}
use Rattle.catalog.specs.Listed.{listed_in}
use Rattle.executor.specs.Reading.{IsStreamedView}
use Rattle.executor.specs.declared.shown.ShownTable.{ShownTable}
use Rattle.query_answer.specs.Parts.{GivesInOrder}
use Rattle.executor.proofs.shown.seen_table.Goals as goal

pub returns-in-Some-2-clause-sees : goal.returns-in-Some-2-clause-sees
returns-in-Some-2-clause-sees c =
    let l = listed_in c.args.catalog.now in
    let bound = c.in-Ok.bound in
    let shown = c.in-Some-2.shown in
    let streamed : IsStreamedView l c.args.room bound shown.table shown.places.value.items =
    subst (λ (found : Option ShownTable). IfSome found (λ it. IsStreamedView l c.args.room bound it.table it.places.value.items)) c.in-Some-2.is c.in_ok-shown.ensures.is in
    let in_order : GivesInOrder bound.reading = search rules in
    record {
      bound = bound;
      is = refl;
      named = c.in-Ok.ensures.named;
      placed = c.in-Ok.ensures.placed;
      in_order = in_order;
      over = inr (shown.places.value.items, refl, streamed);
    }
