use Rattle.std.proofs.Common.{◌≡◌, ◌∙◌, ◌∷◌, ◌++◌, [], ap, length, map, rules, slice_index_or, List}
use Rattle.query_terms.specs.Rows.{row_at}
use Rattle.query_terms.specs.Values.{Row}
use Rattle.executor_programs.proofs.ChosenRows.{are_chosen, at_end, chose_at, counted_outer, unchosen, unread}
use Rattle.executor_programs.specs.Outer.{only}
use Rattle.executor_programs.proofs.choosing.chosen_rows.Goals as goal

pub returns-in_err-rows-clause-chosen : goal.returns-in_err-rows-clause-chosen
returns-in_err-rows-clause-chosen g c = λ db seen told stored shows known.
    unread db seen c.args.name.now c.args.condition.now (λ rows. rows.items) c.from_residual.result c.in_err-rows.field-0.0 c.from_residual.ensures.1 (c.in_err-rows.ensures.enough db seen told stored shows known)

pub returns-in_err-places-clause-chosen : goal.returns-in_err-places-clause-chosen
returns-in_err-places-clause-chosen g c = λ db seen told stored shows known.
    (let is : c.deref.result.now ≡ map only seen.rows ++ c.in_ok-rows.rows ∷ [] = c.deref.ensures.value ∙ (c.in_ok-sources.ensures ∙ ap (λ (ls : List (List Row)). ls ++ c.in_ok-rows.rows ∷ []) shows.rows) in
    let many : length c.in_ok-rows.rows ≡ c.len-count.result = search rules in
    unchosen db seen c.args.name.now c.args.condition.now c.in_ok-rows.rows (c.in_ok-rows.ensures.enough db seen told stored shows known) (λ rows. rows.items) c.from_residual-in_err-places.result c.in_err-places.field-0.0 c.from_residual-in_err-places.ensures.1
    (c.in_err-places.ensures.chosen seen.rows c.in_ok-rows.rows is (counted_outer c.args.outer.rows.now seen.rows shows.rows) many))

pub returns-clause-chosen : goal.returns-clause-chosen
returns-clause-chosen g c = λ db seen told stored shows known.
    (let is : c.deref.result.now ≡ map only seen.rows ++ c.in_ok-rows.rows ∷ [] = c.deref.ensures.value ∙ (c.in_ok-sources.ensures ∙ ap (λ (ls : List (List Row)). ls ++ c.in_ok-rows.rows ∷ []) shows.rows) in
    let many : length c.in_ok-rows.rows ≡ c.len-count.result = search rules in
    let here : c.as_slice.result.now ≡ c.in_ok-rows.rows =
    c.as_slice.ensures ∙ (c.index.ensures ∙ (ap (λ (ss : List (List Row)). slice_index_or ss (length c.args.outer.rows.now) c.index.result.now) c.in_ok-sources.ensures ∙ at_end c.args.outer.rows.now c.in_ok-rows.rows c.index.result.now)) in
    are_chosen db seen c.args.name.now c.args.condition.now c.in_ok-rows.rows (c.in_ok-rows.ensures.enough db seen told stored shows known) (λ rows. rows.items) c.copies_at.result (map (row_at c.in_ok-rows.rows) c.in_ok-places.places.items)
    (c.in_ok-places.ensures.chosen seen.rows c.in_ok-rows.rows is (counted_outer c.args.outer.rows.now seen.rows shows.rows) many)
    (chose_at (λ rows. rows.items) c.as_slice.result.now c.in_ok-rows.rows c.deref-2.result.now c.in_ok-places.places.items c.copies_at.result here c.deref-2.ensures.value c.copies_at.ensures))
