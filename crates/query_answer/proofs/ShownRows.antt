-- What a query answers that shows values of each row of its only source.
use Rattle.std.proofs.Common.{◌≡◌, refl, sym, ap, ◌∙◌, Bool, false, List, [], ◌∷◌, map, take, drop, Option, Some, None, Ok, Err}
use Rattle.std.specs.Prelude.{if◌then◌else◌, IfOk, IfSome, Result}
use Rattle.std.specs.Global.{Vec}
use Rattle.sqlval.specs.declared.fault.Fault.{Fault}
use Rattle.std.specs.declared.cmp.Ordering.TheVariants.{Equal}
use Rattle.sqlval.specs.Flow.{Finished, Next, flow_of, followed_by, for_each, computed, collected, row_of}
use Rattle.sqlval.specs.Lists.{keys_cmp, placed, sorted}
use Rattle.sqlval.specs.Refusals.{Answer, ◌then◌}
use Rattle.query_terms.specs.Terms.{Term, collation}
use Rattle.query_terms.specs.Values.{Row, at_row}
use Rattle.query_terms.specs.declared.tree.Place.{Place}
use Rattle.query_names.specs.Readings.{Sortable, combined, cut, environments, env_of, filtered, in_order, once, sortable, values}
use Rattle.query_names.specs.declared.reading.Condition.TheVariants.{Always}
use Rattle.query_names.specs.declared.reading.Reading.{Reading}
use Rattle.query_answer.specs.Nesting.{beside_rows}
use Rattle.query_answer.specs.Shown.{AnswersAll, ShowsPlaces, shown_of}

-- rows of which none is before another stay as they stand
pub equal_stay : {A : Type 0} (xs : List A) → sorted (λ (x y : A). Equal) xs ≡ xs
equal_stay [] = refl
equal_stay {A} (x ∷ xs) = ap (placed (λ (x y : A). Equal) x) (equal_stay xs) ∙ first xs
  where
    first : (xs : List A) → placed (λ (x y : A). Equal) x xs ≡ x ∷ xs
    first [] = refl
    first (y ∷ ys) = refl

all_collected : {A : Type 0} (xs : List A) → collected (flow_of xs) ≡ Ok xs
all_collected [] = refl
all_collected {A} (x ∷ xs) = (let more : Answer (List A) → Answer (List A) = λ a. a then λ ys. Ok (x ∷ ys) in ap more (all_collected xs))

-- each row is a combination of its own
one_by_one : (rows : List Row) → combined ((Always, rows) ∷ []) [] ≡ flow_of (map (λ r. r ∷ []) rows)
one_by_one [] = refl
one_by_one (r ∷ rows) = ap (Next (r ∷ [])) (one_by_one rows)

pub otherwise : {A : Type 0} (b : Bool) (x y : A) → b ≡ false → (if b then x else y) ≡ y
otherwise b x y e = ap (λ b. if b then x else y) e

module _ (q : Reading) (places : List Place) (is : AnswersAll q) (each : (row : Row) → values (env_of (row ∷ [])) q.results ≡ Ok (map (at_row (Some row)) places)) where
  abbrev shown_row : Row → Sortable
  shown_row r = (map (at_row (Some r)) places, [])

  row_shown : (r : Row) → sortable q (env_of (r ∷ [])) ≡ Ok (shown_row r)
  row_shown r =
      ap (λ os. values (env_of (r ∷ [])) q.results then λ vs. values (env_of (r ∷ [])) (map (λ o. o.0) os) then λ ks. Ok (vs, ks)) is.unordered
      ∙ ap (λ a. a then λ vs. Ok (vs, [])) (each r)

  rows_shown : (rows : List Row) → computed (sortable q) (for_each (λ rows. Next (env_of rows) Finished) (flow_of (map (λ r. r ∷ []) rows))) ≡ flow_of (map shown_row rows)
  rows_shown [] = refl
  rows_shown (r ∷ rows) =
      ap (λ a. followed_by (row_of a) (computed (sortable q) (for_each (λ rows. Next (env_of rows) Finished) (flow_of (map (λ r. r ∷ []) rows))))) (row_shown r)
      ∙ ap (Next (shown_row r)) (rows_shown rows)

  combinations : (rows : List Row) → combined (beside_rows q.sources (rows ∷ [])) [] ≡ flow_of (map (λ r. r ∷ []) rows)
  combinations rows =
      ap (λ ss. combined (beside_rows ss (rows ∷ [])) []) is.bare.1
      ∙ ap (λ c. combined ((c, rows) ∷ []) []) is.bare.2
      ∙ one_by_one rows

  given : (rows : List Row) → collected (computed (sortable q) (environments q [] (filtered q.filter (combined (beside_rows q.sources (rows ∷ [])) [])))) ≡ Ok (map shown_row rows)
  given rows =
      ap (λ f. collected (computed (sortable q) (environments q [] (filtered q.filter f)))) (combinations rows)
      ∙ ap (λ t. collected (computed (sortable q) (environments q [] (filtered t (flow_of (map (λ r. r ∷ []) rows)))))) is.unfiltered
      ∙ ap (λ f. collected (computed (sortable q) f)) (otherwise q.is_grouped _ _ is.ungrouped)
      ∙ ap collected (rows_shown rows)
      ∙ all_collected (map shown_row rows)

  kept_as_they_are : (xs : List Sortable) → cut q (in_order q (once q xs)) ≡ xs
  kept_as_they_are xs =
      ap (λ l. elim l [ None ↦ in_order q (once q xs) | Some n ↦ take n (drop q.offset (in_order q (once q xs))) ]) is.unlimited
      ∙ ap (in_order q) (otherwise q.distinct _ _ is.with_twins)
      ∙ ap (λ os. sorted (λ r s. keys_cmp (map (λ o. record { collation = collation o.0; descending = o.1 }) os) r.1 s.1) xs) is.unordered
      ∙ equal_stay xs

  results_alone : (rows : List Row) → map (λ r. r.0) (map shown_row rows) ≡ shown_of places rows
  results_alone [] = refl
  results_alone (r ∷ rows) = ap (λ xs. map (at_row (Some r)) places ∷ xs) (results_alone rows)

  pub all_are_shown : ShowsPlaces q places
  all_are_shown rows =
      ap (λ a. a then λ xs. Ok (map (λ r. r.0) (cut q (in_order q (once q xs))))) (given rows)
      ∙ ap (λ xs. Ok (map (λ r. r.0) xs)) (kept_as_they_are (map shown_row rows))
      ∙ ap Ok (results_alone rows)

-- where the places are those of the query's results
pub shown_at : (q : Reading) (results : List Term) (result : Result (Option (Vec Place)) Fault) → results ≡ q.results → AnswersAll q
    → IfOk result (λ found. IfSome found (λ places. (row : Row) → values (env_of (row ∷ [])) results ≡ Ok (map (at_row (Some row)) places.items)))
    → IfOk result (λ found. IfSome found (λ places. ShowsPlaces q places.items))
shown_at q results (Ok (Some places)) same is each = all_are_shown q places.items is (λ row. ap (values (env_of (row ∷ []))) (sym same) ∙ each row)
shown_at q results (Ok None) same is each = tt
shown_at q results (Err fault) same is each = tt
