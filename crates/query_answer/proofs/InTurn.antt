-- A query that gives each row of its only source by itself.
use Rattle.std.proofs.Common.{◌≡◌, inl, inr, refl, sym, ap, ◌∙◌, true, false, not, ◌&&◌, ◌||◌, List, [], ◌∷◌, ◌++◌, map, take, drop, Some, None, Ok, Err}
use Rattle.std.specs.Prelude.{if◌then◌else◌}
use Rattle.std.proofs.lemmas.List.{append-nil, map-append}
use Rattle.sqlval.specs.Flow.{Flow, collected, followed_by}
use Rattle.sqlval.specs.Lists.{keys_cmp, sorted}
use Rattle.sqlval.specs.Refusals.{Answer, ◌then◌, refusal_of}
use Rattle.sqlval.specs.declared.fault.Fault.{Fault}
use Rattle.sqlval.specs.declared.value.Value.{Value}
use Rattle.query_terms.specs.Outcome.{IsRefusedBy}
use Rattle.query_terms.specs.Terms.{collation}
use Rattle.query_terms.specs.Values.{Row}
use Rattle.query_names.specs.Readings.{Sortable, combined, cut, in_order, once}
use Rattle.query_names.specs.declared.reading.Reading.{Reading}
use Rattle.query_answer.specs.Nesting.{Found, Named, beside_rows, given, is_left}
use Rattle.query_answer.specs.Parts.{FollowOneAnother, GivesInOrder, Kept, answer_on, is_of_groups, is_of_totals, is_row_by_row, kept_of, of_rows, part_of}
use Rattle.query_answer.proofs.Given.{given_alone, kept_alone, one_by_one}
use Rattle.query_answer.proofs.PartRows.{all_of, alone, behind, kept_each, nothing_kept, part_is, refused_behind, rows_behind, stay_refused}
use Rattle.query_answer.proofs.ShownRows.{equal_stay, otherwise}

-- the results of what was kept
abbrev pub results_in : Kept → List (List Value)
results_in kept = map (λ s. s.0) kept.0

-- ---- what DISTINCT, ORDER BY and LIMIT leave

module _ (q : Reading) (is : GivesInOrder q) where
  pub as_they_are : (xs : List Sortable) → cut q (in_order q (once q xs)) ≡ xs
  as_they_are xs =
      ap (λ l. elim l [ None ↦ in_order q (once q xs) | Some n ↦ take n (drop q.offset (in_order q (once q xs))) ]) is.unlimited
      ∙ ap (in_order q) (otherwise q.distinct _ _ is.with_twins)
      ∙ ap (λ os. sorted (λ r s. keys_cmp (map (λ o. record { collation = collation o.0; descending = o.1 }) os) r.1 s.1) xs) is.unordered
      ∙ equal_stay xs

  pub in_turn : is_row_by_row q ≡ true
  in_turn = λ i. (not (is.ungrouped i) || (is_of_totals q || is_of_groups q)) && is.alone i

  -- ---- the answer is what is kept

  abbrev shown_of : Answer (List Found) → Answer (List (List Value))
  shown_of a = all_of q a then λ kept. Ok (results_in kept)

  abbrev results : List Found → List (List Value)
  results found = map (λ f. f.0.0) found

  each_result : (found : List Found) → map (λ s. s.0) (map (λ f. f.0) found) ≡ results found
  each_result [] = refl
  each_result (f ∷ fs) = ap (λ (l : List (List Value)). f.0.0 ∷ l) (each_result fs)

  pub results_of_kept : (found : List Found) → results_in (kept_of q found) ≡ results found
  results_of_kept found = ap results_in (kept_each q found is.ungrouped) ∙ each_result found

  each_given : (ss : List Sortable) → results (map given ss) ≡ map (λ s. s.0) ss
  each_given [] = refl
  each_given (s ∷ ss) = ap (λ (l : List (List Value)). s.0 ∷ l) (each_given ss)

  module _ (rows : List Row) where
    abbrev flow : Flow (List Row)
    flow = combined (beside_rows q.sources (rows ∷ [])) []

    abbrev finished : Answer (List Sortable) → Answer (List (List Value))
    finished a = a then λ found. Ok (map (λ s. s.0) (cut q (in_order q (once q found))))

    pub answer_is_kept : answer_on q rows ≡ (part_of q rows then λ kept. Ok (results_in kept))
    answer_is_kept =
        ap finished (given_alone q [] flow is.ungrouped)
        ∙ (by (one_by_one q flow) ∙ ap shown_of (sym (kept_alone q flow is.ungrouped)))
      where
        by : (a : Answer (List Sortable)) → finished a ≡ shown_of (a then λ ss. Ok (map given ss))
        by (Ok ss) = (let good : List (List Value) → Answer (List (List Value)) = λ l. Ok l in ap good (ap (map (λ s. s.0)) (as_they_are ss) ∙ (sym (each_given ss) ∙ sym (results_of_kept (map given ss)))))
        by (Err r) = refl

-- what a query refuses of rows, its answer is
pub refused_in_turn : (q : Reading) → is_row_by_row q ≡ true → (rows : List Row) (f : Fault) → IsRefusedBy (part_of q rows) f → IsRefusedBy (answer_on q rows) f
refused_in_turn q e rows f (inl memory) = inl memory
refused_in_turn q e rows f (inr why) = inr (ap (answer_on q) (sym (append-nil rows)) ∙ stay_refused q rows [] (refusal_of f) e why)

-- ---- some rows, and more

pub collected_both : {A : Type 0} (f g : Flow A) → collected (followed_by f g) ≡ (collected f then λ xs. collected g then λ ys. Ok (xs ++ ys))
collected_both {A} f g = by (collected f) refl
  where
    by : (a : Answer (List A)) → collected f ≡ a → collected (followed_by f g) ≡ (collected f then λ xs. collected g then λ ys. Ok (xs ++ ys))
    by (Ok xs) e = behind f g xs e ∙ ap (λ (a : Answer (List A)). a then λ xs. collected g then λ ys. Ok (xs ++ ys)) (sym e)
    by (Err r) e = refused_behind f g r e ∙ ap (λ (a : Answer (List A)). a then λ xs. collected g then λ ys. Ok (xs ++ ys)) (sym e)

module _ (q : Reading) (is : GivesInOrder q) (s : Named) (same : q.sources ≡ s ∷ []) (left : is_left s.1 ≡ false) where
  abbrev seen : Answer (List Found) → Answer (List (List Value))
  seen a = all_of q a then λ kept. Ok (results_in kept)

  pub over_is : (rows : List Row) → answer_on q rows ≡ seen (collected (of_rows q s.1 rows))
  over_is rows = answer_is_kept q is rows ∙ ap (λ (a : Answer Kept). a then λ kept. Ok (results_in kept)) (part_is q s rows same left)

  both_results : (xs ys : List Found) → results_in (kept_of q (xs ++ ys)) ≡ results_in (kept_of q xs) ++ results_in (kept_of q ys)
  both_results xs ys =
      results_of_kept q is (xs ++ ys)
      ∙ (map-append (λ (f : Found). f.0.0) xs ys ∙ (λ i. sym (results_of_kept q is xs) i ++ sym (results_of_kept q is ys) i))

  both_seen : (a b : Answer (List Found)) → seen (a then λ xs. b then λ ys. Ok (xs ++ ys)) ≡ (seen a then λ xs. seen b then λ ys. Ok (xs ++ ys))
  both_seen (Ok xs) (Ok ys) = (let good : List (List Value) → Answer (List (List Value)) = λ l. Ok l in ap good (both_results xs ys))
  both_seen (Ok xs) (Err r) = refl
  both_seen (Err r) b = refl

  pub both_answered : (rows more : List Row) → answer_on q (rows ++ more) ≡ (answer_on q rows then λ xs. answer_on q more then λ ys. Ok (xs ++ ys))
  both_answered rows more =
      over_is (rows ++ more)
      ∙ (ap (λ (f : Flow Found). seen (collected f)) (rows_behind q s.1 rows more)
      ∙ (ap seen (collected_both (of_rows q s.1 rows) (of_rows q s.1 more))
      ∙ (both_seen (collected (of_rows q s.1 rows)) (collected (of_rows q s.1 more))
      ∙ (λ i. sym (over_is rows) i then λ xs. sym (over_is more) i then λ ys. Ok (xs ++ ys)))))

abbrev good : List (List Value) → Answer (List (List Value))
good rows = Ok rows

pub follow_one_another : FollowOneAnother
follow_one_another = record {
  none = λ q is. answer_is_kept q is [] ∙ (ap (λ (a : Answer Kept). a then λ kept. Ok (results_in kept)) (nothing_kept q (in_turn q is)) ∙ ap good (results_of_kept q is []));
  both = λ q rows more is. (let a = alone q (in_turn q is) in both_answered q is a.0 a.1 a.2 rows more);
}
