-- Rows that a query makes of its only source's.
use Rattle.std.proofs.Common.{◌≡◌, inl, inr, refl, sym, ap, subst, ◌∙◌, ℕ, ◌+◌, ◌<◌, true, false, List, [], ◌∷◌, ◌++◌, length, drop, Ok, Err}
use Rattle.std.specs.Prelude.{IfErr, Result, if◌then◌else◌}
use Rattle.sqlval.specs.Faults.{IsNotDiskFault}
use Rattle.sqlval.specs.Flow.{Finished, followed_by, collected, row_of}
use Rattle.sqlval.specs.Refusals.{Answer, Refusal, ◌then◌, refusal_of}
use Rattle.sqlval.specs.declared.fault.Fault.{Fault}
use Rattle.sqlval.specs.declared.value.Value.{Value}
use Rattle.query_terms.specs.Outcome.{AnswersBy, IsRefusedBy}
use Rattle.query_terms.specs.Rows.{picked_rows}
use Rattle.query_terms.specs.Values.{Row}
use Rattle.query_filter.specs.Passing.{passing}
use Rattle.query_names.specs.Readings.{env_of}
use Rattle.query_names.specs.Views.{plain_rows}
use Rattle.query_names.specs.declared.reading.Condition.{Condition}
use Rattle.query_names.specs.declared.reading.Reading.{Reading}
use Rattle.query_answer.specs.Nesting.{Found, Named, at_leaf, is_left, joins_by, kept_if, kept_row, onto, stepped}
use Rattle.query_answer.specs.Parts.{GivesInOrder, Kept, answer_on, of_row, of_rows, part_of, rows_made}
use Rattle.query_answer.proofs.InTurn.{answer_is_kept, in_turn, over_is, results_in, results_of_kept}
use Rattle.query_answer.proofs.PartRows.{all_of, condition_refused, nothing_more, part_quiet, passed_over, row_goes_on, row_stops}

-- ---- what is made of what is found

abbrev pub all_made : Answer (List Found) → Answer (List Row)
all_made a = a then λ all. Ok (rows_made all)

was_made : (a : Answer (List Found)) (rows : List Row) → all_made a ≡ Ok rows → (found : List Found) × (a ≡ Ok found) × (rows_made found ≡ rows)
was_made (Ok found) rows e = (found, refl, cc)
was_made (Err r) rows e = absurd cc

was_unmade : (a : Answer (List Found)) (r : Refusal) → all_made a ≡ Err r → a ≡ Err r
was_unmade (Ok found) r e = absurd cc
was_unmade (Err x) r e = ap again e
  where
    again : Answer (List Row) → Answer (List Found)
    again (Ok rows) = Ok []
    again (Err r) = Err r

unmade_of : (a : Answer (List Found)) (f : Fault) → IsRefusedBy (all_made a) f → IsRefusedBy a f
unmade_of a f (inl m) = inl m
unmade_of a f (inr e) = inr (was_unmade a (refusal_of f) e)

of_unmade : (a : Answer (List Found)) (f : Fault) → IsRefusedBy a f → IsRefusedBy (all_made a) f
of_unmade a f (inl m) = inl m
of_unmade a f (inr e) = inr (ap all_made e)

abbrev good : List Row → Answer (List Row)
good rows = Ok rows

-- ---- one row

module _ (q : Reading) (c : Condition) (rows : List Row) (before : List Found) where
  -- one that WHERE keeps
  pub made_of_kept : joins_by c rows ≡ Ok true → passing q.filter (env_of rows) ≡ Ok true
      → all_made (onto before (of_row q c rows)) ≡ (kept_row q rows then λ f. Ok (rows_made (before ++ f ∷ [])))
  made_of_kept joins passes = (λ i. all_made (onto before (stepped (joins i) (kept_if q rows (passes i)) (λ joins. Finished)))) ∙ by (kept_row q rows)
    where
      by : (a : Answer Found) → all_made (onto before (followed_by (row_of a) Finished)) ≡ (a then λ f. let k : Answer (List Row) = Ok (rows_made (before ++ f ∷ [])) in k)
      by (Ok f) = refl
      by (Err r) = refl

  -- one that it doesn't keep
  pub made_of_left : joins_by c rows ≡ Ok true → passing q.filter (env_of rows) ≡ Ok false → all_made (onto before (of_row q c rows)) ≡ Ok (rows_made before)
  made_of_left joins passes =
      (λ i. all_made (onto before (stepped (joins i) (kept_if q rows (passes i)) (λ joins. Finished)))) ∙ ap all_made (nothing_more before)

  pub made_of_apart : joins_by c rows ≡ Ok false → all_made (onto before (of_row q c rows)) ≡ Ok (rows_made before)
  made_of_apart joins = ap all_made (passed_over (joins_by c rows) (at_leaf q rows) before joins)

  -- one of which a condition is refused
  pub made_of_unjoined : (f : Fault) → IsRefusedBy (joins_by c rows) f → IsRefusedBy (all_made (onto before (of_row q c rows))) f
  made_of_unjoined f h = of_unmade (onto before (of_row q c rows)) f (condition_refused (joins_by c rows) (at_leaf q rows) before f h)

  pub made_of_unfiltered : (f : Fault) → joins_by c rows ≡ Ok true → IsRefusedBy (passing q.filter (env_of rows)) f → IsRefusedBy (all_made (onto before (of_row q c rows))) f
  made_of_unfiltered f joins (inl m) = inl m
  made_of_unfiltered f joins (inr e) = inr (λ i. all_made (onto before (stepped (joins i) (kept_if q rows (e i)) (λ joins. Finished))))

-- ---- row after row

module _ (p : Reading) (c : Condition) (ss : List (List Row)) (rows : List Row) (i : ℕ) (xs : List Found) (total : Answer (List Found)) (same : ss ≡ rows ∷ []) (lt : i < length rows)
    (so_far : onto xs (of_rows p c (drop i rows)) ≡ total) where
  pub makes_go_on : (new : List Row) → all_made (onto xs (of_row p c (picked_rows ss (i ∷ [])))) ≡ Ok new → (ys : List Found) × (new ≡ rows_made ys) × (onto ys (of_rows p c (drop (i + 1) rows)) ≡ total)
  makes_go_on new h =
      let was = was_made (onto xs (of_row p c (picked_rows ss (i ∷ [])))) new h in
      (was.0, sym was.2, row_goes_on p c ss rows i xs total same lt so_far was.0 was.1)

  pub makes_stop : (fault : Fault) → IsRefusedBy (all_made (onto xs (of_row p c (picked_rows ss (i ∷ []))))) fault → IsRefusedBy (all_made total) fault
  makes_stop fault h =
      of_unmade total fault (row_stops p c ss rows i xs total same lt so_far fault (unmade_of (onto xs (of_row p c (picked_rows ss (i ∷ [])))) fault h))

pub makes_done : (xs : List Found) (total : Answer (List Found)) (made : List Row) → made ≡ rows_made xs → onto xs Finished ≡ total → all_made total ≡ Ok made
makes_done xs total made is left = ap all_made (sym left) ∙ (ap all_made (nothing_more xs) ∙ ap good (sym is))

-- ---- all of them

module _ (q : Reading) (is : GivesInOrder q) (s : Named) (same : q.sources ≡ s ∷ []) (left : is_left s.1 ≡ false) (rows : List Row) where
  abbrev plain : Answer (List (List Value)) → Answer (List Row)
  plain a = a then λ made. Ok (plain_rows made)

  all_are : all_made (onto [] (of_rows q s.1 rows)) ≡ plain (answer_on q rows)
  all_are = by (collected (of_rows q s.1 rows)) ∙ ap plain (sym (over_is q is s same left rows))
    where
      by : (a : Answer (List Found)) → all_made (a then λ ys. let l : Answer (List Found) = Ok ([] ++ ys) in l) ≡ plain (all_of q a then λ kept. Ok (results_in kept))
      by (Ok found) = ap good (ap plain_rows (sym (results_of_kept q is found)))
      by (Err r) = refl

  pub are_made : {T : Type 0} (result : Result T Fault) (new : List Row) (p : Reading) (c : Condition) (them : List Row) → p ≡ q → c ≡ s.1 → them ≡ rows
      → AnswersBy (λ u. new) (all_made (onto [] (of_rows p c them))) result → AnswersBy (λ u. new) (plain (answer_on q rows)) result
  are_made result new p c them p_is c_is them_is answers =
      subst (λ (a : Answer (List Row)). AnswersBy (λ u. new) a result) ((λ i. all_made (onto [] (of_rows (p_is i) (c_is i) (them_is i)))) ∙ all_are) answers

  kept_unmade : (a : Answer Kept) (r : Refusal) → plain (a then λ kept. Ok (results_in kept)) ≡ Err r → a ≡ Err r
  kept_unmade (Ok kept) r e = absurd cc
  kept_unmade (Err x) r e = ap again e
    where
      again : Answer (List Row) → Answer Kept
      again (Ok rows) = Ok ([], [], [])
      again (Err r) = Err r

  makes_quiet : (f : Fault) → IsRefusedBy (plain (answer_on q rows)) f → IsRefusedBy (part_of q rows) f
  makes_quiet f (inl m) = inl m
  makes_quiet f (inr e) = inr (kept_unmade (part_of q rows) (refusal_of f) (ap plain (sym (answer_is_kept q is rows)) ∙ e))

  pub makes_calm : {T : Type 0} (result : Result T Fault) (new : List Row) → AnswersBy (λ u. new) (plain (answer_on q rows)) result → IfErr result IsNotDiskFault
  makes_calm (Ok u) new answers = tt
  makes_calm (Err f) new answers = part_quiet q s rows [] (in_turn q is) same left f ([], [], []) (makes_quiet f answers)
