-- The rows that a condition chooses beside NEW and OLD, one after another.
use Rattle.std.proofs.Common.{◌≡◌, ◌∙◌, inl, inr, refl, sym, ap, subst, ℕ, zero, suc, ◌<◌, ◌≤◌, ◌+◌, Bool, true, false, List, [], ◌∷◌, ◌++◌, append_assoc, drop, length, map, replicate, slice_index_or, Option, Some, None, Result, Ok, Err, arith}
use Rattle.std.specs.Prelude.{IsErrAnd, flat_map, if◌then◌else◌, unwrap_or}
use Rattle.std.proofs.lemmas.List.{append-nil, map_push}
use Rattle.sqlval.specs.Refusals.{Answer, ◌then◌, all_answers}
use Rattle.sqlval.specs.Faults.{IsOrMemory}
use Rattle.sqlval.specs.declared.fault.Fault.{Fault}
use Rattle.catalog.specs.Database.{Database, Name}
use Rattle.query_names.specs.Readings.{holds}
use Rattle.query_names.specs.Views.{all_rows}
use Rattle.query_terms.specs.Outcome.{AnswersBy, IsRefusedBy}
use Rattle.query_terms.specs.Rows.{picked_rows, row_at}
use Rattle.query_terms.specs.Terms.{Term}
use Rattle.query_terms.specs.Values.{Row}
use Rattle.row_change.specs.Changes.{Outer}
use Rattle.row_scan.specs.Trees.{AnswersOrFails}
use Rattle.trigger.specs.Effects as meant
use Rattle.trigger.specs.Effects.{chosen}
use Rattle.executor_programs.specs.Choosing.{row_chosen, rows_chosen}
use Rattle.executor_programs.specs.Outer.{is_true, only}

-- what was chosen before, and what is still chosen
abbrev pub chosen_left : List Row → Option Term → List Row → List Row → Answer (List Row)
chosen_left beside c front rest = all_answers (map (row_chosen beside c) rest) then λ found. Ok (front ++ flat_map (λ r. r) found)

-- what is left of the rows decides
pub record IsUnderWay (sources : List (List Row)) (outer count : ℕ) (c : Option Term) (place : ℕ) (picked places : List ℕ) : Type 0 where
  pub firsts : picked ≡ replicate outer 0
  pub so_far : (beside rows : List Row) → sources ≡ map only beside ++ rows ∷ [] → length beside ≡ outer → length rows ≡ count
      → chosen_left beside c (map (row_at rows) places) (drop place rows) ≡ rows_chosen beside c rows

pub begins : (sources : List (List Row)) (outer count : ℕ) (c : Option Term) (picked places : List ℕ) → picked ≡ replicate outer 0 → places ≡ [] → IsUnderWay sources outer count c 0 picked places
begins sources outer count c picked places zeros none = record {
  firsts = zeros;
  so_far = λ beside rows is many counted. ap (λ (ps : List ℕ). chosen_left beside c (map (row_at rows) ps) rows) none;
}

drop_step : (rows : List Row) (i : ℕ) → i < length rows → drop i rows ≡ row_at rows i ∷ drop (i + 1) rows
drop_step [] i lt = absurd (omega (arith, lt))
drop_step (row ∷ rows) zero lt = refl
drop_step (row ∷ rows) (suc i) lt = (let on : suc i + 1 ≡ suc (i + 1) = omega arith in drop_step rows i (omega (arith, lt)) ∙ ap (λ n. row_at rows i ∷ drop n (row ∷ rows)) (sym on))

drop_end : (rows : List Row) (i : ℕ) → length rows ≤ i → drop i rows ≡ []
drop_end [] zero le = refl
drop_end [] (suc i) le = refl
drop_end (row ∷ rows) zero le = absurd (omega (arith, le))
drop_end (row ∷ rows) (suc i) le = drop_end rows i (omega (arith, le))

picked_last : (beside rows : List Row) (place : ℕ) → picked_rows (map only beside ++ rows ∷ []) (replicate (length beside) 0 ++ place ∷ []) ≡ beside ++ row_at rows place ∷ []
picked_last [] rows place = refl
picked_last (b ∷ beside) rows place = ap (λ (rs : List Row). b ∷ rs) (picked_last beside rows place)

module _ (sources : List (List Row)) (outer count : ℕ) (c : Option Term) (place : ℕ) (picked places : List ℕ) (w : IsUnderWay sources outer count c place picked places) (lt : place < count) where
  tested : (beside rows : List Row) → sources ≡ map only beside ++ rows ∷ [] → length beside ≡ outer → is_true c (picked_rows sources (picked ++ place ∷ [])) ≡ is_true c (beside ++ row_at rows place ∷ [])
  tested beside rows is many =
      ap (is_true c)
      (ap (λ (ss : List (List Row)). picked_rows ss (picked ++ place ∷ [])) is
      ∙ (ap (λ (ps : List ℕ). picked_rows (map only beside ++ rows ∷ []) (ps ++ place ∷ [])) (w.firsts ∙ ap (λ n. replicate n 0) (sym many))
      ∙ picked_last beside rows place))

  abbrev after : List Row → List Row → List Row → Answer (List Row) → Answer (List Row)
  after beside rows front one = (one then λ x. all_answers (map (row_chosen beside c) (drop (place + 1) rows)) then λ xs. Ok (x ∷ xs)) then λ found. Ok (front ++ flat_map (λ r. r) found)

  step : (beside rows : List Row) → sources ≡ map only beside ++ rows ∷ [] → length beside ≡ outer → length rows ≡ count
      → rows_chosen beside c rows ≡ after beside rows (map (row_at rows) places) (row_chosen beside c (row_at rows place))
  step beside rows is many counted =
      sym (w.so_far beside rows is many counted) ∙ ap (chosen_left beside c (map (row_at rows) places)) (drop_step rows place (subst (λ n. place < n) (sym counted) lt))

  pub one_refused : {X : Type 0} (view : List Row → X → List Row) (result : Result X Fault) (f : Fault) → IsErrAnd result (λ e. e ≡ f) → IsRefusedBy (is_true c (picked_rows sources (picked ++ place ∷ []))) f
      → (beside rows : List Row) → sources ≡ map only beside ++ rows ∷ [] → length beside ≡ outer → length rows ≡ count → AnswersBy (view rows) (rows_chosen beside c rows) result
  one_refused view (Ok x) f same why beside rows is many counted = absurd same
  one_refused view (Err e) f same why beside rows is many counted = subst (λ (g : Fault). IsRefusedBy (rows_chosen beside c rows) g) (sym same) (by why)
    where
      by : IsRefusedBy (is_true c (picked_rows sources (picked ++ place ∷ []))) f → IsRefusedBy (rows_chosen beside c rows) f
      by (inl memory) = inl memory
      by (inr refused) = inr
          (step beside rows is many counted
          ∙ ap (λ (a : Answer Bool). after beside rows (map (row_at rows) places) (a then λ test. Ok (if test then row_at rows place ∷ [] else []))) (sym (tested beside rows is many) ∙ refused))

  pub one_more : (test : Bool) (picked_then next : List ℕ) → is_true c (picked_rows sources (picked ++ place ∷ [])) ≡ Ok test → picked_then ≡ picked → next ≡ (if test then places ++ place ∷ [] else places)
      → IsUnderWay sources outer count c (place + 1) picked_then next
  one_more test picked_then next is_test kept pushed = record {
    firsts = kept ∙ w.firsts;
    so_far = λ beside rows is many counted.
        ap (λ (ps : List ℕ). chosen_left beside c (map (row_at rows) ps) (drop (place + 1) rows)) pushed
        ∙ (on rows beside (all_answers (map (row_chosen beside c) (drop (place + 1) rows))) test
        ∙ sym (step beside rows is many counted
        ∙ ap (λ (a : Answer Bool). after beside rows (map (row_at rows) places) (a then λ test. Ok (if test then row_at rows place ∷ [] else []))) (sym (tested beside rows is many) ∙ is_test)));
  }
    where
      on : (rows beside : List Row) (rest : Answer (List (List Row))) (test : Bool)
          → (rest then λ found. Ok (map (row_at rows) (if test then places ++ place ∷ [] else places) ++ flat_map (λ r. r) found))
          ≡ ((rest then λ xs. Ok ((if test then row_at rows place ∷ [] else []) ∷ xs)) then λ found. Ok (map (row_at rows) places ++ flat_map (λ r. r) found))
      on rows beside (Err r) test = refl
      on rows beside (Ok found) false = refl
      on rows beside (Ok found) true =
          ap (λ (rs : List Row). Ok rs)
          (ap (λ (rs : List Row). rs ++ flat_map (λ r. r) found) (map_push (row_at rows) places place) ∙ append_assoc (map (row_at rows) places) (row_at rows place ∷ []) (flat_map (λ r. r) found))

pub ends : (sources : List (List Row)) (outer count : ℕ) (c : Option Term) (place : ℕ) (picked places : List ℕ) → IsUnderWay sources outer count c place picked places → count ≤ place
    → (beside rows : List Row) → sources ≡ map only beside ++ rows ∷ [] → length beside ≡ outer → length rows ≡ count → rows_chosen beside c rows ≡ Ok (map (row_at rows) places)
ends sources outer count c place picked places w le beside rows is many counted =
    sym (w.so_far beside rows is many counted)
    ∙ (ap (chosen_left beside c (map (row_at rows) places)) (drop_end rows place (subst (λ n. n ≤ place) (sym counted) le))
    ∙ ap (λ (rs : List Row). Ok rs) (append-nil (map (row_at rows) places)))

-- ---- as the definition chooses

one_as_meant : (outer : Outer) (c : Option Term) (r : Row) → row_chosen outer.rows c r ≡ chosen outer c r
one_as_meant outer None r = refl
one_as_meant outer (Some t) r = by (holds t (outer.rows ++ r ∷ []))
  where
    by : (a : Answer (Option Bool))
        → ((a then λ test. Ok (unwrap_or test false)) then λ test. Ok (if test then r ∷ [] else [])) ≡ (a then elim [ Some true ↦ Ok (r ∷ []) | _ ↦ Ok [] ])
    by (Err e) = refl
    by (Ok None) = refl
    by (Ok (Some true)) = refl
    by (Ok (Some false)) = refl

each_as_meant : (outer : Outer) (c : Option Term) (rows : List Row) → map (row_chosen outer.rows c) rows ≡ map (chosen outer c) rows
each_as_meant outer c [] = refl
each_as_meant outer c (r ∷ rows) = λ i. one_as_meant outer c r i ∷ each_as_meant outer c rows i

as_meant : (db : Database) (outer : Outer) (n : Name) (c : Option Term) → (all_rows db n then rows_chosen outer.rows c) ≡ meant.chosen_rows db outer n c
as_meant db outer n c = by (all_rows db n)
  where
    by : (a : Answer (List Row)) → (a then rows_chosen outer.rows c) ≡ (a then λ rows. all_answers (map (chosen outer c) rows) then λ rs. Ok (flat_map (λ r. r) rs))
    by (Err e) = refl
    by (Ok rows) = ap (λ (each : List (Answer (List Row))). all_answers each then λ rs. Ok (flat_map (λ r. r) rs)) (each_as_meant outer c rows)

module _ (db : Database) (outer : Outer) (n : Name) (c : Option Term) where
  -- all rows are refused, or they can't be read
  pub unread : {X : Type 0} (view : X → List Row) (result : Result X Fault) (f : Fault) → IsErrAnd result (λ e. e ≡ f) → AnswersOrFails {X = List Row} (λ rows. rows) (all_rows db n) (Err f)
      → AnswersOrFails view (meant.chosen_rows db outer n c) result
  unread view (Ok x) f same why = absurd same
  unread view (Err e) f same why = subst (λ (g : Fault). AnswersOrFails view (meant.chosen_rows db outer n c) (Err g)) (sym same) (by why)
    where
      by : AnswersOrFails {X = List Row} (λ rows. rows) (all_rows db n) (Err f) → AnswersOrFails view (meant.chosen_rows db outer n c) (Err f)
      by (inl outside) = inl outside
      by (inr refused) = inr (ap (λ (a : Answer (List Row)). a then λ rows. all_answers (map (chosen outer c) rows) then λ rs. Ok (flat_map (λ r. r) rs)) refused)

  module _ (rows : List Row) (enough : rows_chosen outer.rows c rows ≡ (all_rows db n then rows_chosen outer.rows c)) where
    meant_is : meant.chosen_rows db outer n c ≡ rows_chosen outer.rows c rows
    meant_is = sym (as_meant db outer n c) ∙ sym enough

    -- or the condition is
    pub unchosen : {X : Type 0} (view : X → List Row) (result : Result X Fault) (f : Fault) → IsErrAnd result (λ e. e ≡ f) → IsRefusedBy (rows_chosen outer.rows c rows) f
        → AnswersOrFails view (meant.chosen_rows db outer n c) result
    unchosen view (Ok x) f same why = absurd same
    unchosen view (Err e) f same why = subst (λ (g : Fault). AnswersOrFails view (meant.chosen_rows db outer n c) (Err g)) (sym same) (by why)
      where
        by : IsRefusedBy (rows_chosen outer.rows c rows) f → AnswersOrFails view (meant.chosen_rows db outer n c) (Err f)
        by (inl memory) = inl (inl memory)
        by (inr refused) = inr (meant_is ∙ refused)

    -- these are they
    pub are_chosen : {X : Type 0} (view : X → List Row) (result : Result X Fault) (them : List Row) → rows_chosen outer.rows c rows ≡ Ok them → IsOrMemory (λ x. view x ≡ them) result
        → AnswersOrFails view (meant.chosen_rows db outer n c) result
    are_chosen view (Ok x) them chose is = meant_is ∙ (chose ∙ ap (λ (rs : List Row). Ok rs) (sym is))
    are_chosen view (Err e) them chose memory = inl (inl memory)

-- copies of the rows at those places
pub chose_at : {X : Type 0} (view : X → List Row) (here rows : List Row) (seen places : List ℕ) (result : Result X Fault) → here ≡ rows → seen ≡ places → IsOrMemory (λ x. view x ≡ map (row_at here) seen) result
    → IsOrMemory (λ x. view x ≡ map (row_at rows) places) result
chose_at view here rows seen places (Ok x) is same copies = copies ∙ λ i. map (row_at (is i)) (same i)
chose_at view here rows seen places (Err f) is same memory = memory

only_long : (rows : List Row) → length (map only rows) ≡ length rows
only_long [] = refl
only_long (r ∷ rows) = ap suc (only_long rows)

-- as many rows as lists
pub counted_outer : (lists : List (List Row)) (rows : List Row) → lists ≡ map only rows → length rows ≡ length lists
counted_outer lists rows are = sym (ap length are ∙ only_long rows)

-- what comes after NEW and OLD
pub at_end : (lists : List (List Row)) (rows other : List Row) → slice_index_or (lists ++ rows ∷ []) (length lists) other ≡ rows
at_end [] rows other = refl
at_end (l ∷ lists) rows other = at_end lists rows other
