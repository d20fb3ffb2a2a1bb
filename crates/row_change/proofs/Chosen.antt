-- The rows that a condition chooses, one after another.
use Rattle.std.proofs.Common.{◌≡◌, refl, sym, ap, subst, ◌∙◌, inl, inr, ◌<◌, ◌≤◌, ◌+◌, ℕ, zero, suc, ℤ, Bool, true, false, not, filter, List, [], ◌∷◌, ◌++◌, append_assoc, length, map, drop, Option, Some, None, Result, Ok, Err, arith}
use Rattle.std.specs.Prelude.{IfErr, IsErrAnd}
use Rattle.std.proofs.lemmas.List.{append-nil}
use Rattle.sqlval.specs.Faults.{IsNotDiskFault}
use Rattle.sqlval.specs.Refusals.{Answer, Refusal, ◌then◌, all_answers}
use Rattle.sqlval.specs.declared.fault.Fault.{Fault}
use Rattle.query_names.specs.Readings.{env_of}
use Rattle.query_terms.specs.Outcome.{AnswersBy, IsRefusedBy}
use Rattle.query_terms.specs.Rows.{row_at}
use Rattle.query_terms.specs.Terms.{Term}
use Rattle.query_terms.specs.Values.{Environment, Row, truth, value}
use Rattle.query_names.proofs.QuietValues.{condition_refused}
use Rattle.row_scan.specs.Rows.{TableRow}
use Rattle.row_scan.specs.Sources.{as_source}
use Rattle.row_change.specs.Choosing.{chosen, is_chosen, rowid_if, rowids_after, rows_left, tested, with_rowid}

-- what refuses a condition is no disk
pub no_disk : {X : Type 0} (result : Result X Fault) (t : Term) (env : Environment) (rows : List Row) (f : Fault) → env ≡ env_of rows → IsErrAnd result (λ e. e ≡ f) → IsRefusedBy (value t env then truth) f
    → IfErr result (λ fault. IsNotDiskFault fault)
no_disk (Ok x) t env rows f is same why = absurd same
no_disk (Err e) t env rows f is same why = subst IsNotDiskFault (sym same) (condition_refused t rows f (subst (λ (v : Environment). IsRefusedBy (value t v then truth) f) is why))

-- ---- row by row

drop_step : (rows : List Row) (i : ℕ) → i < length rows → drop i rows ≡ row_at rows i ∷ drop (i + 1) rows
drop_step [] i lt = absurd (omega (arith, lt))
drop_step (row ∷ rows) zero lt = refl
drop_step (row ∷ rows) (suc i) lt = (let on : suc i + 1 ≡ suc (i + 1) = omega arith in drop_step rows i (omega (arith, lt)) ∙ ap (λ n. row_at rows i ∷ drop n (row ∷ rows)) (sym on))

drop_none : (rows : List Row) (i : ℕ) → length rows ≤ i → drop i rows ≡ []
drop_none [] zero le = refl
drop_none [] (suc i) le = refl
drop_none (row ∷ rows) zero le = absurd (omega (arith, le))
drop_none (row ∷ rows) (suc i) le = drop_none rows i (omega (arith, le))

module _ (c : Term) (rows : List Row) (all : Answer (List ℤ)) (i : ℕ) (rowids : List ℤ) (so_far : rowids_after c rowids (drop i rows) ≡ all) where
  step_is : i < length rows → rowids_after c rowids (drop i rows) ≡ (rowid_if c (row_at rows i) then λ rowid. rowids_after c (with_rowid rowids rowid) (drop (i + 1) rows))
  step_is lt = ap (rowids_after c rowids) (drop_step rows i lt)

  pub one_refused : {X : Type 0} (view : X → List ℤ) (result : Result X Fault) (f : Fault) → i < length rows → IsErrAnd result (λ e. e ≡ f) → IsRefusedBy (rowid_if c (row_at rows i)) f → AnswersBy view all result
  one_refused view (Ok x) f lt same why = absurd same
  one_refused view (Err e) f lt same why = subst (λ (g : Fault). IsRefusedBy all g) (sym same) (by why)
    where
      by : IsRefusedBy (rowid_if c (row_at rows i)) f → IsRefusedBy all f
      by (inl memory) = inl memory
      by (inr is) = inr (sym so_far ∙ (step_is lt ∙ ap (λ (a : Answer (Option ℤ)). a then λ rowid. rowids_after c (with_rowid rowids rowid) (drop (i + 1) rows)) is))

  pub one_more : (rowid : Option ℤ) (next : List ℤ) → i < length rows → rowid_if c (row_at rows i) ≡ Ok rowid → next ≡ with_rowid rowids rowid → rowids_after c next (drop (i + 1) rows) ≡ all
  one_more rowid next lt is pushed =
      ap (λ (ids : List ℤ). rowids_after c ids (drop (i + 1) rows)) pushed
      ∙ (sym (step_is lt ∙ ap (λ (a : Answer (Option ℤ)). a then λ k. rowids_after c (with_rowid rowids k) (drop (i + 1) rows)) is) ∙ so_far)

  pub no_more : length rows ≤ i → all ≡ Ok rowids
  no_more le = sym so_far ∙ ap (rowids_after c rowids) (drop_none rows i le)

-- ---- as the definition chooses

abbrev rowids_in : List TableRow → List ℤ
rowids_in rows = map (λ row. row.0) rows

abbrev chosen_by : Answer (Option Bool) → Bool
chosen_by test = elim test [ Ok (Some true) ↦ true | _ ↦ false ]

chosen_is : (c : Term) (row : TableRow) (t : Answer (Option Bool)) → tested c row ≡ t → is_chosen c row ≡ chosen_by t
chosen_is c row t it = ap chosen_by it

abbrev onto : List ℤ → List TableRow → Answer (List ℤ)
onto ids them = Ok (ids ++ rowids_in them)

as_chosen : (c : Term) (ids : List ℤ) (table : List TableRow) → rowids_after c ids (map as_source table) ≡ (chosen c table then onto ids)
as_chosen c ids [] = ap (λ (them : List ℤ). Ok them) (sym (append-nil ids))
as_chosen c ids (row ∷ table) = by (λ more. as_chosen c more table) (tested c row) refl
  where
    taken : (a : Answer (List (Option Bool))) (x : Option Bool) (them : List TableRow)
        → ((a then λ tests. Ok them) then onto (ids ++ row.0 ∷ [])) ≡ (((a then λ xs. Ok (x ∷ xs)) then λ tests. Ok (row ∷ them)) then onto ids)
    taken (Ok xs) x them = ap (λ (all : List ℤ). Ok all) (append_assoc ids (row.0 ∷ []) (rowids_in them))
    taken (Err r) x them = refl

    left : (a : Answer (List (Option Bool))) (x : Option Bool) (them : List TableRow) → ((a then λ tests. Ok them) then onto ids) ≡ (((a then λ xs. Ok (x ∷ xs)) then λ tests. Ok them) then onto ids)
    left (Ok xs) x them = refl
    left (Err r) x them = refl

    by : ((more : List ℤ) → rowids_after c more (map as_source table) ≡ (chosen c table then onto more)) → (t : Answer (Option Bool)) → tested c row ≡ t
        → rowids_after c ids (map as_source (row ∷ table)) ≡ (chosen c (row ∷ table) then onto ids)
    by again (Err r) it = rw (it) refl
    by again (Ok (Some true)) it = (let so = chosen_is c row (Ok (Some true)) it in rw (it, so) (again (ids ++ row.0 ∷ []) ∙ taken (all_answers (map (tested c) table)) (Some true) (filter (is_chosen c) table)))
    by again (Ok (Some false)) it = (let so = chosen_is c row (Ok (Some false)) it in rw (it, so) (again ids ∙ left (all_answers (map (tested c) table)) (Some false) (filter (is_chosen c) table)))
    by again (Ok None) it = (let so = chosen_is c row (Ok None) it in rw (it, so) (again ids ∙ left (all_answers (map (tested c) table)) None (filter (is_chosen c) table)))

pub answers_chosen : {X : Type 0} (view : X → List ℤ) (c : Term) (rows : List Row) (table : List TableRow) (result : Result X Fault) → rows ≡ map as_source table → AnswersBy view (rowids_after c [] rows) result
    → AnswersBy view (chosen c table then λ them. Ok (map (λ row. row.0) them)) result
answers_chosen view c rows table result is answers =
    subst (λ (a : Answer (List ℤ)). AnswersBy view a result) (ap (rowids_after c []) is ∙ as_chosen c [] table) answers

-- ---- and what is left

abbrev answer_of : List TableRow → Answer (List TableRow)
answer_of rows = Ok rows

same_ids : (a b : List ℤ) → (let l : Answer (List ℤ) = Ok a in l) ≡ Ok b → a ≡ b
same_ids a b e = cc

no_ids : (a : List ℤ) (r : Refusal) → (let l : Answer (List ℤ) = Ok a in l) ≡ Err r → ⊥
no_ids a r e = absurd cc

no_refusal : (r : Refusal) (a : List ℤ) → (let l : Answer (List ℤ) = Err r in l) ≡ Ok a → ⊥
no_refusal r a e = absurd cc

same_refusal : (r s : Refusal) → (let l : Answer (List ℤ) = Err r in l) ≡ Err s → r ≡ s
same_refusal r s e = cc

module _ (c : Term) (table : List TableRow) where
  abbrev stays : TableRow → Bool
  stays row = not (is_chosen c row)

  -- those chosen are known, and so are those that are left
  pub chosen_and_left : (ids : List ℤ) → (chosen c table then λ them. Ok (map (λ row. row.0) them)) ≡ Ok ids → (ids ≡ map (λ row. row.0) (filter (is_chosen c) table)) × (rows_left c table ≡ Ok (filter stays table))
  chosen_and_left ids = by (all_answers (map (tested c) table))
    where
      by : (a : Answer (List (Option Bool))) → ((a then λ tests. Ok (filter (is_chosen c) table)) then λ them. Ok (rowids_in them)) ≡ Ok ids
          → (ids ≡ rowids_in (filter (is_chosen c) table)) × ((a then λ tests. answer_of (filter stays table)) ≡ Ok (filter stays table))
      by (Ok tests) e = (sym (same_ids (rowids_in (filter (is_chosen c) table)) ids e), refl)
      by (Err r) e = absurd (no_refusal r ids e)

  pub chosen_refused : (r : Refusal) → (chosen c table then λ them. Ok (map (λ row. row.0) them)) ≡ Err r → rows_left c table ≡ Err r
  chosen_refused r = by (all_answers (map (tested c) table))
    where
      by : (a : Answer (List (Option Bool))) → ((a then λ tests. Ok (filter (is_chosen c) table)) then λ them. Ok (rowids_in them)) ≡ Err r → (a then λ tests. answer_of (filter stays table)) ≡ Err r
      by (Ok tests) e = absurd (no_ids (rowids_in (filter (is_chosen c) table)) r e)
      by (Err s) e = ap (λ (x : Refusal). Err x) (same_refusal s r e)
