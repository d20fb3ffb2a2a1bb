-- A query that gives nothing but keys and aggregates of each group.
use Rattle.std.proofs.Common.{◌≡◌, inl, inr, refl, sym, ap, subst, ◌∙◌, Bool, true, false, not, ◌&&◌, ◌==◌, List, [], ◌∷◌, ◌++◌, length, map, Ok, Err}
use Rattle.std.specs.Prelude.{Result, if◌then◌else◌}
use Rattle.std.specs.List.{AllByRecursion, list_all}
use Rattle.std.proofs.lemmas.Bool.{false≢true}
use Rattle.std.proofs.lemmas.List.{map-append, append-nil}
use Rattle.sqlval.specs.Flow.{Flow}
use Rattle.sqlval.specs.Refusals.{Answer, ◌then◌, all_answers}
use Rattle.sqlval.specs.declared.fault.Fault.{Fault}
use Rattle.sqlval.specs.declared.value.Value.{Value}
use Rattle.query_terms.specs.Outcome.{AnswersBy, IsRefusedBy}
use Rattle.query_terms.specs.Terms.{Term}
use Rattle.query_terms.specs.Values.{Row}
use Rattle.query_names.specs.Readings.{Sortable, combined, env_of, filtered, group_env, grouped, sortable, values}
use Rattle.query_names.specs.declared.reading.Reading.{Reading}
use Rattle.query_totals.specs.Totals.{AreTaken, arguments_at}
use Rattle.query_totals.specs.declared.tally.Tally.{Tally}
use Rattle.query_groups.specs.Groups.{Entry, GroupsAreTaken, bytes_of_group, entries_kept, is_of_group, kept_of_group, rows_of_group}
use Rattle.query_groups.proofs.KeyedRows.{keyed_row_is}
use Rattle.query_answer.specs.Answers.{given_rows}
use Rattle.query_answer.specs.Groups.{Keyed, of_groups, row_of_group}
use Rattle.query_answer.specs.Nesting.{Found, all_kept, beside_rows, given, grouped_row, kept_row, key_and_rows, to_group}
use Rattle.query_answer.specs.Parts.{Kept, is_of_groups, is_row_by_row, kept_of, part_of}
use Rattle.query_answer.proofs.Given.{Has, all_computed, each_to, given_grouped, kept_grouped, undone, with_keys}
use Rattle.query_answer.proofs.PartRows.{kept_groups, of_some_groups}
use Rattle.query_answer.proofs.PartTotals.{first_of, kept_before, none_of, second_of}

-- ---- tests

module _ (q : Reading) (e : is_of_groups q ≡ true) where
  abbrev others : Bool
  others = (length q.order == 0) && list_all is_of_group q.results

  no_order : q.order ≡ []
  no_order = none_of q.order (first_of (length q.order == 0) (list_all is_of_group q.results) (second_of (not (length q.keys == 0)) others e))

  pub are_of_groups : list_all is_of_group q.results ≡ true
  are_of_groups = second_of (length q.order == 0) (list_all is_of_group q.results) (second_of (not (length q.keys == 0)) others e)

  pub some_keys : (ts : List Term) → ts ≡ q.keys → length ts ≡ 0 → ⊥
  some_keys ts same none = false≢true (ap (λ m. not (m == 0)) (sym none ∙ ap length same) ∙ first_of (not (length q.keys == 0)) others e)

  all_of_groups : list_all is_of_group (q.results ++ map (λ o. o.0) q.order) ≡ true
  all_of_groups =
      ap (λ (order : List (Term × Bool)). list_all is_of_group (q.results ++ map (λ o. o.0) order)) no_order
      ∙ (ap (list_all is_of_group) (append-nil q.results) ∙ are_of_groups)

  -- ---- one row

  module _ (rows : List Row) where
    abbrev with_order : List (Term × Bool) → Answer Found
    with_order order = (values (env_of rows) q.keys then λ ks. arguments_at (q.results ++ map (λ o. o.0) order) rows then λ vs. let k : Answer Keyed = Ok (ks, rows) in k) then λ k. Ok (to_group k)

    abbrev with_terms : List Term → Answer Found
    with_terms ts = (values (env_of rows) q.keys then λ ks. arguments_at ts rows then λ vs. let k : Answer Keyed = Ok (ks, rows) in k) then λ k. Ok (to_group k)

    abbrev arguments_after : Answer (List Value) → Answer Found
    arguments_after a = a then λ ks. arguments_at q.results rows then λ vs. Ok (to_group (ks, rows))

    -- its keys, and then its values in each aggregate
    pub grouped_is : grouped_row q rows ≡ arguments_after (values (env_of rows) q.keys)
    grouped_is =
        ap (λ (a : Answer Keyed). a then λ k. let f : Answer Found = Ok (to_group k) in f) (keyed_row_is q rows all_of_groups)
        ∙ (ap with_order no_order ∙ (ap with_terms (append-nil q.results) ∙ by (values (env_of rows) q.keys)))
      where
        moved : (ks : List Value) (a : Answer (List Value))
            → ((a then λ vs. let k : Answer Keyed = Ok (ks, rows) in k) then λ k. let f : Answer Found = Ok (to_group k) in f) ≡ (a then λ vs. let f : Answer Found = Ok (to_group (ks, rows)) in f)
        moved ks (Ok vs) = refl
        moved ks (Err r) = refl

        by : (a : Answer (List Value)) → ((a then λ ks. arguments_at q.results rows then λ vs. let k : Answer Keyed = Ok (ks, rows) in k) then λ k. let f : Answer Found = Ok (to_group k) in f) ≡ arguments_after a
        by (Ok ks) = moved ks (arguments_at q.results rows)
        by (Err r) = refl

    module _ (before : List Found) where
      abbrev kept_with : Found → Answer (List Entry)
      kept_with f = Ok (entries_kept q.keys q.results (map key_and_rows (before ++ f ∷ [])))

      abbrev tallied_after : List Term → List Term → Answer (List Value) → Answer (List Entry)
      tallied_after kts ts a = a then λ ks. arguments_at ts rows then λ vs. Ok (entries_kept kts ts (map key_and_rows before ++ (ks, rows) ∷ []))

      pub group_taken : {T : Type 0} (result : Result T Fault) (kts ts : List Term) (new : List Entry) → kts ≡ q.keys → ts ≡ q.results → AnswersBy (λ u. new) (tallied_after kts ts (values (env_of rows) kts)) result
          → AnswersBy (λ u. new) (grouped_row q rows then kept_with) result
      group_taken {T} result kts ts new kts_are ts_are answers =
          subst (λ (a : Answer (List Entry)). AnswersBy (λ u. new) a result)
          ((λ i. tallied_after (kts_are i) (ts_are i) (values (env_of rows) (kts_are i))) ∙ (by (values (env_of rows) q.keys) ∙ ap (λ (a : Answer Found). a then kept_with) (sym grouped_is))) answers
        where
          with_values : (ks : List Value) (a : Answer (List Value)) → (a then λ vs. let l : Answer (List Entry) = Ok (entries_kept q.keys q.results (map key_and_rows before ++ (ks, rows) ∷ [])) in l)
              ≡ ((a then λ vs. let f : Answer Found = Ok (to_group (ks, rows)) in f) then kept_with)
          with_values ks (Ok vs) = (let done : List Keyed → Answer (List Entry) = λ l. Ok (entries_kept q.keys q.results l) in ap done (sym (map-append key_and_rows before (to_group (ks, rows) ∷ []))))
          with_values ks (Err r) = refl

          by : (a : Answer (List Value)) → tallied_after q.keys q.results a ≡ (arguments_after a then kept_with)
          by (Ok ks) = with_values ks (arguments_at q.results rows)
          by (Err r) = refl

-- ---- what is kept of one row more

module _ (q : Reading) (rows : List Row) (before : List Found) (g : q.is_grouped ≡ true) (n : (length q.keys == 0) ≡ false) where
  abbrev with_entries : Answer (List Entry) → Answer Kept
  with_entries a = a then λ es. Ok ([], [], es)

  abbrev entered : Answer (List Entry)
  entered = grouped_row q rows then λ f. Ok (entries_kept q.keys q.results (map key_and_rows (before ++ f ∷ [])))

  abbrev kept_by : Bool → Answer Found
  kept_by b = if b then grouped_row q rows else (sortable q (env_of rows) then λ s. Ok (given s))

  put : (kept_row q rows then λ f. Ok (kept_of q (before ++ f ∷ []))) ≡ with_entries entered
  put = ap (λ (b : Bool). kept_by b then λ f. let k : Answer Kept = Ok (kept_of q (before ++ f ∷ [])) in k) g ∙ by (grouped_row q rows)
    where
      by : (a : Answer Found) → (a then λ f. let k : Answer Kept = Ok (kept_of q (before ++ f ∷ [])) in k) ≡ with_entries (a then λ f. Ok (entries_kept q.keys q.results (map key_and_rows (before ++ f ∷ []))))
      by (Ok f) = (let done : Kept → Answer Kept = λ k. Ok k in ap done (kept_groups q (before ++ f ∷ []) g n))
      by (Err r) = refl

  pub row_put : {T : Type 0} (result : Result T Fault) (shown_rows : List Sortable) (tallies : List Tally) (old new : List Entry) → (shown_rows, tallies, old) ≡ kept_of q before
      → (old ≡ entries_kept q.keys q.results (map key_and_rows before) → AnswersBy (λ u. new) entered result) → AnswersBy (λ u. (shown_rows, tallies, new)) (kept_row q rows then λ f. Ok (kept_of q (before ++ f ∷ []))) result
  row_put (Ok u) shown_rows tallies old new is adds =
      let both = is ∙ kept_groups q before g n in
      put ∙ (ap with_entries (adds (ap (λ (k : Kept). k.2) both)) ∙ (λ i. Ok (sym (ap (λ (k : Kept). k.0) both) i, sym (ap (λ (k : Kept). k.1) both) i, new)))
  row_put (Err f) shown_rows tallies old new is adds = by (adds (ap (λ (k : Kept). k.2) (is ∙ kept_groups q before g n)))
    where
      by : IsRefusedBy entered f → IsRefusedBy (kept_row q rows then λ f. let k : Answer Kept = Ok (kept_of q (before ++ f ∷ [])) in k) f
      by (inl m) = inl m
      by (inr h) = inr (put ∙ ap with_entries h)

-- ---- what is given in the end

abbrev refuses_none : Reading → Found → Type 0
refuses_none q f = AreTaken q.results f.1

module _ (q : Reading) (e : is_of_groups q ≡ true) (g : q.is_grouped ≡ true) where
  abbrev kept_if : List Row → Bool → Answer Found
  kept_if rows b = if b then grouped_row q rows else (sortable q (env_of rows) then λ s. Ok (given s))

  row_taken : (rows : List Row) → Has (refuses_none q) (kept_row q rows)
  row_taken rows = subst (Has (refuses_none q)) (sym (ap (kept_if rows) g ∙ grouped_is q e rows)) (by (values (env_of rows) q.keys))
    where
      then' : (ks : List Value) (a : Answer (List Value)) → arguments_at q.results rows ≡ a → Has (refuses_none q) (a then λ vs. let f : Answer Found = Ok (to_group (ks, rows)) in f)
      then' ks (Ok vs) h = (vs, h)
      then' ks (Err r) h = tt

      by : (a : Answer (List Value)) → Has (refuses_none q) (a then λ ks. arguments_at q.results rows then λ vs. let f : Answer Found = Ok (to_group (ks, rows)) in f)
      by (Ok ks) = then' ks (arguments_at q.results rows) refl
      by (Err r) = tt

  of_each : (found : List Found) → AllByRecursion (refuses_none q) found → AllByRecursion (AreTaken q.results) (rows_of_group (map key_and_rows found))
  of_each [] h = tt
  of_each (f ∷ fs) h = (h.0, of_each fs h.1)

  module _ (rows : List Row) (found : List Found) (kept : all_kept q (beside_rows q.sources (rows ∷ [])) ≡ Ok found) where
    abbrev flow : Flow (List Row)
    flow = combined (beside_rows q.sources (rows ∷ [])) []

    all_taken : AllByRecursion (AreTaken q.results) (rows_of_group (map key_and_rows found))
    all_taken = of_each found (subst (Has (AllByRecursion (refuses_none q))) kept (all_computed (refuses_none q) (kept_row q) row_taken (filtered q.filter flow)))

    abbrev each_with : List (Term × Bool) → Answer (List Sortable)
    each_with order =
        all_answers (map (λ group. values (group_env [] group) q.results then λ vs. values (group_env [] group) (map (λ o. o.0) order) then λ ks. let s : Answer Sortable = Ok (vs, ks) in s) (grouped q.keys (map key_and_rows found)))

    given_is : given_rows q (beside_rows q.sources (rows ∷ [])) ≡ all_answers (map (row_of_group q.results) (grouped q.keys (map key_and_rows found)))
    given_is =
        given_grouped q [] flow g
        ∙ (ap (λ a. a then of_groups q []) (undone to_group key_and_rows (λ x. refl) (with_keys q flow) found (sym (kept_grouped q flow g) ∙ kept))
        ∙ ap each_with (no_order q e))

-- what the groups give of which this was kept
module _ (q : Reading) (rows : List Row) (seen : List Sortable) (tallies : List Tally) (entries : List Entry) (e : is_row_by_row q ≡ true) (g : q.is_grouped ≡ true) (n : (length q.keys == 0) ≡ false)
    (h : part_of q rows ≡ Ok (seen, tallies, entries)) where
  abbrev is : is_of_groups q ≡ true
  is = of_some_groups q e g n

  abbrev was : (found : List Found) × (all_kept q (beside_rows q.sources (rows ∷ [])) ≡ Ok found) × (kept_of q found ≡ (seen, tallies, entries))
  was = kept_before q rows (seen, tallies, entries) h

  abbrev in_groups : List (List Keyed)
  in_groups = grouped q.keys (map key_and_rows was.0)

  pub groups_told : {T : Type 0} (view : T → List Sortable) (result : Result T Fault) (ts : List Term) → ts ≡ q.results → GroupsAreTaken
      → ((found : List (List Keyed)) → list_all is_of_group ts ≡ true → AllByRecursion (λ group. AllByRecursion (AreTaken ts) (rows_of_group group)) found → map (λ e. e.1) entries ≡ map (kept_of_group ts) found
      → AnswersBy view (all_answers (map (row_of_group ts) found)) result)
      → AnswersBy view (given_rows q (beside_rows q.sources (rows ∷ []))) result
  groups_told view result ts same taken gives =
      subst (λ (a : Answer (List Sortable)). AnswersBy view a result) (sym (given_is q is g rows was.0 was.1))
      (subst (λ (l : List Term). AnswersBy view (all_answers (map (row_of_group l) in_groups)) result) same
      (gives in_groups (ap (list_all is_of_group) same ∙ are_of_groups q is)
      (subst (λ (l : List Term). AllByRecursion (λ group. AllByRecursion (AreTaken l) (rows_of_group group)) in_groups) (sym same) (taken q.keys q.results (map key_and_rows was.0) (all_taken q is g rows was.0 was.1)))
      (ap (λ (k : Kept). map (λ e. e.1) k.2) (sym was.2 ∙ kept_groups q was.0 g n)
      ∙ (each_to (λ (e : Entry). e.1) (λ group. (bytes_of_group q.keys group, kept_of_group q.results group)) (kept_of_group q.results) (λ group. refl) in_groups
      ∙ ap (λ (l : List Term). map (kept_of_group l) in_groups) (sym same)))))
