-- A query that gives nothing but aggregates of all its rows.
use Rattle.std.proofs.Common.{◌≡◌, inl, inr, refl, sym, ap, subst, ◌∙◌, Bool, true, false, ◌&&◌, ◌==◌, List, [], ◌∷◌, ◌++◌, length, map, Ok, Err, Vec, Global, arith}
use Rattle.std.specs.Prelude.{Result, if◌then◌else◌}
use Rattle.std.specs.List.{AllByRecursion, list_all}
use Rattle.std.proofs.lemmas.Bool.{false≢true}
use Rattle.std.proofs.lemmas.Bool.Decides.{nat_tests}
use Rattle.std.proofs.lemmas.List.{map-append, append-nil}
use Rattle.sqlval.specs.Faults.{IsOrMemory}
use Rattle.sqlval.specs.Flow.{Flow}
use Rattle.sqlval.specs.Refusals.{Answer, ◌then◌, all_answers}
use Rattle.sqlval.specs.declared.fault.Fault.{Fault}
use Rattle.sqlval.specs.declared.value.Value.{Value}
use Rattle.query_terms.specs.Outcome.{AnswersBy, IsRefusedBy}
use Rattle.query_terms.specs.Terms.{Term, Const, Digits, Cell, Key, Apply, Total, One, Two, Collate, In, Between, Raise}
use Rattle.query_terms.specs.Values.{Environment, Row, value}
use Rattle.query_names.specs.Readings.{Sortable, combined, env_of, filtered, group_env, sortable, values}
use Rattle.query_names.specs.declared.reading.Condition.{Condition}
use Rattle.query_names.specs.declared.reading.Reading.{Reading}
use Rattle.query_totals.specs.Totals.{AreTaken, arguments_at, is_total, tallies_over}
use Rattle.query_totals.specs.declared.tally.Tally.{Tally}
use Rattle.query_groups.specs.Groups.{Entry, is_of_group}
use Rattle.query_groups.proofs.KeyedRows.{keyed_row_is}
use Rattle.query_answer.specs.Answers.{given_rows}
use Rattle.query_answer.specs.Groups.{Keyed, of_groups}
use Rattle.query_answer.specs.Nesting.{Found, all_kept, beside_rows, given, grouped_row, kept_row, key_and_rows, shown, to_group}
use Rattle.query_answer.specs.Parts.{Kept, is_of_totals, is_row_by_row, kept_of, part_of}
use Rattle.query_answer.specs.declared.results.FoundRow.{FoundRow}
use Rattle.query_answer.proofs.Given.{Has, all_computed, given_alone, given_grouped, kept_alone, kept_grouped, one_by_one, undone, with_keys}
use Rattle.query_answer.proofs.PartRows.{kept_each, kept_totals, of_totals}

-- aggregates are keys or aggregates
of_group_too : (ts : List Term) → list_all is_total ts ≡ true → list_all is_of_group ts ≡ true
of_group_too [] all = refl
of_group_too (Total g e ∷ ts) all = of_group_too ts all
of_group_too (Const v ∷ ts) all = absurd (false≢true all)
of_group_too (Digits n ∷ ts) all = absurd (false≢true all)
of_group_too (Cell s p a c ∷ ts) all = absurd (false≢true all)
of_group_too (Key i e ∷ ts) all = absurd (false≢true all)
of_group_too (Apply f es ∷ ts) all = absurd (false≢true all)
of_group_too (One o e ∷ ts) all = absurd (false≢true all)
of_group_too (Two o a b ∷ ts) all = absurd (false≢true all)
of_group_too (Collate c e ∷ ts) all = absurd (false≢true all)
of_group_too (In n a bs ∷ ts) all = absurd (false≢true all)
of_group_too (Between n a b c ∷ ts) all = absurd (false≢true all)
of_group_too (Raise a t ∷ ts) all = absurd (false≢true all)

-- ---- what is kept of a row

pub none_of : {A : Type 0} (xs : List A) → (length xs == 0) ≡ true → xs ≡ []
none_of [] e = refl
none_of (x ∷ xs) e = absurd (grind (arith, nat_tests, e))

pub first_of : (a b : Bool) → (a && b) ≡ true → a ≡ true
first_of true b e = refl
first_of false b e = absurd (false≢true e)

pub second_of : (a b : Bool) → (a && b) ≡ true → b ≡ true
second_of true b e = e
second_of false b e = absurd (false≢true e)

count_of_keys : (q : Reading) → is_of_totals q ≡ true → (length q.keys == 0) ≡ true
count_of_keys q e = first_of (length q.keys == 0) ((length q.order == 0) && list_all is_total q.results) e

no_keys : (q : Reading) → is_of_totals q ≡ true → q.keys ≡ []
no_keys q e = none_of q.keys (count_of_keys q e)

no_order : (q : Reading) → is_of_totals q ≡ true → q.order ≡ []
no_order q e = none_of q.order (first_of (length q.order == 0) (list_all is_total q.results) (second_of (length q.keys == 0) ((length q.order == 0) && list_all is_total q.results) e))

pub are_totals : (q : Reading) → is_of_totals q ≡ true → list_all is_total q.results ≡ true
are_totals q e = second_of (length q.order == 0) (list_all is_total q.results) (second_of (length q.keys == 0) ((length q.order == 0) && list_all is_total q.results) e)

-- a row without keys
abbrev pub bare : List Row → Found
bare rows = to_group ([], rows)

module _ (q : Reading) (rows : List Row) where
  abbrev kept_if : Bool → Answer Found
  kept_if b = if b then grouped_row q rows else (sortable q (env_of rows) then λ s. Ok (given s))

  abbrev with_lists : List Term → List (Term × Bool) → Answer Found
  with_lists keys order = (values (env_of rows) keys then λ ks. arguments_at (q.results ++ map (λ o. o.0) order) rows then λ vs. let k : Answer Keyed = Ok (ks, rows) in k) then λ k. Ok (to_group k)

  all_of_group : is_of_totals q ≡ true → list_all is_of_group (q.results ++ map (λ o. o.0) q.order) ≡ true
  all_of_group e =
      ap (λ (order : List (Term × Bool)). list_all is_of_group (q.results ++ map (λ o. o.0) order)) (no_order q e)
      ∙ (ap (list_all is_of_group) (append-nil q.results) ∙ of_group_too q.results (are_totals q e))

  pub kept_totals_row : is_of_totals q ≡ true → q.is_grouped ≡ true → kept_row q rows ≡ (arguments_at q.results rows then λ vs. Ok (bare rows))
  kept_totals_row e g =
      ap kept_if g
      ∙ (ap (λ (a : Answer Keyed). a then λ k. let f : Answer Found = Ok (to_group k) in f) (keyed_row_is q rows (all_of_group e))
      ∙ ((λ i. with_lists (no_keys q e i) (no_order q e i))
      ∙ (ap (λ (ts : List Term). (arguments_at ts rows then λ vs. let k : Answer Keyed = Ok ([], rows) in k) then λ k. let f : Answer Found = Ok (to_group k) in f) (append-nil q.results)
      ∙ by (arguments_at q.results rows))))
    where
      by : (a : Answer (List Value)) → ((a then λ vs. let k : Answer Keyed = Ok ([], rows) in k) then λ k. let f : Answer Found = Ok (to_group k) in f) ≡ (a then λ vs. Ok (bare rows))
      by (Ok vs) = refl
      by (Err r) = refl

-- a row that is to be added to what is kept
module _ (q : Reading) (rows : List Row) (before : List Found) (e : is_of_totals q ≡ true) (g : q.is_grouped ≡ true) where
  abbrev group : List (List Row)
  group = map (λ f. f.1) before

  abbrev with_tallies : Answer (List Tally) → Answer Kept
  with_tallies a = a then λ ts. Ok ([], ts, [])

  abbrev tallied : Answer (List Tally)
  tallied = arguments_at q.results rows then λ vs. Ok (tallies_over (group ++ rows ∷ []) q.results)

  added : (kept_row q rows then λ f. Ok (kept_of q (before ++ f ∷ []))) ≡ with_tallies tallied
  added =
      ap (λ (a : Answer Found). a then λ f. let k : Answer Kept = Ok (kept_of q (before ++ f ∷ [])) in k) (kept_totals_row q rows e g)
      ∙ by (arguments_at q.results rows)
    where
      all : kept_of q (before ++ bare rows ∷ []) ≡ ([], tallies_over (group ++ rows ∷ []) q.results, [])
      all = kept_totals q (before ++ bare rows ∷ []) g (count_of_keys q e) ∙ ap (λ (l : List (List Row)). let k : Kept = ([], tallies_over l q.results, []) in k) (map-append (λ (f : Found). f.1) before (bare rows ∷ []))

      by : (a : Answer (List Value)) → ((a then λ vs. let f : Answer Found = Ok (bare rows) in f) then λ f. let k : Answer Kept = Ok (kept_of q (before ++ f ∷ [])) in k)
          ≡ with_tallies (a then λ vs. Ok (tallies_over (group ++ rows ∷ []) q.results))
      by (Ok vs) = (let done : Kept → Answer Kept = λ k. Ok k in ap done all)
      by (Err r) = refl

  pub row_added : {T : Type 0} (result : Result T Fault) (shown_rows : List Sortable) (entries : List Entry) (old new : List Tally) → (shown_rows, old, entries) ≡ kept_of q before
      → (old ≡ tallies_over group q.results → AnswersBy (λ u. new) tallied result) → AnswersBy (λ u. (shown_rows, new, entries)) (kept_row q rows then λ f. Ok (kept_of q (before ++ f ∷ []))) result
  row_added (Ok u) shown_rows entries old new is adds =
      let both = is ∙ kept_totals q before g (count_of_keys q e) in
      added ∙ (ap with_tallies (adds (ap (λ (k : Kept). k.1) both)) ∙ (λ i. Ok (sym (ap (λ (k : Kept). k.0) both) i, new, sym (ap (λ (k : Kept). k.2) both) i)))
  row_added (Err f) shown_rows entries old new is adds = by (adds (ap (λ (k : Kept). k.1) (is ∙ kept_totals q before g (count_of_keys q e))))
    where
      by : IsRefusedBy tallied f → IsRefusedBy (kept_row q rows then λ f. let k : Answer Kept = Ok (kept_of q (before ++ f ∷ [])) in k) f
      by (inl m) = inl m
      by (inr h) = inr (added ∙ ap with_tallies h)

-- the same where no groups are made
module _ (q : Reading) (rows : List Row) (before : List Found) (g : q.is_grouped ≡ false) where
  abbrev kept_by : Bool → Answer Found
  kept_by b = if b then grouped_row q rows else (sortable q (env_of rows) then λ s. Ok (given s))

  abbrev with_row : Answer Sortable → Answer Kept
  with_row a = a then λ s. Ok (map (λ f. f.0) before ++ s ∷ [], [], [])

  given_after : (kept_row q rows then λ f. Ok (kept_of q (before ++ f ∷ []))) ≡ with_row (sortable q (env_of rows))
  given_after = ap (λ (b : Bool). kept_by b then λ f. let k : Answer Kept = Ok (kept_of q (before ++ f ∷ [])) in k) g ∙ by (sortable q (env_of rows))
    where
      by : (a : Answer Sortable) → ((a then λ s. let f : Answer Found = Ok (given s) in f) then λ f. let k : Answer Kept = Ok (kept_of q (before ++ f ∷ [])) in k) ≡ with_row a
      by (Ok s) = (let done : List Sortable → Answer Kept = λ l. Ok (l, [], []) in ap (λ (k : Kept). let a : Answer Kept = Ok k in a) (kept_each q (before ++ given s ∷ []) g) ∙ ap done (map-append (λ (f : Found). f.0) before (given s ∷ [])))
      by (Err r) = refl

  pub row_given : (found : List FoundRow) (tallies : List Tally) (entries : List Entry) (f : FoundRow) → (map shown found, tallies, entries) ≡ kept_of q before → sortable q (env_of rows) ≡ Ok (shown f)
      → (kept_row q rows then λ f. Ok (kept_of q (before ++ f ∷ []))) ≡ Ok (map shown (found ++ f ∷ []), tallies, entries)
  row_given found tallies entries f is h =
      let both = is ∙ kept_each q before g in
      given_after ∙ (ap with_row h ∙ (λ i. Ok (sym (ap (λ (k : Kept). k.0) both) i ++ shown f ∷ [], sym (ap (λ (k : Kept). k.1) both) i, sym (ap (λ (k : Kept). k.2) both) i))
      ∙ ap (λ (l : List Sortable). let a : Answer Kept = Ok (l, tallies, entries) in a) (sym (map-append shown found (f ∷ []))))

  pub row_refused : (fault : Fault) → IsRefusedBy (sortable q (env_of rows)) fault → IsRefusedBy (kept_row q rows then λ f. Ok (kept_of q (before ++ f ∷ []))) fault
  row_refused fault (inl m) = inl m
  row_refused fault (inr h) = inr (given_after ∙ ap with_row h)

-- ---- what is given in the end

abbrev refuses_none : Reading → Found → Type 0
refuses_none q f = AreTaken q.results f.1

module _ (q : Reading) (e : is_of_totals q ≡ true) (g : q.is_grouped ≡ true) where
  row_taken : (rows : List Row) → Has (refuses_none q) (kept_row q rows)
  row_taken rows = subst (Has (refuses_none q)) (sym (kept_totals_row q rows e g)) (by (arguments_at q.results rows) refl)
    where
      by : (a : Answer (List Value)) → arguments_at q.results rows ≡ a → Has (refuses_none q) (a then λ vs. Ok (bare rows))
      by (Ok vs) h = (vs, h)
      by (Err r) h = tt

  of_rows_of : (found : List Found) → AllByRecursion (refuses_none q) found → AllByRecursion (AreTaken q.results) (map (λ f. f.1) found)
  of_rows_of [] h = tt
  of_rows_of (f ∷ fs) h = (h.0, of_rows_of fs h.1)

  -- the group that all rows are
  abbrev pub whole : List Found → Environment
  whole found = group_env [] (map key_and_rows found)

  pub group_is : (found : List Found) → (whole found).group ≡ map (λ f. f.1) found
  group_is [] = refl
  group_is (f ∷ fs) = ap (λ (l : List (List Row)). f.1 ∷ l) (each fs)
    where
      each : (fs : List Found) → map (λ x. x.1) (map key_and_rows fs) ≡ map (λ f. f.1) fs
      each [] = refl
      each (f ∷ fs) = ap (λ (l : List (List Row)). f.1 ∷ l) (each fs)

  module _ (rows : List Row) (found : List Found) (kept : all_kept q (beside_rows q.sources (rows ∷ [])) ≡ Ok found) where
    abbrev flow : Flow (List Row)
    flow = combined (beside_rows q.sources (rows ∷ [])) []

    pub all_taken : AllByRecursion (AreTaken q.results) (whole found).group
    all_taken =
        subst (AllByRecursion (AreTaken q.results)) (sym (group_is found))
        (of_rows_of found (subst (Has (AllByRecursion (refuses_none q))) kept (all_computed (refuses_none q) (kept_row q) row_taken (filtered q.filter flow))))

    abbrev one_row : Answer (List Value) → Answer (List Sortable)
    one_row a = a then λ vs. Ok ((vs, []) ∷ [])

    abbrev ordered : List (Term × Bool) → Answer (List Sortable)
    ordered order = (values (whole found) q.results then λ vs. values (whole found) (map (λ o. o.0) order) then λ ks. let s : Answer Sortable = Ok (vs, ks) in s) then λ s. Ok (s ∷ [])

    abbrev keyed : List Term → Answer (List Sortable)
    keyed keys = of_groups (record q { keys = keys }) [] (map key_and_rows found)

    pub given_totals : given_rows q (beside_rows q.sources (rows ∷ [])) ≡ one_row (values (whole found) q.results)
    given_totals =
        given_grouped q [] flow g
        ∙ (ap (λ a. a then of_groups q []) (undone to_group key_and_rows (λ x. refl) (with_keys q flow) found (sym (kept_grouped q flow g) ∙ kept))
        ∙ (ap keyed (no_keys q e)
        ∙ (by (sortable q (whole found)) ∙ (ap ordered (no_order q e) ∙ then' (values (whole found) q.results)))))
      where
        by : (a : Answer Sortable) → (a then λ s. (let l : Answer (List Sortable) = Ok [] in l) then λ ss. let l : Answer (List Sortable) = Ok (s ∷ ss) in l) ≡ (a then λ s. Ok (s ∷ []))
        by (Ok s) = refl
        by (Err r) = refl

        then' : (a : Answer (List Value)) → ((a then λ vs. let s : Answer Sortable = Ok (vs, []) in s) then λ s. let l : Answer (List Sortable) = Ok (s ∷ []) in l) ≡ one_row a
        then' (Ok vs) = refl
        then' (Err r) = refl

-- what was kept of rows, of a query that is row by row
pub kept_before : (q : Reading) (rows : List Row) (kept : Kept) → part_of q rows ≡ Ok kept → (found : List Found) × (all_kept q (beside_rows q.sources (rows ∷ [])) ≡ Ok found) × (kept_of q found ≡ kept)
kept_before q rows kept h = by (all_kept q (beside_rows q.sources (rows ∷ []))) refl h
  where
    by : (a : Answer (List Found)) → all_kept q (beside_rows q.sources (rows ∷ [])) ≡ a → (a then λ found. let k : Answer Kept = Ok (kept_of q found) in k) ≡ Ok kept → (found : List Found) × (all_kept q (beside_rows q.sources (rows ∷ [])) ≡ Ok found) × (kept_of q found ≡ kept)
    by (Ok found) is e = (found, is, cc)
    by (Err r) is e = absurd cc

module _ (q : Reading) (rows : List Row) where
  -- what is given of each
  pub given_each : (found : List FoundRow) (tallies : List Tally) (entries : List Entry) → q.is_grouped ≡ false → part_of q rows ≡ Ok (map shown found, tallies, entries) → given_rows q (beside_rows q.sources (rows ∷ [])) ≡ Ok (map shown found)
  given_each found tallies entries g h =
      let was = kept_before q rows (map shown found, tallies, entries) h in
      let flow = combined (beside_rows q.sources (rows ∷ [])) [] in
      given_alone q [] flow g
      ∙ (undone given (λ f. f.0) (λ x. refl) (one_by_one q flow) was.0 (sym (kept_alone q flow g) ∙ was.1)
      ∙ ap (λ (k : Kept). let a : Answer (List Sortable) = Ok k.0 in a) (sym (kept_each q was.0 g) ∙ was.2))

  -- the aggregates
  module _ {T : Type 0} (view : T → List Value) (result : Result T Fault) (seen : List Sortable) (tallies : List Tally) (entries : List Entry) (e : is_row_by_row q ≡ true) (g : q.is_grouped ≡ true) (n : (length q.keys == 0) ≡ true)
      (h : part_of q rows ≡ Ok (seen, tallies, entries))
      (gives : (terms : List Term) (env : Environment) → list_all is_total terms ≡ true → AllByRecursion (AreTaken terms) env.group → tallies ≡ tallies_over env.group terms
      → AnswersBy view (all_answers (map (λ t. value t env) terms)) result) where
    abbrev totals : is_of_totals q ≡ true
    totals = of_totals q e g n

    abbrev was : (found : List Found) × (all_kept q (beside_rows q.sources (rows ∷ [])) ≡ Ok found) × (kept_of q found ≡ (seen, tallies, entries))
    was = kept_before q rows (seen, tallies, entries) h

    values_given : AnswersBy view (values (whole q totals g was.0) q.results) result
    values_given =
        gives q.results (whole q totals g was.0) (are_totals q totals) (all_taken q totals g rows was.0 was.1)
        (ap (λ (k : Kept). k.1) (sym was.2 ∙ kept_totals q was.0 g n) ∙ ap (λ (l : List (List Row)). tallies_over l q.results) (sym (group_is q totals g was.0)))

    pub totals_given : (x : T) → result ≡ Ok x → given_rows q (beside_rows q.sources (rows ∷ [])) ≡ Ok ((view x, []) ∷ [])
    totals_given x is =
        given_totals q totals g rows was.0 was.1
        ∙ ap (λ (a : Answer (List Value)). a then λ vs. let l : Answer (List Sortable) = Ok ((vs, []) ∷ []) in l) (subst (AnswersBy view (values (whole q totals g was.0) q.results)) is values_given)

    pub totals_refused : (f : Fault) → result ≡ Err f → IsRefusedBy (given_rows q (beside_rows q.sources (rows ∷ []))) f
    totals_refused f is = by (subst (AnswersBy view (values (whole q totals g was.0) q.results)) is values_given)
      where
        by : IsRefusedBy (values (whole q totals g was.0) q.results) f → IsRefusedBy (given_rows q (beside_rows q.sources (rows ∷ []))) f
        by (inl m) = inl m
        by (inr e) = inr (given_totals q totals g rows was.0 was.1 ∙ ap (λ (a : Answer (List Value)). a then λ vs. let l : Answer (List Sortable) = Ok ((vs, []) ∷ []) in l) e)

-- their only row
pub only_given : (q : Reading) (sources : List (Condition × List Row)) (results : List Value) (result : Result (Vec FoundRow Global) Fault) → given_rows q sources ≡ Ok ((results, []) ∷ [])
    → IsOrMemory (λ rows. map shown rows.items ≡ (results, []) ∷ []) result → AnswersBy (λ given. map shown given.items) (given_rows q sources) result
only_given q sources results (Ok rows) is row = is ∙ (let done : List Sortable → Answer (List Sortable) = λ l. Ok l in ap done (sym row))
only_given q sources results (Err f) is row = inl row
