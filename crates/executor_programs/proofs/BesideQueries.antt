-- A query whose sources come after those of NEW and OLD, and the rows that an INSERT gives.
use Rattle.std.proofs.Common.{◌≡◌, ◌∙◌, inl, inr, refl, sym, ap, subst, ℕ, suc, ◌+◌, ◌==◌, true, List, [], ◌∷◌, ◌++◌, drop, length, map, take, Result, Ok, Err, arith}
use Rattle.std.specs.Prelude.{IfOk, IsErrAnd}
use Rattle.std.specs.List.{AllByRecursion, list_all}
use Rattle.std.proofs.lemmas.Bool.Decides.{nat_tests}
use Rattle.sqlval.specs.Refusals.{Answer, ◌then◌}
use Rattle.sqlval.specs.declared.fault.Fault.{Fault}
use Rattle.sqlval.specs.declared.value.Value.{Value}
use Rattle.catalog.specs.Database.{Database}
use Rattle.query_names.specs.Readings.{rows_over}
use Rattle.query_names.specs.Views.{all_rows, answer_of}
use Rattle.query_names.specs.declared.reading.Condition.TheVariants.{Always}
use Rattle.query_names.specs.declared.reading.Reading.{Reading}
use Rattle.query_terms.specs.Outcome.{AnswersBy}
use Rattle.query_terms.specs.Terms.{Term}
use Rattle.query_terms.specs.Values.{Row}
use Rattle.query_answer.specs.Answers.{HaveWidth, LoadsBeside, own}
use Rattle.query_answer.specs.Nesting.{Named, beside_rows}
use Rattle.row_change.specs.Changes.{Outer}
use Rattle.row_scan.specs.Trees.{AnswersOrFails}
use Rattle.executor.specs.Reading.{IsRefusalOf}
use Rattle.executor_programs.specs.Outer.{Shows, only}
use Rattle.trigger.specs.Effects as meant
use Rattle.trigger_names.specs.Resolved.{bound_given, gives_width}
use Rattle.trigger_names.specs.declared.giving.BoundRows.{BoundRows}
use Rattle.trigger_names.specs.declared.giving.BoundRows.TheVariants as rows
use Rattle.executor_programs.specs.Querying.{AreKnownSources, AreLoaded, IsAfter, IsBeside, KnowsGiven, rows_of_each}
use Rattle.executor_programs.specs.declared.outer.OuterRows.{OuterRows}

-- ---- its sources

abbrev AreAlways : List Named → Type 0
AreAlways sources = AllByRecursion (λ s. s.1 ≡ Always) sources

drop_front : {A : Type 0} (first after : List A) → drop (length first) (first ++ after) ≡ after
drop_front [] after = refl
drop_front (x ∷ first) after = drop_front first after

take_front : {A : Type 0} (first after : List A) → take (length first) (first ++ after) ≡ first
take_front [] after = refl
take_front {A} (x ∷ first) after = ap (λ (xs : List A). x ∷ xs) (take_front first after)

both_long : {A : Type 0} (first after : List A) → length (first ++ after) ≡ length first + length after
both_long [] after = omega arith
both_long (x ∷ first) after = (let rest = both_long first after in omega (arith, rest))

pub beside_is : (count : ℕ) (q : Reading) (all : List Named) → IsAfter count q.sources all → IsBeside count q (record q { sources = all })
beside_is count q all after = record {
  own_is = ap (λ (ss : List Named). record q { sources = ss }) after.rest;
  many = after.many;
  always = after.always;
}

-- ---- its answer

pub as_answered : {X A : Type 0} (view : X → A) (a : Answer A) (result : Result X Fault) → AnswersBy view a result → AnswersOrFails view a result
as_answered view a (Ok x) is = is
as_answered view a (Err f) (inl memory) = inl (inl memory)
as_answered view a (Err f) (inr refused) = inr refused

all_many : (db : Database) (sources : List Named) (found : List (List Row)) → rows_of_each db sources ≡ Ok found → length found ≡ length sources
all_many db sources found is = got (rows_of_each db sources) found is (as_many sources)
  where
    then_has : {A B : Type 0} (P : A → Type 0) (Q : B → Type 0) (a : Answer A) (f : A → Answer B) → IfOk a P → ((x : A) → P x → IfOk (f x) Q) → IfOk (a then f) Q
    then_has P Q (Ok x) f p go = go x p
    then_has P Q (Err r) f p go = tt

    anything : {A : Type 0} (a : Answer A) → IfOk a (λ x. Unit {0})
    anything (Ok x) = tt
    anything (Err r) = tt

    as_many : (sources : List Named) → IfOk (rows_of_each db sources) (λ ls. length ls ≡ length sources)
    as_many [] = refl
    as_many (s ∷ ss) =
        then_has (λ x. Unit {0}) (λ ls. length ls ≡ suc (length ss)) (all_rows db s.0) (λ x. rows_of_each db ss then λ xs. Ok (x ∷ xs)) (anything (all_rows db s.0)) (λ x u.
        then_has (λ ls. length ls ≡ length ss) (λ ls. length ls ≡ suc (length ss)) (rows_of_each db ss) (λ xs. Ok (x ∷ xs)) (as_many ss) (λ xs e. ap suc e))

    got : (a : Answer (List (List Row))) (found : List (List Row)) → a ≡ Ok found → IfOk a (λ ls. length ls ≡ length sources) → length found ≡ length sources
    got a found e h = subst (λ (a : Answer (List (List Row))). IfOk a (λ ls. length ls ≡ length sources)) e h

only_long : (rows : List Row) → length (map only rows) ≡ length rows
only_long [] = refl
only_long (r ∷ rows) = ap suc (only_long rows)

module _ (law : LoadsBeside) (db : Database) (seen : Outer) (q : Reading) where
  answer_is : (found : List (List Row)) → rows_of_each db q.sources ≡ Ok found → answer_of db seen.rows q ≡ rows_over q seen.rows (beside_rows q.sources found)
  answer_is found loaded =
      ap (λ a. a then rows_over q seen.rows) (law (all_rows db) q.sources ∙ ap (λ (a : Answer (List (List Row))). a then λ lists. Ok (beside_rows q.sources lists)) loaded)

  -- a source isn't loaded
  pub unloaded : {X : Type 0} (view : X → List (List Value)) (result : Result X Fault) (f : Fault) → IsErrAnd result (λ e. e ≡ f) → IsRefusalOf (rows_of_each db q.sources) f → AnswersOrFails view (answer_of db seen.rows q) result
  unloaded view (Ok x) f same why = absurd same
  unloaded view (Err e) f same why = subst (λ (g : Fault). AnswersOrFails view (answer_of db seen.rows q) (Err g)) (sym same) (by why)
    where
      by : IsRefusalOf (rows_of_each db q.sources) f → AnswersOrFails view (answer_of db seen.rows q) (Err f)
      by (inl outside) = inl outside
      by (inr refused) = inr
          (ap (λ a. a then rows_over q seen.rows) (law (all_rows db) q.sources ∙ ap (λ (a : Answer (List (List Row))). a then λ lists. Ok (beside_rows q.sources lists)) refused))

  pub answered : {X : Type 0} (view : X → List (List Value)) (o : OuterRows) (result : Result X Fault) (old new lists : List (List Row)) (beside : Reading) (n : ℕ) → Shows o seen → old ≡ o.rows.now → AreLoaded db q.sources old new
      → IsBeside (length o.scope.now) q beside → lists ≡ new → n ≡ length o.rows.now
      → ((rows : List Row) → length rows ≡ n → take n lists ≡ map only rows → AreAlways (take n beside.sources) → length lists ≡ length beside.sources
      → AnswersBy view (rows_over (own n beside) rows (beside_rows (drop n beside.sources) (drop n lists))) result)
      → AnswersOrFails view (answer_of db seen.rows q) result
  answered view o result old new lists beside n shows were loaded is same counted gives =
      as_answered view (answer_of db seen.rows q) result
      (subst (λ a. AnswersBy view a result) (over ∙ sym (answer_is loaded.lists loaded.are))
      (gives seen.rows (sym number) taken (subst (λ m. AreAlways (take m beside.sources)) scoped is.always) long))
    where
      number : n ≡ length seen.rows
      number = counted ∙ (ap length shows.rows ∙ only_long seen.rows)

      scoped : length o.scope.now ≡ n
      scoped = ap length shows.scope ∙ (shows.as_many ∙ sym number)

      lists_are : lists ≡ map only seen.rows ++ loaded.lists
      lists_are = same ∙ (loaded.after ∙ ap (λ (ls : List (List Row)). ls ++ loaded.lists) (were ∙ shows.rows))

      front : n ≡ length (map only seen.rows)
      front = number ∙ sym (only_long seen.rows)

      taken : take n lists ≡ map only seen.rows
      taken = (λ i. take (front i) (lists_are i)) ∙ take_front (map only seen.rows) loaded.lists

      dropped : drop n lists ≡ loaded.lists
      dropped = (λ i. drop (front i) (lists_are i)) ∙ drop_front (map only seen.rows) loaded.lists

      long : length lists ≡ length beside.sources
      long =
          (let a = ap length lists_are ∙ both_long (map only seen.rows) loaded.lists in
          let b = all_many db q.sources loaded.lists loaded.are in
          let m = is.many in
          omega (arith, a, b, m, front, scoped))

      own_is : own n beside ≡ q
      own_is = subst (λ m. own m beside ≡ q) scoped is.own_is

      over : rows_over (own n beside) seen.rows (beside_rows (drop n beside.sources) (drop n lists)) ≡ rows_over q seen.rows (beside_rows q.sources loaded.lists)
      over = λ i. rows_over (own_is i) seen.rows (beside_rows ((own_is i).sources) (dropped i))

-- each row has a value for each result
pub as_wide : {X : Type 0} (view : X → List (List Value)) (q beside : Reading) (count : ℕ) (result : Result X Fault) → IsBeside count q beside → IfOk result (λ x. HaveWidth (length beside.results) (view x))
    → IfOk result (λ x. HaveWidth (length q.results) (view x))
as_wide view q beside count (Err f) is wide = tt
as_wide view q beside count (Ok x) is wide = subst (λ (r : Reading). HaveWidth (length r.results) (view x)) is.own_is wide

same_count : (n m : ℕ) → (m == n) ≡ true → m ≡ n
same_count n m e = grind (arith, nat_tests)

pub as_wide_as : {X : Type 0} (view : X → List (List Value)) (n count : ℕ) (result : Result X Fault) → (n == count) ≡ true → IfOk result (λ x. HaveWidth n (view x)) → IfOk result (λ x. HaveWidth count (view x))
as_wide_as view n count (Err f) same wide = tt
as_wide_as view n count (Ok x) same wide = subst (λ m. HaveWidth m (view x)) (same_count count n same) wide

-- ---- the rows that an INSERT gives

pub of_query : {X : Type 0} (view : X → List (List Value)) (db : Database) (seen : Outer) (given : BoundRows) (reading : Reading) (result : Result X Fault) → given ≡ rows.Query reading → KnowsGiven db given
    → (AreKnownSources db reading.sources → AnswersOrFails view (answer_of db seen.rows reading) result) → AnswersOrFails view (meant.given_rows db seen (bound_given given)) result
of_query view db seen given reading result is known answers =
    subst (λ (g : BoundRows). AnswersOrFails view (meant.given_rows db seen (bound_given g)) result) (sym is) (answers (subst (KnowsGiven db) is known))

pub wide_rows : {X : Type 0} (view : X → List (List Value)) (count : ℕ) (given : BoundRows) (terms seen : List (List Term)) (result : Result X Fault) → given ≡ rows.Rows terms → seen ≡ terms → gives_width count given ≡ true
    → (list_all (λ row. length row == count) seen ≡ true → IfOk result (λ x. HaveWidth count (view x))) → IfOk result (λ x. HaveWidth count (view x))
wide_rows view count given terms seen result is same wide gives =
    gives (ap (λ (ts : List (List Term)). list_all (λ row. length row == count) ts) same ∙ (ap (gives_width count) (sym is) ∙ wide))
