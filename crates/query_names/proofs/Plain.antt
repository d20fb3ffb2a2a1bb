-- A query that nothing refuses is a comprehension.
use Rattle.std.proofs.Common.{◌≡◌, refl, sym, ap, ◌∙◌, subst, List, [], ◌∷◌, ◌++◌, Bool, true, false, cond, Option, Some, None, Ok, Err, filter, map}
use Rattle.std.specs.List.{AllByRecursion}
use Rattle.std.specs.declared.cmp.Ordering.TheVariants.{Equal}
use Rattle.sqlval.specs.Flow.{Flow, Finished, Next, flow_of, followed_by, for_each, passed, kept, computed, row_of, or_one, collected}
use Rattle.sqlval.specs.Lists.{sorted, placed}
use Rattle.sqlval.specs.Refusals.{Answer, ◌then◌}
use Rattle.sqlval.specs.declared.value.Value.{Value}
use Rattle.sqlval.specs.declared.value.Value.TheVariants.{Null}
use Rattle.query_names.specs.Readings.{crossed, joined, combined, filtered, env_of, holds, values, rows_over}
use Rattle.query_names.specs.declared.reading.Reading.{Reading}
use Rattle.query_names.specs.declared.reading.Condition.{Condition}
use Rattle.query_names.specs.declared.reading.Condition.TheVariants.{Always, Where, OrNulls}
use Rattle.query_names.specs.Comprehension.{is_true, given_row, or_null_row, rows_beside, nested, passes, IsTold, IsToldJoin, IsToldFilter, IsPlain, IsComprehension}
use Rattle.query_terms.specs.Terms.{Term}
use Rattle.query_terms.specs.Values.{Row, Environment}
use Rattle.query_names.proofs.PlainFlows.{collected_plain, for_each_plain}

told_passed : {A : Type 0} (x : A) (xs : List A) (a : Answer (Option Bool)) → ((b : Option Bool) × (a ≡ Ok b))
    → followed_by (passed x a) (flow_of xs) ≡ flow_of (cond (is_true a) (x ∷ xs) xs)
told_passed x xs (Ok (Some true)) h = refl
told_passed x xs (Ok (Some false)) h = refl
told_passed x xs (Ok None) h = refl
told_passed x xs (Err r) (b, e) = absurd (subst is_err e tt)
  where
    is_err : Answer (Option Bool) → Type 0
    is_err (Ok b) = ⊥
    is_err (Err r) = Unit {0}

told_kept : {A : Type 0} (p : A → Answer (Option Bool)) → ((x : A) → (b : Option Bool) × (p x ≡ Ok b)) → (xs : List A) → kept p (flow_of xs) ≡ flow_of (filter (λ x. is_true (p x)) xs)
told_kept p told [] = refl
told_kept p told (x ∷ xs) = ap (followed_by (passed x (p x))) (told_kept p told xs) ∙ told_passed x (filter (λ y. is_true (p y)) xs) (p x) (told x)

crossed_plain : (rows source : List Row) → crossed rows source ≡ flow_of (map (λ r. rows ++ r ∷ []) source)
crossed_plain rows [] = refl
crossed_plain rows (r ∷ rs) = ap (Next (rows ++ r ∷ [])) (crossed_plain rows rs)

or_one_plain : (rows : List Row) (xs : List (List Row)) → or_one (rows ++ record { rowid = Null; values = [] } ∷ []) (flow_of xs) ≡ flow_of (or_null_row rows xs)
or_one_plain rows [] = refl
or_one_plain rows (x ∷ xs) = refl

crossed_kept : (t : Term) (rows source : List Row) → IsTold t → kept (holds t) (crossed rows source) ≡ flow_of (filter (λ both. is_true (holds t both)) (map (λ r. rows ++ r ∷ []) source))
crossed_kept t rows source told = ap (kept (holds t)) (crossed_plain rows source) ∙ told_kept (holds t) told (map (λ r. rows ++ r ∷ []) source)

joined_plain : (c : Condition) (rows source : List Row) → IsToldJoin (c, source) → joined c rows source ≡ flow_of (rows_beside c rows source)
joined_plain Always rows source told = crossed_plain rows source
joined_plain (Where t) rows source told = crossed_kept t rows source told
joined_plain (OrNulls t) rows source told =
    ap (or_one (rows ++ record { rowid = Null; values = [] } ∷ [])) (crossed_kept t rows source told)
    ∙ or_one_plain rows (filter (λ both. is_true (holds t both)) (map (λ r. rows ++ r ∷ []) source))

combined_plain : (ss : List (Condition × List Row)) (rows : List Row) → AllByRecursion IsToldJoin ss → combined ss rows ≡ flow_of (nested ss rows)
combined_plain [] rows told = refl
combined_plain (s ∷ ss) rows (first, more) =
    ap (for_each (combined ss)) (joined_plain s.0 rows s.1 first)
    ∙ for_each_plain (combined ss) (nested ss) (λ other. combined_plain ss other more) (rows_beside s.0 rows s.1)

all_kept : {A : Type 0} (xs : List A) → filter (λ x. true) xs ≡ xs
all_kept [] = refl
all_kept (x ∷ xs) = ap (λ ys. x ∷ ys) (all_kept xs)

filtered_plain : (f : Option Term) → IsToldFilter f → (xs : List (List Row)) → filtered f (flow_of xs) ≡ flow_of (filter (passes f) xs)
filtered_plain None told xs = sym (ap flow_of (all_kept xs))
filtered_plain (Some t) told xs = told_kept (holds t) told xs

-- ---- results

sorted_as_it_is : {A : Type 0} (xs : List A) → sorted (λ r s. Equal) xs ≡ xs
sorted_as_it_is [] = refl
sorted_as_it_is (x ∷ xs) = ap (placed (λ r s. Equal) x) (sorted_as_it_is xs) ∙ in_front x xs
  where
    in_front : {A : Type 0} (x : A) (xs : List A) → placed (λ r s. Equal) x xs ≡ x ∷ xs
    in_front x [] = refl
    in_front x (y ∷ ys) = refl

abbrev over : List Term → Environment → Answer (List Value × List Value)
over results env = values env results then λ vs. Ok (vs, [])

row_plain : (a : Answer (List Value)) → ((vs : List Value) × (a ≡ Ok vs)) → (a then λ vs. (let r : Answer (List Value × List Value) = Ok (vs, []) in r)) ≡ Ok (given_row a, [])
row_plain (Ok vs) h = refl
row_plain (Err r) (vs, e) = absurd (subst is_err e tt)
  where
    is_err : Answer (List Value) → Type 0
    is_err (Ok b) = ⊥
    is_err (Err r) = Unit {0}

environments_plain : (xs : List (List Row)) → for_each (λ (rows : List Row). Next (env_of rows) Finished) (flow_of xs) ≡ flow_of (map env_of xs)
environments_plain [] = refl
environments_plain (x ∷ xs) = ap (Next (env_of x)) (environments_plain xs)

computed_plain : {A B C : Type 0} (f : B → Answer C) (m : A → B) (g : A → C) → ((x : A) → f (m x) ≡ Ok (g x)) → (xs : List A) → computed f (flow_of (map m xs)) ≡ flow_of (map g xs)
computed_plain f m g h [] = refl
computed_plain f m g h (x ∷ xs) = λ i. followed_by (row_of (h x i)) (computed_plain f m g h xs i)

firsts : {A B : Type 0} (f : A → B) (xs : List A) → map (λ (r : B × List Value). r.0) (map (λ x. (f x, [])) xs) ≡ map f xs
firsts f [] = refl
firsts f (x ∷ xs) = ap (λ ys. f x ∷ ys) (firsts f xs)

-- a query of these parts alone
abbrev plain : Reading → Reading
plain q = record q { is_grouped = false; distinct = false; order = []; limit = None }

is_plain_query : (q : Reading) (sources : List (Condition × List Row)) → IsPlain q sources → q ≡ plain q
is_plain_query q sources h = λ i. record q { is_grouped = h.no_groups i; distinct = h.no_distinct i; order = h.no_order i; limit = h.no_limit i }

-- the rows in the order in which they came
answered : {A : Type 0} (f : A → List Value) (xs : List A)
    → (collected (flow_of (map (λ x. (let r : List Value × List Value = (f x, []) in r)) xs)) then λ rows. Ok (map (λ r. r.0) (sorted (λ r s. Equal) rows))) ≡ Ok (map f xs)
answered f xs =
    ap (λ a. a then λ rows. Ok (map (λ (r : List Value × List Value). r.0) (sorted (λ r s. Equal) rows))) (collected_plain (map (λ x. (f x, [])) xs))
    ∙ (ap (λ rows. Ok (map (λ (r : List Value × List Value). r.0) rows)) (sorted_as_it_is (map (λ x. (f x, [])) xs)) ∙ ap Ok (firsts f xs))

-- the answer over combinations that are at hand
abbrev over_rows : (q : Reading) (f : Flow (List Row)) → Answer (List (List Value))
over_rows q f = collected (computed (over q.results) (for_each (λ rows. Next (env_of rows) Finished) f)) then λ rows. Ok (map (λ r. r.0) (sorted (λ r s. Equal) rows))

over_plain : (q : Reading) (xs : List (List Row)) → ((rows : List Row) → (vs : List Value) × (values (env_of rows) q.results ≡ Ok vs))
    → over_rows q (flow_of xs) ≡ Ok (map (λ rows. given_row (values (env_of rows) q.results)) xs)
over_plain q xs told =
    ap (λ f. collected (computed (over q.results) f) then λ rows. Ok (map (λ (r : List Value × List Value). r.0) (sorted (λ r s. Equal) rows))) (environments_plain xs)
    ∙ (ap (λ f. collected f then λ rows. Ok (map (λ (r : List Value × List Value). r.0) (sorted (λ r s. Equal) rows)))
    (computed_plain (over q.results) env_of (λ rows. (given_row (values (env_of rows) q.results), [])) (λ rows. row_plain (values (env_of rows) q.results) (told rows)) xs)
    ∙ answered (λ rows. given_row (values (env_of rows) q.results)) xs)

rows_plain : (q : Reading) (outer : List Row) (sources : List (Condition × List Row)) → IsPlain q sources
    → over_rows q (filtered q.filter (combined sources outer)) ≡ Ok (map (λ rows. given_row (values (env_of rows) q.results)) (filter (passes q.filter) (nested sources outer)))
rows_plain q outer sources h =
    ap (λ f. over_rows q (filtered q.filter f)) (combined_plain sources outer h.joins)
    ∙ (ap (over_rows q) (filtered_plain q.filter h.filters (nested sources outer)) ∙ over_plain q (filter (passes q.filter) (nested sources outer)) h.results)

pub comprehension : IsComprehension
comprehension q outer sources h = ap (λ r. rows_over r outer sources) (is_plain_query q sources h) ∙ rows_plain q outer sources h
