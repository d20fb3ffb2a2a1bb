-- The rows that an INSERT gives, by their names.
use Rattle.std.proofs.Common.{◌≡◌, ◌∙◌, ap, inl, inr, refl, subst, sym, ℕ, zero, suc, ◌+◌, Bool, true, false, not, ◌&&◌, ◌||◌, ◌==◌, if◌then◌else◌, List, [], ◌∷◌, ◌++◌, length, map, Some, None, Result, Ok, Err, arith}
use Rattle.std.specs.Prelude.{Contains, IfOk}
use Rattle.std.specs.List.{list_all, list_any, range_with_len}
use Rattle.std.proofs.lemmas.Bool.{false≢true}
use Rattle.std.proofs.lemmas.Bool.Decides.{nat_tests}
use Rattle.sqlval.specs.Faults.{IsOrMemory}
use Rattle.sqlval.specs.Refusals.{Misuse, Refusal, refusal_of}
use Rattle.sqlval.specs.declared.fault.Fault.{Fault}
use Rattle.sql_syntax.specs.Tree.{Tree}
use Rattle.sql_syntax.specs.declared.change.InsertSource.TheVariants as source
use Rattle.sql_syntax.specs.declared.query.Query.{Query}
use Rattle.catalog.specs.Database.{Database, Name}
use Rattle.query_names.specs.Bound.{IsFaultOf}
use Rattle.query_names.specs.Checked.{Checked, Meant, also, both, faults, good, known_all, meant, unless}
use Rattle.query_names.specs.Expressions.{resolve}
use Rattle.query_names.specs.Named.{NamesBy}
use Rattle.query_names.specs.Queries.{resolve_query}
use Rattle.query_names.specs.Scopes.{is_doubled, place_of, resolve_places}
use Rattle.query_names.specs.Views.{look_up}
use Rattle.query_names.specs.declared.reading.Reading.{Reading}
use Rattle.query_names.specs.declared.scope.ScopeColumn.{ScopeColumn}
use Rattle.query_names.specs.declared.scope.ScopeSource.{ScopeSource}
use Rattle.query_terms.specs.Terms.{Term}
use Rattle.query_bind.proofs.Chains.{refused_first, then_good}
use Rattle.row_change.specs.Changes.{Given, GivenQuery, Outer, insert_places, resolve_given}

-- a row by its names
abbrev pub row_known : List ScopeSource → List Tree → Checked (List Term)
row_known scope row = known_all (map (resolve false scope) row)

-- the rows by theirs
abbrev pub rows_known : List ScopeSource → List (List Tree) → Checked (List (List Term))
rows_known scope rows = known_all (map (row_known scope) rows)

-- ---- all columns

-- the places of columns, counted from i
abbrev all_from : ℕ → List ScopeColumn → List ℕ
all_from i [] = []
all_from i (c ∷ cs) = i ∷ all_from (suc i) cs

one_more : (i : ℕ) → suc i ≡ i + 1
one_more i = omega arith

all_is : (i : ℕ) (cs : List ScopeColumn) → all_from i cs ≡ range_with_len i (length cs)
all_is i [] = refl
all_is i (c ∷ cs) = ap (λ ps. i ∷ ps) (ap (λ j. all_from j cs) (one_more i) ∙ all_is (i + 1) cs)

all_places_are : (s : ScopeSource) → insert_places s None ≡ good (range_with_len 0 (length s.columns))
all_places_are s = ap good (all_is 0 s.columns)

-- a call that gives the first so many places
pub all_placed : {X : Type 0} (view : X → List ℕ) (s : ScopeSource) (n : ℕ) (result : Result X Fault) → n ≡ length s.columns → IsOrMemory (λ x. view x ≡ range_with_len 0 n) result
    → NamesBy view (insert_places s None) result
all_placed view s n (Ok x) e h = all_places_are s ∙ ap good (ap (range_with_len 0) (sym e) ∙ sym h)
all_placed view s n (Err f) e h = inl h

ranged_more : (i n : ℕ) → range_with_len i (suc n) ≡ range_with_len i n ++ (i + n) ∷ []
ranged_more i zero = ap (λ k. k ∷ []) (omega arith)
ranged_more i (suc n) = ap (λ ks. i ∷ ks) (ranged_more (i + 1) n ∙ ap (λ k. range_with_len (i + 1) n ++ k ∷ []) (omega arith))

-- one place more
pub next_place : (n : ℕ) → range_with_len 0 (n + 1) ≡ range_with_len 0 n ++ n ∷ []
next_place n = ap (range_with_len 0) (sym (one_more n)) ∙ (ranged_more 0 n ∙ ap (λ k. range_with_len 0 n ++ k ∷ []) (omega arith))

-- ---- a query

module _ (db : Database) (outer : Outer) (n : ℕ) where
  -- another number of results is refused, where their number is known
  abbrev counted : Reading → Checked Given
  counted r = unless (not r.is_open && not (n == length r.results)) Misuse (good (GivenQuery r))

  pub query_refused : (q : Query) (f : Fault) → IsFaultOf (faults (resolve_query (look_up db) outer.scope q)) f → IsFaultOf (faults (resolve_given db outer (Some n) (source.Query q))) f
  query_refused q f why = refused_first (resolve_query (look_up db) outer.scope q) counted f why

  module _ (q : Query) (reading : Reading) (named : resolve_query (look_up db) outer.scope q ≡ Meant reading []) (closed : reading.is_open ≡ false) where
    by_count : (b : Bool) → (n == length reading.results) ≡ b → resolve_given db outer (Some n) (source.Query q) ≡ unless (not b) Misuse (good (GivenQuery reading))
    by_count b e =
        then_good (resolve_query (look_up db) outer.scope q) counted reading named
        ∙ (ap (λ o. unless (not o && not (n == length reading.results)) Misuse (good (GivenQuery reading))) closed
        ∙ ap (λ c. unless (not c) Misuse (good (GivenQuery reading))) e)

    pub miscounted_query : (f : Fault) → (n == length reading.results) ≡ false → refusal_of f ≡ Misuse → IsFaultOf (faults (resolve_given db outer (Some n) (source.Query q))) f
    miscounted_query f e is = inr (subst (λ (k : Checked Given). Contains (faults k) (refusal_of f)) (sym (by_count false e)) (0, omega arith, sym is))

    pub query_is : (n == length reading.results) ≡ true → resolve_given db outer (Some n) (source.Query q) ≡ Meant (GivenQuery reading) []
    query_is e = by_count true e

pub other_count : (counted_as len n : ℕ) → counted_as ≡ len → (counted_as ≡ n → ⊥) → (n == len) ≡ false
other_count counted_as len n same differ = grind (arith, nat_tests)

-- ---- how many values there are

also_meant : {A : Type 0} (rs : List Refusal) (k : Checked A) → meant (also rs k) ≡ meant k
also_meant rs (Meant x ss) = refl

both_count : {A : Type 0} (k : Checked A) (l : Checked (List A)) (n : ℕ) → length (meant l) ≡ n → length (meant (both (λ x xs. x ∷ xs) k l)) ≡ suc n
both_count (Meant x rs) (Meant xs ss) n e = ap suc e

-- as many things are known as are meant
each_counts : {A B : Type 0} (f : B → Checked A) (xs : List B) → length (meant (known_all (map f xs))) ≡ length xs
each_counts f [] = refl
each_counts f (x ∷ xs) = both_count (f x) (known_all (map f xs)) (length xs) (each_counts f xs)

places_count : (s : ScopeSource) (names : List Name) (places : List ℕ) → resolve_places s names ≡ Meant places [] → length places ≡ length names
places_count s names places is =
    sym (ap (λ k. length (meant k)) is)
    ∙ (ap length (also_meant (if is_doubled names then Misuse ∷ [] else []) (known_all (map (place_of s) names)))
    ∙ each_counts (place_of s) names)

-- as many places as a list of columns has names
pub places_named : {X : Type 0} (view : X → List ℕ) (s : ScopeSource) (names : List Name) (result : Result X Fault) → NamesBy view (resolve_places s names) result → IfOk result (λ x. length (view x) ≡ length names)
places_named view s names (Ok x) named = places_count s names (view x) named
places_named view s names (Err f) named = tt

range_count : (i n : ℕ) → length (range_with_len i n) ≡ n
range_count i zero = refl
range_count i (suc n) = ap suc (range_count (i + 1) n)

-- as many places as there are columns
pub places_of_all : {X : Type 0} (view : X → List ℕ) (n m : ℕ) (result : Result X Fault) → n ≡ m → IsOrMemory (λ x. view x ≡ range_with_len 0 n) result → IfOk result (λ x. length (view x) ≡ m)
places_of_all view n m (Ok x) e h = ap length h ∙ (range_count 0 n ∙ e)
places_of_all view n m (Err f) e h = tt

counted_so : (n m k : ℕ) → (n == m) ≡ true → k ≡ m → (k == n) ≡ true
counted_so n m k e same = grind (arith, nat_tests)

both_true : (a b : Bool) → a ≡ true → b ≡ true → (a && b) ≡ true
both_true a b e f = ap (λ c. c && b) e ∙ f

abbrev has_other : ℕ → List (List Tree) → Bool
has_other n rows = list_any (λ row. not (n == length row)) rows

abbrev are_wide : ℕ → List (List Term) → Bool
are_wide n terms = list_all (λ row. length row == n) terms

wide_both : (n : ℕ) (k : Checked (List Term)) (l : Checked (List (List Term))) → (length (meant k) == n) ≡ true → are_wide n (meant l) ≡ true → are_wide n (meant (both (λ x xs. x ∷ xs) k l)) ≡ true
wide_both n (Meant x rs) (Meant xs ss) e f = both_true (length x == n) (are_wide n xs) e f

rows_count : (scope : List ScopeSource) (n : ℕ) (rows : List (List Tree)) → has_other n rows ≡ false → are_wide n (meant (rows_known scope rows)) ≡ true
rows_count scope n [] h = refl
rows_count scope n (row ∷ rows) h = by (λ rest. rows_count scope n rows rest) (n == length row) refl h
  where
    by : (has_other n rows ≡ false → are_wide n (meant (rows_known scope rows)) ≡ true) → (b : Bool) → (n == length row) ≡ b → (not b || has_other n rows) ≡ false
        → are_wide n (meant (rows_known scope (row ∷ rows))) ≡ true
    by wide true e rest =
        wide_both n (row_known scope row) (rows_known scope rows) (counted_so n (length row) (length (meant (row_known scope row))) e (each_counts (resolve false scope) row)) (wide rest)
    by wide false e rest = absurd (false≢true (sym rest))

-- rows of so many values are known as such
pub rows_wide : (scope : List ScopeSource) (n : ℕ) (rows : List (List Tree)) (terms : List (List Term)) → rows_known scope rows ≡ Meant terms [] → has_other n rows ≡ false → are_wide n terms ≡ true
rows_wide scope n rows terms is h = ap (λ k. are_wide n (meant k)) (sym is) ∙ rows_count scope n rows h
