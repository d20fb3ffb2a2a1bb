-- A value's column by its place in the table, and a column's value by its place in the row.
use Rattle.std.proofs.Common.{◌≡◌, refl, sym, ap, subst, ◌∙◌, inl, inr, ℕ, zero, suc, ◌+◌, ◌<◌, ◌≤◌, Bool, true, false, ◌==◌, cond, if◌then◌else◌, List, [], ◌∷◌, ◌++◌, length, map, get_or, Option, Some, None, set, arith}
use Rattle.std.specs.Prelude.{⊤, option_map, unwrap_or, zip, is_none}
use Rattle.std.specs.List.{list_any, position_from, range_with_len, AllByRecursion, Contains}
use Rattle.std.specs.Str.{bytes_eq}
use Rattle.std.proofs.lemmas.Bool.{false≢true}
use Rattle.std.proofs.lemmas.Bool.Decides.{nat_tests}
use Rattle.std.proofs.lemmas.List.{ext_get_or, get_or-map, get_or-set_same, get_or-set_other, length-set}
use Rattle.std.proofs.lemmas.List.Elements.{Contains-append_right}
use Rattle.std.proofs.lemmas.List.FromFn.{length-range_with_len, get_or-map-range_with_len}
use Rattle.sqlval.specs.Names.{folded, is_same_name}
use Rattle.sqlval.specs.Refusals.{Refusal, NoSuch, Misuse}
use Rattle.sqlval.specs.declared.value.Value.{Value}
use Rattle.sqlval.specs.declared.value.Value.TheVariants.{Null}
use Rattle.catalog.specs.Database.{TableColumn}
use Rattle.catalog.specs.Listed.{is_column, as_column, place_named}
use Rattle.catalog.specs.declared.tables.Column.{Column}
use Rattle.catalog.specs.declared.tables.Table.{Table}
use Rattle.query_names.specs.Bound.{is_twice_named, source_seen}
use Rattle.query_names.specs.Inserts.{has_unknown, places_in}
use Rattle.query_names.specs.Checked.{Checked, Meant, good, faults, both, known_all, unless}
use Rattle.query_names.specs.Scopes.{place_of, resolve_places, is_doubled}
use Rattle.row_change.specs.Binding.{row_with}
use Rattle.row_change.specs.Constraints.{set_values}
use Rattle.row_change.specs.Inserting.{values_given}
use Rattle.query_names.proofs.ColumnPlaces.{column_names, column_place, no_place, one_place, or_left, or_right, or_true, same_by, same_is, same_turned}

module _ (as_name : List ℕ) (t : Table) (once : is_twice_named t.columns ≡ false) where
  all_places : (names : List (List ℕ)) → has_unknown t.columns names ≡ false → known_all (map (place_of (source_seen as_name t)) names) ≡ good (map (column_place t.columns) names)
  all_places [] h = refl
  all_places (n ∷ ns) h =
      ap (λ k. both (λ x xs. x ∷ xs) k (known_all (map (place_of (source_seen as_name t)) ns))) (one_place as_name t once n (or_left (is_none (place_named n t.columns)) (has_unknown t.columns ns) h))
      ∙ ap (both (λ x xs. x ∷ xs) (good (column_place t.columns n))) (all_places ns (or_right (is_none (place_named n t.columns)) (has_unknown t.columns ns) h))

  -- a list of columns stands for their places
  pub list_places : (names : List (List ℕ)) → has_unknown t.columns names ≡ false → is_doubled names ≡ false → resolve_places (source_seen as_name t) names ≡ good (map (column_place t.columns) names)
  list_places names h d = ap (λ b. unless b Misuse (known_all (map (place_of (source_seen as_name t)) names))) d ∙ ap (unless false Misuse) (all_places names h)

  in_front : (rs : List Refusal) (r : Refusal) (k : List Refusal) → k ≡ r ∷ [] → Contains (k ++ rs) r
  in_front rs r k e = subst (λ k. Contains (k ++ rs) r) (sym e) (0, omega arith, refl)

  both_faults : {A B C : Type 0} (f : A → B → C) (k : Checked A) (l : Checked B) → faults (both f k l) ≡ faults k ++ faults l
  both_faults f (Meant x rs) (Meant y ss) = refl

  unknown_refused : (names : List (List ℕ)) → has_unknown t.columns names ≡ true → Contains (faults (known_all (map (place_of (source_seen as_name t)) names))) NoSuch
  unknown_refused [] h = absurd (false≢true h)
  unknown_refused (n ∷ ns) h =
      subst (λ rs. Contains rs NoSuch) (sym (both_faults (λ x xs. x ∷ xs) (place_of (source_seen as_name t) n) (known_all (map (place_of (source_seen as_name t)) ns))))
      (elim (or_true (is_none (place_named n t.columns)) (has_unknown t.columns ns) h) [
        | inl e ↦ in_front (faults (known_all (map (place_of (source_seen as_name t)) ns))) NoSuch (faults (place_of (source_seen as_name t) n)) (no_place as_name t once n e)
        | inr e ↦ Contains-append_right (faults (place_of (source_seen as_name t) n)) (faults (known_all (map (place_of (source_seen as_name t)) ns))) NoSuch (unknown_refused ns e)
      ])

  unless_faults : {A : Type 0} (b : Bool) (r : Refusal) (k : Checked A) → faults (unless b r k) ≡ (if b then (r ∷ []) else []) ++ faults k
  unless_faults b r (Meant x rs) = refl

  -- a list with a name that no column has is refused
  pub unknown_list : (names : List (List ℕ)) → has_unknown t.columns names ≡ true → Contains (faults (resolve_places (source_seen as_name t) names)) NoSuch
  unknown_list names h =
      subst (λ rs. Contains rs NoSuch) (sym (unless_faults (is_doubled names) Misuse (known_all (map (place_of (source_seen as_name t)) names))))
      (Contains-append_right (if is_doubled names then (Misuse ∷ []) else []) (faults (known_all (map (place_of (source_seen as_name t)) names))) NoSuch (unknown_refused names h))

  -- and so is one with a name twice
  pub doubled_list : (names : List (List ℕ)) → is_doubled names ≡ true → Contains (faults (resolve_places (source_seen as_name t) names)) Misuse
  doubled_list names h =
      subst (λ rs. Contains rs Misuse) (sym (unless_faults (is_doubled names) Misuse (known_all (map (place_of (source_seen as_name t)) names))))
      (in_front (faults (known_all (map (place_of (source_seen as_name t)) names))) Misuse (if is_doubled names then (Misuse ∷ []) else []) (ap (λ b. if b then (Misuse ∷ []) else []) h))

-- ---- the column of a place

one_more : (i : ℕ) → i + 1 ≡ suc i
one_more i = omega arith

same_number : (m n : ℕ) → (m == n) ≡ true → m ≡ n
same_number m n h = grind (arith, nat_tests)

is_number : (m n : ℕ) → m ≡ n → (m == n) ≡ true
is_number m n h = grind (arith, nat_tests)

other_number : (m n : ℕ) → m < n → (n == m) ≡ false
other_number m n h = grind (arith, nat_tests)

less_number : (m n : ℕ) → m < n → (m == n) ≡ false
less_number m n h = grind (arith, nat_tests)

some_in : {A : Type 0} (d x y : A) → Some x ≡ Some y → x ≡ y
some_in d x y h = ap (λ o. unwrap_or o d) h

no_some : {A : Type 0} (x : A) → None ≡ Some x → ⊥
no_some x h = absurd cc

at_least : {A : Type 0} (test : A → Bool) (i p : ℕ) (xs : List A) → position_from test i xs ≡ Some p → i ≤ p
at_least test i p [] h = absurd (no_some p h)
at_least test i p (x ∷ xs) h = by i p (test x) (position_from test (i + 1) xs) (at_least test (i + 1) p xs) h
  where
    by : (i p : ℕ) (b : Bool) (o : Option ℕ) → (o ≡ Some p → i + 1 ≤ p) → cond b (Some i) o ≡ Some p → i ≤ p
    by i p true o f h = let e : i ≡ p = some_in 0 i p h in omega (arith, e)
    by i p false o f h = let e : i + 1 ≤ p = f h in omega (arith, e)

same_as : (a b c : List ℕ) → is_same_name a b ≡ true → is_same_name b c ≡ is_same_name a c
same_as a b c h = ap (λ x. bytes_eq x (folded c)) (sym (same_is a b h))

none_at : (first : List ℕ) (cs : List Column) (k : ℕ) (d : Column) → k < length cs → list_any (is_same_name first) (column_names cs) ≡ false → is_same_name first (get_or cs k d).name ≡ false
none_at first [] k d lt h = absurd (omega (arith, lt))
none_at first (c ∷ cs) zero d lt h = or_left (is_same_name first c.name) (list_any (is_same_name first) (column_names cs)) h
none_at first (c ∷ cs) (suc k) d lt h = none_at first cs k d (omega (arith, lt)) (or_right (is_same_name first c.name) (list_any (is_same_name first) (column_names cs)) h)

first_place : (i p k : ℕ) (name : List ℕ) (c : Column) (cs : List Column) (d : Column) → list_any (is_same_name c.name) (column_names cs) ≡ false → k < suc (length cs) → is_same_name c.name name ≡ true → i ≡ p
    → (p == i + k) ≡ is_same_name name (get_or (c ∷ cs) k d).name
first_place i p zero name c cs d once lt same e = is_number p (i + 0) (omega (arith, e)) ∙ sym (same_turned name c.name ∙ same)
first_place i p (suc k) name c cs d once lt same e =
    less_number p (i + suc k) (omega (arith, e)) ∙ sym (same_as c.name name (get_or cs k d).name same ∙ none_at c.name cs k d (omega (arith, lt)) once)

later_place : (i p k : ℕ) (name : List ℕ) (c : Column) (cs : List Column) (d : Column) → k < suc (length cs) → is_same_name c.name name ≡ false → i + 1 ≤ p
    → ((k : ℕ) → k < length cs → (p == i + 1 + k) ≡ is_same_name name (get_or cs k d).name) → (p == i + k) ≡ is_same_name name (get_or (c ∷ cs) k d).name
later_place i p zero name c cs d lt other more f = other_number (i + 0) p (omega (arith, more)) ∙ sym (same_turned name c.name ∙ other)
later_place i p (suc k) name c cs d lt other more f = ap (λ m. p == m) (moved i k) ∙ f k (omega (arith, lt))
  where
    moved : (i k : ℕ) → i + suc k ≡ i + 1 + k
    moved i k = omega arith

-- the column of a name's place has the name, and no other has it
named_at : (i p k : ℕ) (name : List ℕ) (cs : List Column) (d : Column) → is_twice_named cs ≡ false → position_from (is_column name) i cs ≡ Some p → k < length cs → (p == i + k) ≡ is_same_name name (get_or cs k d).name
named_at i p k name [] d once h lt = absurd (omega (arith, lt))
named_at i p k name (c ∷ cs) d once h lt =
    by i p k name c cs d once lt (λ e j. named_at (i + 1) p j name cs d (or_right (list_any (is_same_name c.name) (column_names cs)) (is_twice_named cs) once) e) (is_same_name c.name name) refl h
  where
    by : (i p k : ℕ) (name : List ℕ) (c : Column) (cs : List Column) (d : Column) → is_twice_named (c ∷ cs) ≡ false → k < suc (length cs)
        → (position_from (is_column name) (i + 1) cs ≡ Some p → (j : ℕ) → j < length cs → (p == i + 1 + j) ≡ is_same_name name (get_or cs j d).name)
        → (b : Bool) → is_same_name c.name name ≡ b → cond b (Some i) (position_from (is_column name) (i + 1) cs) ≡ Some p → (p == i + k) ≡ is_same_name name (get_or (c ∷ cs) k d).name
    by i p k name c cs d once lt f true same h = first_place i p k name c cs d (or_left (list_any (is_same_name c.name) (column_names cs)) (is_twice_named cs) once) lt same (some_in 0 i p h)
    by i p k name c cs d once lt f false other h = later_place i p k name c cs d lt other (at_least (is_column name) (i + 1) p cs h) (f h)

-- ---- the value of a column

abbrev picked : List Value → Value → Option ℕ → Value
picked vs d None = d
picked vs d (Some j) = get_or vs j Null

picked_later : (v : Value) (vs : List Value) (d : Value) (o : Option ℕ) → picked (v ∷ vs) d (option_map suc o) ≡ picked vs d o
picked_later v vs d None = refl
picked_later v vs d (Some j) = refl

shift_by : (b : Bool) (i : ℕ) (o p : Option ℕ) → o ≡ option_map suc p → cond b (Some (i + 1)) o ≡ option_map suc (cond b (Some i) p)
shift_by true i o p h = ap Some (one_more i)
shift_by false i o p h = h

shift : {X : Type 0} (test : X → Bool) (i : ℕ) (xs : List X) → position_from test (i + 1) xs ≡ option_map suc (position_from test i xs)
shift test i [] = refl
shift test i (x ∷ xs) = shift_by (test x) i (position_from test (i + 1 + 1) xs) (position_from test (i + 1) xs) (shift test (i + 1) xs)

-- one item at most passes
abbrev IsSingleLeaf : {X : Type 0} → (X → Bool) → List X → Type 0
IsSingleLeaf test [] = ⊤
IsSingleLeaf test (x ∷ xs) = (test x ≡ true → position_from test 0 xs ≡ None) × IsSingleLeaf test xs

module _ {X : Type 0} (test : X → Bool) (place : X → ℕ) (k : ℕ) where
  step : (x : X) (xs : List X) (v : Value) (vs ds : List Value) → (place x == k) ≡ test x → (test x ≡ true → position_from test 0 xs ≡ None) → k < length ds
      → (b : Bool) → test x ≡ b → picked vs (get_or (set ds (place x) v) k Null) (position_from test 0 xs) ≡ picked (v ∷ vs) (get_or ds k Null) (cond b (Some 0) (position_from test (0 + 1) xs))
  step x xs v vs ds a h lt true e =
      ap (picked vs (get_or (set ds (place x) v) k Null)) (h e) ∙ (ap (λ p. get_or (set ds p v) k Null) (same_number (place x) k (a ∙ e)) ∙ get_or-set_same ds k v Null lt)
  step x xs v vs ds a h lt false e =
      ap (λ d. picked vs d (position_from test 0 xs)) (get_or-set_other ds (place x) k v Null (λ same. false≢true (sym (a ∙ e) ∙ is_number (place x) k (sym same))))
      ∙ (sym (picked_later v vs (get_or ds k Null) (position_from test 0 xs)) ∙ ap (picked (v ∷ vs) (get_or ds k Null)) (sym (shift test 0 xs)))

  written : (xs : List X) (vs ds : List Value) → length vs ≡ length xs → AllByRecursion (λ x. (place x == k) ≡ test x) xs → IsSingleLeaf test xs → k < length ds
      → get_or (set_values ds (zip (map place xs) vs)) k Null ≡ picked vs (get_or ds k Null) (position_from test 0 xs)
  written [] vs ds l a h lt = refl
  written (x ∷ xs) [] ds l a h lt = absurd (omega (arith, l))
  written (x ∷ xs) (v ∷ vs) ds l a h lt =
      written xs vs (set ds (place x) v) (omega (arith, l)) a.1 h.1 (omega (arith, lt, length-set ds (place x) v)) ∙ step x xs v vs ds a.0 h.0 lt (test x) refl

abbrev defaults : List Column → List Value
defaults cs = map (λ (c : TableColumn). c.default) (map as_column cs)

defaults_count : (cs : List Column) → length (defaults cs) ≡ length cs
defaults_count [] = refl
defaults_count (c ∷ cs) = ap suc (defaults_count cs)

-- each value is the one given, or else the default
given_each : (cs : List Column) (places : List (Option ℕ)) (vs : List Value) (k : ℕ) → k < length cs → get_or (values_given cs places vs) k Null ≡ picked vs (get_or (defaults cs) k Null) (get_or places k None)
given_each [] places vs k lt = absurd (omega (arith, lt))
given_each (c ∷ cs) [] vs zero lt = refl
given_each (c ∷ cs) [] vs (suc k) lt = given_each cs [] vs k (omega (arith, lt))
given_each (c ∷ cs) (None ∷ ps) vs zero lt = refl
given_each (c ∷ cs) (Some j ∷ ps) vs zero lt = refl
given_each (c ∷ cs) (p ∷ ps) vs (suc k) lt = given_each cs ps vs k (omega (arith, lt))

given_count : (cs : List Column) (places : List (Option ℕ)) (vs : List Value) → length (values_given cs places vs) ≡ length cs
given_count [] places vs = refl
given_count (c ∷ cs) [] vs = ap suc (given_count cs [] vs)
given_count (c ∷ cs) (p ∷ ps) vs = ap suc (given_count cs ps vs)

same_count : (ds : List Value) (ps : List (ℕ × Value)) → length (set_values ds ps) ≡ length ds
same_count ds [] = refl
same_count ds (p ∷ ps) = same_count (set ds p.0 p.1) ps ∙ length-set ds p.0 p.1

-- the values at the places of their columns are the columns' values
module _ {X : Type 0} (t : Table) (place : X → ℕ) (xs : List X) (places : List (Option ℕ)) where
  row_given : (vs : List Value) → length vs ≡ length xs
      → ((k : ℕ) → k < length t.columns → (test : X → Bool) × AllByRecursion (λ x. (place x == k) ≡ test x) xs × IsSingleLeaf test xs × (get_or places k None ≡ position_from test 0 xs))
      → row_with t (map place xs) vs ≡ values_given t.columns places vs
  row_given vs l f =
      ext_get_or Null (row_with t (map place xs) vs) (values_given t.columns places vs) (long ∙ sym (given_count t.columns places vs))
      (λ k lt. let within : k < length t.columns = omega (arith, lt, long) in
      let g = f k within in
      written g.0 place k xs vs (defaults t.columns) l g.1 g.2 (omega (arith, within, defaults_count t.columns))
      ∙ (ap (picked vs (get_or (defaults t.columns) k Null)) (sym g.3) ∙ sym (given_each t.columns places vs k within)))
    where
      long : length (row_with t (map place xs) vs) ≡ length t.columns
      long = same_count (defaults t.columns) (zip (map place xs) vs) ∙ defaults_count t.columns

-- ---- without a list of columns

none_in_range : (j i n k : ℕ) → k < i → position_from (λ p. p == k) j (range_with_len i n) ≡ None
none_in_range j i zero k lt = refl
none_in_range j i (suc n) k lt =
    ap (λ b. cond b (Some j) (position_from (λ p. p == k) (j + 1) (range_with_len (i + 1) n))) (other_number k i lt) ∙ none_in_range (j + 1) (i + 1) n k (omega (arith, lt))

range_single : (i n k : ℕ) → IsSingleLeaf (λ p. p == k) (range_with_len i n)
range_single i zero k = tt
range_single i (suc n) k = (λ h. (let e : i ≡ k = same_number i k h in none_in_range 0 (i + 1) n k (omega (arith, e))), range_single (i + 1) n k)

in_range : (i j m n k : ℕ) → k ≡ i + m → m < n → position_from (λ p. p == k) j (range_with_len i n) ≡ Some (j + m)
in_range i j m zero k e lt = absurd (omega (arith, lt))
in_range i j zero (suc n) k e lt = ap (λ b. cond b (Some j) (position_from (λ p. p == k) (j + 1) (range_with_len (i + 1) n))) (is_number i k (omega (arith, e))) ∙ ap Some (omega arith)
in_range i j (suc m) (suc n) k e lt =
    ap (λ b. cond b (Some j) (position_from (λ p. p == k) (j + 1) (range_with_len (i + 1) n))) (less_number i k (omega (arith, e)))
    ∙ (in_range (i + 1) (j + 1) m n k (omega (arith, e)) (omega (arith, lt)) ∙ ap Some (omega arith))

all_same : {X : Type 0} (f : X → Bool) (xs : List X) → AllByRecursion (λ x. f x ≡ f x) xs
all_same f [] = tt
all_same f (x ∷ xs) = (refl, all_same f xs)

pub own_row : (t : Table) (vs : List Value) → length vs ≡ length t.columns
    → row_with t (map (λ p. p) (range_with_len 0 (length t.columns))) vs ≡ values_given t.columns (places_in t.columns None) vs
own_row t vs l =
    let n = length t.columns in
    row_given t (λ p. p) (range_with_len 0 n) (map Some (range_with_len 0 n)) vs (l ∙ sym (length-range_with_len 0 n))
    (λ k lt. (
      λ p. p == k,
      all_same (λ p. p == k) (range_with_len 0 n),
      range_single 0 n k,
      get_or-map-range_with_len Some 0 n k k None lt (omega arith) ∙ (ap Some (omega arith) ∙ sym (in_range 0 0 k n k (omega arith) lt)),
    ))

-- ---- with one

none_after : (i : ℕ) (n c : List ℕ) (ns : List (List ℕ)) → is_same_name n c ≡ true → list_any (is_same_name n) ns ≡ false → position_from (λ m. is_same_name m c) i ns ≡ None
none_after i n c [] h k = refl
none_after i n c (m ∷ ns) h k =
    ap (λ b. cond b (Some i) (position_from (λ m. is_same_name m c) (i + 1) ns)) (same_by n c m h ∙ or_left (is_same_name n m) (list_any (is_same_name n) ns) k)
    ∙ none_after (i + 1) n c ns h (or_right (is_same_name n m) (list_any (is_same_name n) ns) k)

names_single : (c : List ℕ) (ns : List (List ℕ)) → is_doubled ns ≡ false → IsSingleLeaf (λ m. is_same_name m c) ns
names_single c [] h = tt
names_single c (n ∷ ns) h = (λ e. none_after 0 n c ns e (or_left (list_any (is_same_name n) ns) (is_doubled ns) h), names_single c ns (or_right (list_any (is_same_name n) ns) (is_doubled ns) h))

place_by : (cs : List Column) (name : List ℕ) (k : ℕ) (b : Bool) (o : Option ℕ) → is_none o ≡ false → ((p : ℕ) → o ≡ Some p → (p == k) ≡ b) → (unwrap_or o 0 == k) ≡ b
place_by cs name k b None h f = absurd (false≢true (sym h))
place_by cs name k b (Some p) h f = f p refl

names_agree : (t : Table) (k : ℕ) (d : Column) (ns : List (List ℕ)) → is_twice_named t.columns ≡ false → k < length t.columns → has_unknown t.columns ns ≡ false
    → AllByRecursion (λ name. (column_place t.columns name == k) ≡ is_same_name name (get_or t.columns k d).name) ns
names_agree t k d [] once lt h = tt
names_agree t k d (n ∷ ns) once lt h = (
  place_by t.columns n k (is_same_name n (get_or t.columns k d).name) (place_named n t.columns) (or_left (is_none (place_named n t.columns)) (has_unknown t.columns ns) h)
      (λ p e. ap (λ m. p == m) (from_zero k) ∙ named_at 0 p k n t.columns d once e lt),
  names_agree t k d ns once lt (or_right (is_none (place_named n t.columns)) (has_unknown t.columns ns) h),
)
  where
    from_zero : (k : ℕ) → k ≡ 0 + k
    from_zero k = omega arith

column_in : (cs : List Column) (k : ℕ) → k < length cs → Column
column_in [] k lt = absurd (omega (arith, lt))
column_in (c ∷ cs) k lt = c

pub listed_row : (t : Table) (ns : List (List ℕ)) (vs : List Value) → is_twice_named t.columns ≡ false → has_unknown t.columns ns ≡ false → is_doubled ns ≡ false → length vs ≡ length ns
    → row_with t (map (column_place t.columns) ns) vs ≡ values_given t.columns (places_in t.columns (Some ns)) vs
listed_row t ns vs once h two l =
    row_given t (column_place t.columns) ns (places_in t.columns (Some ns)) vs l
    (λ k lt. (
      λ name. is_same_name name (get_or t.columns k (column_in t.columns k lt)).name,
      names_agree t k (column_in t.columns k lt) ns once lt h,
      names_single (get_or t.columns k (column_in t.columns k lt)).name ns two,
      get_or-map (λ c. position_from (λ name. is_same_name name c.name) 0 ns) t.columns k (column_in t.columns k lt) None lt,
    ))
