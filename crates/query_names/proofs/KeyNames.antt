-- The keys of a definition, rule by rule and name by name.
use Rattle.std.proofs.Common.{◌≡◌, refl, sym, ap, subst, ◌∙◌, ◌⊎◌, inl, inr, ℕ, zero, suc, ◌+◌, ◌-◌, ◌<◌, ◌≤◌, Bool, true, false, not, cond, ◌||◌, List, [], ◌∷◌, ◌++◌, append_assoc, drop, get_or, length, map, take, Option, Some, None, arith}
use Rattle.std.proofs.lemmas.List.{append-nil, at_drop_more, drop_all, length-drop, take_all}
use Rattle.std.specs.Prelude.{filter, is_none, unwrap_or}
use Rattle.std.specs.List.{Contains, list_any, position_from}
use Rattle.std.specs.Str.{bytes_eq}
use Rattle.sqlval.specs.Lists.{any_twice, distinct}
use Rattle.sqlval.specs.Names.{folded, is_same_name}
use Rattle.sqlval.specs.Refusals.{Refusal, Misuse, NoSuch, refusal_of}
use Rattle.sqlval.specs.declared.collation.Collation.{Collation}
use Rattle.sqlval.specs.declared.fault.Fault.{Fault}
use Rattle.sqlval.specs.declared.fault.Fault.TheVariants.{Memory}
use Rattle.sql_syntax.specs.declared.create.TableDefinition.{TableDefinition}
use Rattle.catalog.specs.Database.{Name, TableColumn}
use Rattle.catalog.specs.Listed.{as_column, is_column, place_named}
use Rattle.catalog.specs.declared.tables.Column.{Column}
use Rattle.query_names.specs.Bound.{IsFaultOf, is_twice_named}
use Rattle.query_names.specs.Checked.{Checked, Meant, also, both, faults, good, known_all, known_map, onto_list, unless}
use Rattle.query_names.specs.Creating.{are_doubled, as_written, key_known, keys_split, places_known, table_keys_known}
use Rattle.query_names.specs.Scopes.{is_doubled, place_of, table_source}
use Rattle.query_names.specs.Tables.{collation_at, firsts, keys_of, new_source, without_rows}
use Rattle.query_names.specs.declared.keys.WrittenKey as keys
use Rattle.query_names.proofs.ColumnNames.{folded_twice}
use Rattle.query_names.proofs.ColumnPlaces.{column_names, no_place_among, one_place_among, or_left, or_right}
use Rattle.query_names.proofs.PartRefusals.{left, mapped}

-- ---- what is known of names

-- the column of a name, with its collation
abbrev pub column_known : Name → List Column → Name → Checked (ℕ × Collation)
column_known table cs name = known_map (λ i. (i, collation_at (map as_column cs) i)) (place_of (new_source table (map as_column cs)) name)

-- the columns of a key
abbrev pub known_key : Name → List Column → keys.WrittenKey → Checked (Bool × List (ℕ × Collation))
known_key table cs key = key_known table cs (as_written key)

-- what is known of no doubled names is known of each
places_known_of : {A B N : Type 0} (g : A → B) (f : N → Checked A) (ns : List N) → known_map (map g) (known_all (map f ns)) ≡ known_all (map (λ n. known_map g (f n)) ns)
places_known_of g f [] = refl
places_known_of {A = A} {B = B} g f (n ∷ ns) = in_front (f n) (known_all (map f ns)) ∙ ap (λ k. both (λ x xs. x ∷ xs) (known_map g (f n)) k) (places_known_of g f ns)
  where
    in_front : (k : Checked A) (l : Checked (List A)) → known_map (map g) (both (λ x xs. x ∷ xs) k l) ≡ both (λ x xs. x ∷ xs) (known_map g k) (known_map (map g) l)
    in_front (Meant x rs) (Meant ys ss) = refl

not_refused : {A : Type 0} (b : Bool) (r : Refusal) (k : Checked A) → b ≡ false → unless b r k ≡ k
not_refused {A = A} b r k h = ap (λ b. unless b r k) h ∙ same k
  where
    same : (k : Checked A) → also [] k ≡ k
    same (Meant x rs) = refl

pub each_name : (table : Name) (cs : List Column) (names : List Name) → is_doubled names ≡ false → places_known table cs names ≡ known_all (map (column_known table cs) names)
each_name table cs names h =
    ap (known_map (map (λ i. (i, collation_at (map as_column cs) i)))) (not_refused (is_doubled names) Misuse (known_all (map (place_of (new_source table (map as_column cs))) names)) h)
    ∙ places_known_of (λ i. (i, collation_at (map as_column cs) i)) (place_of (new_source table (map as_column cs))) names

map_twice : {A B C : Type 0} (f : B → C) (g : A → B) (xs : List A) → map f (map g xs) ≡ map (λ x. f (g x)) xs
map_twice f g [] = refl
map_twice f g (x ∷ xs) = ap (λ ys. f (g x) ∷ ys) (map_twice f g xs)

pub each_key : (d : TableDefinition) (cs : List Column) (ws : List keys.WrittenKey) → map as_written ws ≡ keys_of d → any_twice are_doubled (map as_written ws) ≡ false
    → known_map (keys_split d.columns) (known_all (map (λ key. key_known d.name cs (as_written key)) ws)) ≡ table_keys_known d cs
each_key d cs ws are once =
    ap (λ keys. known_map (keys_split d.columns) (known_all keys)) (sym (map_twice (key_known d.name cs) as_written ws) ∙ ap (map (key_known d.name cs)) are)
    ∙ sym (not_refused (any_twice are_doubled (keys_of d)) Misuse (known_map (keys_split d.columns) (known_all (map (key_known d.name cs) (keys_of d)))) (ap (any_twice are_doubled) (sym are) ∙ once))

-- ---- doubled keys

test_of_map : {A B : Type 0} (p : B → Bool) (f : A → B) (xs : List A) → list_any p (map f xs) ≡ list_any (λ x. p (f x)) xs
test_of_map p f [] = refl
test_of_map p f (x ∷ xs) = ap (λ b. p (f x) || b) (test_of_map p f xs)

module _ (ws : List keys.WrittenKey) (i : ℕ) (w : keys.WrittenKey) (lt : i < length ws) (is : w ≡ get_or ws i w) where
  abbrev is_doubled_after : Bool
  is_doubled_after = list_any (λ other. are_doubled (as_written w) (as_written other)) (drop (i + 1) ws)

  doubled_from : any_twice are_doubled (map as_written (drop i ws)) ≡ (is_doubled_after || any_twice are_doubled (map as_written (drop (i + 1) ws)))
  doubled_from =
      at_drop_more (λ zs. any_twice are_doubled (map as_written zs)) ws i w lt
      ∙ (ap (λ z. list_any (are_doubled (as_written z)) (map as_written (drop (i + 1) ws)) || any_twice are_doubled (map as_written (drop (i + 1) ws))) (sym is)
      ∙ ap (λ b. b || any_twice are_doubled (map as_written (drop (i + 1) ws))) (test_of_map (are_doubled (as_written w)) as_written (drop (i + 1) ws)))

  pub doubled_here : is_doubled_after ≡ true → true ≡ any_twice are_doubled (map as_written (drop i ws))
  doubled_here h = sym (doubled_from ∙ ap (λ b. b || any_twice are_doubled (map as_written (drop (i + 1) ws))) h)

  pub doubled_later : is_doubled_after ≡ false → any_twice are_doubled (map as_written (drop (i + 1) ws)) ≡ any_twice are_doubled (map as_written (drop i ws))
  doubled_later h = sym (doubled_from ∙ ap (λ b. b || any_twice are_doubled (map as_written (drop (i + 1) ws))) h)

-- what is left of a list from a place on is a slice of it
pub slice_drop : {A : Type 0} (n : ℕ) (xs : List A) → take (length xs - n) (drop n xs) ≡ drop n xs
slice_drop n xs = take_all (length xs - n) (drop n xs) (let long : length (drop n xs) ≡ length xs - n = length-drop n xs in omega (arith, long))

-- ---- columns, each under its own name

kept : {A : Type 0} (p : A → Bool) (xs : List A) → list_any p xs ≡ false → filter (λ x. not (p x)) xs ≡ xs
kept p [] h = refl
kept p (x ∷ xs) h =
    ap (λ b. cond (not b) (x ∷ filter (λ x. not (p x)) xs) (filter (λ x. not (p x)) xs)) (or_left (p x) (list_any p xs) h)
    ∙ ap (λ ys. x ∷ ys) (kept p xs (or_right (p x) (list_any p xs) h))

all_distinct : {A : Type 0} (same : A → A → Bool) (xs : List A) → any_twice same xs ≡ false → distinct same xs ≡ xs
all_distinct same [] h = refl
all_distinct same (x ∷ xs) h =
    ap (λ ys. x ∷ filter (λ y. not (same x y)) ys) (all_distinct same xs (or_right (list_any (same x) xs) (any_twice same xs) h))
    ∙ ap (λ ys. x ∷ ys) (kept (same x) xs (or_left (list_any (same x) xs) (any_twice same xs) h))

abbrev is_same_column : TableColumn → TableColumn → Bool
is_same_column x y = is_same_name x.name y.name

same_folded : (a b : Name) → is_same_name (folded a) (folded b) ≡ is_same_name a b
same_folded a b = ap (λ n. bytes_eq n (folded (folded b))) (folded_twice a) ∙ ap (bytes_eq (folded a)) (folded_twice b)

test_names : (c : Column) (cs : List Column) → list_any (is_same_column (as_column c)) (map as_column cs) ≡ list_any (is_same_name c.name) (column_names cs)
test_names c [] = refl
test_names c (x ∷ xs) =
    ap (λ b. b || list_any (is_same_column (as_column c)) (map as_column xs)) (same_folded c.name x.name)
    ∙ ap (λ b. is_same_name c.name x.name || b) (test_names c xs)

twice_named : (cs : List Column) → any_twice is_same_column (map as_column cs) ≡ is_twice_named cs
twice_named [] = refl
twice_named (c ∷ cs) =
    ap (λ b. b || any_twice is_same_column (map as_column cs)) (test_names c cs)
    ∙ ap (λ b. list_any (is_same_name c.name) (column_names cs) || b) (twice_named cs)

pub firsts_once : (cs : List Column) → is_twice_named cs ≡ false → firsts (map as_column cs) ≡ map as_column cs
firsts_once cs once = all_distinct is_same_column (map as_column cs) (twice_named cs ∙ once)

-- ---- the column of a name

below_from : {A : Type 0} (test : A → Bool) (i : ℕ) (xs : List A) (place : ℕ) → Some place ≡ position_from test i xs → place < i + length xs
below_from test i [] place h = absurd (none_some h)
  where
    none_some : Some place ≡ None → ⊥
    none_some e = absurd cc
below_from test i (x ∷ xs) place h = by (below_from test (i + 1) xs place) (test x) h
  where
    by : (Some place ≡ position_from test (i + 1) xs → place < i + 1 + length xs) → (b : Bool) → Some place ≡ cond b (Some i) (position_from test (i + 1) xs) → place < i + suc (length xs)
    by rest true e = let same : place ≡ i = ap (λ (o : Option ℕ). unwrap_or o 0) e in omega (arith, same)
    by rest false e = let less = rest e in omega (arith, less)

-- a place that is found is one of the list
pub is_below : (name : Name) (cs : List Column) (place : ℕ) → Some place ≡ place_named name cs → place < length cs
is_below name cs place h = let less = below_from (is_column name) 0 cs place h in omega (arith, less)

collation_there : (cs : List Column) (i : ℕ) (d : Column) → i < length cs → collation_at (map as_column cs) i ≡ (get_or cs i d).collation
collation_there [] i d lt = absurd (omega (arith, lt))
collation_there (c ∷ cs) zero d lt = refl
collation_there (c ∷ cs) (suc i) d lt = collation_there cs i d (omega (arith, lt))

module _ (table : Name) (cs : List Column) (once : is_twice_named cs ≡ false) where
  abbrev looked_up : Name → List TableColumn → Checked ℕ
  looked_up name columns = place_of (table_source table (without_rows columns None [])) name

  pub column_found : (name : Name) (place : ℕ) (d : Column) → Some place ≡ place_named name cs → place < length cs → column_known table cs name ≡ Meant (place, (get_or cs place d).collation) []
  column_found name place d is lt =
      ap (λ columns. known_map (λ i. (i, collation_at (map as_column cs) i)) (looked_up name columns)) (firsts_once cs once)
      ∙ (ap (known_map (λ i. (i, collation_at (map as_column cs) i))) (one_place_among table cs once name (ap is_none (sym is)) ∙ ap (λ (o : Option ℕ). good (unwrap_or o 0)) (sym is))
      ∙ ap (λ k. good (place, k)) (collation_there cs place d lt))

  pub column_missing : (name : Name) (f : Fault) → None ≡ place_named name cs → (f ≡ Memory) ⊎ (refusal_of f ≡ NoSuch) → IsFaultOf (faults (column_known table cs name)) f
  column_missing name f none (inl memory) = inl memory
  column_missing name f none (inr is) = mapped _ (place_of (new_source table (map as_column cs)) name) f (inr (
      subst (λ (rs : List Refusal). Contains rs (refusal_of f))
      (sym (ap (λ columns. faults (looked_up name columns)) (firsts_once cs once) ∙ no_place_among table cs once name (ap is_none (sym none))))
      (subst (Contains (NoSuch ∷ [])) (sym is) (0, omega arith, refl))))

-- ---- what is known of a list, item by item

pub at_end : {A B : Type 0} (f : B → Checked A) (xs : List B) (i : ℕ) (found : List A) → length xs ≤ i → onto_list found (known_all (map f (drop i xs))) ≡ Meant found []
at_end f xs i found past = ap (λ zs. onto_list found (known_all (map f zs))) (drop_all i xs past) ∙ ap (λ ys. Meant ys []) (append-nil found)

module _ {A B : Type 0} (f : B → Checked A) (xs : List B) (i : ℕ) (x : B) (found : List A) (lt : i < length xs) (is : x ≡ get_or xs i x) where
  next_item : onto_list found (known_all (map f (drop i xs))) ≡ onto_list found (both (λ y ys. y ∷ ys) (f x) (known_all (map f (drop (i + 1) xs))))
  next_item =
      at_drop_more (λ zs. onto_list found (known_all (map f zs))) xs i x lt
      ∙ ap (λ z. onto_list found (both (λ y ys. y ∷ ys) (f z) (known_all (map f (drop (i + 1) xs))))) (sym is)

  one_more : (y : A) (k : Checked (List A)) → onto_list (found ++ y ∷ []) k ≡ onto_list found (both (λ x xs. x ∷ xs) (good y) k)
  one_more y (Meant ys rs) = ap (λ zs. Meant zs rs) (append_assoc found (y ∷ []) ys)

  pub item_found : (y : A) → f x ≡ good y → onto_list (found ++ y ∷ []) (known_all (map f (drop (i + 1) xs))) ≡ onto_list found (known_all (map f (drop i xs)))
  item_found y h =
      one_more y (known_all (map f (drop (i + 1) xs)))
      ∙ (ap (λ k. onto_list found (both (λ z zs. z ∷ zs) k (known_all (map f (drop (i + 1) xs))))) (sym h) ∙ sym next_item)

  pub item_refused : (fault : Fault) → IsFaultOf (faults (f x)) fault → IsFaultOf (faults (onto_list found (known_all (map f (drop i xs))))) fault
  item_refused fault h =
      subst (λ k. IsFaultOf (faults k) fault) (sym next_item)
      (mapped (λ ys. found ++ ys) (both (λ y ys. y ∷ ys) (f x) (known_all (map f (drop (i + 1) xs)))) fault
      (left (λ y ys. y ∷ ys) (f x) (known_all (map f (drop (i + 1) xs))) fault h))
