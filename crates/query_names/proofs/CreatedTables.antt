-- What CREATE TABLE makes of a definition, and what refuses it.
use Rattle.std.proofs.Common.{◌≡◌, refl, sym, ap, subst, ◌∙◌, ◌⊎◌, inl, inr, ℕ, zero, suc, Bool, true, false, ◌&&◌, ◌||◌, cond, filter, List, [], ◌∷◌, ◌++◌, ◌<◌, length, map, Option, Some, None, arith}
use Rattle.std.proofs.lemmas.Bool.{false≢true}
use Rattle.std.proofs.lemmas.Bool.Decides.{nat_tests}
use Rattle.std.proofs.lemmas.List.{length-map}
use Rattle.std.proofs.lemmas.List.Elements.{Contains-append_cases, Contains-append_left, Contains-append_right}
use Rattle.std.specs.Prelude.{⊤, if◌then◌else◌, is_some, nat_lt, slice_get}
use Rattle.std.specs.List.{Contains, find, list_any}
use Rattle.std.specs.Cmp.Lexicographic.{pointwise}
use Rattle.sqlval.specs.Lists.{any_twice}
use Rattle.sqlval.specs.Names.{is_same_name}
use Rattle.sqlval.specs.Refusals.{Refusal, Exists, Misuse}
use Rattle.sql_syntax.specs.declared.create.ColumnDefinition.{ColumnDefinition}
use Rattle.sql_syntax.specs.declared.create.TableDefinition.{TableDefinition}
use Rattle.sqlval.specs.declared.collation.Collation.{Collation}
use Rattle.catalog.specs.Database as database
use Rattle.catalog.specs.Database.{Database, Name, Object, ATable, TableColumn, name_order, object, with_object}
use Rattle.catalog.proofs.Found.{names_listed}
use Rattle.catalog.specs.Laws.{NamesListed}
use Rattle.catalog.specs.Listed.{as_column, is_reserved, is_table, key_columns, own_column, place_within, with_rows}
use Rattle.catalog.specs.declared.tables.Column.{Column}
use Rattle.catalog.specs.declared.tables.Table.{Table}
use Rattle.query_names.specs.Bound.{is_twice_named}
use Rattle.query_names.specs.Creating.{HasChecksOf, HasColumnsOf, HasKeysOf, IsRuleRefusal, KeepsNamesOnce, MakesListedTable, RefusesTableAsDefined, are_doubled, checks_known, defined, described, has_doubled, key_known, keys_split, rowid_place, table_keys_known}
use Rattle.query_names.specs.Expressions.{resolve}
use Rattle.query_names.specs.Checked.{Checked, Meant, good, meant, faults, also, both, known_all, known_map, ◌and_then◌, unless}
use Rattle.query_names.specs.Schema.{automatic, create_table, with_objects}
use Rattle.query_names.specs.Scopes.{resolve_places}
use Rattle.query_names.specs.Tables.{WrittenKey, checks_of, collation_at, column_of, first_some, has_no_rowid_key, is_integer, keys_of, new_source, resolve_key, rowid_key, table_made, without_rows}
use Rattle.query_names.proofs.TableKeys.{bound, each_alike, map_good, map_of_map, paired, same_first, same_others, unless_good, with_item}

-- ---- doubled keys

not_either : (a b : Bool) → (a || b) ≡ false → (a ≡ false) × (b ≡ false)
not_either false b h = (refl, h)
not_either true b h = absurd (false≢true (sym h))

one_of_two : (a b : Bool) → (a || b) ≡ true → (a ≡ true) ⊎ (b ≡ true)
one_of_two true b h = inl refl
one_of_two false b h = inr h

either_any : {A : Type 0} (p q : A → Bool) (xs : List A) → list_any (λ x. p x || q x) xs ≡ true → (list_any p xs ≡ true) ⊎ (list_any q xs ≡ true)
either_any p q [] h = absurd (false≢true h)
either_any p q (x ∷ xs) h = by_tests (p x) (q x) (list_any p xs) (list_any q xs) (either_any p q xs) h
  where
    by_tests : (a b c d : Bool) → (list_any (λ x. p x || q x) xs ≡ true → (c ≡ true) ⊎ (d ≡ true)) → ((a || b) || list_any (λ x. p x || q x) xs) ≡ true → ((a || c) ≡ true) ⊎ ((b || d) ≡ true)
    by_tests true b c d rest h = inl refl
    by_tests false true c d rest h = inr refl
    by_tests false false c d rest h = rest h

either_twice : {A : Type 0} (p q : A → A → Bool) (xs : List A) → any_twice (λ x y. p x y || q x y) xs ≡ true → (any_twice p xs ≡ true) ⊎ (any_twice q xs ≡ true)
either_twice p q [] h = absurd (false≢true h)
either_twice p q (x ∷ xs) h = by_case (either_twice p q xs) (one_of_two (list_any (λ y. p x y || q x y) xs) (any_twice (λ x y. p x y || q x y) xs) h)
  where
    behind : (a b : Bool) → b ≡ true → (a || b) ≡ true
    behind true b h = refl
    behind false b h = h

    by_case : (any_twice (λ x y. p x y || q x y) xs ≡ true → (any_twice p xs ≡ true) ⊎ (any_twice q xs ≡ true)) → (list_any (λ y. p x y || q x y) xs ≡ true) ⊎ (any_twice (λ x y. p x y || q x y) xs ≡ true) → (any_twice p (x ∷ xs) ≡ true) ⊎ (any_twice q (x ∷ xs) ≡ true)
    by_case rest (inl here) = elim (either_any (p x) (q x) xs here) [
      | inl h ↦ inl (ap (λ b. b || any_twice p xs) h)
      | inr h ↦ inr (ap (λ b. b || any_twice q xs) h)
    ]
    by_case rest (inr later) = elim (rest later) [
      | inl h ↦ inl (behind (list_any (p x) xs) (any_twice p xs) h)
      | inr h ↦ inr (behind (list_any (q x) xs) (any_twice q xs) h)
    ]

first_any : {A : Type 0} (p q : A → Bool) (xs : List A) → list_any (λ x. p x || q x) xs ≡ false → (list_any p xs ≡ false) × (list_any q xs ≡ false)
first_any p q [] h = (refl, refl)
first_any p q (x ∷ xs) h =
    let both = not_either (p x || q x) (list_any (λ x. p x || q x) xs) h in
    let here = not_either (p x) (q x) both.0 in
    let rest = first_any p q xs both.1 in
    (ap (λ b. b || list_any p xs) here.0 ∙ rest.0, ap (λ b. b || list_any q xs) here.1 ∙ rest.1)

neither_twice : {A : Type 0} (p q : A → A → Bool) (xs : List A) → any_twice (λ x y. p x y || q x y) xs ≡ false → (any_twice p xs ≡ false) × (any_twice q xs ≡ false)
neither_twice p q [] h = (refl, refl)
neither_twice p q (x ∷ xs) h =
    let both = not_either (list_any (λ y. p x y || q x y) xs) (any_twice (λ x y. p x y || q x y) xs) h in
    let here = first_any (p x) (q x) xs both.0 in
    let rest = neither_twice p q xs both.1 in
    (ap (λ b. b || any_twice p xs) here.0 ∙ rest.0, ap (λ b. b || any_twice q xs) here.1 ∙ rest.1)

-- ---- texts that aren't refused

then_good : {A B : Type 0} (k : Checked A) (x : A) (f : A → Checked B) → k ≡ good x → (k and_then f) ≡ f x
then_good k x f e = ap (λ k. k and_then f) e ∙ plain (f x)
  where
    plain : {B : Type 0} (l : Checked B) → also [] l ≡ l
    plain (Meant y ss) = refl

unless_false : {A : Type 0} (b : Bool) (r : Refusal) (k : Checked A) → b ≡ false → unless b r k ≡ k
unless_false true r k h = absurd (false≢true (sym h))
unless_false false r (Meant x ss) h = refl

both_good : {A B C : Type 0} (f : A → B → C) (k : Checked A) (l : Checked B) (x : A) (y : B) → k ≡ good x → l ≡ good y → both f k l ≡ good (f x y)
both_good f k l x y h g = ap (λ k. both f k l) h ∙ ap (both f (good x)) g

-- ---- the columns

heads : {A B : Type 0} (f : A → B) (x : A) (y : B) (xs : List A) (ys : List B) → f x ∷ map f xs ≡ y ∷ ys → (f x ≡ y) × (map f xs ≡ ys)
heads f x y xs ys h = (cc, cc)

pub known_columns : (cs : List ColumnDefinition) (columns : List Column) → map described columns ≡ map defined cs → known_all (map column_of cs) ≡ good (map as_column columns)
known_columns [] [] same = refl
known_columns [] (column ∷ columns) same = absurd cc
known_columns (c ∷ cs) [] same = absurd cc
known_columns (c ∷ cs) (column ∷ columns) same =
    let parts = heads described column (defined c) columns (map defined cs) same in
    both_good (λ (x : TableColumn) xs. x ∷ xs) (column_of c) (known_all (map column_of cs)) (as_column column) (map as_column columns)
    (sym (ap (λ x. x.1) parts.0)) (known_columns cs columns parts.1)

pub named_columns : (cs : List ColumnDefinition) (columns : List Column) → map described columns ≡ map defined cs → map (λ c. c.name) columns ≡ map (λ c. c.name) cs
named_columns [] [] same = refl
named_columns [] (column ∷ columns) same = absurd cc
named_columns (c ∷ cs) [] same = absurd cc
named_columns (c ∷ cs) (column ∷ columns) same =
    let parts = heads described column (defined c) columns (map defined cs) same in
    let h : column.name ≡ c.name = ap (λ x. x.0) parts.0 in
    let k = named_columns cs columns parts.1 in
    cc

-- ---- the table

-- a place, if there is one, is less than this
abbrev IsBelow : ℕ → Option ℕ → Type 0
IsBelow n None = ⊤
IsBelow n (Some i) = i < n

integer_there : (cs : List ColumnDefinition) (i : ℕ) → is_integer (slice_get cs i) ≡ true → i < length cs
integer_there [] i h = absurd (false≢true h)
integer_there (c ∷ cs) zero h = omega arith
integer_there (c ∷ cs) (suc i) h = (let lt = integer_there cs i h in omega (arith, lt))

place_below : (cs : List ColumnDefinition) (key : Bool × List (ℕ × Collation)) → IsBelow (length cs) (rowid_place cs key)
place_below cs (false, columns) = tt
place_below cs (true, []) = tt
place_below cs (true, column ∷ other ∷ columns) = tt
place_below cs (true, column ∷ []) = by_test (is_integer (slice_get cs column.0)) refl
  where
    by_test : (b : Bool) → is_integer (slice_get cs column.0) ≡ b → IsBelow (length cs) (cond b (Some column.0) None)
    by_test true h = integer_there cs column.0 h
    by_test false h = tt

first_below : (cs : List ColumnDefinition) (keys : List (Bool × List (ℕ × Collation))) → IsBelow (length cs) (first_some (rowid_place cs) keys)
first_below cs [] = tt
first_below cs (key ∷ keys) = by_place (rowid_place cs key) (place_below cs key) (first_below cs keys)
  where
    by_place : (o : Option ℕ) → IsBelow (length cs) o → IsBelow (length cs) (first_some (rowid_place cs) keys)
        → IsBelow (length cs) (elim o as (λ x. Option ℕ) [ Some y ↦ Some y | None ↦ first_some (rowid_place cs) keys ])
    by_place (Some i) h rest = h
    by_place None h rest = rest

module _ (d : TableDefinition) (t : Table) (once : has_doubled d.columns ≡ false) (same : HasColumnsOf d t) (keys : HasKeysOf d t) where
  abbrev collation : ℕ → Collation
  collation i = collation_at (map as_column t.columns) i

  abbrev looked : WrittenKey → Checked (List ℕ)
  looked key = resolve_places (new_source d.name (map as_column t.columns)) key.1

  abbrev pairs : Checked (List (WrittenKey × List ℕ))
  pairs = known_all (map (with_item looked) (keys_of d))

  abbrev as_places : WrittenKey × List ℕ → Bool × List ℕ
  as_places p = (p.0.0, p.1)

  abbrev as_bound_pair : WrittenKey × List ℕ → Bool × List (ℕ × Collation)
  as_bound_pair p = bound d.columns collation (as_places p)

  parts : (any_twice are_doubled (keys_of d) ≡ false) × (known_map (keys_split d.columns) (known_all (map (key_known d.name t.columns) (keys_of d))) ≡ good (t.rowid_column, map key_columns t.keys))
  parts = unless_good (any_twice are_doubled (keys_of d)) Misuse (known_map (keys_split d.columns) (known_all (map (key_known d.name t.columns) (keys_of d)))) (t.rowid_column, map key_columns t.keys) keys

  all_bound : known_all (map (key_known d.name t.columns) (keys_of d)) ≡ known_map (map as_bound_pair) pairs
  all_bound =
      ap known_all (each_alike (key_known d.name t.columns) (λ (key : WrittenKey). known_map (λ is. (key.0, map (λ i. (i, collation i)) is)) (looked key))
      (λ key. map_of_map (λ places. (key.0, places)) (map (λ i. (i, collation i))) (looked key)) (keys_of d))
      ∙ paired looked (λ (key : WrittenKey) is. (key.0, map (λ i. (i, collation i)) is)) (keys_of d)

  pairs_are : (ps : List (WrittenKey × List ℕ)) × (pairs ≡ good ps) × (keys_split d.columns (map as_bound_pair ps) ≡ (t.rowid_column, map key_columns t.keys))
  pairs_are = map_good (λ (ps : List (WrittenKey × List ℕ)). keys_split d.columns (map as_bound_pair ps)) pairs (t.rowid_column, map key_columns t.keys)
      (sym (ap (known_map (keys_split d.columns)) all_bound ∙ map_of_map (keys_split d.columns) (map as_bound_pair) pairs) ∙ parts.1)

  resolved : (ps : List (WrittenKey × List ℕ)) → pairs ≡ good ps → known_all (map (λ (k : WrittenKey). known_map (λ is. (k.0, is)) (looked k)) (keys_of d)) ≡ good (map as_places ps)
  resolved ps is = paired looked (λ k is. (k.0, is)) (keys_of d) ∙ ap (known_map (map as_places)) is

  bound_mapped : (ps : List (WrittenKey × List ℕ)) → map as_bound_pair ps ≡ map (bound d.columns collation) (map as_places ps)
  bound_mapped [] = refl
  bound_mapped (p ∷ ps) = ap (λ zs. as_bound_pair p ∷ zs) (bound_mapped ps)

  abbrev made_of : Option ℕ × List (List (ℕ × Collation)) → Checked (database.Table × List (List (ℕ × Collation)))
  made_of parts = good (without_rows (map as_column t.columns) parts.0 t.checks, parts.1)

  same_count : length d.columns ≡ length t.columns
  same_count = sym (length-map d.columns (λ (c : ColumnDefinition). c.name)) ∙ (ap length (sym (named_columns d.columns t.columns same)) ∙ length-map t.columns (λ (c : Column). c.name))

  within_columns : IsBelow (length d.columns) t.rowid_column → t.rowid_column ≡ own_column t
  within_columns below = by_place t.rowid_column below
    where
      by_place : (o : Option ℕ) → IsBelow (length d.columns) o → o ≡ place_within (length t.columns) o
      by_place None h = refl
      by_place (Some i) h =
          let lt : i < length t.columns = subst (λ n. i < n) same_count h in
          let yes : nat_lt i (length t.columns) ≡ true = grind (arith, nat_tests) in
          ap (λ (b : Bool). cond b (Some i) None) (sym yes)

  keys_made : (ps : List (WrittenKey × List ℕ)) → keys_split d.columns (map as_bound_pair ps) ≡ (t.rowid_column, map key_columns t.keys)
      → made_of (first_some (rowid_key d.columns) (map as_places ps), map (λ (k : Bool × List ℕ). map (λ i. (i, collation i)) k.1) (filter (has_no_rowid_key d.columns) (map as_places ps)))
      ≡ good (with_rows t [], map key_columns t.keys)
  keys_made ps are =
      let ks = map as_places ps in
      let first : first_some (rowid_place d.columns) (map as_bound_pair ps) ≡ t.rowid_column = ap (λ p. p.0) are in
      let own : t.rowid_column ≡ own_column t = within_columns (subst (λ (o : Option ℕ). IsBelow (length d.columns) o) first (first_below d.columns (map as_bound_pair ps))) in
      let split : keys_split d.columns (map (bound d.columns collation) ks) ≡ (own_column t, map key_columns t.keys) =
      ap (keys_split d.columns) (sym (bound_mapped ps)) ∙ are ∙ ap (λ (o : Option ℕ). (o, map key_columns t.keys)) own in
      ap (λ (o : Option ℕ). made_of (o, map (λ (k : Bool × List ℕ). map (λ i. (i, collation i)) k.1) (filter (has_no_rowid_key d.columns) ks))) (sym (same_first d.columns collation ks))
      ∙ (ap (λ (them : List (List (ℕ × Collation))). made_of (first_some (rowid_place d.columns) (map (bound d.columns collation) ks), them)) (sym (same_others d.columns collation ks))
      ∙ ap made_of split)

  pub listed_made : HasChecksOf d t → table_made d ≡ good (with_rows t [], map key_columns t.keys)
  listed_made checks =
      let apart = neither_twice (λ (k l : WrittenKey). k.0 && l.0) (λ (k l : WrittenKey). pointwise is_same_name k.1 l.1) (keys_of d) parts.0 in
      unless_false (has_doubled d.columns) Misuse _ once
      ∙ unless_false _ Misuse _ apart.0
      ∙ unless_false _ Misuse _ apart.1
      ∙ then_good (known_all (map column_of d.columns)) (map as_column t.columns) _ (known_columns d.columns t.columns same)
      ∙ then_good (checks_known d t.columns) t.checks _ checks
      ∙ then_good _ (map as_places pairs_are.0) _ (resolved pairs_are.0 pairs_are.1)
      ∙ keys_made pairs_are.0 pairs_are.2

-- ---- the database

-- a name that is none of those listed finds nothing, and one that is finds something
nothing : (found : Option Object) → is_some found ≡ false → found ≡ None
nothing None h = refl
nothing (Some o) h = absurd (false≢true (sym h))

something : (found : Option Object) → is_some found ≡ true → (o : Object) × (found ≡ Some o)
something None h = absurd (false≢true h)
something (Some o) h = (o, refl)

-- an object whose name is free and new, and what is made of the database with it
is_added : (f : Database → Database) (db : Database) (n : Name) (o : Object) (reserved : Bool) (taken : Option Object) → reserved ≡ false → taken ≡ None
    → known_map f (unless reserved Misuse (unless (is_some taken) Exists (known_map (with_object db n) (good o)))) ≡ good (f (with_object db n o))
is_added f db n o reserved taken free fresh =
    ap (λ b. known_map f (unless b Misuse (unless (is_some taken) Exists (known_map (with_object db n) (good o))))) free
    ∙ ap (λ t. known_map f (unless false Misuse (unless (is_some t) Exists (known_map (with_object db n) (good o))))) fresh

pub makes_by : NamesListed → MakesListedTable
makes_by listed_names rows_at l db d t lists fresh same checks keys =
    then_good (table_made d) (with_rows t [], map key_columns t.keys) _ (listed_made d t fresh.once same keys checks)
    ∙ is_added (λ after. with_objects after (automatic d.name 1 (map key_columns t.keys))) db d.name (ATable (with_rows t [])) (is_reserved d.name) (object db d.name) fresh.free
    (nothing (object db d.name) (listed_names rows_at l db d.name lists ∙ fresh.new))

-- ---- refusals

-- this is among its refusals
record Has {A : Type 0} (k : Checked A) (r : Refusal) : Type 0 where
  among : Contains (faults k) r

same_faults : {A B : Type 0} (f : A → B) (k : Checked A) → faults (known_map f k) ≡ faults k
same_faults f (Meant x rs) = refl

unless_has : {A : Type 0} (b : Bool) (r : Refusal) (k : Checked A) → b ≡ true → Has (unless b r k) r
unless_has true r (Meant x ss) h = record { among = (0, omega arith, refl) }
unless_has false r k h = absurd (false≢true h)

also_front : {A : Type 0} (rs : List Refusal) (k : Checked A) (r : Refusal) → Contains rs r → Has (also rs k) r
also_front rs (Meant x ss) r h = record { among = Contains-append_left rs ss r h }

also_behind : {A : Type 0} (rs : List Refusal) (k : Checked A) (r : Refusal) → Has k r → Has (also rs k) r
also_behind rs (Meant x ss) r h = record { among = Contains-append_right rs ss r h.among }

unless_later : {A : Type 0} (b : Bool) (r s : Refusal) (k : Checked A) → Has k s → Has (unless b r k) s
unless_later b r s k h = also_behind (if b then (r ∷ []) else []) k s h

then_has : {A B : Type 0} (k : Checked A) (f : A → Checked B) (r : Refusal) → Has k r → Has (k and_then f) r
then_has (Meant x rs) f r h = also_front rs (f x) r h.among

then_later : {A B : Type 0} (k : Checked A) (f : A → Checked B) (r : Refusal) → Has (f (meant k)) r → Has (k and_then f) r
then_later (Meant x rs) f r h = also_behind rs (f x) r h

both_first : {A B C : Type 0} (f : A → B → C) (k : Checked A) (l : Checked B) (r : Refusal) → Has k r → Has (both f k l) r
both_first f (Meant x rs) (Meant y ss) r h = record { among = Contains-append_left rs ss r h.among }

both_second : {A B C : Type 0} (f : A → B → C) (k : Checked A) (l : Checked B) (r : Refusal) → Has l r → Has (both f k l) r
both_second f (Meant x rs) (Meant y ss) r h = record { among = Contains-append_right rs ss r h.among }

map_has : {A B : Type 0} (f : A → B) (k : Checked A) (r : Refusal) → Has k r → Has (known_map f k) r
map_has f (Meant x rs) r h = record { among = h.among }

-- a refusal is that of the test, or comes after it
unless_cases : {A : Type 0} (b : Bool) (r s : Refusal) (k : Checked A) → Contains (faults (unless b r k)) s → ((s ≡ r) × (b ≡ true)) ⊎ Contains (faults k) s
unless_cases true r s (Meant x ss) h = elim (Contains-append_cases (r ∷ []) ss s h) [
  | inl here ↦ inl (only_one here, refl)
  | inr rest ↦ inr rest
]
  where
    only_one : Contains (r ∷ []) s → s ≡ r
    only_one (zero, less, e) = sym e
    only_one (suc n, less, e) = absurd (omega (arith, less))
unless_cases false r s (Meant x ss) h = inr h

-- the CHECKs and keys of a definition over these columns, and the table
abbrev rules_made : TableDefinition → List TableColumn → Checked (database.Table × List (List (ℕ × Collation)))
rules_made d columns =
    known_all (map (resolve false (new_source d.name columns ∷ [])) (checks_of d)) and_then λ checks.
    known_all (map (resolve_key (new_source d.name columns)) (keys_of d)) and_then λ keys.
    good (
      without_rows columns (first_some (rowid_key d.columns) keys) checks,
      map (λ k. map (λ i. (i, collation_at columns i)) k.1) (filter (has_no_rowid_key d.columns) keys),
    )

module _ (db : Database) (d : TableDefinition) where
  -- the new object, and with the test whether another has its name
  abbrev placed : Checked Database
  placed = known_map (with_object db d.name) (good (ATable (meant (table_made d)).0))

  abbrev tried : Checked Database
  tried = unless (is_some (object db d.name)) Exists placed

  reserved_refused : is_reserved d.name ≡ true → Has (create_table db d) Misuse
  reserved_refused h = then_later (table_made d) _ Misuse (map_has (λ after. with_objects after (automatic d.name 1 (meant (table_made d)).1)) _ Misuse (unless_has (is_reserved d.name) Misuse tried h))

  taken_refused : (o : Object) → object db d.name ≡ Some o → Has (create_table db d) Exists
  taken_refused o h = then_later (table_made d) _ Exists (map_has (λ after. with_objects after (automatic d.name 1 (meant (table_made d)).1)) _ Exists (unless_later (is_reserved d.name) Misuse Exists tried (unless_has (is_some (object db d.name)) Exists placed (ap is_some h))))

  doubled_refused : has_doubled d.columns ≡ true → Has (create_table db d) Misuse
  doubled_refused h = then_has (table_made d) _ Misuse (unless_has (has_doubled d.columns) Misuse _ h)

  column_refused : (r : Refusal) → Contains (faults (known_all (map column_of d.columns))) r → Has (create_table db d) r
  column_refused r h = then_has (table_made d) _ r
      (unless_later (has_doubled d.columns) Misuse r _ (unless_later _ Misuse r _ (unless_later _ Misuse r _
      (then_has (known_all (map column_of d.columns)) _ r (record { among = h })))))

  -- past the tests of doubled columns and keys, where the columns are known
  in_rules : (r : Refusal) (columns : List Column) → map described columns ≡ map defined d.columns → ((cs : List TableColumn) → cs ≡ map as_column columns → Has (rules_made d cs) r) → Has (create_table db d) r
  in_rules r columns same has = then_has (table_made d) _ r
      (unless_later (has_doubled d.columns) Misuse r _ (unless_later _ Misuse r _ (unless_later _ Misuse r _
      (then_later (known_all (map column_of d.columns)) _ r
      (has (meant (known_all (map column_of d.columns))) (ap meant (known_columns d.columns columns same)))))))

  check_refused : (r : Refusal) (columns : List Column) → map described columns ≡ map defined d.columns → Contains (faults (checks_known d columns)) r → Has (create_table db d) r
  check_refused r columns same h = in_rules r columns same (λ cs are.
      then_has (known_all (map (resolve false (new_source d.name cs ∷ [])) (checks_of d))) _ r (record {
        among = subst (λ (cs : List TableColumn). Contains (faults (known_all (map (resolve false (new_source d.name cs ∷ [])) (checks_of d)))) r) (sym are) h;
      }))

  twice_refused : any_twice are_doubled (keys_of d) ≡ true → Has (create_table db d) Misuse
  twice_refused h = then_has (table_made d) _ Misuse (unless_later (has_doubled d.columns) Misuse Misuse _
      (by_test _ (either_twice (λ (k l : WrittenKey). k.0 && l.0) (λ (k l : WrittenKey). pointwise is_same_name k.1 l.1) (keys_of d) h)))
    where
      by_test : {A : Type 0} (k : Checked A) → (any_twice (λ (k l : WrittenKey). k.0 && l.0) (keys_of d) ≡ true) ⊎ (any_twice (λ (k l : WrittenKey). pointwise is_same_name k.1 l.1) (keys_of d) ≡ true)
          → Has (unless (any_twice (λ (k l : WrittenKey). k.0 && l.0) (keys_of d)) Misuse (unless (any_twice (λ (k l : WrittenKey). pointwise is_same_name k.1 l.1) (keys_of d)) Misuse k)) Misuse
      by_test k (inl h) = unless_has _ Misuse _ h
      by_test k (inr h) = unless_later _ Misuse Misuse _ (unless_has _ Misuse _ h)

  places_refused : (r : Refusal) (columns : List Column) → map described columns ≡ map defined d.columns → Contains (faults (known_all (map (key_known d.name columns) (keys_of d)))) r
      → Has (create_table db d) r
  places_refused r columns same h = in_rules r columns same (λ cs are.
      then_later (known_all (map (resolve false (new_source d.name cs ∷ [])) (checks_of d))) _ r
      (then_has (known_all (map (resolve_key (new_source d.name cs)) (keys_of d))) _ r (record {
        among = subst (λ (cs : List TableColumn). Contains (faults (known_all (map (resolve_key (new_source d.name cs)) (keys_of d)))) r) (sym are) (as_resolved h);
      })))
    where
      places : WrittenKey → Checked (List ℕ)
      places key = resolve_places (new_source d.name (map as_column columns)) key.1

      as_resolved : Contains (faults (known_all (map (key_known d.name columns) (keys_of d)))) r
          → Contains (faults (known_all (map (resolve_key (new_source d.name (map as_column columns))) (keys_of d)))) r
      as_resolved h = subst (λ rs. Contains rs r)
          (ap faults (ap known_all (each_alike (key_known d.name columns) (λ (key : WrittenKey). known_map (λ is. (key.0, map (λ (i : ℕ). (i, collation_at (map as_column columns) i)) is)) (places key))
          (λ key. map_of_map (λ them. (key.0, them)) (map (λ (i : ℕ). (i, collation_at (map as_column columns) i))) (places key)) (keys_of d))
          ∙ paired places (λ (key : WrittenKey) is. (key.0, map (λ (i : ℕ). (i, collation_at (map as_column columns) i)) is)) (keys_of d)) ∙ (same_faults _ (known_all (map (with_item places) (keys_of d)))
          ∙ (sym (same_faults _ (known_all (map (with_item places) (keys_of d)))) ∙ sym (ap faults (paired places (λ k is. (k.0, is)) (keys_of d)))))) h

  key_refused : (r : Refusal) (columns : List Column) → map described columns ≡ map defined d.columns → Contains (faults (table_keys_known d columns)) r → Has (create_table db d) r
  key_refused r columns same h = elim (unless_cases (any_twice are_doubled (keys_of d)) Misuse r (known_map (keys_split d.columns) (known_all (map (key_known d.name columns) (keys_of d)))) h) [
    | inl (e, twice) ↦ subst (Has (create_table db d)) (sym e) (twice_refused twice)
    | inr rest ↦ places_refused r columns same (subst (λ rs. Contains rs r) (same_faults (keys_split d.columns) (known_all (map (key_known d.name columns) (keys_of d)))) rest)
  ]

  rule_refused : (r : Refusal) → IsRuleRefusal d r → Has (create_table db d) r
  rule_refused r (columns, same, inl h) = check_refused r columns same h
  rule_refused r (columns, same, inr h) = key_refused r columns same h

  refused_so : (r s : Refusal) → r ≡ s → Has (create_table db d) s → Contains (faults (create_table db d)) r
  refused_so r s e h = subst (Contains (faults (create_table db d))) (sym e) h.among

pub refuses_by : NamesListed → RefusesTableAsDefined
refuses_by listed_names rows_at l db d r lists (inl (e, h)) = refused_so db d r Misuse e (reserved_refused db d h)
refuses_by listed_names rows_at l db d r lists (inr (inl (e, h))) =
    let (o, is) = something (object db d.name) (listed_names rows_at l db d.name lists ∙ h) in refused_so db d r Exists e (taken_refused db d o is)
refuses_by listed_names rows_at l db d r lists (inr (inr (inl (e, h)))) = refused_so db d r Misuse e (doubled_refused db d h)
refuses_by listed_names rows_at l db d r lists (inr (inr (inr (inl h)))) = (column_refused db d r h).among
refuses_by listed_names rows_at l db d r lists (inr (inr (inr (inr h)))) = (rule_refused db d r h).among

pub makes_table : MakesListedTable
makes_table = makes_by names_listed

pub refuses_table : RefusesTableAsDefined
refuses_table = refuses_by names_listed

-- ---- names of columns

-- what is found with one item more is found without it, or is that item
at_end : {A : Type 0} (p : A → Bool) (xs : List A) (x t : A) → find p (xs ++ x ∷ []) ≡ Some t → (find p xs ≡ Some t) ⊎ (x ≡ t)
at_end p [] x t h = by_test (p x) h
  where
    by_test : (b : Bool) → cond b (Some x) None ≡ Some t → (None ≡ Some t) ⊎ (x ≡ t)
    by_test true h = inr cc
    by_test false h = inl h
at_end p (y ∷ xs) x t h = by_test (at_end p xs x t) (p y) h
  where
    by_test : (find p (xs ++ x ∷ []) ≡ Some t → (find p xs ≡ Some t) ⊎ (x ≡ t)) → (b : Bool) → cond b (Some y) (find p (xs ++ x ∷ [])) ≡ Some t → (cond b (Some y) (find p xs) ≡ Some t) ⊎ (x ≡ t)
    by_test rest true h = inl h
    by_test rest false h = rest h

pub keeps_once : KeepsNamesOnce
keeps_once tables d t each once same name u found = elim (at_end (is_table name) tables t u found) [
  | inl h ↦ each name u h
  | inr e ↦ subst (λ u. is_twice_named u.columns ≡ false) e (ap (any_twice is_same_name) (named_columns d.columns t.columns same) ∙ once)
]

-- ---- definitions that aren't refused

-- the name may be given, no two columns have one name, and no column, CHECK and key is refused
pub record IsAccepted (d : TableDefinition) : Type 0 where
  pub free : is_reserved d.name ≡ false
  pub once : has_doubled d.columns ≡ false
  pub known : faults (known_all (map column_of d.columns)) ≡ []
  pub checked : (columns : List Column) → map described columns ≡ map defined d.columns → faults (checks_known d columns) ≡ []
  pub keyed : (columns : List Column) → map described columns ≡ map defined d.columns → faults (table_keys_known d columns) ≡ []

-- a list without items, if there is no item in another that each of its own is in
none_in : (rs : List Refusal) (k : Checked Database) → faults k ≡ [] → ((r : Refusal) → Contains rs r → Has k r) → rs ≡ []
none_in [] k none each = refl
none_in (r ∷ rs) k none each = (let among = subst (λ ss. Contains ss r) none (each r (0, omega arith, refl)).among in absurd (omega (arith, among.1)))

not_so : {A : Type 0} (k : Checked A) (r : Refusal) (b : Bool) → faults k ≡ [] → (b ≡ true → Has k r) → b ≡ false
not_so k r true none has = (let among = subst (λ rs. Contains rs r) none (has refl).among in absurd (omega (arith, among.1)))
not_so k r false none has = refl

pub accepted : (db : Database) (d : TableDefinition) → faults (create_table db d) ≡ [] → IsAccepted d
accepted db d none = record {
  free = not_so (create_table db d) Misuse (is_reserved d.name) none (reserved_refused db d);
  once = not_so (create_table db d) Misuse (has_doubled d.columns) none (doubled_refused db d);
  known = none_in (faults (known_all (map column_of d.columns))) (create_table db d) none (column_refused db d);
  checked = λ columns same. none_in (faults (checks_known d columns)) (create_table db d) none (λ r h. check_refused db d r columns same h);
  keyed = λ columns same. none_in (faults (table_keys_known d columns)) (create_table db d) none (λ r h. key_refused db d r columns same h);
}
