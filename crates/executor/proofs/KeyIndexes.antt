-- The automatic indexes of tables that change, and how wide they are.
use Rattle.std.proofs.Common.{◌≡◌, ◌<◌, arith, refl, sym, ap, ◌∙◌, ℕ, Bool, true, false, not, ◌||◌, cond, map, filter, List, [], ◌∷◌, ◌++◌, length}
use Rattle.std.proofs.lemmas.Bool.{false≢true}
use Rattle.std.proofs.lemmas.List.{length-map}
use Rattle.std.specs.Prelude.{is_none}
use Rattle.std.specs.List.{AllByRecursion, list_any}
use Rattle.sqlval.specs.Names.{is_same_name}
use Rattle.sqlval.specs.Refusals.{Misuse}
use Rattle.sqlval.specs.Lists.{any_twice}
use Rattle.sqlval.specs.declared.collation.Collation.{Collation}
use Rattle.sql_syntax.specs.declared.create.ColumnDefinition.{ColumnDefinition}
use Rattle.sql_syntax.specs.declared.create.TableDefinition.{TableDefinition}
use Rattle.catalog.specs.Database.{AnIndex, Name}
use Rattle.catalog.specs.Listed.{as_column, as_index, is_table, key_columns, with_replaced, without_table}
use Rattle.catalog.specs.NewIndexes.{with_index, without_index}
use Rattle.catalog.specs.declared.tables.Column.{Column}
use Rattle.catalog.specs.declared.tables.Index.{Index}
use Rattle.catalog.specs.declared.tables.IndexColumn.{IndexColumn}
use Rattle.catalog.specs.declared.tables.Table.{Table}
use Rattle.query_names.specs.Checked.{Checked, good, known_all, known_map, meant}
use Rattle.query_names.specs.Creating.{HasKeysOf, are_doubled, key_known, keys_split, other_keys, places_known, rowid_place}
use Rattle.query_names.specs.Scopes.{is_doubled, place_of, resolve_places}
use Rattle.query_names.specs.Tables.{WrittenKey, collation_at, keys_of, new_source}
use Rattle.query_names.specs.declared.scope.ScopeSource.{ScopeSource}
use Rattle.query_names.proofs.TableKeys.{both_parts, map_good, unless_good}
use Rattle.db_write.specs.Changing.{is_wide}
use Rattle.db_pages.specs.Schema.{HasKeyIndexes, due_objects}
use Rattle.db_pages.proofs.Reordering.{is_reordered}
use Rattle.executor.proofs.Replacing.{IsSplitAt}
use Rattle.executor.proofs.Wide.{known_long}

-- ---- a table with other indexes

-- an item that fails a test isn't among those that pass it, wherever it stands
pub left_out : {A : Type 0} (p : A → Bool) (before : List A) (x : A) (after : List A) → p x ≡ false → filter p (before ++ x ∷ after) ≡ filter p (before ++ after)
left_out p [] x after none = ap (λ (b : Bool). cond b (x ∷ filter p after) (filter p after)) none
left_out {A} p (y ∷ before) x after none = ap (λ (ys : List A). cond (p y) (y ∷ ys) ys) (left_out p before x after none)

-- with nothing after it
last_out : {A : Type 0} (p : A → Bool) (xs : List A) (x : A) → p x ≡ false → filter p (xs ++ x ∷ []) ≡ filter p xs
last_out p [] x none = ap (λ (b : Bool). cond b (x ∷ []) []) none
last_out {A} p (y ∷ xs) x none = ap (λ (ys : List A). cond (p y) (y ∷ ys) ys) (last_out p xs x none)

-- of the other indexes the same are automatic
same_automatic : (t : Table) (others : List Index) → filter (λ (i : Index). i.is_automatic) t.indexes ≡ filter (λ (i : Index). i.is_automatic) others → HasKeyIndexes t
    → HasKeyIndexes (record t { indexes = others })
same_automatic t others same has =
    is_reordered (map (λ (i : Index). (i.name, AnIndex (as_index t i))) (filter (λ (i : Index). i.is_automatic) t.indexes))
    (map (λ (i : Index). (i.name, AnIndex (as_index t i))) (filter (λ (i : Index). i.is_automatic) others)) (due_objects t)
    (ap (map (λ (i : Index). (i.name, AnIndex (as_index t i)))) same) has

-- an index that a CREATE INDEX made is no automatic one
pub keys_with_index : (t : Table) (i : Index) → i.is_automatic ≡ false → HasKeyIndexes t → HasKeyIndexes (with_index i t)
keys_with_index t i written has = same_automatic t (t.indexes ++ i ∷ []) (sym (last_out (λ (i : Index). i.is_automatic) t.indexes i written)) has

-- without an index that a CREATE INDEX made, the automatic ones stay
pub keys_without_index : (name : Name) (t : Table) (i : Index) → IsSplitAt i t.indexes → is_same_name i.name name ≡ true → i.is_automatic ≡ false → HasKeyIndexes t
    → HasKeyIndexes (without_index name t)
keys_without_index name t i at named written has =
    same_automatic t (filter (λ (j : Index). not (is_same_name j.name name)) t.indexes)
    (ap (filter (λ (i : Index). i.is_automatic)) at.parts
    ∙ (left_out (λ (i : Index). i.is_automatic) at.before i at.after written ∙ ap (filter (λ (i : Index). i.is_automatic)) (sym (at.without name named)))) has

-- ---- what is true of all tables

-- of those with another in the place of one
pub all_replaced : (P : Table → Type 0) (new : Table) (tables : List Table) → P new → AllByRecursion P tables → AllByRecursion P (with_replaced new tables)
all_replaced P new [] one all = tt
all_replaced P new (t ∷ ts) one all = (by_test (is_same_name t.name new.name), all_replaced P new ts one all.1)
  where
    by_test : (b : Bool) → P (cond b new t)
    by_test true = one
    by_test false = all.0

-- of those without one
pub all_without : (P : Table → Type 0) (name : Name) (tables : List Table) → AllByRecursion P tables → AllByRecursion P (without_table name tables)
all_without P name [] all = tt
all_without P name (t ∷ ts) all = by_test (not (is_table name t)) (all_without P name ts all.1)
  where
    by_test : (b : Bool) → AllByRecursion P (without_table name ts) → AllByRecursion P (cond b (t ∷ without_table name ts) (without_table name ts))
    by_test true rest = (all.0, rest)
    by_test false rest = rest

-- ---- how wide the keys are

-- a key is of as many columns as it names
key_long : (table : Name) (columns : List Column) (names : List Name) (known : List (ℕ × Collation)) → places_known table columns names ≡ good known → length known ≡ length names
key_long table columns names known e =
    let places : List ℕ → List (ℕ × Collation) = map (λ i. (i, collation_at (map as_column columns) i)) in
    let source : ScopeSource = new_source table (map as_column columns) in
    let of_places = map_good places (resolve_places source names) known e in
    let each = (unless_good (is_doubled names) Misuse (known_all (map (place_of source) names)) of_places.0 of_places.1).1 in
    ap length (sym of_places.2)
    ∙ (length-map of_places.0 (λ i. (i, collation_at (map as_column columns) i))
    ∙ (ap (λ (k : Checked (List ℕ)). length (meant k)) (sym each) ∙ (known_long (map (place_of source) names) ∙ length-map names (place_of source))))

first_same : {A : Type 0} (x y : A) (xs ys : List A) → x ∷ xs ≡ y ∷ ys → x ≡ y
first_same x y xs ys e = cc

rest_same : {A : Type 0} (x y : A) (xs ys : List A) → x ∷ xs ≡ y ∷ ys → xs ≡ ys
rest_same x y xs ys e = cc

no_more : {A : Type 0} (x : A) (xs : List A) → [] ≡ x ∷ xs → ⊥
no_more x xs e = absurd cc

-- a key whose columns are known
abbrev Known : Type 0
Known = Bool × List (ℕ × Collation)

module _ (known : WrittenKey → Checked Known) (long : (key : WrittenKey) (bound : Known) → known key ≡ good bound → length bound.1 ≡ length key.1) where
  each_wide : (written : List WrittenKey) (keys : List Known) → known_all (map known written) ≡ good keys
      → list_any (λ (key : Known). is_wide (length key.1)) keys ≡ list_any (λ (key : WrittenKey). is_wide (length key.1)) written
  each_wide [] [] e = refl
  each_wide [] (key ∷ keys) e = absurd (no_more key keys (ap meant e))
  each_wide (key ∷ written) [] e =
      let parts = both_parts (λ x xs. x ∷ xs) (known key) (known_all (map known written)) [] e in
      absurd (no_more (meant (known key)) (meant (known_all (map known written))) (sym parts.2))
  each_wide (key ∷ written) (bound ∷ keys) e =
      let parts = both_parts (λ x xs. x ∷ xs) (known key) (known_all (map known written)) (bound ∷ keys) e in
      let here = first_same (meant (known key)) bound (meant (known_all (map known written))) keys parts.2 in
      let there = rest_same (meant (known key)) bound (meant (known_all (map known written))) keys parts.2 in
      let as_long : length bound.1 ≡ length key.1 = long key bound (parts.0 ∙ ap good here) in
      ap (λ n. is_wide n || list_any (λ (key : Known). is_wide (length key.1)) keys) as_long
      ∙ ap (λ b. is_wide (length key.1) || b) (each_wide written keys (parts.1 ∙ ap good there))

bound_long : (table : Name) (columns : List Column) (key : WrittenKey) (bound : Known) → key_known table columns key ≡ good bound → length bound.1 ≡ length key.1
bound_long table columns key bound e =
    let of_places = map_good (λ (places : List (ℕ × Collation)). (let known : Known = (key.0, places) in known)) (places_known table columns key.1) bound e in
    ap (λ (k : Known). length k.1) (sym of_places.2) ∙ key_long table columns key.1 of_places.0 of_places.1

-- a key that makes a column another name of the rowid has one column
one_column : (cs : List ColumnDefinition) (key : Known) → is_none (rowid_place cs key) ≡ false → is_wide (length key.1) ≡ false
one_column cs (false, columns) h = absurd (false≢true (sym h))
one_column cs (true, []) h = absurd (false≢true (sym h))
one_column cs (true, column ∷ []) h = refl
one_column cs (true, column ∷ other ∷ columns) h = absurd (false≢true (sym h))

others_wide : (cs : List ColumnDefinition) (keys : List Known) → list_any (λ (key : Known). is_wide (length key.1)) keys ≡ list_any (λ (columns : List (ℕ × Collation)). is_wide (length columns)) (other_keys cs keys)
others_wide cs [] = refl
others_wide cs (key ∷ keys) = by (others_wide cs keys) (is_none (rowid_place cs key)) refl
  where
    others : List Known
    others = filter (λ key. is_none (rowid_place cs key)) keys

    any_wide : List Known → Bool
    any_wide keys = list_any (λ (columns : List (ℕ × Collation)). is_wide (length columns)) (map (λ (key : Known). key.1) keys)

    by : list_any (λ (key : Known). is_wide (length key.1)) keys ≡ any_wide others → (b : Bool) → is_none (rowid_place cs key) ≡ b
        → (is_wide (length key.1) || list_any (λ (key : Known). is_wide (length key.1)) keys) ≡ any_wide (cond b (key ∷ others) others)
    by rest true h = ap (λ b. is_wide (length key.1) || b) rest
    by rest false h = ap (λ b. b || list_any (λ (key : Known). is_wide (length key.1)) keys) (one_column cs key h) ∙ rest

listed_wide : (listed : List (List IndexColumn)) → list_any (λ (columns : List IndexColumn). is_wide (length columns)) listed ≡ list_any (λ (columns : List (ℕ × Collation)). is_wide (length columns)) (map key_columns listed)
listed_wide [] = refl
listed_wide (columns ∷ listed) =
    ap (λ n. is_wide n || list_any (λ (columns : List IndexColumn). is_wide (length columns)) listed) (sym (length-map columns (λ (c : IndexColumn). (c.place, c.collation))))
    ∙ ap (λ b. is_wide (length (key_columns columns)) || b) (listed_wide listed)

-- a table with keys is of a definition with keys
pub some_keys : (d : TableDefinition) (t : Table) → HasKeysOf d t → 0 < length t.keys → 0 < length (keys_of d)
some_keys d t has some =
    let known = known_all (map (key_known d.name t.columns) (keys_of d)) in
    let split = (unless_good (any_twice are_doubled (keys_of d)) Misuse (known_map (keys_split d.columns) known) (t.rowid_column, map key_columns t.keys) has).1 in
    let bound = map_good (keys_split d.columns) known (t.rowid_column, map key_columns t.keys) split in
    by (keys_of d) bound.0 bound.1 (ap (λ p. p.1) bound.2)
  where
    by : (written : List WrittenKey) (keys : List Known) → known_all (map (key_known d.name t.columns) written) ≡ good keys → other_keys d.columns keys ≡ map key_columns t.keys → 0 < length written
    by [] [] e is = let none = sym (length-map t.keys key_columns) ∙ ap length (sym is) in absurd (omega (arith, none, some))
    by [] (key ∷ keys) e is = absurd (no_more key keys (ap meant e))
    by (key ∷ written) keys e is = omega arith

-- a key of a table is too wide where one of its definition is
pub wide_keys : (d : TableDefinition) (t : Table) → HasKeysOf d t
    → list_any (λ (columns : List IndexColumn). is_wide (length columns)) t.keys ≡ list_any (λ (key : WrittenKey). is_wide (length key.1)) (keys_of d)
wide_keys d t has =
    let known = known_all (map (key_known d.name t.columns) (keys_of d)) in
    let split = (unless_good (any_twice are_doubled (keys_of d)) Misuse (known_map (keys_split d.columns) known) (t.rowid_column, map key_columns t.keys) has).1 in
    let bound = map_good (keys_split d.columns) known (t.rowid_column, map key_columns t.keys) split in
    listed_wide t.keys
    ∙ (ap (λ (keys : List (List (ℕ × Collation))). list_any (λ (columns : List (ℕ × Collation)). is_wide (length columns)) keys) (sym (ap (λ p. p.1) bound.2))
    ∙ (sym (others_wide d.columns bound.0)
    ∙ each_wide (key_known d.name t.columns) (bound_long d.name t.columns) (keys_of d) bound.0 bound.1))
