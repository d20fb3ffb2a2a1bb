-- The automatic indexes of a table, and those that its keys ask for.
use Rattle.std.proofs.Common.{◌≡◌, ◌∙◌, ◌≤◌, ◌==◌, inl, inr, refl, sym, ap, subst, ℕ, suc, Bool, true, false, ◌&&◌, cond, List, [], ◌∷◌, ◌++◌, length, map, filter, arith}
use Rattle.std.specs.Prelude.{⊤}
use Rattle.std.specs.List.{AllByRecursion, list_all, list_any}
use Rattle.std.proofs.lemmas.Bool.{false≢true}
use Rattle.std.proofs.lemmas.Bool.Decides.{nat_tests}
use Rattle.sqlval.specs.Lists.{any_twice}
use Rattle.sqlval.specs.Names.{folded, is_same_name}
use Rattle.sqlval.specs.declared.collation.Collation.{Collation}
use Rattle.catalog.specs.Database as database
use Rattle.catalog.specs.Database.{AnIndex, Name, Object}
use Rattle.catalog.specs.Listed.{Listed, as_index, key_columns}
use Rattle.catalog.specs.declared.tables.Index.{Index}
use Rattle.catalog.specs.declared.tables.Table.{Table}
use Rattle.catalog.proofs.NamedDatabases.{folded_twice}
use Rattle.query_names.specs.Schema.{automatic, automatic_name}
use Rattle.db_pages.specs.Schema.{HasKeyIndexes, IndexTold, TableTold, Told, TriggerTold, ViewTold, all_told, automatic_objects, due_objects, tables_told}
use Rattle.db_load.specs.Loading.{bare}
use Rattle.db_load.specs.Reading.{AreDueOnce, IsDue, IsDueTold, StandsIn, has_all_keys, name_told, parts_of}
use Rattle.db_pages.proofs.Reordering.{reordered_map}
use Rattle.db_load.proofs.DueItems.{all_of, all_of_them, differ, few, once_kept}
use Rattle.db_load.proofs.Items.{all_back, all_both, all_front, among_filter, among_map, among_reordered}
use Rattle.db_load.proofs.ToldAdded.{index_parts, once_first, parts_more}
use Rattle.db_load.proofs.ToldParts.{AreApart, apart_first, apart_more, index_names, map_append, names_told, neither, of_tables, reordered_twice, table_parts, treeless_all, treeless_told}

-- ---- what the keys ask for

due_length : (table : Name) (n : ℕ) (ks : List (List (ℕ × Collation))) → length (automatic table n ks) ≡ length ks
due_length table n [] = refl
due_length table n (k ∷ ks) = ap suc (due_length table (suc n) ks)

map_length : {A B : Type 0} (f : A → B) (xs : List A) → length (map f xs) ≡ length xs
map_length f [] = refl
map_length f (x ∷ xs) = ap suc (map_length f xs)

-- as many as there are keys
pub due_many : (t : Table) → length (due_objects t) ≡ length t.keys
due_many t = due_length t.name 1 (map key_columns t.keys) ∙ map_length key_columns t.keys

-- what such an index is
pub record IsDueForm (name : Name) (i : database.Index) : Type 0 where
  pub low : folded name ≡ name
  pub unique : i.is_unique ≡ true
  pub automatic : i.is_automatic ≡ true

pub the_index : (i j : database.Index) → AnIndex i ≡ AnIndex j → i ≡ j
the_index i j h = cc

pub due_form : (table : Name) (n : ℕ) (ks : List (List (ℕ × Collation))) (name : Name) (i : database.Index) → StandsIn (name, AnIndex i) (automatic table n ks) → IsDueForm name i
due_form table n [] name i is = absurd is
due_form table n (k ∷ ks) name i (inl same) =
    let at : folded (automatic_name table n) ≡ name = ap (λ (o : Name × Object). o.0) same in
    let made : database.Index = record { table = folded table; is_unique = true; is_automatic = true; columns = k } in
    let one : made ≡ i = the_index made i (ap (λ (o : Name × Object). o.1) same) in
    record {
      low = ap folded (sym at) ∙ (folded_twice (automatic_name table n) ∙ at);
      unique = ap (λ (x : database.Index). x.is_unique) (sym one);
      automatic = ap (λ (x : database.Index). x.is_automatic) (sym one);
    }
due_form table n (k ∷ ks) name i (inr later) = due_form table (suc n) ks name i later

-- ---- one table

abbrev pub names_in : Table → List Name
names_in t = map (λ (i : Index). i.name) t.indexes

abbrev pub automatic_in : Table → List Index
automatic_in t = filter (λ (i : Index). i.is_automatic) t.indexes

-- an index under its name
abbrev pub object_of : Table → Index → Name × Object
object_of t i = (i.name, AnIndex (as_index t i))

-- the names of the automatic indexes
map_twice : (t : Table) (is : List Index) → map (λ (o : Name × Object). o.0) (map (object_of t) is) ≡ map (λ (i : Index). i.name) is
map_twice t [] = refl
map_twice t (i ∷ is) = ap (λ ns. i.name ∷ ns) (map_twice t is)

objects_once : (t : Table) → any_twice is_same_name (names_in t) ≡ false → any_twice is_same_name (map (λ (o : Name × Object). o.0) (automatic_objects t)) ≡ false
objects_once t once = ap (any_twice is_same_name) (map_twice t (automatic_in t)) ∙ once_kept (λ (i : Index). i.name) (λ (i : Index). i.is_automatic) t.indexes once

-- those that its keys ask for have different names
pub due_once : (t : Table) → HasKeyIndexes t → any_twice is_same_name (names_in t) ≡ false → AreDueOnce t
due_once t has once =
    sym (reordered_twice (map (λ (o : Name × Object). o.0) (automatic_objects t)) (map (λ (o : Name × Object). o.0) (due_objects t))
    (reordered_map (λ (o : Name × Object). o.0) (automatic_objects t) (due_objects t) has)) ∙ objects_once t once

-- each automatic index is one of them
pub are_due : (t : Table) → HasKeyIndexes t → AllByRecursion (IsDue t) t.indexes
are_due t has =
    all_of (IsDue t) t.indexes
    (λ i is automatic. among_reordered (object_of t i) (automatic_objects t) (due_objects t) has
    (among_map (object_of t) i (automatic_in t) (among_filter (λ (i : Index). i.is_automatic) i t.indexes automatic is)))

due_there : (t : Table) (is : List Index) → AllByRecursion (IsDue t) is → AllByRecursion (λ (o : Name × Object). StandsIn o (due_objects t)) (map (object_of t) (filter (λ (i : Index). i.is_automatic) is))
due_there t [] all = tt
due_there t (i ∷ is) all = by_test i.is_automatic all.0 (due_there t is all.1)
  where
    by_test : (b : Bool) → (b ≡ true → StandsIn (object_of t i) (due_objects t)) → AllByRecursion (λ (o : Name × Object). StandsIn o (due_objects t)) (map (object_of t) (filter (λ (i : Index). i.is_automatic) is))
        → AllByRecursion (λ (o : Name × Object). StandsIn o (due_objects t)) (map (object_of t) (cond b (i ∷ filter (λ (i : Index). i.is_automatic) is) (filter (λ (i : Index). i.is_automatic) is)))
    by_test true there rest = (there refl, rest)
    by_test false there rest = rest

pub objects_many : (t : Table) → length (automatic_objects t) ≡ length (automatic_in t)
objects_many t = map_length (object_of t) (automatic_in t)

pub objects_few : (t : Table) → any_twice is_same_name (names_in t) ≡ false → AllByRecursion (IsDue t) t.indexes → length (automatic_in t) ≤ length t.keys
objects_few t once due =
    let many = few (automatic_objects t) (due_objects t) (differ (λ (o : Name × Object). o.0) (automatic_objects t) (objects_once t once)) (due_there t t.indexes due) in
    let mine = objects_many t in
    let theirs = due_many t in omega (arith, many, mine, theirs)

pub number_is : (a b : ℕ) → (a == b) ≡ true → a ≡ b
number_is a b h = grind (arith, nat_tests)

pub is_number : (a b : ℕ) → a ≡ b → (a == b) ≡ true
is_number a b h = grind (arith, nat_tests)

-- as many indexes of different names as keys, each of which a key asks for, are those that the keys ask for
pub has_keys : (t : Table) → any_twice is_same_name (names_in t) ≡ false → AllByRecursion (IsDue t) t.indexes → has_all_keys t ≡ true → HasKeyIndexes t
has_keys t once due many =
    let as_many = number_is (length (automatic_in t)) (length t.keys) many in
    let mine = objects_many t in
    let theirs = due_many t in
    all_of_them (automatic_objects t) (due_objects t) (differ (λ (o : Name × Object). o.0) (automatic_objects t) (objects_once t once)) (due_there t t.indexes due) (omega (arith, as_many, mine, theirs))

-- ---- tables

-- the automatic indexes are such as keys ask for
abbrev pub AreAllDue : List Table → Type 0
AreAllDue ts = AllByRecursion (λ (t : Table). AllByRecursion (IsDue t) t.indexes) ts

abbrev pub HasOwnNames : Table → Type 0
HasOwnNames t = any_twice is_same_name (names_in t) ≡ false

-- the indexes of each table have different names
pub own_names : (ts : List Table) → AreApart (tables_told ts) → AllByRecursion HasOwnNames ts
own_names [] apart = tt
own_names (t ∷ ts) apart =
    let more : AreApart (map (λ (i : Index). IndexTold t i) t.indexes ++ tables_told ts) =
    (neither (list_any (is_same_name t.name) (names_told (map (λ (i : Index). IndexTold t i) t.indexes ++ tables_told ts)))
    (any_twice is_same_name (names_told (map (λ (i : Index). IndexTold t i) t.indexes ++ tables_told ts))) apart).1 in (
      sym (ap (any_twice is_same_name) (index_names t t.indexes))
          ∙ once_first (names_told (map (λ (i : Index). IndexTold t i) t.indexes)) (names_told (tables_told ts))
          (sym (ap (any_twice is_same_name) (map_append name_told (map (λ (i : Index). IndexTold t i) t.indexes) (tables_told ts))) ∙ more),
      own_names ts (apart_more (map (λ (i : Index). IndexTold t i) t.indexes) (tables_told ts) more),
    )

pub and_parts : (a b : Bool) → (a && b) ≡ true → (a ≡ true) × (b ≡ true)
and_parts true b h = (refl, h)
and_parts false b h = absurd (false≢true h)

-- where each has as many as keys
pub have_keys : (l : Listed) → AreApart (all_told l) → AreAllDue l.tables → list_all has_all_keys l.tables ≡ true → AllByRecursion HasKeyIndexes l.tables
have_keys l apart due many = of_each l.tables (own_names l.tables (apart_first (tables_told l.tables) (treeless_told l) apart)) due many
  where
    of_each : (us : List Table) → AllByRecursion HasOwnNames us → AreAllDue us → list_all has_all_keys us ≡ true → AllByRecursion HasKeyIndexes us
    of_each [] once due many = tt
    of_each (u ∷ us) once due many =
        let both = and_parts (has_all_keys u) (list_all has_all_keys us) many in
        (has_keys u once.0 due.0 both.0, of_each us once.1 due.1 both.1)

-- ---- what is told

indexes_due : (t : Table) (is : List Index) → AllByRecursion IsDueTold (map (λ (i : Index). IndexTold (bare t) i) is) → AllByRecursion (IsDue t) is
indexes_due t [] all = tt
indexes_due t (i ∷ is) all = (all.0, indexes_due t is all.1)

due_indexes : (t : Table) (is : List Index) → AllByRecursion (IsDue t) is → AllByRecursion IsDueTold (map (λ (i : Index). IndexTold (bare t) i) is)
due_indexes t [] all = tt
due_indexes t (i ∷ is) all = (all.0, due_indexes t is all.1)

-- the same of the parts
pub parts_due : (ts : List Table) → AreAllDue ts → AllByRecursion IsDueTold (table_parts ts)
parts_due [] all = tt
parts_due (t ∷ ts) all =
    subst (AllByRecursion IsDueTold) (sym (parts_more t ts)) (tt, all_both IsDueTold (index_parts t) (table_parts ts) (due_indexes t t.indexes all.0) (parts_due ts all.1))

pub due_parts : (ts : List Table) → AllByRecursion IsDueTold (table_parts ts) → AreAllDue ts
due_parts [] all = tt
due_parts (t ∷ ts) all =
    let more = subst (AllByRecursion IsDueTold) (parts_more t ts) all in
    (indexes_due t t.indexes (all_front IsDueTold (index_parts t) (table_parts ts) more.1), due_parts ts (all_back IsDueTold (index_parts t) (table_parts ts) more.1))

-- and of those of all that is listed
pub due_listed : (l : Listed) → AllByRecursion IsDueTold (parts_of l) → AreAllDue l.tables
due_listed l all = due_parts l.tables (of_tables IsDueTold l all)

-- an index can come to its table: if it is automatic, a key asks for it
abbrev pub CanComeDue : Told → Type 0
CanComeDue (TableTold t) = ⊤
CanComeDue (IndexTold t i) = IsDue t i × AreDueOnce t
CanComeDue (ViewTold v) = ⊤
CanComeDue (TriggerTold g) = ⊤

-- of tables that have the indexes that their keys ask for, each can
pub told_due : (l : Listed) → AreApart (all_told l) → AllByRecursion HasKeyIndexes l.tables → AllByRecursion CanComeDue (all_told l)
told_due l apart keys =
    all_both CanComeDue (tables_told l.tables) (treeless_told l) (of_each l.tables (own_names l.tables (apart_first (tables_told l.tables) (treeless_told l) apart)) keys)
    (treeless_all CanComeDue l (λ v. tt) (λ g. tt))
  where
    of_indexes : (u : Table) (is : List Index) → AreDueOnce u → AllByRecursion (IsDue u) is → AllByRecursion CanComeDue (map (λ (i : Index). IndexTold u i) is)
    of_indexes u [] once due = tt
    of_indexes u (i ∷ is) once due = ((due.0, once), of_indexes u is once due.1)

    of_each : (us : List Table) → AllByRecursion HasOwnNames us → AllByRecursion HasKeyIndexes us → AllByRecursion CanComeDue (tables_told us)
    of_each [] once keys = tt
    of_each (u ∷ us) once keys = (
      tt,
      all_both CanComeDue (map (λ (i : Index). IndexTold u i) u.indexes) (tables_told us) (of_indexes u u.indexes (due_once u keys.0 once.0) (are_due u keys.0)) (of_each us once.1 keys.1),
    )
