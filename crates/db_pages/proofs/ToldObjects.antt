-- What rows tell, as the objects of a database: in whatever order the rows stand, each of them is found under its own name.
use Rattle.std.proofs.Common.{◌≡◌, ◌∙◌, refl, sym, ap, ap₂, ℕ, ℤ, List, [], ◌∷◌, ◌++◌, map, Some}
use Rattle.std.specs.Prelude.{flat_map}
use Rattle.std.specs.List.{AllByRecursion}
use Rattle.std.proofs.lemmas.List.{append_assoc}
use Rattle.sqlval.specs.Lists.{sorted}
use Rattle.sqlval.specs.Names.{folded}
use Rattle.sqlval.specs.declared.value.Value.{Value}
use Rattle.catalog.specs.Database.{ATable, AnIndex, AView, ATrigger, Database, Name, Object, name_order, object}
use Rattle.catalog.specs.Listed.{Listed, index_objects, named_among, objects_of, as_index, as_view, with_rows, table_object, treeless_objects, trigger_object, view_object}
use Rattle.catalog.specs.Named.{IsOfListed}
use Rattle.catalog.specs.declared.tables.Index.{Index}
use Rattle.catalog.specs.declared.tables.Table.{Table}
use Rattle.catalog.specs.declared.tables.Trigger.{Trigger}
use Rattle.catalog.specs.declared.tables.View.{View}
use Rattle.db_pages.specs.Reordering.{AreReordered}
use Rattle.db_pages.specs.Schema.{IndexTold, TableTold, Told, TriggerTold, ViewTold, all_told, tables_told, told_by}
use Rattle.db_pages.proofs.NamedObjects.{HaveOwnNames, each_found, folded_names, named_reordered, names_sorted, objects_apart}
use Rattle.db_pages.proofs.Reordering.{all_reordered, reordered_both, reordered_front, reordered_is, reordered_map, reordered_refl, reordered_swapped, reordered_sym, reordered_trans, is_reordered}
use Rattle.db_pages.proofs.ReorderedSorted.{reordered_sorted}

-- the name that a row tells
abbrev pub told_name : Told → Name
told_name (TableTold t) = t.name
told_name (IndexTold t i) = i.name
told_name (ViewTold v) = v.definition.name
told_name (TriggerTold t) = t.definition.name

-- the object that it tells, where these are the rows under each root
abbrev pub told_object : (ℕ → List (ℤ × List Value)) → Told → Object
told_object rows_at (TableTold t) = ATable (with_rows t (rows_at t.root))
told_object rows_at (IndexTold t i) = AnIndex (as_index t i)
told_object rows_at (ViewTold v) = AView (as_view v)
told_object rows_at (TriggerTold t) = ATrigger t.definition

abbrev pub told_pair : (ℕ → List (ℤ × List Value)) → Told → Name × Object
told_pair rows_at told = (told_name told, told_object rows_at told)

-- the database has it under its name, and the table that an index is on
abbrev pub IsKept : (ℕ → List (ℤ × List Value)) → Database → Told → Type 0
IsKept rows_at db (TableTold t) = object db t.name ≡ Some (ATable (with_rows t (rows_at t.root)))
IsKept rows_at db (IndexTold t i) = (object db i.name ≡ Some (AnIndex (as_index t i))) × (object db t.name ≡ Some (ATable (with_rows t (rows_at t.root))))
IsKept rows_at db (ViewTold v) = object db v.definition.name ≡ Some (AView (as_view v))
IsKept rows_at db (TriggerTold t) = object db t.definition.name ≡ Some (ATrigger t.definition)

-- ---- all that is told is the objects, in another order

pairs_both : (rows_at : ℕ → List (ℤ × List Value)) (xs ys : List Told) → map (told_pair rows_at) (xs ++ ys) ≡ map (told_pair rows_at) xs ++ map (told_pair rows_at) ys
pairs_both rows_at [] ys = refl
pairs_both rows_at (x ∷ xs) ys = ap (λ ls. told_pair rows_at x ∷ ls) (pairs_both rows_at xs ys)

index_pairs : (rows_at : ℕ → List (ℤ × List Value)) (t : Table) (is : List Index)
    → map (told_pair rows_at) (map (λ (i : Index). IndexTold t i) is) ≡ map (λ (i : Index). (i.name, AnIndex (as_index t i))) is
index_pairs rows_at t [] = refl
index_pairs rows_at t (i ∷ is) = ap (λ ls. (i.name, AnIndex (as_index t i)) ∷ ls) (index_pairs rows_at t is)

-- of each table with its indexes, the tables and then the indexes
tables_pairs : (rows_at : ℕ → List (ℤ × List Value)) (tables : List Table)
    → AreReordered (map (told_pair rows_at) (tables_told tables)) (map (table_object rows_at) tables ++ flat_map index_objects tables)
tables_pairs rows_at [] = refl
tables_pairs rows_at (t ∷ ts) =
    reordered_front (table_object rows_at t) (map (told_pair rows_at) (map (λ (i : Index). IndexTold t i) t.indexes ++ tables_told ts)) (tables ++ (mine ++ others))
    (is_reordered (mine ++ map (told_pair rows_at) (tables_told ts)) (map (told_pair rows_at) (map (λ (i : Index). IndexTold t i) t.indexes ++ tables_told ts)) (tables ++ (mine ++ others)) front
    (reordered_trans (mine ++ map (told_pair rows_at) (tables_told ts)) (mine ++ (tables ++ others)) (tables ++ (mine ++ others))
    (reordered_both mine mine (map (told_pair rows_at) (tables_told ts)) (tables ++ others) (reordered_refl mine) (tables_pairs rows_at ts)) turn))
  where
    mine : List (Name × Object)
    mine = index_objects t

    tables : List (Name × Object)
    tables = map (table_object rows_at) ts

    others : List (Name × Object)
    others = flat_map index_objects ts

    front : mine ++ map (told_pair rows_at) (tables_told ts) ≡ map (told_pair rows_at) (map (λ (i : Index). IndexTold t i) t.indexes ++ tables_told ts)
    front = sym (pairs_both rows_at (map (λ (i : Index). IndexTold t i) t.indexes) (tables_told ts) ∙ ap (λ ls. ls ++ map (told_pair rows_at) (tables_told ts)) (index_pairs rows_at t t.indexes))

    turn : AreReordered (mine ++ (tables ++ others)) (tables ++ (mine ++ others))
    turn =
        is_reordered ((mine ++ tables) ++ others) (mine ++ (tables ++ others)) (tables ++ (mine ++ others)) (append_assoc mine tables others)
        (reordered_is ((mine ++ tables) ++ others) ((tables ++ mine) ++ others) (tables ++ (mine ++ others)) (append_assoc tables mine others)
        (reordered_both (mine ++ tables) (tables ++ mine) others others (reordered_swapped mine tables) (reordered_refl others)))

view_pairs : (rows_at : ℕ → List (ℤ × List Value)) (views : List View) → map (told_pair rows_at) (map ViewTold views) ≡ map view_object views
view_pairs rows_at [] = refl
view_pairs rows_at (v ∷ vs) = ap (λ ls. view_object v ∷ ls) (view_pairs rows_at vs)

trigger_pairs : (rows_at : ℕ → List (ℤ × List Value)) (triggers : List Trigger) → map (told_pair rows_at) (map TriggerTold triggers) ≡ map trigger_object triggers
trigger_pairs rows_at [] = refl
trigger_pairs rows_at (t ∷ ts) = ap (λ ls. trigger_object t ∷ ls) (trigger_pairs rows_at ts)

treeless_pairs : (rows_at : ℕ → List (ℤ × List Value)) (l : Listed) → map (told_pair rows_at) (map ViewTold l.views ++ map TriggerTold l.triggers) ≡ treeless_objects l
treeless_pairs rows_at l =
    pairs_both rows_at (map ViewTold l.views) (map TriggerTold l.triggers)
    ∙ ap₂ (λ (os ps : List (Name × Object)). os ++ ps) (view_pairs rows_at l.views) (trigger_pairs rows_at l.triggers)

-- and what has no tree, which stands between them
pub told_objects : (rows_at : ℕ → List (ℤ × List Value)) (l : Listed) → AreReordered (map (told_pair rows_at) (all_told l)) (objects_of rows_at l)
told_objects rows_at l =
    is_reordered (map (told_pair rows_at) (tables_told l.tables) ++ treeless) (map (told_pair rows_at) (all_told l)) (objects_of rows_at l) apart
    (reordered_trans (map (told_pair rows_at) (tables_told l.tables) ++ treeless) ((tables ++ indexes) ++ treeless) (objects_of rows_at l)
    (reordered_both (map (told_pair rows_at) (tables_told l.tables)) (tables ++ indexes) treeless treeless (tables_pairs rows_at l.tables) (reordered_refl treeless))
    (is_reordered (tables ++ (indexes ++ treeless)) ((tables ++ indexes) ++ treeless) (objects_of rows_at l) (sym (append_assoc tables indexes treeless))
    (reordered_both tables tables (indexes ++ treeless) (treeless ++ indexes) (reordered_refl tables) (reordered_swapped indexes treeless))))
  where
    tables : List (Name × Object)
    tables = map (table_object rows_at) l.tables

    treeless : List (Name × Object)
    treeless = treeless_objects l

    indexes : List (Name × Object)
    indexes = flat_map index_objects l.tables

    apart : map (told_pair rows_at) (tables_told l.tables) ++ treeless ≡ map (told_pair rows_at) (all_told l)
    apart = sym (pairs_both rows_at (tables_told l.tables) (map ViewTold l.views ++ map TriggerTold l.triggers)
        ∙ ap (λ ls. map (told_pair rows_at) (tables_told l.tables) ++ ls) (treeless_pairs rows_at l))

-- ---- what holds of each

all_both : {A : Type 0} (P : A → Type 0) (xs ys : List A) → AllByRecursion P xs → AllByRecursion P ys → AllByRecursion P (xs ++ ys)
all_both P [] ys all more = more
all_both P (x ∷ xs) ys all more = (all.0, all_both P xs ys all.1 more)

pub all_first : {A : Type 0} (P : A → Type 0) (xs ys : List A) → AllByRecursion P (xs ++ ys) → AllByRecursion P xs
all_first P [] ys all = tt
all_first P (x ∷ xs) ys all = (all.0, all_first P xs ys all.1)

pub all_second : {A : Type 0} (P : A → Type 0) (xs ys : List A) → AllByRecursion P (xs ++ ys) → AllByRecursion P ys
all_second P [] ys all = all
all_second P (x ∷ xs) ys all = all_second P xs ys all.1

all_from : {A B : Type 0} (P : A → Type 0) (Q : B → Type 0) (f : A → B) → ((x : A) → Q (f x) → P x) → (xs : List A) → AllByRecursion Q (map f xs) → AllByRecursion P xs
all_from P Q f each [] all = tt
all_from P Q f each (x ∷ xs) all = (each x all.0, all_from P Q f each xs all.1)

all_then : {A : Type 0} (P Q : A → Type 0) → ((x : A) → P x → Q x) → (xs : List A) → AllByRecursion P xs → AllByRecursion Q xs
all_then P Q each [] all = tt
all_then P Q each (x ∷ xs) all = (each x all.0, all_then P Q each xs all.1)

-- the database has it under its name
abbrev IsFound : (ℕ → List (ℤ × List Value)) → Database → Told → Type 0
IsFound rows_at db told = object db (told_name told) ≡ Some (told_object rows_at told)

kept_indexes : (rows_at : ℕ → List (ℤ × List Value)) (db : Database) (t : Table) (is : List Index) → object db t.name ≡ Some (ATable (with_rows t (rows_at t.root)))
    → AllByRecursion (IsFound rows_at db) (map (λ (i : Index). IndexTold t i) is) → AllByRecursion (IsKept rows_at db) (map (λ (i : Index). IndexTold t i) is)
kept_indexes rows_at db t [] on found = tt
kept_indexes rows_at db t (i ∷ is) on found = ((found.0, on), kept_indexes rows_at db t is on found.1)

kept_tables : (rows_at : ℕ → List (ℤ × List Value)) (db : Database) (tables : List Table) → AllByRecursion (IsFound rows_at db) (tables_told tables)
    → AllByRecursion (IsKept rows_at db) (tables_told tables)
kept_tables rows_at db [] found = tt
kept_tables rows_at db (t ∷ ts) found =
    let mine = all_first (IsFound rows_at db) (told_by t) (tables_told ts) found in
    let others = all_second (IsFound rows_at db) (told_by t) (tables_told ts) found in
    all_both (IsKept rows_at db) (told_by t) (tables_told ts) (mine.0, kept_indexes rows_at db t t.indexes mine.0 mine.1) (kept_tables rows_at db ts others)

kept_views : (rows_at : ℕ → List (ℤ × List Value)) (db : Database) (views : List View) → AllByRecursion (IsFound rows_at db) (map ViewTold views)
    → AllByRecursion (IsKept rows_at db) (map ViewTold views)
kept_views rows_at db [] found = tt
kept_views rows_at db (v ∷ vs) found = (found.0, kept_views rows_at db vs found.1)

kept_triggers : (rows_at : ℕ → List (ℤ × List Value)) (db : Database) (triggers : List Trigger) → AllByRecursion (IsFound rows_at db) (map TriggerTold triggers)
    → AllByRecursion (IsKept rows_at db) (map TriggerTold triggers)
kept_triggers rows_at db [] found = tt
kept_triggers rows_at db (t ∷ ts) found = (found.0, kept_triggers rows_at db ts found.1)

kept_all : (rows_at : ℕ → List (ℤ × List Value)) (db : Database) (l : Listed) → AllByRecursion (IsFound rows_at db) (all_told l) → AllByRecursion (IsKept rows_at db) (all_told l)
kept_all rows_at db l found =
    let treeless = map ViewTold l.views ++ map TriggerTold l.triggers in
    let behind = all_second (IsFound rows_at db) (tables_told l.tables) treeless found in
    all_both (IsKept rows_at db) (tables_told l.tables) treeless
    (kept_tables rows_at db l.tables (all_first (IsFound rows_at db) (tables_told l.tables) treeless found))
    (all_both (IsKept rows_at db) (map ViewTold l.views) (map TriggerTold l.triggers)
    (kept_views rows_at db l.views (all_first (IsFound rows_at db) (map ViewTold l.views) (map TriggerTold l.triggers) behind))
    (kept_triggers rows_at db l.triggers (all_second (IsFound rows_at db) (map ViewTold l.views) (map TriggerTold l.triggers) behind)))

-- ---- what is listed, in a database

module _ (rows_at : ℕ → List (ℤ × List Value)) (l : Listed) (db : Database) (of_listed : IsOfListed rows_at l db) (told : List Told) (all : AreReordered told (all_told l)) where
  own : HaveOwnNames (objects_of rows_at l)
  own = objects_apart rows_at l of_listed.once

  -- what rows tell are the listed objects, in another order
  objects_told : AreReordered (objects_of rows_at l) (map (told_pair rows_at) told)
  objects_told =
      reordered_sym (map (told_pair rows_at) told) (objects_of rows_at l)
      (reordered_trans (map (told_pair rows_at) told) (map (told_pair rows_at) (all_told l)) (objects_of rows_at l)
      (reordered_map (told_pair rows_at) told (all_told l) all) (told_objects rows_at l))

  -- a name finds the one that tells it
  pub told_finds : (name : Name) → object db name ≡ named_among name (map (told_pair rows_at) told)
  told_finds name = of_listed.lists name ∙ named_reordered name (objects_of rows_at l) (map (told_pair rows_at) told) own objects_told

  objects_found : AllByRecursion (λ (o : Name × Object). object db o.0 ≡ Some o.1) (objects_of rows_at l)
  objects_found =
      all_then (λ (o : Name × Object). named_among o.0 (objects_of rows_at l) ≡ Some o.1) (λ (o : Name × Object). object db o.0 ≡ Some o.1)
      (λ o is. of_listed.lists o.0 ∙ is) (objects_of rows_at l) (each_found (objects_of rows_at l) own)

  all_found : AllByRecursion (IsFound rows_at db) (all_told l)
  all_found =
      all_from (IsFound rows_at db) (λ (o : Name × Object). object db o.0 ≡ Some o.1) (told_pair rows_at) (λ one is. is) (all_told l)
      (all_reordered (λ (o : Name × Object). object db o.0 ≡ Some o.1) (objects_of rows_at l) (map (told_pair rows_at) (all_told l))
      (reordered_sym (map (told_pair rows_at) (all_told l)) (objects_of rows_at l) (told_objects rows_at l)) objects_found)

  -- what a row tells is in the database
  pub told_kept : AllByRecursion (IsKept rows_at db) told
  told_kept = all_reordered (IsKept rows_at db) (all_told l) told (reordered_sym told (all_told l) all) (kept_all rows_at db l all_found)

  -- their names, in order, are those of the database
  pub told_names : sorted name_order (map (λ one. folded (told_name one)) told) ≡ map (λ o. o.0) db
  told_names =
      ap (sorted name_order) (names_of_pairs told)
      ∙ reordered_sorted (folded_names (map (told_pair rows_at) told)) (folded_names (objects_of rows_at l))
      (reordered_map (λ (o : Name × Object). folded o.0) (map (told_pair rows_at) told) (objects_of rows_at l)
      (reordered_sym (objects_of rows_at l) (map (told_pair rows_at) told) objects_told))
      ∙ names_sorted (objects_of rows_at l) db own of_listed.named of_listed.lists
    where
      names_of_pairs : (ones : List Told) → map (λ one. folded (told_name one)) ones ≡ folded_names (map (told_pair rows_at) ones)
      names_of_pairs [] = refl
      names_of_pairs (one ∷ ones) = ap (λ ns. folded (told_name one) ∷ ns) (names_of_pairs ones)
