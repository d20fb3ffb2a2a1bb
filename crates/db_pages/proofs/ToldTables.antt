-- What is told with its table: what holds of each table and of its indexes, and which indexes its keys ask for, by its name.
use Rattle.std.proofs.Common.{◌≡◌, ◌∙◌, refl, ap, ap₂, true, cond, List, [], ◌∷◌, ◌++◌, map, Option, Some, None}
use Rattle.std.specs.Prelude.{⊤}
use Rattle.std.specs.List.{AllByRecursion}
use Rattle.std.specs.Str.{bytes_eq}
use Rattle.sqlval.specs.Names.{folded, is_same_name}
use Rattle.tree_page.specs.Cells.{Pairwise}
use Rattle.catalog.specs.Database.{AnIndex, Name, Object}
use Rattle.catalog.specs.Listed.{Listed, as_index, named_among}
use Rattle.catalog.specs.declared.tables.Index.{Index}
use Rattle.catalog.specs.declared.tables.Table.{Table}
use Rattle.catalog.specs.declared.tables.View.{View}
use Rattle.db_pages.specs.Reordering.{AreReordered}
use Rattle.db_pages.specs.Schema.{IndexTold, TableTold, Told, TriggerTold, ViewTold, all_told, due_objects, tables_told}
use Rattle.db_pages.proofs.NamedObjects.{same_named}
use Rattle.db_pages.proofs.Reordering.{all_reordered, reordered_all}
use Rattle.db_pages.proofs.StoredApart.{all_joined, onto_map, other_name}
use Rattle.db_pages.proofs.StoredShares.{AllApart}
use Rattle.db_pages.proofs.ToldObjects.{all_first, all_second, told_name}

-- ---- of each table, and of what is told of it

pub each_of : {A : Type 0} (P : A → Type 0) → ((x : A) → P x) → (xs : List A) → AllByRecursion P xs
each_of P each [] = tt
each_of P each (x ∷ xs) = (each x, each_of P each xs)

-- of a table and of each of its indexes
abbrev pub OfTable : (Told → Type 0) → Table → Type 0
OfTable R t = R (TableTold t) × AllByRecursion (λ (i : Index). R (IndexTold t i)) t.indexes

tables_each : (R : Told → Type 0) (tables : List Table) → AllByRecursion (OfTable R) tables → AllByRecursion R (tables_told tables)
tables_each R [] each = tt
tables_each R (t ∷ tables) each = (
  each.0.0,
  all_joined R (map (λ (i : Index). IndexTold t i) t.indexes) (tables_told tables) (onto_map R (λ (i : Index). IndexTold t i) t.indexes each.0.1) (tables_each R tables each.1),
)

-- what holds of each table and of its indexes, and of each view and trigger, holds of what is told of them, in whatever order
pub told_each : (R : Told → Type 0) (l : Listed) (told : List Told) → AreReordered told (all_told l) → AllByRecursion (OfTable R) l.tables → ((v : View) → R (ViewTold v)) → AllByRecursion (λ g. R (TriggerTold g)) l.triggers
    → AllByRecursion R told
told_each R l told all each view triggers =
    reordered_all R told (all_told l) all
    (all_joined R (tables_told l.tables) (map ViewTold l.views ++ map TriggerTold l.triggers) (tables_each R l.tables each)
    (all_joined R (map ViewTold l.views) (map TriggerTold l.triggers) (onto_map R ViewTold l.views (each_of (λ (v : View). R (ViewTold v)) view l.views))
    (onto_map R TriggerTold l.triggers triggers)))

tables_all : (R : Told → Type 0) (tables : List Table) → AllByRecursion R (tables_told tables) → AllByRecursion (λ (t : Table). R (TableTold t)) tables
tables_all R [] each = tt
tables_all R (t ∷ tables) each = (each.0, tables_all R tables (all_second R (map (λ (i : Index). IndexTold t i) t.indexes) (tables_told tables) each.1))

-- ---- the indexes that a table's keys ask for

-- those of the first table of a name that is told
abbrev pub due_named : Name → List Told → Option (List (Name × Object))
due_named name [] = None
due_named name (TableTold t ∷ told) = cond (is_same_name t.name name) (Some (due_objects t)) (due_named name told)
due_named name (IndexTold t i ∷ told) = due_named name told
due_named name (ViewTold v ∷ told) = due_named name told
due_named name (TriggerTold g ∷ told) = due_named name told

-- in letters of either case
pub due_alike : (a b : Name) (told : List Told) → folded a ≡ folded b → due_named a told ≡ due_named b told
due_alike a b [] same = refl
due_alike a b (TableTold t ∷ told) same =
    ap₂ (λ (n : Name) (rest : Option (List (Name × Object))). cond (bytes_eq (folded t.name) n) (Some (due_objects t)) rest) same (due_alike a b told same)
due_alike a b (IndexTold t i ∷ told) same = due_alike a b told same
due_alike a b (ViewTold v ∷ told) same = due_alike a b told same
due_alike a b (TriggerTold g ∷ told) same = due_alike a b told same

-- of a table, that its own are found under its name
abbrev IsOwnDue : List Told → Told → Type 0
IsOwnDue told (TableTold t) = due_named t.name told ≡ Some (due_objects t)
IsOwnDue told (IndexTold t i) = ⊤
IsOwnDue told (ViewTold v) = ⊤
IsOwnDue told (TriggerTold g) = ⊤

abbrev names_told : List Told → List Name
names_told told = map (λ one. folded (told_name one)) told

-- what is told of another name takes it from none of them
still_own : (x : Told) (all some : List Told) → AllByRecursion (λ n. folded (told_name x) ≡ n → ⊥) (names_told some) → AllByRecursion (IsOwnDue all) some → AllByRecursion (IsOwnDue (x ∷ all)) some
still_own x all [] apart each = tt
still_own x all (IndexTold t i ∷ some) apart each = (tt, still_own x all some apart.1 each.1)
still_own x all (ViewTold v ∷ some) apart each = (tt, still_own x all some apart.1 each.1)
still_own x all (TriggerTold g ∷ some) apart each = (tt, still_own x all some apart.1 each.1)
still_own (TableTold u) all (TableTold t ∷ some) apart each = (
  ap (λ b. cond b (Some (due_objects u)) (due_named t.name all)) (other_name u.name t.name apart.0) ∙ each.0,
  still_own (TableTold u) all some apart.1 each.1,
)
still_own (IndexTold u j) all (TableTold t ∷ some) apart each = (each.0, still_own (IndexTold u j) all some apart.1 each.1)
still_own (ViewTold v) all (TableTold t ∷ some) apart each = (each.0, still_own (ViewTold v) all some apart.1 each.1)
still_own (TriggerTold g) all (TableTold t ∷ some) apart each = (each.0, still_own (TriggerTold g) all some apart.1 each.1)

own_dues : (told : List Told) → AllApart (names_told told) → AllByRecursion (IsOwnDue told) told
own_dues [] apart = tt
own_dues (TableTold t ∷ told) apart = (
  ap (λ b. cond b (Some (due_objects t)) (due_named t.name told)) (same_named t.name t.name refl),
  still_own (TableTold t) told told apart.0 (own_dues told apart.1),
)
own_dues (IndexTold t i ∷ told) apart = (tt, still_own (IndexTold t i) told told apart.0 (own_dues told apart.1))
own_dues (ViewTold v ∷ told) apart = (tt, still_own (ViewTold v) told told apart.0 (own_dues told apart.1))
own_dues (TriggerTold g ∷ told) apart = (tt, still_own (TriggerTold g) told told apart.0 (own_dues told apart.1))

-- where no two have one name, those of each table are found under its name
pub dues_found : (l : Listed) (told : List Told) → AreReordered told (all_told l) → AllApart (map (λ one. folded (told_name one)) told)
    → AllByRecursion (λ (t : Table). due_named t.name told ≡ Some (due_objects t)) l.tables
dues_found l told all apart =
    tables_all (IsOwnDue told) l.tables
    (all_first (IsOwnDue told) (tables_told l.tables) (map ViewTold l.views ++ map TriggerTold l.triggers) (all_reordered (IsOwnDue told) told (all_told l) all (own_dues told apart)))

-- An index that is told is found with its table. If it is automatic, a key of the table asks for it under its name.
abbrev pub IsDueAmong : List Told → Told → Type 0
IsDueAmong told (TableTold t) = ⊤
IsDueAmong told (IndexTold t i) =
    (due_named t.name told ≡ Some (due_objects t)) × (i.is_automatic ≡ true → named_among i.name (due_objects t) ≡ Some (AnIndex (as_index t i)))
IsDueAmong told (ViewTold v) = ⊤
IsDueAmong told (TriggerTold g) = ⊤

-- tables of one name whose keys ask for the same
abbrev pub HaveAlikeDues : Told → Told → Type 0
HaveAlikeDues (TableTold t) (TableTold u) = (folded t.name ≡ folded u.name) × (due_objects t ≡ due_objects u)
HaveAlikeDues (IndexTold t i) (IndexTold u j) = ⊤
HaveAlikeDues (ViewTold v) (ViewTold w) = ⊤
HaveAlikeDues (TriggerTold g) (TriggerTold h) = ⊤
HaveAlikeDues _ _ = ⊥

-- where the rows tell such tables, a name finds the same
pub same_dues : (name : Name) (told others : List Told) → Pairwise HaveAlikeDues told others → due_named name told ≡ due_named name others
same_dues name [] [] alike = refl
same_dues name [] (y ∷ others) alike = absurd alike
same_dues name (x ∷ told) [] alike = absurd alike
same_dues name (TableTold t ∷ told) (TableTold u ∷ others) alike =
    ap₂ (λ (n : Name) (due : List (Name × Object)). cond (bytes_eq n (folded name)) (Some due) (due_named name told)) alike.0.0 alike.0.1
    ∙ ap (cond (is_same_name u.name name) (Some (due_objects u))) (same_dues name told others alike.1)
same_dues name (TableTold t ∷ told) (IndexTold u j ∷ others) alike = absurd alike.0
same_dues name (TableTold t ∷ told) (ViewTold w ∷ others) alike = absurd alike.0
same_dues name (TableTold t ∷ told) (TriggerTold h ∷ others) alike = absurd alike.0
same_dues name (IndexTold t i ∷ told) (TableTold u ∷ others) alike = absurd alike.0
same_dues name (IndexTold t i ∷ told) (IndexTold u j ∷ others) alike = same_dues name told others alike.1
same_dues name (IndexTold t i ∷ told) (ViewTold w ∷ others) alike = absurd alike.0
same_dues name (IndexTold t i ∷ told) (TriggerTold h ∷ others) alike = absurd alike.0
same_dues name (ViewTold v ∷ told) (TableTold u ∷ others) alike = absurd alike.0
same_dues name (ViewTold v ∷ told) (IndexTold u j ∷ others) alike = absurd alike.0
same_dues name (ViewTold v ∷ told) (ViewTold w ∷ others) alike = same_dues name told others alike.1
same_dues name (ViewTold v ∷ told) (TriggerTold h ∷ others) alike = absurd alike.0
same_dues name (TriggerTold g ∷ told) (TableTold u ∷ others) alike = absurd alike.0
same_dues name (TriggerTold g ∷ told) (IndexTold u j ∷ others) alike = absurd alike.0
same_dues name (TriggerTold g ∷ told) (ViewTold w ∷ others) alike = absurd alike.0
same_dues name (TriggerTold g ∷ told) (TriggerTold h ∷ others) alike = same_dues name told others alike.1
