-- Databases whose names are in order and folded, and those of which objects are listed.
use Rattle.std.specs.Prelude.{◌≡◌, ◌↔◌, ℕ, ℤ, Bool, true, not, ◌||◌, filter, is_some, List, map, Some}
use Rattle.std.specs.List.{AllByRecursion, Contains, list_any}
use Rattle.sqlval.specs.Lists.{is_rising}
use Rattle.sqlval.specs.Names.{folded, is_same_name}
use Rattle.sqlval.specs.declared.value.Value.{Value}
use Rattle.catalog.specs.Database.{Name, Database, Object, AnIndex, ATrigger, Index, indexes_of, name_order, object, with_object}
use Rattle.catalog.specs.Listed.{Listed, Lists, are_named_once, as_index, named_among, objects_of, with_rows, table_named, without_table, without_triggers_on}
use Rattle.catalog.specs.Rows.{are_rows, is_in_order}
use Rattle.catalog.specs.declared.tables.Table.{Table}

-- The names rise, each once, and each is folded: so an object is found under one name alone.
pub record IsNamed (db : Database) : Type 0 where
  pub rising : is_rising name_order (map (λ o. o.0) db) ≡ true
  pub each_folded : AllByRecursion (λ o. folded o.0 ≡ o.0) db

-- databases in which each name finds the same are equal
abbrev pub OneDatabase : Type 0
OneDatabase = (a b : Database) → IsNamed a → IsNamed b → ((name : Name) → object a name ≡ object b name) → a ≡ b

-- with an object more, or another in its place, the names still are so
abbrev pub KeepsNamed : Type 0
KeepsNamed = (db : Database) (name : Name) (o : Object) → IsNamed db → IsNamed (with_object db name o)

-- any listed objects, their tables with any rows, are those of a database without other objects
abbrev pub ListedDatabase : Type 0
ListedDatabase = (rows_at : ℕ → List (ℤ × List Value)) (l : Listed) → (db : Database) × IsNamed db × Lists rows_at l db

-- a database of listed objects is in order where each table's rows are such as it may hold
abbrev pub IsInOrder : Type 0
IsInOrder = (rows_at : ℕ → List (ℤ × List Value)) (l : Listed) (db : Database) → IsNamed db → Lists rows_at l db
    → ((name : Name) (t : Table) → table_named name l.tables ≡ Some t → are_rows (with_rows t (rows_at t.root)) ≡ true) → is_in_order db ≡ true

-- a database of listed objects has their names, folded, and no others
abbrev pub ListedNames : Type 0
ListedNames = (rows_at : ℕ → List (ℤ × List Value)) (l : Listed) (db : Database) → IsNamed db → Lists rows_at l db
    → (name : Name) → Contains (map (λ o. o.0) db) name ↔ ((folded name ≡ name) × (is_some (named_among name (objects_of rows_at l)) ≡ true))

-- the object itself, the indexes of a table, and the triggers of a table or a view
abbrev pub goes_with : Name → Name × Object → Bool
goes_with name (other, AnIndex i) = is_same_name name other || is_same_name name i.table
goes_with name (other, ATrigger d) = is_same_name name other || is_same_name name d.target
goes_with name (other, o) = is_same_name name other

-- the database without the object of a name, and without what goes with it
abbrev pub without : Name → Database → Database
without name db = filter (λ o. not (goes_with name o)) db

-- the database has what is listed and no other objects, with its names in order
pub record IsOfListed (rows_at : ℕ → List (ℤ × List Value)) (l : Listed) (db : Database) : Type 0 where
  pub lists : Lists rows_at l db
  pub named : IsNamed db
  pub once : are_named_once l ≡ true

-- what is listed, without the tables of a name and their triggers
abbrev pub less_table : Name → Listed → Listed
less_table name l = record l { tables = without_table name l.tables; triggers = without_triggers_on name l.triggers }

-- A listed database without one of its tables, and its indexes and triggers, is that of the others, with the rows that they had.
abbrev pub ListsOthers : Type 0
ListsOthers = (rows_at : ℕ → List (ℤ × List Value)) (l : Listed) (db : Database) (name : Name) (t : Table) → IsOfListed rows_at l db
    → table_named name l.tables ≡ Some t → IsOfListed rows_at (less_table name l) (without name db)

-- Where a table is listed, a test is true of one of the database's indexes on it exactly where it is true of one that is listed with it.
abbrev pub ListsIndexes : Type 0
ListsIndexes = (rows_at : ℕ → List (ℤ × List Value)) (l : Listed) (db : Database) (name : Name) (t : Table) (test : Index → Bool) → IsOfListed rows_at l db
    → table_named name l.tables ≡ Some t → list_any (λ i. test i.1) (indexes_of db name) ≡ list_any (λ i. test (as_index t i)) t.indexes
