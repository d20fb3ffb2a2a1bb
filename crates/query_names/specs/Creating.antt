-- CREATE TABLE of a definition: the table that it makes, and what refuses it (SQL As Understood By SQLite, "CREATE TABLE").
use Rattle.std.specs.Prelude.{◌≡◌, ◌⊎◌, ◌&&◌, ◌||◌, ℕ, ℤ, Bool, true, false, List, [], ◌∷◌, ◌++◌, Option, filter, is_none, map}
use Rattle.std.specs.List.{Contains}
use Rattle.std.specs.Cmp.Lexicographic.{pointwise}
use Rattle.sqlval.specs.Lists.{any_twice}
use Rattle.sqlval.specs.Names.{is_same_name}
use Rattle.sqlval.specs.Refusals.{Refusal, Exists, Misuse}
use Rattle.sqlval.specs.declared.collation.Collation.{Collation}
use Rattle.sqlval.specs.declared.value.Value.{Value}
use Rattle.sql_syntax.specs.Tree.{Tree}
use Rattle.sql_syntax.specs.declared.create.ColumnDefinition.{ColumnDefinition}
use Rattle.sql_syntax.specs.declared.create.NewObject.TheVariants as new
use Rattle.sql_syntax.specs.declared.create.TableDefinition.{TableDefinition}
use Rattle.catalog.specs.Database.{Database, Name, ATable, TableColumn, with_object}
use Rattle.catalog.specs.Listed.{Listed, Lists, as_column, is_name_of, is_reserved, key_columns, with_rows}
use Rattle.catalog.specs.declared.tables.Column.{Column}
use Rattle.catalog.specs.declared.tables.Table.{Table}
use Rattle.query_names.specs.Bound.{AreOnce}
use Rattle.query_terms.specs.Terms.{Term}
use Rattle.query_names.specs.Checked.{Checked, good, faults, known_all, known_map, onto_list, unless}
use Rattle.query_names.specs.Expressions.{resolve}
use Rattle.query_names.specs.Schema.{automatic, create, with_objects}
use Rattle.query_names.specs.Tables.{WrittenKey, checks_of, collation_at, column_of, first_some, keys_of, new_source, rowid_key}
use Rattle.query_names.specs.Scopes.{resolve_places}
use Rattle.query_names.specs.declared.keys.KnownKey.{KnownKey}
use Rattle.query_names.specs.declared.keys.BoundKeys.{BoundKeys}
use Rattle.query_names.specs.declared.keys.WrittenKey as keys
use Rattle.query_names.specs.declared.scope.ScopeSource.{ScopeSource}

-- two of the columns have one name
abbrev pub has_doubled : List ColumnDefinition → Bool
has_doubled cs = any_twice is_same_name (map (λ c. c.name) cs)

-- the name that a definition gives its column, and what else it makes of it
abbrev pub defined : ColumnDefinition → Name × Checked TableColumn
defined c = (c.name, column_of c)

-- the same of a column that is listed
abbrev pub described : Column → Name × Checked TableColumn
described c = (c.name, good (as_column c))

-- nothing is in the definition's way: its name may be given, nothing that is listed has it, and no two columns have one name
pub record IsNewBeside (l : Listed) (d : TableDefinition) : Type 0 where
  pub free : is_reserved d.name ≡ false
  pub new : is_name_of l d.name ≡ false
  pub once : has_doubled d.columns ≡ false

-- the table has the definition's columns, each under its name
abbrev pub HasColumnsOf : TableDefinition → Table → Type 0
HasColumnsOf d t = map described t.columns ≡ map defined d.columns

-- what these expressions mean among sources, after what others mean
abbrev pub known_after : List ScopeSource → List Term → List Tree → Checked (List Term)
known_after scope found es = onto_list found (known_all (map (resolve false scope) es))

-- what the CHECKs of a definition mean over these columns
abbrev pub checks_known : TableDefinition → List Column → Checked (List Term)
checks_known d columns = known_all (map (resolve false (new_source d.name (map as_column columns) ∷ [])) (checks_of d))

-- the table has the definition's CHECKs
abbrev pub HasChecksOf : TableDefinition → Table → Type 0
HasChecksOf d t = checks_known d t.columns ≡ good t.checks

-- both are primary, or they are of the same columns
abbrev pub are_doubled : WrittenKey → WrittenKey → Bool
are_doubled k l = k.0 && l.0 || pointwise is_same_name k.1 l.1

-- the columns of these names among those of a table, none of them twice: the places, each with its collation
abbrev pub places_known : Name → List Column → List Name → Checked (List (ℕ × Collation))
places_known table columns names =
    known_map (map (λ i. (i, collation_at (map as_column columns) i))) (resolve_places (new_source table (map as_column columns)) names)

-- a key as it is written
abbrev pub as_written : keys.WrittenKey → WrittenKey
as_written key = (key.is_primary, key.names.now)

-- whether a key is primary, with its columns among those of a table
abbrev pub key_known : Name → List Column → WrittenKey → Checked (Bool × List (ℕ × Collation))
key_known table columns key = known_map (λ places. (key.0, places)) (places_known table columns key.1)

-- a key whose columns are known
abbrev pub as_bound : KnownKey → Bool × List (ℕ × Collation)
as_bound key = (key.is_primary, key_columns key.columns)

-- the place of the column that a key makes another name of the rowid
abbrev pub rowid_place : List ColumnDefinition → Bool × List (ℕ × Collation) → Option ℕ
rowid_place cs (is_primary, columns) = rowid_key cs (is_primary, map (λ c. c.0) columns)

-- the columns of the keys that make none another name of the rowid
abbrev pub other_keys : List ColumnDefinition → List (Bool × List (ℕ × Collation)) → List (List (ℕ × Collation))
other_keys cs keys = map (λ key. key.1) (filter (λ key. is_none (rowid_place cs key)) keys)

-- the place of the column that is another name of the rowid, and the columns of each index that the other keys ask for
abbrev pub keys_split : List ColumnDefinition → List (Bool × List (ℕ × Collation)) → Option ℕ × List (List (ℕ × Collation))
keys_split cs keys = (first_some (rowid_place cs) keys, other_keys cs keys)

-- the same of keys that are bound
abbrev pub as_keys : BoundKeys → Option ℕ × List (List (ℕ × Collation))
as_keys keys = (keys.rowid_column, map key_columns keys.indexes)

-- what the keys of a definition ask for, over these columns; no two keys may be doubled
abbrev pub table_keys_known : TableDefinition → List Column → Checked (Option ℕ × List (List (ℕ × Collation)))
table_keys_known d columns =
    unless (any_twice are_doubled (keys_of d)) Misuse (known_map (keys_split d.columns) (known_all (map (key_known d.name columns) (keys_of d))))

-- the table has what the definition's keys ask for
abbrev pub HasKeysOf : TableDefinition → Table → Type 0
HasKeysOf d t = table_keys_known d t.columns ≡ good (t.rowid_column, map key_columns t.keys)

-- a CHECK or a key is refused over the columns of the definition
abbrev pub IsRuleRefusal : TableDefinition → Refusal → Type 0
IsRuleRefusal d r = (columns : List Column) × (map described columns ≡ map defined d.columns)
    × (Contains (faults (checks_known d columns)) r ⊎ Contains (faults (table_keys_known d columns)) r)

-- Why a definition is refused beside what is listed: its name is reserved, an object has it, two columns have one name, or a column, a CHECK
-- or a key is refused.
abbrev pub IsCreateRefusal : Listed → TableDefinition → Refusal → Type 0
IsCreateRefusal l d r =
    (r ≡ Misuse) × (is_reserved d.name ≡ true)
    ⊎ (((r ≡ Exists) × (is_name_of l d.name ≡ true))
    ⊎ (((r ≡ Misuse) × (has_doubled d.columns ≡ true))
    ⊎ (Contains (faults (known_all (map column_of d.columns))) r
    ⊎ IsRuleRefusal d r)))

-- A table with the columns, CHECKs and keys of a definition, where nothing is in its way, is the one that CREATE TABLE makes: under its name,
-- without rows, with the indexes that its keys ask for, and not refused.
abbrev pub MakesListedTable : Type 0
MakesListedTable = (rows_at : ℕ → List (ℤ × List Value)) (l : Listed) (db : Database) (d : TableDefinition) (t : Table)
    → Lists rows_at l db → IsNewBeside l d → HasColumnsOf d t → HasChecksOf d t → HasKeysOf d t
    → create db (new.Table d) ≡ good (with_objects (with_object db d.name (ATable (with_rows t []))) (automatic d.name 1 (map key_columns t.keys)))

-- Why a definition is refused beside what is listed is among the refusals of its CREATE TABLE.
abbrev pub RefusesTableAsDefined : Type 0
RefusesTableAsDefined = (rows_at : ℕ → List (ℤ × List Value)) (l : Listed) (db : Database) (d : TableDefinition) (r : Refusal)
    → Lists rows_at l db → IsCreateRefusal l d r → Contains (faults (create db (new.Table d))) r

-- With a new table whose columns are those of a definition that names none twice, each listed table's columns have different names.
abbrev pub KeepsNamesOnce : Type 0
KeepsNamesOnce = (tables : List Table) (d : TableDefinition) (t : Table) → AreOnce tables → has_doubled d.columns ≡ false → HasColumnsOf d t → AreOnce (tables ++ t ∷ [])
