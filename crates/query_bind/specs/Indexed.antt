-- CREATE INDEX, whose names are looked up among listed tables: the index that it makes, and what refuses it (SQL As Understood By SQLite,
-- "CREATE INDEX").
use Rattle.std.specs.Prelude.{◌≡◌, ◌⊎◌, ℕ, ℤ, true, false, List, [], map, Option, Some, None}
use Rattle.std.specs.List.{Contains}
use Rattle.sqlval.specs.Names.{folded}
use Rattle.sqlval.specs.Refusals.{Refusal, Exists, Misuse, NoSuch}
use Rattle.sqlval.specs.declared.collation.Collation.{Collation}
use Rattle.sqlval.specs.declared.value.Value.{Value}
use Rattle.sql_syntax.specs.declared.create.IndexColumn.{IndexColumn as Written}
use Rattle.sql_syntax.specs.declared.create.IndexDefinition.{IndexDefinition}
use Rattle.sql_syntax.specs.declared.create.NewObject.TheVariants as new
use Rattle.catalog.specs.Database.{Name, Database, AnIndex, with_object}
use Rattle.catalog.specs.Listed.{Listed, Lists, as_column, is_name_of, is_reserved, with_rows, table_named}
use Rattle.catalog.specs.declared.tables.Column.{Column}
use Rattle.catalog.specs.declared.tables.IndexColumn.{IndexColumn}
use Rattle.catalog.specs.declared.tables.Table.{Table}
use Rattle.query_names.specs.Checked.{Checked, faults, good, known_all}
use Rattle.query_names.specs.Expressions.{resolve_collation}
use Rattle.query_names.specs.Schema.{create, resolve_index_column}
use Rattle.query_names.specs.Scopes.{is_doubled}
use Rattle.query_names.specs.Tables.{collation_at}

-- the names of the columns
abbrev pub names_in : List Written → List Name
names_in columns = map (λ c. c.name) columns

-- a column's place in the table, and the collation of its key
abbrev pub key_of : IndexColumn → ℕ × Collation
key_of column = (column.place, column.collation)

-- the collation that is written, or that of the table's column
abbrev pub collation_written : List Column → ℕ → Option Name → Checked Collation
collation_written columns place None = good (collation_at (map as_column columns) place)
collation_written columns place (Some name) = resolve_collation name

-- what the columns of a definition stand for on a listed table
abbrev pub keys_known : Table → IndexDefinition → Checked (List (ℕ × Collation))
keys_known t d = known_all (map (resolve_index_column d.table (with_rows t [])) d.columns)

-- The definition makes an index of these columns on this one of the listed tables: nothing is in its way.
pub record IsIndexOn (l : Listed) (d : IndexDefinition) (t : Table) (columns : List IndexColumn) : Type 0 where
  pub on : table_named d.table l.tables ≡ Some t
  pub free : is_reserved d.name ≡ false
  pub new : is_name_of l d.name ≡ false
  pub once : is_doubled (names_in d.columns) ≡ false
  pub known : keys_known t d ≡ good (map key_of columns)

-- Why a definition is refused beside what is listed: its name is reserved, an object has it, a column stands twice, no table has the
-- name after ON, or a column or a collation isn't there.
abbrev pub IsIndexRefusal : Listed → IndexDefinition → Refusal → Type 0
IsIndexRefusal l d r =
    (r ≡ Misuse) × (is_reserved d.name ≡ true)
    ⊎ (((r ≡ Exists) × (is_name_of l d.name ≡ true))
    ⊎ (((r ≡ Misuse) × (is_doubled (names_in d.columns) ≡ true))
    ⊎ (((r ≡ NoSuch) × (table_named d.table l.tables ≡ None))
    ⊎ ((t : Table) × (table_named d.table l.tables ≡ Some t) × Contains (faults (keys_known t d)) r))))

-- The index that a definition makes on a listed table is the one that CREATE INDEX makes, under its name.
abbrev pub MakesListedIndex : Type 0
MakesListedIndex = (rows_at : ℕ → List (ℤ × List Value)) (l : Listed) (db : Database) (d : IndexDefinition) (t : Table) (columns : List IndexColumn)
    → Lists rows_at l db → IsIndexOn l d t columns
    → create db (new.Index d) ≡ good (with_object db d.name (AnIndex (record { table = folded d.table; is_unique = d.is_unique; is_automatic = false; columns = map key_of columns })))

-- Why a definition is refused beside what is listed is among the refusals of its CREATE INDEX.
abbrev pub RefusesIndexAsDefined : Type 0
RefusesIndexAsDefined = (rows_at : ℕ → List (ℤ × List Value)) (l : Listed) (db : Database) (d : IndexDefinition) (r : Refusal)
    → Lists rows_at l db → IsIndexRefusal l d r → Contains (faults (create db (new.Index d))) r
