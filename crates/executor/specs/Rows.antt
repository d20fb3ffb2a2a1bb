-- What becomes of one row of a database that pages store, where nothing is set off around it (SQL As Understood By SQLite, "INSERT", "UPDATE",
-- "DELETE", "SELECT").
use Rattle.std.specs.Prelude.{◌≡◌, ⊤, ℕ, suc, ℤ, List, [], ◌∷◌, Option, Some, Ok, filter, zip, length, option_map, Result, MatchResult}
use Rattle.sqlval.specs.Faults.{IsOutside}
use Rattle.sqlval.specs.Names.{folded}
use Rattle.sqlval.specs.Refusals.{Answer, ◌then◌}
use Rattle.sqlval.specs.declared.fault.Fault.{Fault}
use Rattle.sqlval.specs.declared.value.Value.{Value}
use Rattle.pages.specs.Calls.{IsOutsideOrFull}
use Rattle.pages.specs.Map.{PageMap}
use Rattle.catalog.specs.Database as database
use Rattle.catalog.specs.Database.{ATable, Database, Name, row, with_object, without_row}
use Rattle.catalog.specs.Listed.{Listed, table_named}
use Rattle.catalog.specs.declared.tables.Table.{Table}
use Rattle.catalog.specs.declared.tables.TableRow as stored
use Rattle.query_names.specs.Known.{IsKnownIn}
use Rattle.query_names.specs.Views.{all_rows}
use Rattle.query_plan.specs.Searching.{is_found}
use Rattle.query_plan.specs.declared.searching.Search.{Search}
use Rattle.query_terms.specs.Terms.{Const, Term}
use Rattle.query_terms.specs.Values.{Row}
use Rattle.row_scan.specs.Rows.{TableRow}
use Rattle.row_scan.specs.Trees.{AnswersOrFails}
use Rattle.row_change.specs.Agreement.{IsSetFor}
use Rattle.row_change.specs.Constraints.{default_values, given_rowid, new_rowid, set_values, table_of, updated_rowid, with_affinity, with_rowid}
use Rattle.row_change.specs.Constraints.{stored as stored_in}
use Rattle.row_change.specs.NewRows.{row_of}
use Rattle.row_change.specs.RowChanges.{Fire, insert_row}
use Rattle.db_write.specs.OneRow.{IsRefusedAs}
use Rattle.db_pages.specs.Stored.{Stores}

-- no trigger does anything
abbrev pub still : Fire
still time firing db = Ok db

-- The pages store a database of which this is listed. This table is listed under a folded name, and is that of the name in the database.
pub record StoresTable (pages : PageMap) (size : ℕ) (l : Listed) (db : Database) (name : Name) (table : Table) (t : database.Table) : Type 0 where
  pub stored : Stores pages size l db
  pub named : table_named name l.tables ≡ Some table
  pub is_folded : folded name ≡ name
  pub is : table_of db name ≡ Ok t

-- the pages store the database that the answer is, with the same listed
pub record StoresWith (pages : PageMap) (size : ℕ) (l : Listed) (answer : Answer Database) : Type 0 where
  pub made : Database
  pub is : answer ≡ Ok made
  pub stored : Stores pages size l made

-- ---- INSERT

-- The row is what these values make for the columns of their places: what the columns store, with the rowid that is given or else the next.
pub record IsRowMade (t : database.Table) (places : List ℕ) (given : List Value) (made : TableRow) : Type 0 where
  pub values : List Value
  pub stores : with_affinity t.columns (set_values (default_values t) (zip places given)) ≡ Ok values
  pub rowid : new_rowid t (given_rowid t values) ≡ Ok made.0
  pub are : made.1 ≡ with_rowid t made.0 values

-- The pages store what the insertion of these values makes of the database, and this is the row that was inserted.
pub record IsRowStored (new : PageMap) (size : ℕ) (l : Listed) (db : Database) (name : Name) (t : database.Table) (places : List ℕ)
    (given : List Value) (made : TableRow) : Type 0 where
  pub stores : StoresWith new size l (insert_row still name places db given)
  pub row : IsRowMade t places given made

-- Values are inserted into a table of the database that pages store, for the columns of their places, and the row is answered; or the call is
-- refused as the insertion is, for want of memory or pages, by a disk, or for an index that is too wide.
abbrev pub InsertsInto : PageMap → PageMap → ℕ → Table → List (Option ℕ) → List Value → Result stored.TableRow Fault → Type 0
InsertsInto old new size table by_column given result = (l : Listed) (db : Database) (name : Name) (t : database.Table) (places : List ℕ)
    → StoresTable old size l db name table t → IsSetFor table by_column places given
    → MatchResult result (λ made. IsRowStored new size l db name t places given (row_of made))
    (IsRefusedAs (insert_row still name places db given) table)

-- ---- UPDATE

-- the database whose row of a rowid has these values then, under the rowid that they give
abbrev pub values_put : Database → Name → database.Table → ℤ → List Value → Answer Database
values_put db name t rowid values = updated_rowid t rowid values then λ now. stored_in db name (without_row rowid t) now values

-- each value as a literal, from a place on
abbrev pub literals : ℕ → List Value → List (ℕ × Term)
literals place [] = []
literals place (value ∷ values) = (place, Const value) ∷ literals (suc place) values

-- a value for each column, as it stores it
pub record AreStoredBy (t : database.Table) (values : List Value) : Type 0 where
  pub full : length values ≡ length t.columns
  pub stores : with_affinity t.columns values ≡ Ok values

-- What columns store of values they store as it is (Datatypes In SQLite, "Type Affinity").
abbrev pub StoredStay : Type 0
StoredStay = (t : database.Table) (given values : List Value) → length given ≡ length t.columns → with_affinity t.columns given ≡ Ok values
    → AreStoredBy t values

-- The pages store the database whose row has these values, and this is the row.
pub record IsRowSet (new : PageMap) (size : ℕ) (l : Listed) (db : Database) (name : Name) (t : database.Table) (rowid : ℤ) (values : List Value)
    (now : TableRow) : Type 0 where
  pub stores : StoresWith new size l (values_put db name t rowid values)
  pub rowid_is : updated_rowid t rowid values ≡ Ok now.0
  pub values_are : now.1 ≡ values

-- A row that is there is given other values, and answered as it is then; or the call is refused as that is, for want of memory or pages, by a
-- disk, or for an index that is too wide.
abbrev pub SetsIn : PageMap → PageMap → ℕ → Table → TableRow → List Value → Result stored.TableRow Fault → Type 0
SetsIn old new size table was values result = (l : Listed) (db : Database) (name : Name) (t : database.Table) → StoresTable old size l db name table t
    → row t was.0 ≡ Some was.1 → AreStoredBy t values
    → MatchResult result (λ now. IsRowSet new size l db name t was.0 values (row_of now)) (IsRefusedAs (values_put db name t was.0 values) table)

-- ---- DELETE

-- A row that is there is taken out of a table; or memory or pages are short, or a disk's call failed.
abbrev pub TakesFrom : PageMap → PageMap → ℕ → Table → TableRow → Result ⊤ Fault → Type 0
TakesFrom old new size table was result = (l : Listed) (db : Database) (name : Name) (t : database.Table) → StoresTable old size l db name table t
    → row t was.0 ≡ Some was.1 → MatchResult result (λ done. Stores new size l (with_object db name (ATable (without_row was.0 t)))) IsOutsideOrFull

-- ---- rows that are read

-- This is the row of a rowid, if there is one; or memory was short, or a disk's call failed.
abbrev pub FindsIn : PageMap → ℕ → Table → ℤ → Result (Option stored.TableRow) Fault → Type 0
FindsIn pages size table rowid result = (l : Listed) (db : Database) (name : Name) (t : database.Table) → StoresTable pages size l db name table t
    → MatchResult result (λ found. option_map row_of found ≡ option_map (λ values. (rowid, values)) (row t rowid)) IsOutside

-- These are all rows of a table or view that isn't refused; or they are refused as its are, or memory was short, or a disk's call failed.
abbrev pub ReadsAll : PageMap → ℕ → Listed → Name → Result (List Row) Fault → Type 0
ReadsAll pages size l name result = (db : Database) → Stores pages size l db → IsKnownIn 64 db name
    → AnswersOrFails (λ rows. rows) (all_rows db name) result

-- the rows of the table of this name in the database that a search finds
pub record AreSought (db : Database) (name : Name) (table : Table) (search : Search) (found : List Row) : Type 0 where
  pub all : List Row
  pub read : all_rows db name ≡ Ok all
  pub are : found ≡ filter (is_found table.indexes search) all

-- These are the rows of a listed table that a search finds; or memory was short, or a disk's call failed.
abbrev pub FindsAmong : PageMap → ℕ → Table → Search → Result (List Row) Fault → Type 0
FindsAmong pages size table search result = (l : Listed) (db : Database) (name : Name) → Stores pages size l db → table_named name l.tables ≡ Some table
    → MatchResult result (λ found. AreSought db name table search found) IsOutside
