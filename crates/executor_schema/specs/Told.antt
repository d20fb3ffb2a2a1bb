-- What is told of a database's schema (Database File Format, "Storage Of The SQL Database Schema").
use Rattle.std.specs.Prelude.{ℕ, List, [], map, MatchResult, Option, Result, Vec}
use Rattle.std.specs.declared.alloc.Global.{Global}
use Rattle.smallvec.specs.SmallVec.{SmallVec}
use Rattle.sqlval.specs.Faults.{IsOutside}
use Rattle.sqlval.specs.declared.fault.Fault.{Fault}
use Rattle.sqlval.specs.declared.value.Value.{Value}
use Rattle.record.specs.Record.{IsRecord}
use Rattle.tree_leaf.specs.Leaf.{Entry}
use Rattle.pages.specs.Map.{PageMap}
use Rattle.tree_page.specs.Cells.{Pairwise}
use Rattle.sql_syntax.specs.declared.query.Query.{Query}
use Rattle.catalog.specs.Database.{Database, Name}
use Rattle.catalog.specs.Listed.{Listed}
use Rattle.catalog.specs.Named.{IsOfListed}
use Rattle.query_names.specs.Checked.{Checked, known_map}
use Rattle.query_names.specs.Queries.{resolve_query}
use Rattle.query_names.specs.Views.{look_up}
use Rattle.row_scan.specs.Rows.{TableRow, values_of}
use Rattle.db_pages.specs.Schema.{AreRowsOf}
use Rattle.db_pages.specs.Stored.{Stores}

-- the columns of a query's results, by name; an expression that is no plain column has none, unless AS gives it one
abbrev pub columns_named : Database → Query → Checked (List (Option Name))
columns_named db query = known_map (λ reading. map (λ column. column.name) reading.columns) (resolve_query (look_up db) [] query)

-- These are the values of rows of the schema table, of which each tells one of the tables, indexes, views and triggers that the database has, and
-- each of these is told by one.
pub record TellAll (db : Database) (rows : List (List Value)) : Type 0 where
  pub l : Listed
  pub rows_at : ℕ → List TableRow
  pub of_listed : IsOfListed rows_at l db
  pub pages : ℕ
  pub entries : List Entry
  pub tell : AreRowsOf pages l entries
  pub each : Pairwise (λ entry values. IsRecord entry.payload values) entries rows

-- The rows that a call found tell all of the database that the pages store; or memory was short, or a disk's call failed.
abbrev pub TellsObjects : PageMap → ℕ → Result (Vec (SmallVec Value) Global) Fault → Type 0
TellsObjects map_of size result = (l : Listed) (db : Database) → Stores map_of size l db → MatchResult result (λ rows. TellAll db (map values_of rows.items)) IsOutside
