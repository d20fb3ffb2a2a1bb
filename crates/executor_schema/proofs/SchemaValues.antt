-- The rows of the schema table are records of five values.
use Rattle.std.proofs.Common.{◌≡◌, inl, inr, refl, sym, ap, subst, ◌∙◌, ℕ, List, [], ◌∷◌, map}
use Rattle.std.specs.Prelude.{length, None, Result, Ok, Err, Vec, IsErrAnd, MatchResult}
use Rattle.std.specs.declared.alloc.Global.{Global}
use Rattle.smallvec.specs.SmallVec.{SmallVec}
use Rattle.sqlval.specs.Faults.{IsOrMemory, IsOutside}
use Rattle.sqlval.specs.declared.fault.Fault.{Fault}
use Rattle.pages.specs.Map.{PageMap}
use Rattle.catalog.specs.Database.{Database}
use Rattle.catalog.specs.Listed.{Listed}
use Rattle.query_terms.specs.Values.{Row}
use Rattle.query_names.specs.declared.queries.BoundSource.{BoundSource}
use Rattle.row_scan.specs.Sources.{LoadsRows, as_source}
use Rattle.db_pages.specs.Stored.{Stores}
use Rattle.executor_schema.specs.Told.{TellAll}
use Rattle.sqlval.specs.declared.value.Value.{Value}
use Rattle.record.specs.Record.{IsRecord}
use Rattle.tree_leaf.specs.Leaf.{Entry}
use Rattle.tree_page.specs.Cells.{Pairwise}
use Rattle.catalog.specs.declared.tables.RowShape.{RowShape}
use Rattle.row_scan.specs.Rows.{IsRow, TableRow, values_of}
use Rattle.db_pages.specs.Schema.{IndexTold, TableTold, Tells, Told, TriggerTold, ViewTold}

abbrev pub schema_shape : RowShape
schema_shape = record { width = 5; own = None }

-- the values of a row of the schema table
record HasFive (entry : Entry) : Type 0 where
  values : List Value
  is : IsRecord entry.payload values
  five : length values ≡ 5

five_told : (pages : ℕ) (told : Told) (entry : Entry) → Tells pages told entry → HasFive entry
five_told pages (TableTold table) entry row = record { values = _; is = row.row_is.row_is; five = refl }
five_told pages (IndexTold table index) entry (inl row) = record { values = _; is = row.row_is.row_is; five = refl }
five_told pages (IndexTold table index) entry (inr row) = record { values = _; is = row.row_is.row_is; five = refl }
five_told pages (ViewTold view) entry row = record { values = _; is = row.row_is; five = refl }
five_told pages (TriggerTold trigger) entry row = record { values = _; is = row.row_is; five = refl }

-- The entries are rows of a table with five columns, and records of these rows' values.
pub record AreSchemaRows (entries : List Entry) : Type 0 where
  pub rows : List TableRow
  pub are : Pairwise (IsRow schema_shape) entries rows
  pub records : Pairwise (λ (entry : Entry) (values : List Value). IsRecord entry.payload values) entries (map (λ (row : TableRow). row.1) rows)

pub schema_rows_are : (pages : ℕ) (told : List Told) (entries : List Entry) → Pairwise (Tells pages) told entries → AreSchemaRows entries
schema_rows_are pages [] [] tell = record { rows = []; are = tt; records = tt }
schema_rows_are pages [] (entry ∷ entries) tell = absurd tell
schema_rows_are pages (told ∷ rest) [] tell = absurd tell
schema_rows_are pages (told ∷ rest) (entry ∷ entries) tell =
    let first = five_told pages told entry tell.0 in
    let others = schema_rows_are pages rest entries tell.1 in
    record {
      rows = (entry.rowid, first.values) ∷ others.rows;
      are = (record { rowid = refl; values = first.is; full = first.five; own = refl }, others.are);
      records = (first.is, others.records);
    }

-- ---- what is told of a database

-- the values of the rows of a source
sources_values : (rows : List TableRow) → map (λ (row : Row). row.values) (map as_source rows) ≡ map (λ (row : TableRow). row.1) rows
sources_values [] = refl
sources_values (row ∷ rows) = ap (λ (values : List (List Value)). row.1 ∷ values) (sources_values rows)

abbrev pub schema_table : BoundSource
schema_table = record { root = 1; shape = schema_shape }

pub tells_all : (m : PageMap) (size : ℕ) (l : Listed) (db : Database) → Stores m size l db → (found : List Row) → LoadsRows m size schema_table (Ok found) → TellAll db (map (λ (row : Row). row.values) found)
tells_all m size l db s found loads =
    let are = schema_rows_are (length m) s.tell.told s.schema s.tell.each in
    let is = loads are.rows s.shared.whole (record { entries = s.schema; used = s.schema_used; tree = s.shared.trees.0; each = are.are }) in
    subst (TellAll db) (sym (ap (map (λ (row : Row). row.values)) is ∙ sources_values are.rows))
    (record { l = l; rows_at = s.rows_at; of_listed = s.of_listed; pages = length m; entries = s.schema; tell = s.tell; each = are.records })

-- the tree of the schema table isn't refused
pub schema_refused : (m : PageMap) (size : ℕ) (l : Listed) (db : Database) → Stores m size l db → (f : Fault) → LoadsRows m size schema_table (Err f) → IsOutside f
schema_refused m size l db s f loads =
    let are = schema_rows_are (length m) s.tell.told s.schema s.tell.each in
    loads are.rows s.shared.whole (record { entries = s.schema; used = s.schema_used; tree = s.shared.trees.0; each = are.are })

abbrev Made : Type 0
Made = Result (Vec (SmallVec Value) Global) Fault

pub made_tell : (db : Database) (found : List Row) (result : Made) → TellAll db (map (λ (row : Row). row.values) found) → IsOrMemory (λ rows. map values_of rows.items ≡ map (λ (row : Row). row.values) found) result
    → MatchResult result (λ rows. TellAll db (map values_of rows.items)) IsOutside
made_tell db found (Ok rows) tell are = subst (TellAll db) (sym are) tell
made_tell db found (Err f) tell memory = inl memory

pub outside_told : (db : Database) (result : Made) (f : Fault) → IsErrAnd result (λ e. e ≡ f) → IsOutside f → MatchResult result (λ rows. TellAll db (map values_of rows.items)) IsOutside
outside_told db (Ok rows) f is why = absurd is
outside_told db (Err e) f is why = subst IsOutside (sym is) why
