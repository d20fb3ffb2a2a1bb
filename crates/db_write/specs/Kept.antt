-- Rows that an UPDATE sets and that keep their rowids and keys, beside UNIQUE indexes (SQL As Understood By SQLite, "UPDATE"; "CREATE INDEX",
-- "Unique Indexes").
use Rattle.std.specs.Prelude.{◌≡◌, ℕ, ⊤, Bool, true, false, IsTrue, IfSome, List, [], ◌∷◌, ◌++◌, map, slice_get, unwrap_or, Option, Result, MatchResult}
use Rattle.std.specs.Global.{Vec}
use Rattle.std.specs.List.{AllByRecursion, list_any}
use Rattle.std.specs.declared.cmp.Ordering.TheVariants.{Less}
use Rattle.sqlval.specs.Faults.{IsOutside}
use Rattle.sqlval.specs.Order.{order}
use Rattle.sqlval.specs.PageSizes.{IsPageSize}
use Rattle.sqlval.specs.declared.collation.Collation.{Collation}
use Rattle.sqlval.specs.declared.value.Value.{Value}
use Rattle.sqlval.specs.declared.value.Value.TheVariants.{Null}
use Rattle.sqlval.specs.declared.fault.Fault.{Fault}
use Rattle.pages.specs.Map.{AreWhole, PageMap}
use Rattle.tree_table.specs.declared.changing.RowChange.{RowChange}
use Rattle.db_layout.specs.Layout.{Owner}
use Rattle.catalog.specs.Listed.{with_rows}
use Rattle.catalog.specs.Rows.{are_rows}
use Rattle.catalog.specs.declared.tables.Index.{Index}
use Rattle.catalog.specs.declared.tables.IndexColumn.{IndexColumn}
use Rattle.catalog.specs.declared.tables.Table.{Table}
use Rattle.query_terms.specs.Terms.{Term}
use Rattle.query_terms.specs.Values.{Row}
use Rattle.row_scan.specs.Rows.{TableRow}
use Rattle.row_search.specs.Found.{HasEntriesOf}
use Rattle.row_change.specs.Keeping.{AreKeptBy}
use Rattle.row_change.specs.Meaning.{AreEnough}
use Rattle.row_change.specs.Setting.{rows_set, rows_set_each}
use Rattle.index_entries.specs.Alone.{clashes}
use Rattle.index_entries.specs.Entries.{AreApart}
use Rattle.db_layout.specs.Trees.{AreAmong, columns_of}
use Rattle.db_write.specs.Changing.{IsRefusedUpdate}
use Rattle.db_write.specs.OneRow.{IsOneOf}

-- wherever it stands among the rows, the row clashes with none of the others in the index
abbrev pub ClashesWithNone : List TableRow → Index → TableRow → Type 0
ClashesWithNone rows index row = (before after : List TableRow) → before ++ row ∷ after ≡ rows → list_any (clashes (columns_of index) row) (before ++ after) ≡ false

-- where the index is UNIQUE, each of these clashes with none of the others
abbrev pub AreAloneIn : List TableRow → List TableRow → Index → Type 0
AreAloneIn rows those index = index.is_unique ≡ true → AllByRecursion (ClashesWithNone rows index) those

-- Where an index's tree has the entries of rows, among which these are, each of these is seen to clash with none of the others, where the index is
-- UNIQUE, or it isn't said; or memory was short, or a disk's call failed.
abbrev pub SeesAlone : PageMap → ℕ → Index → List TableRow → Result Bool Fault → Type 0
SeesAlone pages size index those result = (rows : List TableRow) → AreApart rows → AreWhole size pages → HasEntriesOf pages size rows index
    → AllByRecursion (λ row. IsOneOf row rows) those
    → MatchResult result (λ alone. IsTrue alone → AreAloneIn rows those index) IsOutside

-- and so in each of these indexes
abbrev pub SeeAlone : PageMap → ℕ → List Index → List TableRow → Result Bool Fault → Type 0
SeeAlone pages size indexes those result = (rows : List TableRow) → AreApart rows → AreWhole size pages → AllByRecursion (HasEntriesOf pages size rows) indexes
    → AllByRecursion (λ row. IsOneOf row rows) those
    → MatchResult result (λ alone. IsTrue alone → AllByRecursion (AreAloneIn rows those) indexes) IsOutside

-- Where an index's tree has the entries of rows, each of the rows is seen to clash with none of the others, where the index is UNIQUE, or it isn't
-- said; or memory was short, or a disk's call failed.
abbrev pub SeesApart : PageMap → ℕ → Index → Result Bool Fault → Type 0
SeesApart pages size index result = (rows : List TableRow) → AreWhole size pages → HasEntriesOf pages size rows index
    → MatchResult result (λ apart. IsTrue apart → AreAloneIn rows rows index) IsOutside

-- and so in each of these indexes
abbrev pub SeeApart : PageMap → ℕ → List Index → Result Bool Fault → Type 0
SeeApart pages size indexes result = (rows : List TableRow) → AreWhole size pages → AllByRecursion (HasEntriesOf pages size rows) indexes
    → MatchResult result (λ apart. IsTrue apart → AllByRecursion (AreAloneIn rows rows) indexes) IsOutside

-- the value in a row's column
abbrev pub row_value : ℕ → Row → Value
row_value place row = unwrap_or (slice_get row.values place) Null

-- each of these values is less than the next
abbrev pub ValuesRise : Collation → List Value → Type 0
ValuesRise collation [] = ⊤
ValuesRise collation (value ∷ []) = ⊤
ValuesRise collation (value ∷ next ∷ values) = (order collation value next ≡ Less) × ValuesRise collation (next ∷ values)

-- from row to row the values in the first of these columns rise
abbrev pub FirstRises : List Row → List IndexColumn → Type 0
FirstRises rows [] = ⊥
FirstRises rows (column ∷ columns) = ValuesRise column.collation (map (row_value column.place) rows)

-- and so those in the first column of the index, where it is UNIQUE
abbrev pub KeysRise : List Row → Index → Type 0
KeysRise rows index = index.is_unique ≡ true → FirstRises rows index.columns

-- the rows that are set are kept, and these are their changes, and all rows are set as they become
pub record AreSetAlone (table : Table) (sets : List (ℕ × Term)) (condition : Option Term) (rows : List TableRow) (changes : List RowChange) : Type 0 where
  pub kept : AreKeptBy table sets condition rows changes
  pub as_each : rows_set table sets condition rows ≡ rows_set_each table sets condition rows

-- Among all trees of a file stand those of the table, with rows that it may hold, and of which these are enough for the condition. Then these are
-- the changes of rows that are kept, where there are some; or the UPDATE is refused.
abbrev pub FindsKept : PageMap → ℕ → Table → Option Term → List (ℕ × Term) → List Row → Result (Option (Vec RowChange)) Fault → Type 0
FindsKept pages size table condition sets found result = (schema : Owner) (before after : List Owner) (rows : List TableRow) → IsPageSize size → schema.root ≡ 1
    → AreAmong pages size schema before table rows after → are_rows (with_rows table rows) ≡ true → AreEnough condition found rows
    → MatchResult result (λ kept. IfSome kept (λ changes. AreSetAlone table sets condition rows changes.items)) (IsRefusedUpdate table condition sets rows)
