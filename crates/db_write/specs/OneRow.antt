-- What a change of one row, and of one row after another, makes of a table's trees (SQL As Understood By SQLite, "INSERT", "UPDATE", "DELETE";
-- "CREATE INDEX", "Unique Indexes").
use Rattle.std.specs.Prelude.{◌≡◌, ◌⊎◌, ⊤, ℕ, ℤ, true, List, [], ◌∷◌, ◌++◌, map, if◌then◌else◌, int_lt, Option, Some, None, Result, Ok, Err, MatchResult}
use Rattle.std.specs.FinMap.Entries.{put}
use Rattle.std.specs.List.{AllByRecursion}
use Rattle.std.specs.Ordering.{int_cmp}
use Rattle.sqlval.specs.Faults.{IsOutside}
use Rattle.sqlval.specs.PageSizes.{IsPageSize}
use Rattle.sqlval.specs.Refusals.{Answer, ◌then◌, refusal_of}
use Rattle.sqlval.specs.declared.fault.Fault.{Fault}
use Rattle.sqlval.specs.declared.value.Value.{Value}
use Rattle.pages.specs.Calls.{IsOutsideOrFull}
use Rattle.pages.specs.Map.{PageMap}
use Rattle.db_layout.specs.Layout.{Owner}
use Rattle.catalog.specs.Listed.{with_rows}
use Rattle.catalog.specs.Rows.{are_rows}
use Rattle.catalog.specs.declared.tables.Table.{Table}
use Rattle.catalog.specs.declared.tables.TableRow as stored
use Rattle.query_terms.specs.Terms.{Term}
use Rattle.query_terms.specs.Values.{Row}
use Rattle.row_scan.specs.Rows.{TableRow}
use Rattle.row_scan.specs.Sources.{as_source}
use Rattle.row_change.specs.Demands.{admitted}
use Rattle.row_change.specs.Giving.{Serves}
use Rattle.row_change.specs.Inserting.{last_rowid, row_added}
use Rattle.row_change.specs.NewRows.{row_of}
use Rattle.row_change.specs.Setting.{row_set, rows_turned}
use Rattle.index_entries.specs.Entries.{AreApart}
use Rattle.db_layout.specs.Trees.{AreAmong}
use Rattle.db_write.specs.Changing.{AreInserted, HoldsFitRows, IsRefusedInsert, IsTooWide}

-- memory or pages are short, or a disk's call failed; or the answer is a refusal, or an index is too wide
abbrev pub IsRefusedAs : {A : Type 0} → Answer A → Table → Fault → Type 0
IsRefusedAs answer table fault = IsOutsideOrFull fault ⊎ ((answer ≡ Err (refusal_of fault)) ⊎ IsTooWide table fault)

-- ---- INSERT

-- the last rowid of rows whose last rowid was this, with one of that rowid among them
abbrev pub last_with : Option ℤ → ℤ → Option ℤ
last_with None rowid = Some rowid
last_with (Some last) rowid = if int_lt rowid last then Some last else Some rowid

-- the row that a row given becomes, where it is alone among the table's
abbrev pub row_inserted : Table → List (Option ℕ) → List TableRow → List Value → Answer TableRow
row_inserted table places rows given = row_added table places (last_rowid rows) given then λ row. admitted table rows row

-- This is the row that a row given becomes, and the table has it among its rows.
pub record IsRowInserted (old new : PageMap) (size : ℕ) (schema : Owner) (before : List Owner) (table : Table) (places : List (Option ℕ))
    (given : List Value) (rows : List TableRow) (after : List Owner) (row : TableRow) : Type 0 where
  pub answer : row_inserted table places rows given ≡ Ok row
  pub hold : HoldsFitRows old new size schema before table (put int_cmp row.0 row.1 rows) after

-- what is made of a row given, where the table has these rows, and the row is answered; or the call is refused
abbrev pub IsInsertionOf : PageMap → PageMap → ℕ → Owner → List Owner → Table → List (Option ℕ) → List Value → List TableRow → List Owner
    → Result stored.TableRow Fault → Type 0
IsInsertionOf old new size schema before table places given rows after result =
    MatchResult result (λ row. IsRowInserted old new size schema before table places given rows after (row_of row))
    (λ fault. IsRefusedAs (row_inserted table places rows given) table fault)

-- A rowid is found that serves as the last one of the table's rows for a row given, which may bring its own ("ROWIDs and the INTEGER PRIMARY
-- KEY"); or a disk's call failed.
abbrev pub FindsLastFor : PageMap → ℕ → Table → List (Option ℕ) → List Value → Result (Option ℤ) Fault → Type 0
FindsLastFor pages size table places given result = (schema : Owner) (before after : List Owner) (rows : List TableRow) → IsPageSize size
    → schema.root ≡ 1 → AreAmong pages size schema before table rows after
    → MatchResult result (λ last. Serves table places given last rows) IsOutside

-- A row given is inserted into the table, and answered as it is stored; or the call is refused ("INSERT").
abbrev pub InsertsOneRow : PageMap → PageMap → ℕ → Table → List (Option ℕ) → List Value → Result stored.TableRow Fault → Type 0
InsertsOneRow old new size table places given result = (schema : Owner) (before after : List Owner) (rows : List TableRow) → IsPageSize size
    → schema.root ≡ 1 → AreAmong old size schema before table rows after → are_rows (with_rows table rows) ≡ true
    → IsInsertionOf old new size schema before table places given rows after result

-- The same where this serves as the table's last rowid.
abbrev pub InsertsAfter : PageMap → PageMap → ℕ → Table → List (Option ℕ) → List Value → Option ℤ → Result stored.TableRow Fault → Type 0
InsertsAfter old new size table places given last result = (schema : Owner) (before after : List Owner) (rows : List TableRow) → IsPageSize size
    → schema.root ≡ 1 → AreAmong old size schema before table rows after → are_rows (with_rows table rows) ≡ true
    → Serves table places given last rows → IsInsertionOf old new size schema before table places given rows after result

-- Rows given are inserted into the table, whose last rowid this is, one after another; or the call is refused.
abbrev pub InsertsFrom : PageMap → PageMap → ℕ → Table → List (Option ℕ) → List (List Value) → Option ℤ → Result ⊤ Fault → Type 0
InsertsFrom old new size table places given last result = (schema : Owner) (before after : List Owner) (rows : List TableRow) → IsPageSize size
    → schema.root ≡ 1 → AreAmong old size schema before table rows after → are_rows (with_rows table rows) ≡ true → last ≡ last_rowid rows
    → MatchResult result (λ done. AreInserted old new size schema before table places given rows after) (IsRefusedInsert table places given rows)

-- ---- UPDATE

-- what the row becomes by SET, where it is alone among the others
abbrev pub row_turned : Table → List (ℕ × Term) → TableRow → List TableRow → Answer TableRow
row_turned table sets row others = row_set table sets row then λ now. admitted table others now

-- This is what the row becomes by SET, and the table has it in place of the row.
pub record IsTurned (old new : PageMap) (size : ℕ) (schema : Owner) (before : List Owner) (table : Table) (sets : List (ℕ × Term))
    (front : List TableRow) (row : TableRow) (back : List TableRow) (after : List Owner) (now : TableRow) : Type 0 where
  pub answer : row_turned table sets row (front ++ back) ≡ Ok now
  pub hold : HoldsFitRows old new size schema before table (put int_cmp now.0 now.1 (front ++ back)) after

-- A row of the table becomes what SET makes of it, and is answered as it is then; or the call is refused ("UPDATE").
abbrev pub TurnsRow : PageMap → PageMap → ℕ → Table → List (ℕ × Term) → Row → Result stored.TableRow Fault → Type 0
TurnsRow old new size table sets source result = (schema : Owner) (before after : List Owner) (front : List TableRow) (row : TableRow)
    (back : List TableRow) → IsPageSize size → schema.root ≡ 1 → AreAmong old size schema before table (front ++ row ∷ back) after
    → are_rows (with_rows table (front ++ row ∷ back)) ≡ true → source ≡ as_source row
    → MatchResult result (λ now. IsTurned old new size schema before table sets front row back after (row_of now))
    (λ fault. IsRefusedAs (row_turned table sets row (front ++ back)) table fault)

-- the row is one of these
abbrev pub IsOneOf : TableRow → List TableRow → Type 0
IsOneOf row [] = ⊥
IsOneOf row (other ∷ rows) = (row ≡ other) ⊎ IsOneOf row rows

-- The table has what SET leaves of its rows once it has made of some what they become.
pub record AreTurned (old new : PageMap) (size : ℕ) (schema : Owner) (before : List Owner) (table : Table) (sets : List (ℕ × Term))
    (rows olds : List TableRow) (after : List Owner) : Type 0 where
  pub now : List TableRow
  pub answer : rows_turned table sets rows olds ≡ Ok now
  pub hold : HoldsFitRows old new size schema before table now after

-- Rows of the table become what SET makes of them, one after another; or the call is refused.
abbrev pub TurnsFrom : PageMap → PageMap → ℕ → Table → List (ℕ × Term) → List Row → Result ⊤ Fault → Type 0
TurnsFrom old new size table sets sources result = (schema : Owner) (before after : List Owner) (rows olds : List TableRow) → IsPageSize size
    → schema.root ≡ 1 → AreAmong old size schema before table rows after → are_rows (with_rows table rows) ≡ true → sources ≡ map as_source olds
    → AllByRecursion (λ row. IsOneOf row rows) olds → AreApart olds
    → MatchResult result (λ done. AreTurned old new size schema before table sets rows olds after)
    (λ fault. IsRefusedAs (rows_turned table sets rows olds) table fault)

-- ---- DELETE

-- A row of the table is taken out of it; or memory or pages are short, or a disk's call failed ("DELETE").
abbrev pub TakesOneRow : PageMap → PageMap → ℕ → Table → TableRow → Result ⊤ Fault → Type 0
TakesOneRow old new size table row result = (schema : Owner) (before after : List Owner) (front back : List TableRow) → IsPageSize size
    → schema.root ≡ 1 → AreAmong old size schema before table (front ++ row ∷ back) after → are_rows (with_rows table (front ++ row ∷ back)) ≡ true
    → MatchResult result (λ done. HoldsFitRows old new size schema before table (front ++ back) after) IsOutsideOrFull
