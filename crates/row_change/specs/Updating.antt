-- What UPDATE does to the tree of a table (SQL As Understood By SQLite, "UPDATE").
use Rattle.std.specs.Prelude.{◌≡◌, ◌⊎◌, ℕ, true, List, [], ◌∷◌, ◌++◌, Option, Ok, Err, Result, IfOk, MatchResult, ⊤, map}
use Rattle.std.specs.FinMap.Entries.{put}
use Rattle.std.specs.Global.{Vec}
use Rattle.std.specs.Ordering.{int_cmp}
use Rattle.sqlval.specs.Refusals.{Answer, ◌then◌, refusal_of}
use Rattle.sqlval.specs.declared.fault.Fault.{Fault}
use Rattle.tree_leaf.specs.Leaf.{Entry}
use Rattle.pages.specs.Calls.{IsOutsideOrFull}
use Rattle.pages.specs.Map.{PageMap}
use Rattle.tree_page.specs.Cells.{Pairwise}
use Rattle.tree_table.specs.Calls.{Stands, BecomesRows}
use Rattle.tree_table.specs.Rows.{with_replaced}
use Rattle.catalog.specs.Listed.{shape_of}
use Rattle.catalog.specs.declared.tables.Table.{Table}
use Rattle.catalog.specs.declared.tables.TableRow as stored
use Rattle.query_terms.specs.Terms.{Term}
use Rattle.query_terms.specs.Values.{Row}
use Rattle.row_scan.specs.Rows.{IsRow, TableRow}
use Rattle.row_scan.specs.Sources.{as_source}
use Rattle.row_change.specs.Meaning.{AreEnough}
use Rattle.row_change.specs.Demands.{with_own_rowid}
use Rattle.row_change.specs.NewRows.{row_of}
use Rattle.row_change.specs.Trees.{FitNow}
use Rattle.row_change.specs.Setting.{keeps_rowids, row_set, rows_changed, rows_meant, rows_set_each}

-- the rows with these in place of those of their rowids
abbrev pub with_all_replaced : List Entry → List Entry → List Entry
with_all_replaced [] rows = rows
with_all_replaced (row ∷ more) rows = with_all_replaced more (with_replaced row rows)

-- Where a tree stands, its rows become what is made of them; or memory was short, a disk's call failed, or there are as many pages as
-- there may be.
abbrev pub ReplacesRows : PageMap → PageMap → ℕ → ℕ → (List Entry → List Entry) → Result ⊤ Fault → Type 0
ReplacesRows old new size root edit result = (rows : List Entry) (used free : List ℕ) → Stands old size root rows used free
    → MatchResult result (λ done. BecomesRows old new size root (edit rows) used free) IsOutsideOrFull

-- The tree has the rows that SET leaves.
pub record AreSetIn (old new : PageMap) (size root : ℕ) (table : Table) (sets : List (ℕ × Term)) (condition : Option Term) (rows : List TableRow) (used free : List ℕ) : Type 0 where
  pub now : List TableRow
  pub answer : rows_set_each table sets condition rows ≡ Ok now
  pub entries : List Entry
  pub becomes : BecomesRows old new size root entries used free
  pub each : Pairwise (IsRow (shape_of table)) entries now
  pub fit : FitNow table rows now

-- Why rows aren't set: memory was short, a disk's call failed, or there are as many pages as there may be; or the condition, an
-- expression or what a row becomes is refused.
abbrev pub IsSetRefusal : Table → List (ℕ × Term) → Option Term → List TableRow → Fault → Type 0
IsSetRefusal table sets condition rows f = IsOutsideOrFull f ⊎ (rows_set_each table sets condition rows ≡ Err (refusal_of f))

-- Where a tree has rows of a table whose rowids SET leaves, and of which these are enough for the condition, those for which it is true, or
-- all, become what SET makes of them, or the call is refused.
abbrev pub SetsRows : {X : Type 0} → PageMap → PageMap → ℕ → ℕ → Table → List (ℕ × Term) → Option Term → List Row → Result X Fault → Type 0
SetsRows old new size root table sets condition given result = (rows : List TableRow) (entries : List Entry) (used free : List ℕ)
    → keeps_rowids table sets ≡ true → Stands old size root entries used free → Pairwise (IsRow (shape_of table)) entries rows → AreEnough condition given rows
    → MatchResult result (λ done. AreSetIn old new size root table sets condition rows used free) (IsSetRefusal table sets condition rows)

-- Of rows of which these are enough for the condition, the rows that are answered are what those that are meant become.
abbrev pub TellsChanged : Table → List (ℕ × Term) → Option Term → List Row → Result (Vec stored.TableRow) Fault → Type 0
TellsChanged table sets condition given result = (rows : List TableRow) → AreEnough condition given rows
    → IfOk result (λ new. rows_changed table sets condition (map as_source rows) ≡ Ok (map row_of new.items))

-- Where a condition means these of the rows given, whatever condition that is, they become what SET makes of them, or the call is refused.
abbrev pub SetsThese : {X : Type 0} → PageMap → PageMap → ℕ → ℕ → Table → List (ℕ × Term) → List Row → List Row → Result X Fault → Type 0
SetsThese old new size root table sets given these result = (condition : Option Term) → rows_meant condition [] given ≡ Ok these
    → SetsRows old new size root table sets condition given result

-- Where a condition means these of the rows given, the rows that are answered are what they become.
abbrev pub TellsThese : Table → List (ℕ × Term) → List Row → List Row → Result (Vec stored.TableRow) Fault → Type 0
TellsThese table sets given these result = (condition : Option Term) → rows_meant condition [] given ≡ Ok these → TellsChanged table sets condition given result

-- ---- one row

-- what a row among others becomes by SET, where none of these has its rowid
abbrev pub row_moved : Table → List (ℕ × Term) → List TableRow → TableRow → Answer TableRow
row_moved table sets others row = row_set table sets row then λ now. with_own_rowid others now

-- The tree has what SET makes of the row, in its place by rowid.
pub record IsSetIn (old new : PageMap) (size root : ℕ) (table : Table) (sets : List (ℕ × Term)) (before : List TableRow) (row : TableRow) (after : List TableRow) (used free : List ℕ) (set : TableRow) : Type 0 where
  pub answer : row_moved table sets (before ++ after) row ≡ Ok set
  pub entries : List Entry
  pub becomes : BecomesRows old new size root entries used free
  pub each : Pairwise (IsRow (shape_of table)) entries (put int_cmp set.0 set.1 (before ++ after))
  pub fit : FitNow table (before ++ row ∷ after) (put int_cmp set.0 set.1 (before ++ after))

-- Where a tree has a row of a table among others, it becomes what SET makes of it, or the call is refused.
abbrev pub SetsRow : PageMap → PageMap → ℕ → ℕ → Table → List (ℕ × Term) → Row → Result stored.TableRow Fault → Type 0
SetsRow old new size root table sets source result = (before : List TableRow) (row : TableRow) (after : List TableRow) (entries : List Entry) (used free : List ℕ)
    → Stands old size root entries used free → Pairwise (IsRow (shape_of table)) entries (before ++ row ∷ after) → source ≡ as_source row
    → MatchResult result (λ set. IsSetIn old new size root table sets before row after used free (row_of set))
    (λ f. IsOutsideOrFull f ⊎ (row_moved table sets (before ++ after) row ≡ Err (refusal_of f)))
