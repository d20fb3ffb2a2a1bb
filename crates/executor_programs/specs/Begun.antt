-- A row of a table between the triggers before its change and those after it (SQL As Understood By SQLite, "CREATE TRIGGER").
use Rattle.std.specs.Prelude.{◌≡◌, ◌⊎◌, ⊤, Bool, true, false, ℕ, ℤ, List, [], ◌∷◌, map, length, option_map, unwrap_or, slice_get, Option, Some, None, Ok, Err, Result, MatchResult}
use Rattle.std.specs.Global.{Vec}
use Rattle.sqlval.specs.Faults.{IsOutside}
use Rattle.sqlval.specs.Refusals.{Answer, ◌then◌, RowChangedBefore, refusal_of}
use Rattle.sqlval.specs.declared.fault.Fault.{Fault}
use Rattle.sqlval.specs.declared.value.Value.{Value}
use Rattle.sqlval.specs.declared.value.Value.TheVariants.{Int, Null}
use Rattle.sql_syntax.specs.declared.change.Change.{Change}
use Rattle.pages.specs.Map.{PageMap}
use Rattle.catalog.specs.Database as database
use Rattle.catalog.specs.Database.{Database, Name, row}
use Rattle.catalog.specs.Listed.{Listed, as_column, table_named, with_rows}
use Rattle.catalog.specs.declared.tables.Table.{Table}
use Rattle.catalog.specs.declared.tables.TableRow as stored
use Rattle.query_names.specs.declared.scope.ScopeColumn.{ScopeColumn}
use Rattle.query_terms.specs.Outcome.{AnswersBy}
use Rattle.query_terms.specs.Values.{Row}
use Rattle.row_scan.specs.Rows.{TableRow}
use Rattle.row_change.specs.Binding.{row_with}
use Rattle.row_change.specs.Changes.{Outer}
use Rattle.row_change.specs.Constraints.{row_of, table_of, with_affinity}
use Rattle.row_change.specs.NewRows.{row_of as pair_of}
use Rattle.row_change.specs.RowChanges.{Firing, same_row}
use Rattle.trigger.specs.Binding.{aim_of}
use Rattle.db_pages.specs.Stored.{Stores}
use Rattle.executor.specs.Rows.{AreStoredBy, StoresTable}
use Rattle.executor_programs.specs.Acts.{IsItemOf, IsRowIn, IsTableAct}
use Rattle.executor_programs.specs.Outer.{Shows, only}
use Rattle.executor_programs.specs.Rows.{IsInTable, begun, finished, rows_seen}
use Rattle.executor_programs.specs.Running.{IsRunRefusal}
use Rattle.executor_programs.specs.declared.acts.Act.{Act}
use Rattle.executor_programs.specs.declared.acts.TableItem.{TableItem}
use Rattle.executor_programs.specs.declared.acts.TableItem.TheVariants as item
use Rattle.executor_programs.specs.declared.acts.ViewItem.{ViewItem}
use Rattle.executor_programs.specs.declared.outer.OuterRows.{OuterRows}
use Rattle.executor_programs.specs.declared.rows.AtRow.{AtRow}
use Rattle.executor_programs.specs.declared.rows.AtRow.TheVariants as at_row
use Rattle.executor_programs.specs.declared.rows.Begun.{Begun}
use Rattle.executor_programs.specs.declared.rows.Begun.TheVariants as begin

-- what NEW shows of a rowid that isn't settled: the value in its own column, if there is such a column
abbrev pub shown : Option ℕ → ℤ → List Value → Value
shown None rowid values = Int rowid
shown (Some place) rowid values = unwrap_or (slice_get values place) Null

-- values, as they are kept
abbrev pub Values : Type 0
Values = Vec Value

-- lists of one row each, NEW before OLD
abbrev pub both_rows : Option Row → Option Row → List (List Row)
both_rows None None = []
both_rows (Some new) None = only new ∷ []
both_rows None (Some old) = only old ∷ []
both_rows (Some new) (Some old) = only new ∷ only old ∷ []

-- the row as it is then is NEW, and as it was OLD
abbrev pub IsBegunAt : Begun → Firing → Type 0
IsBegunAt (begin.Insert rowid values) f = (f.new ≡ Some (record { rowid = rowid; values = values.items })) × (f.old ≡ None)
IsBegunAt (begin.Update old rowid values) f = (f.new ≡ Some (record { rowid = rowid; values = values.items })) × (f.old ≡ Some (row_of old.rowid old.values.items))
IsBegunAt (begin.Delete old) f = (f.new ≡ None) × (f.old ≡ Some (row_of old.rowid old.values.items))

-- the row as it was; none of an INSERT
abbrev pub old_in : Begun → Option stored.TableRow
old_in (begin.Insert rowid values) = None
old_in (begin.Update old rowid values) = Some old
old_in (begin.Delete old) = Some old

-- a row of a table as NEW or OLD
abbrev pub as_seen : stored.TableRow → Row
as_seen r = row_of r.rowid r.values.items

-- NEW and OLD of the event are the row's before its change, or after it
abbrev pub IsSeenAt : AtRow → Firing → Type 0
IsSeenAt (at_row.Before b) f = IsBegunAt b.now f
IsSeenAt (at_row.After b now) f = (f.new ≡ option_map as_seen now) × (f.old ≡ option_map as_seen (old_in b.now))

-- the row that is changed is in the table as it was
abbrev pub IsUntouched : Database → Name → Begun → Type 0
IsUntouched db name b = IsInTable db name (old_in b)

-- the row, if there is one, is in the table of this name of each database that the pages store
abbrev pub IsRowOnPages : PageMap → ℕ → Listed → Name → Option stored.TableRow → Type 0
IsRowOnPages pages size l name o = (db : Database) → Stores pages size l db → IsInTable db name o

-- This is the row of a rowid, if there is one, of a table that has the known row; or memory was short, or a disk's call failed.
abbrev pub FindsNow : PageMap → ℕ → Table → ℤ → Option stored.TableRow → Result (Option stored.TableRow) Fault → Type 0
FindsNow pages size table rowid known result = (l : Listed) (db : Database) (name : Name) (t : database.Table) → StoresTable pages size l db name table t → IsInTable db name known
    → MatchResult result (λ found. option_map pair_of found ≡ option_map (λ values. (rowid, values)) (row t rowid)) IsOutside

-- what is to be done with it is as the item says; the values are as the columns store them
abbrev pub IsBegunFor : Table → Act → TableItem → Begun → Type 0
IsBegunFor table act (item.Insert given) (begin.Insert rowid values) = with_affinity (map as_column table.columns) (row_with table act.places.items given.items) ≡ Ok values.items
IsBegunFor table act (item.Update id) (begin.Update old rowid values) = (old.rowid ≡ id) × AreStoredBy (with_rows table []) values.items
IsBegunFor table act (item.Delete id) (begin.Delete old) = old.rowid ≡ id
IsBegunFor table act _ _ = ⊥

-- the row, between its triggers
pub record IsBetween (l : Listed) (c : Change) (table : Table) (act : Act) (i : TableItem) (b : Begun) (f : Firing) : Type 0 where
  pub at : IsBegunAt b f
  pub for : IsBegunFor table act i b
  pub row : IsRowIn l (aim_of c) f

-- the event at the row, or none where it is gone
abbrev pub IsBegunAs : Listed → Change → Table → Act → TableItem → Answer (Option Firing) → Option Begun → Type 0
IsBegunAs l c table act i answer None = answer ≡ Ok None
IsBegunAs l c table act i answer (Some b) = (f : Firing) × (answer ≡ Ok (Some f)) × IsBetween l c table act i b f

-- the answer is begun so; or it is refused as its values are, for want of memory, or by a disk
abbrev pub BeginsAs : Listed → Change → Table → Act → TableItem → Answer (Option Firing) → Result (Option Begun) Fault → Type 0
BeginsAs l c table act i answer result = MatchResult result (IsBegunAs l c table act i answer) (λ f. IsOutside f ⊎ (answer ≡ Err (refusal_of f)))

-- A row's change begins, where the row that is known is in the table; or it is refused as its values are, for want of memory, or by a disk.
abbrev pub Begins : PageMap → ℕ → Listed → OuterRows → Change → Table → Act → TableItem → Option stored.TableRow → Result (Option Begun) Fault → Type 0
Begins pages size l o c table act i known result = (db : Database) (seen : Outer) → Stores pages size l db → Shows o seen → IsTableAct l c table act → IsItemOf c table act i
    → IsInTable db (aim_of c).target known → BeginsAs l c table act i (begun seen c act i db) result

-- An UPDATE of this row, which is there, begins.
abbrev pub BeginsSet : OuterRows → Table → Act → stored.TableRow → Result (Option Begun) Fault → Type 0
BeginsSet o table act old result = (l : Listed) (c : Change) (db : Database) (seen : Outer) (rows : List TableRow) → Shows o seen → table_named (aim_of c).target l.tables ≡ Some table
    → IsItemOf c table act (item.Update old.rowid) → table_of db (aim_of c).target ≡ Ok (with_rows table rows)
    → row (with_rows table rows) old.rowid ≡ Some old.values.items → length old.values.items ≡ length table.columns
    → BeginsAs l c table act (item.Update old.rowid) (begun seen c act (item.Update old.rowid) db) result

-- the row is as it was, which is known where it is alone
abbrev pub ExpectsUnchanged : PageMap → ℕ → Table → Bool → TableRow → Result ⊤ Fault → Type 0
ExpectsUnchanged pages size table alone old result = (l : Listed) (db : Database) (name : Name) (t : database.Table) → StoresTable pages size l db name table t
    → (alone ≡ true → row t old.0 ≡ Some old.1) → MatchResult result (λ done. same_row (row t old.0) old.1 ≡ true) (λ f. IsOutside f ⊎ ((same_row (row t old.0) old.1 ≡ false) × (refusal_of f ≡ RowChangedBefore)))

-- The row's change is made, and this is the row as it is then, if it is there: NEW and OLD at the event after it are these.
pub record IsFinished (new : PageMap) (size : ℕ) (l : Listed) (c : Change) (answer : Answer (Database × Firing)) (b : Begun) (now : Option stored.TableRow) : Type 0 where
  pub made : Database
  pub f : Firing
  pub is : answer ≡ Ok (made, f)
  pub stored : Stores new size l made
  pub row : IsRowIn l (aim_of c) f
  pub new_is : f.new ≡ option_map as_seen now
  pub old_is : f.old ≡ option_map as_seen (old_in b)

-- A row's change is made after its triggers ran, or with none before it, so that the row is as it was; or it is refused.
abbrev pub Finishes : PageMap → PageMap → ℕ → Listed → Change → Table → Act → TableItem → Begun → Bool → Result (Option stored.TableRow) Fault → Type 0
Finishes old new size l c table act i b alone result = (db : Database) (f : Firing) → Stores old size l db → IsTableAct l c table act → IsItemOf c table act i → IsBetween l c table act i b f
    → (alone ≡ true → IsUntouched db (aim_of c).target b)
    → MatchResult result (IsFinished new size l c (finished c i f db) b) (IsRunRefusal l (finished c i f db))

-- the values that an INSERT gives
abbrev pub given_in : TableItem → List Value
given_in (item.Insert given) = given.items
given_in _ = []

-- An INSERT of a row of these values is made, whichever change and row before it these are; or it is refused.
abbrev pub FinishesInsert : PageMap → PageMap → ℕ → Table → Act → List Value → Result (Option stored.TableRow) Fault → Type 0
FinishesInsert old new size table act given result = (l : Listed) (c : Change) (i : TableItem) (rowid : Value) (values : Values) (alone : Bool) → given_in i ≡ given
    → Finishes old new size l c table act i (begin.Insert rowid values) alone result

-- So is an UPDATE of a row to these values.
abbrev pub FinishesUpdate : PageMap → PageMap → ℕ → Table → stored.TableRow → List Value → Bool → Result (Option stored.TableRow) Fault → Type 0
FinishesUpdate old new size table row values alone result = (l : Listed) (c : Change) (act : Act) (i : TableItem) (rowid : Value) (given : Values) → given.items ≡ values
    → Finishes old new size l c table act i (begin.Update row rowid given) alone result

-- So is a DELETE of a row.
abbrev pub FinishesDelete : PageMap → PageMap → ℕ → Table → stored.TableRow → Bool → Result (Option stored.TableRow) Fault → Type 0
FinishesDelete old new size table row alone result = (l : Listed) (c : Change) (act : Act) (i : TableItem) → Finishes old new size l c table act i (begin.Delete row) alone result

-- NEW and OLD of a row of a view, each with its row; or they are refused as SET's expressions are
abbrev pub SeesRows : Outer → List ScopeColumn → Act → ViewItem → Result (Vec (List Row)) Fault → Type 0
SeesRows seen cs act i result = AnswersBy (λ rows. rows.items) (rows_seen seen cs act i then λ p. Ok (both_rows p.0 p.1)) result
