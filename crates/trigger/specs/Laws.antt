-- What a statement does that sets no trigger off.
use Rattle.std.specs.Prelude.{◌≡◌, ◌↔◌, ◌≤◌, ℕ, true, List, [], length, Option, Some, None, Ok, Err, All, Contains}
use Rattle.sqlval.specs.Names.{folded}
use Rattle.sqlval.specs.Refusals.{Refusal, ViewReadOnly, ◌then◌}
use Rattle.sqlval.specs.declared.value.Value.{Value}
use Rattle.sql_syntax.specs.declared.change.Delete.{Delete}
use Rattle.sql_syntax.specs.declared.change.Insert.{Insert}
use Rattle.sql_syntax.specs.declared.change.Update.{Update}
use Rattle.sql_syntax.specs.declared.change.Change.{Change}
use Rattle.sql_syntax.specs.declared.change.Change.TheVariants as statement
use Rattle.catalog.specs.Database.{Name, Database, ATable, AView, View, object, with_object}
use Rattle.catalog.specs.Listed.{with_rows}
use Rattle.catalog.specs.Named.{IsNamed}
use Rattle.catalog.specs.declared.tables.Table.{Table}
use Rattle.query_names.specs.Checked.{Meant, faults}
use Rattle.query_terms.specs.Terms.{Term}
use Rattle.catalog.specs.Rows.{are_rows}
use Rattle.row_scan.specs.Rows.{TableRow}
use Rattle.row_change.specs.Agreement.{HasIndexesOf, IsSetFor, IsStill}
use Rattle.row_change.specs.Changes.{Deletes, Given, Inserts, Updates, no_outer, resolve_change}
use Rattle.row_change.specs.Choosing.{rows_left}
use Rattle.row_change.specs.Constraints.{table_of}
use Rattle.row_change.specs.Inserting.{rows_inserted}
use Rattle.row_change.specs.RowChanges.{Deleting, Inserting, Updating, is_quiet}
use Rattle.row_change.specs.Setting.{rows_set}
use Rattle.trigger.specs.Binding.{IsFault, aim_of}
use Rattle.trigger.specs.Effects.{change, given_rows}
use Rattle.trigger.specs.Triggers.{Runner, fired}

-- what sets no trigger off does nothing more
abbrev pub SetsNothingOff : Type 0
SetsNothingOff = (run : Runner) (running : List Name) → IsStill (fired run running)

-- the change sets no trigger off
abbrev pub SetsOffNothing : Database → Change → Type 0
SetsOffNothing db c = is_quiet (aim_of c).event db (aim_of c).target ≡ true

-- there, the refusals of binding a change are its own
abbrev pub BindsAlone : Type 0
BindsAlone = (db : Database) (c : Change) (r : Refusal) → SetsOffNothing db c → IsFault db c r ↔ Contains (faults (resolve_change db no_outer c)) r

-- There, a change of a view is refused, where its names aren't.
abbrev pub ViewsAreReadOnly : Type 0
ViewsAreReadOnly = (db : Database) (c : Change) (v : View) → SetsOffNothing db c → object db (aim_of c).target ≡ Some (AView v) → faults (resolve_change db no_outer c) ≡ []
    → change db c ≡ Err ViewReadOnly

-- There, an INSERT whose rows are refused is refused as they are.
abbrev pub InsertIsRefused : Type 0
InsertIsRefused = (db : Database) (i : Insert) (table : Table) (rows : List TableRow) (places : List ℕ) (source : Given) (r : Refusal)
    → table_of db (folded i.table) ≡ Ok (with_rows table rows) → resolve_change db no_outer (statement.Insert i) ≡ Meant (Inserts (folded i.table) places source) []
    → given_rows db no_outer source ≡ Err r → change db (statement.Insert i) ≡ Err r

-- Where no rows are given, the database stays as it is.
abbrev pub InsertOfNoneStays : Type 0
InsertOfNoneStays = (db : Database) (i : Insert) (table : Table) (rows : List TableRow) (places : List ℕ) (source : Given)
    → table_of db (folded i.table) ≡ Ok (with_rows table rows) → resolve_change db no_outer (statement.Insert i) ≡ Meant (Inserts (folded i.table) places source) []
    → given_rows db no_outer source ≡ Ok [] → change db (statement.Insert i) ≡ Ok db

-- And where these rows are given, the table has after its own rows those that they become, each alone, or the statement is refused as they
-- are.
abbrev pub InsertAddsRows : Type 0
InsertAddsRows = (db : Database) (i : Insert) (table : Table) (rows : List TableRow) (places : List ℕ) (source : Given) (by_column : List (Option ℕ)) (given : List (List Value))
    → is_quiet Inserting db (folded i.table) ≡ true → HasIndexesOf db (folded i.table) table → table_of db (folded i.table) ≡ Ok (with_rows table rows) → are_rows (with_rows table rows) ≡ true
    → resolve_change db no_outer (statement.Insert i) ≡ Meant (Inserts (folded i.table) places source) [] → given_rows db no_outer source ≡ Ok given
    → All (IsSetFor table by_column places) given → 1 ≤ length given
    → change db (statement.Insert i)
    ≡ (rows_inserted table by_column rows given then λ now. Ok (with_object db (folded i.table) (ATable (with_rows table now))))

-- A DELETE whose table is known and that has no condition leaves the table without rows.
abbrev pub DeleteTakesRows : Type 0
DeleteTakesRows = (db : Database) (d : Delete) (table : Table) (rows : List TableRow)
    → is_quiet Deleting db (folded d.table) ≡ true → IsNamed db → table_of db (folded d.table) ≡ Ok (with_rows table rows) → are_rows (with_rows table rows) ≡ true
    → resolve_change db no_outer (statement.Delete d) ≡ Meant (Deletes (folded d.table) None) []
    → change db (statement.Delete d) ≡ Ok (with_object db (folded d.table) (ATable (with_rows table [])))

-- A DELETE whose table and condition are known leaves the rows for which the condition isn't true, or is refused as that is.
abbrev pub DeleteTakesChosen : Type 0
DeleteTakesChosen = (db : Database) (d : Delete) (table : Table) (rows : List TableRow) (condition : Term)
    → is_quiet Deleting db (folded d.table) ≡ true → IsNamed db → table_of db (folded d.table) ≡ Ok (with_rows table rows) → are_rows (with_rows table rows) ≡ true
    → resolve_change db no_outer (statement.Delete d) ≡ Meant (Deletes (folded d.table) (Some condition)) []
    → change db (statement.Delete d) ≡ (rows_left condition rows then λ left. Ok (with_object db (folded d.table) (ATable (with_rows table left))))

-- An UPDATE whose table, columns, expressions and condition are known leaves what SET makes of the rows, or is refused as that is.
abbrev pub UpdateSetsRows : Type 0
UpdateSetsRows = (db : Database) (u : Update) (table : Table) (rows : List TableRow) (sets : List (ℕ × Term)) (set : List Name) (condition : Option Term)
    → is_quiet (Updating set) db (folded u.table) ≡ true → IsNamed db → HasIndexesOf db (folded u.table) table → table_of db (folded u.table) ≡ Ok (with_rows table rows) → are_rows (with_rows table rows) ≡ true
    → resolve_change db no_outer (statement.Update u) ≡ Meant (Updates (folded u.table) sets set condition) []
    → change db (statement.Update u) ≡ (rows_set table sets condition rows then λ now. Ok (with_object db (folded u.table) (ATable (with_rows table now))))
