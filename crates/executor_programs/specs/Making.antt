-- What a statement's change makes of the pages that hold a database, with the triggers that it sets off (SQL As Understood By SQLite, "CREATE TRIGGER", "INSERT").
use Rattle.std.specs.Prelude.{◌≡◌, ◌⊎◌, ⊤, ℕ, false, true, length, Some, Result, MatchResult}
use Rattle.sqlval.specs.Refusals.{refusal_of}
use Rattle.sqlval.specs.declared.fault.Fault.{Fault}
use Rattle.sqlval.specs.declared.fault.Fault.TheVariants as fault
use Rattle.sql_syntax.specs.declared.change.Change.{Change}
use Rattle.sql_syntax.specs.declared.statement.Statement.{Statement}
use Rattle.sql_syntax.specs.declared.statement.Statement.TheVariants as statement
use Rattle.pages.specs.Calls.{IsOutsideOrFull}
use Rattle.pages.specs.Map.{PageMap}
use Rattle.catalog.specs.Database as database
use Rattle.catalog.specs.Database.{AnIndex, Database, Name, object}
use Rattle.catalog.specs.Listed.{Listed}
use Rattle.row_change.specs.RowChanges.{is_quiet}
use Rattle.trigger.specs.Binding.{aim_of}
use Rattle.db_write.specs.Changing.{is_wide}
use Rattle.db_pages.specs.Stored.{Stores}
use Rattle.executor.specs.Changing.{IsMade, IsTooMuch}
use Rattle.executor.specs.Works.{RefusesWith, change_made}

-- A program may put rows into an index that has so many columns that no record can hold an entry: the change sets a trigger off, and the
-- database has such an index.
pub record MayMeetWide (s : Statement) (db : Database) (f : Fault) : Type 0 where
  pub is : f ≡ fault.TooLong
  pub change : Change
  pub change_is : s ≡ statement.Change change
  pub sets_off : is_quiet (aim_of change).event db (aim_of change).target ≡ false
  pub name : Name
  pub index : database.Index
  pub has : object db name ≡ Some (AnIndex index)
  pub wide : is_wide (length index.columns) ≡ true

-- something is too long for a record, whatever rows there are, or no rowid is free for a row of the schema table
abbrev pub IsBeyond : Statement → Database → Fault → Type 0
IsBeyond s db f = IsTooMuch s db f ⊎ MayMeetWide s db f

-- Why a statement makes nothing: out of memory or of pages, by a disk, as its work is refused, or because something is too long for a record or no
-- rowid is free.
abbrev pub IsRefusedStatement : Statement → Database → Fault → Type 0
IsRefusedStatement s db f = IsOutsideOrFull f ⊎ (RefusesWith (change_made s db) (refusal_of f) ⊎ IsBeyond s db f)

-- What a statement's change comes to, where the pages hold a database of which this is listed. `listed_by` says what is listed after a call
-- that answered.
abbrev pub CarriesOut : {X : Type 0} → (X → Listed) → Statement → PageMap → PageMap → ℕ → Listed → Result X Fault → Type 0
CarriesOut listed_by s old new size before result = (db : Database) → Stores old size before db
    → MatchResult result (λ x. IsMade s db new size (listed_by x)) (IsRefusedStatement s db)

-- what becomes of a database by a change of rows, where it sets a trigger off
abbrev pub MakesBySetting : Change → PageMap → PageMap → ℕ → Listed → Result ⊤ Fault → Type 0
MakesBySetting c old new size l result = (db : Database) → Stores old size l db → is_quiet (aim_of c).event db (aim_of c).target ≡ false
    → MatchResult result (λ done. IsMade (statement.Change c) db new size l) (IsRefusedStatement (statement.Change c) db)
