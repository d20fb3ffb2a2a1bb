-- What a statement's change makes of the pages that hold a database (SQL As Understood By SQLite, "CREATE TABLE", "CREATE INDEX", "INSERT").
use Rattle.std.specs.Prelude.{◌≡◌, ◌⊎◌, ◌<◌, ⊤, codes, ℕ, true, List, length, Some, None, Result, MatchResult}
use Rattle.std.specs.List.{list_any}
use Rattle.sqlval.specs.Names.{folded}
use Rattle.sqlval.specs.Refusals.{refusal_of}
use Rattle.sqlval.specs.declared.fault.Fault.{Fault}
use Rattle.sqlval.specs.declared.fault.Fault.TheVariants as fault
use Rattle.sql_syntax.specs.declared.change.Change.{Change}
use Rattle.sql_syntax.specs.declared.change.Change.TheVariants as change
use Rattle.sql_syntax.specs.declared.create.NewObject.{NewObject}
use Rattle.sql_syntax.specs.declared.create.NewObject.TheVariants as new
use Rattle.sql_syntax.specs.declared.statement.Statement.{Statement}
use Rattle.sql_syntax.specs.declared.statement.Statement.TheVariants as statement
use Rattle.record.specs.Writing.{AreStorable}
use Rattle.pages.specs.Calls.{IsOutsideOrFull}
use Rattle.pages.specs.Map.{PageMap}
use Rattle.catalog.specs.Database as database
use Rattle.catalog.specs.Database.{AnIndex, Database, Name, object}
use Rattle.catalog.specs.Listed.{Listed, as_index}
use Rattle.catalog.specs.declared.tables.Index.{Index}
use Rattle.catalog.specs.declared.tables.Table.{Table}
use Rattle.query_names.specs.Schema.{automatic_name}
use Rattle.query_names.specs.Tables.{keys_of}
use Rattle.trigger.specs.Laws.{SetsOffNothing}
use Rattle.db_write.specs.Changing.{is_wide}
use Rattle.db_pages.specs.Schema.{schema_row}
use Rattle.db_pages.specs.Stored.{Stores}
use Rattle.executor.specs.Works.{Reaches, RefusesWith, change_made}

-- the pages hold a database that the statement makes of this one, of which this is listed
pub record IsMade (s : Statement) (db : Database) (new : PageMap) (size : ℕ) (l : Listed) : Type 0 where
  pub made : Database
  pub reaches : Reaches (change_made s db) made
  pub stored : Stores new size l made

-- ---- what can't be stored

-- this index of a table is one of the database
abbrev pub IsIndexIn : Database → Table → Index → Type 0
IsIndexIn db table index = object db index.name ≡ Some (AnIndex (as_index table index))

-- an index of the database on the table of this name has so many columns that no record can hold an entry
pub record HasWideIndex (db : Database) (table : Name) : Type 0 where
  pub name : Name
  pub index : database.Index
  pub is : object db name ≡ Some (AnIndex index)
  pub on : index.table ≡ folded table
  pub wide : is_wide (length index.columns) ≡ true

abbrev PutsInWide : Change → Database → Type 0
PutsInWide (change.Insert i) db = HasWideIndex db i.table
PutsInWide (change.Update u) db = HasWideIndex db u.table
PutsInWide (change.Delete d) db = ⊥

abbrev MakesWide : NewObject → Type 0
MakesWide (new.Index d) = is_wide (length d.columns) ≡ true
MakesWide (new.Table d) = list_any (λ key. is_wide (length key.1)) (keys_of d) ≡ true
MakesWide _ = ⊥

-- the statement puts rows into a table with such an index, or makes one
abbrev pub MeetsWideIndex : Statement → Database → Type 0
MeetsWideIndex (statement.Change c) db = PutsInWide c db
MeetsWideIndex (statement.Create c) db = MakesWide c.object
MeetsWideIndex _ db = ⊥

abbrev MakesLongText : List ℕ → NewObject → Type 0
MakesLongText sql (new.Table d) = (root : ℕ) × ((AreStorable (schema_row (codes "table") d.name d.name root (Some sql)) → ⊥)
    ⊎ ((number : ℕ) × (AreStorable (schema_row (codes "index") (automatic_name d.name number) d.name root None) → ⊥)))
MakesLongText sql (new.Index d) =
    (table : Name) × (root : ℕ) × (folded table ≡ folded d.table) × (AreStorable (schema_row (codes "index") d.name table root (Some sql)) → ⊥)
MakesLongText sql (new.View d) = AreStorable (schema_row (codes "view") d.name d.name 0 (Some sql)) → ⊥
MakesLongText sql (new.Trigger d) = AreStorable (schema_row (codes "trigger") d.name d.target 0 (Some sql)) → ⊥

-- no record can hold a row of the schema table for what the statement creates
abbrev pub HasLongText : Statement → Type 0
HasLongText (statement.Create c) = MakesLongText c.sql c.object
HasLongText _ = ⊥

-- the statement makes a database whose schema table can't be stored
pub record MakesLongRow (s : Statement) (db : Database) : Type 0 where
  pub made : Database
  pub reaches : Reaches (change_made s db) made
  pub long : HasLongText s

-- something is too long for a record, whatever rows there are
pub record FitsNoRecord (s : Statement) (db : Database) (f : Fault) : Type 0 where
  pub is : f ≡ fault.TooLong
  pub why : MeetsWideIndex s db ⊎ MakesLongRow s db

abbrev MakesRowAfter : NewObject → Type 0
MakesRowAfter (new.Index d) = ⊤
MakesRowAfter (new.Table d) = 0 < length (keys_of d)
MakesRowAfter (new.Trigger d) = ⊤
MakesRowAfter (new.View d) = ⊥

-- the statement creates what has a row after another in the schema table: an index, a table with keys, or a trigger
abbrev pub AsksForRowAfter : Statement → Type 0
AsksForRowAfter (statement.Create c) = MakesRowAfter c.object
AsksForRowAfter _ = ⊥

-- no rowid is free where a row would stand after that of its table or view
pub record HasNoRowAfter (s : Statement) (f : Fault) : Type 0 where
  pub is : f ≡ fault.RowidFull
  pub why : AsksForRowAfter s

-- something is too long for a record, or no rowid is free for a row of the schema table
abbrev pub IsTooMuch : Statement → Database → Fault → Type 0
IsTooMuch s db f = FitsNoRecord s db f ⊎ HasNoRowAfter s f

-- Why a statement makes nothing: out of memory or of pages, by a disk, as its work is refused, or because something is too long for a record or no
-- rowid is free.
abbrev pub IsChangeRefusal : Statement → Database → Fault → Type 0
IsChangeRefusal s db f = IsOutsideOrFull f ⊎ (RefusesWith (change_made s db) (refusal_of f) ⊎ IsTooMuch s db f)

-- What a statement's change comes to, where the pages hold a database of which this is listed. `listed_by` says what is listed after a call
-- that answered.
abbrev pub MakesChange : {X : Type 0} → (X → Listed) → Statement → PageMap → PageMap → ℕ → Listed → Result X Fault → Type 0
MakesChange listed_by s old new size before result = (db : Database) → Stores old size before db
    → MatchResult result (λ x. IsMade s db new size (listed_by x)) (IsChangeRefusal s db)

-- what becomes of a database by a change of rows, where it sets no trigger off
abbrev pub MakesQuietly : Change → PageMap → PageMap → ℕ → Listed → Result ⊤ Fault → Type 0
MakesQuietly c old new size l result = (db : Database) → Stores old size l db → SetsOffNothing db c
    → MatchResult result (λ done. IsMade (statement.Change c) db new size l) (IsChangeRefusal (statement.Change c) db)
