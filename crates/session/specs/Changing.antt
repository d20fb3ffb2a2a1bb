-- What a statement's change makes of the database whose pages a writer has (SQL As Understood By SQLite, "CREATE TABLE", "INSERT").
use Rattle.std.specs.Prelude.{◌≡◌, ⊤, Option, Some, None, Result, Ok, Err}
use Rattle.sqlval.specs.declared.fault.Fault.{Fault}
use Rattle.disk.specs.declared.device.Disk.{Ghosts}
use Rattle.sql_syntax.specs.declared.statement.Statement.{Statement}
use Rattle.catalog.specs.Database.{Database}
use Rattle.catalog.specs.Listed.{listed_in}
use Rattle.session.specs.SavedTables.{committed_in, current_in, savepoints_in}
use Rattle.catalog.specs.declared.tables.Catalog.{Catalog}
use Rattle.session.specs.declared.savepoints.SavedCatalogs.{SavedCatalogs}
use Rattle.wal.specs.declared.log.Log.{Log}
use Rattle.pager.specs.Views.{Tells, view_of}
use Rattle.pager.specs.declared.writer.Writer.{Writer}
use Rattle.session.specs.Holding.{IsSettled}
use Rattle.executor_programs.specs.Making.{IsRefusedStatement}
use Rattle.executor.specs.Works.{Reaches, change_made}
use Rattle.session.specs.Representation.{ShowTheSame}
use Rattle.session.specs.Writers.{IsWriter}
use Rattle.session.specs.Stored.{ShowsDatabase}

-- ---- a writer's pages

-- two files, and the catalogs of their tables
pub record Listing (D : Type 0) (g : Ghosts D) : Type 0 where
  pub files : Log D g
  pub catalog : SavedCatalogs

module _ {D : Type 0} {g : Ghosts D} where
  -- these files with this catalog
  abbrev pub listing : Log D g → SavedCatalogs → Listing D g
  listing files catalog = record { files = files; catalog = catalog }

  -- the writer's pages hold this database, whose tables the catalog lists
  pub record CanChange (l : Listing D g) (w : Writer) (db : Database) : Type 0 where
    pub told : Tells l.files
    pub settled : IsSettled l.files
    pub writer : IsWriter l.files w
    pub stored : ShowsDatabase (view_of l.files w) (current_in l.catalog) db

  -- the files were read at most, and the committed tables and the savepoints are what they were
  pub record KeepsListed (old new : Listing D g) : Type 0 where
    pub files : ShowTheSame old.files new.files
    pub tables : committed_in new.catalog ≡ committed_in old.catalog
    pub savepoints : savepoints_in new.catalog ≡ savepoints_in old.catalog

  -- the statement has made a database of this one
  pub record IsChangeMade (s : Statement) (old : Listing D g) (db : Database) (new : Listing D g) (left : Writer) : Type 0 where
    pub kept : KeepsListed old new
    pub made : Database
    pub reaches : Reaches (change_made s db) made
    pub applies : CanChange new left made

  -- the statement was refused, and the catalog has what it had
  pub record IsChangeRefused (s : Statement) (old : Listing D g) (db : Database) (new : Listing D g) (f : Fault) : Type 0 where
    pub kept : KeepsListed old new
    pub tables : current_in new.catalog ≡ current_in old.catalog
    pub why : IsRefusedStatement s db f

  -- what a change of the writer's pages has come to that answers a catalog, whose tables are to be the current ones, or none where these stay
  abbrev pub MakesCatalog : Statement → Listing D g → Writer → Database → Result (Option Catalog) Fault → Log D g → Writer → Type 0
  MakesCatalog s old writer db (Ok None) files left = IsChangeMade s old db (listing files old.catalog) left
  MakesCatalog s old writer db (Ok (Some catalog)) files left =
      (next : SavedCatalogs) → current_in next ≡ listed_in catalog → committed_in next ≡ committed_in old.catalog
      → savepoints_in next ≡ savepoints_in old.catalog
      → IsChangeMade s old db (listing files next) left
  MakesCatalog s old writer db (Err f) files left = IsChangeRefused s old db (listing files old.catalog) f

  -- what a statement's change of the writer's pages has come to; after a refusal they may be any
  abbrev pub ChangesPages : Statement → Listing D g → Writer → Database → Result ⊤ Fault → Listing D g → Writer → Type 0
  ChangesPages s old writer db (Ok done) new left = IsChangeMade s old db new left
  ChangesPages s old writer db (Err f) new left = IsChangeRefused s old db new f
