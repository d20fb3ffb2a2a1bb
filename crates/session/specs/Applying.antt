-- What a statement makes of the database that its connection works on, and what a commit makes of that (SQL As Understood By
-- SQLite, "BEGIN TRANSACTION").
use Rattle.std.specs.Prelude.{◌≡◌, ◌⊎◌, ◌<◌, ◌≤◌, ⊤, IsTrue, true, false, List, length, Result, Ok, Err}
use Rattle.sqlval.specs.declared.fault.Fault.{Fault}
use Rattle.sqlval.specs.declared.fault.Fault.TheVariants as fault
use Rattle.disk.specs.File.{IsContentLeft}
use Rattle.disk.specs.declared.device.Disk.{Ghosts}
use Rattle.sql_syntax.specs.declared.statement.Statement.{Statement}
use Rattle.catalog.specs.Database.{Database}
use Rattle.session.specs.SavedTables.{HasNoSavepoints, IsUnchanged, committed_in, current_in, savepoints_in}
use Rattle.wal.specs.Anew.{begins_anew}
use Rattle.wal.specs.LogState.{db_of, log_of, seen_by, state_of}
use Rattle.wal.specs.Refusals.{IsWithin}
use Rattle.wal.specs.Restarts.{next_header}
use Rattle.wal.specs.declared.log.Log.{Log}
use Rattle.wal.specs.declared.log.Snapshot.{Snapshot}
use Rattle.wal.specs.declared.pages.PageImage.{PageImage}
use Rattle.pager.specs.Limits.{pages_of}
use Rattle.pager.specs.Marks.{IsOverTheSame, marks_of}
use Rattle.pager.specs.Pruning.{AreNew}
use Rattle.pager.specs.Views.{Tells, changes_of, newest_view, view_at}
use Rattle.pager.specs.Writers.{snapshot_of}
use Rattle.pager.specs.declared.writer.Writer.{Writer}
use Rattle.executor_programs.specs.Making.{IsRefusedStatement}
use Rattle.session.specs.Changing.{Listing, CanChange, listing}
use Rattle.executor.specs.Works.{Reaches, change_made}
use Rattle.session.specs.Holding.{HoldThroughout, IsSettled}
use Rattle.session.specs.Checkpoints.{CopiesAfter}
use Rattle.session.specs.ConnectionState.{files_of, has_failed_in, is_io}
use Rattle.session.specs.Representation.{ShowTheSame, beside_in, is_alone, newest_tables}
use Rattle.session.specs.Stored.{ShowsDatabase}
use Rattle.session.specs.declared.transactions.Connections.{Connections}

module _ {D : Type 0} {g : Ghosts D} where
  -- ---- a change

  -- the files of the connections with their catalog
  abbrev pub listing_of : Connections D g → Listing D g
  listing_of c = listing (files_of c) c.catalog

  -- the writer's pages hold this database, whose tables the connections' catalog lists
  abbrev pub CanApply : Connections D g → Writer → Database → Type 0
  CanApply c = CanChange (listing_of c)

  -- the files were read at most, no transaction has begun or ended, and the committed tables and the savepoints are what they were
  pub record KeepsCommitted (old new : Connections D g) : Type 0 where
    pub files : ShowTheSame (files_of old) (files_of new)
    pub beside : beside_in new ≡ beside_in old
    pub transaction : new.transaction ≡ old.transaction
    pub tables : committed_in new.catalog ≡ committed_in old.catalog
    pub savepoints : savepoints_in new.catalog ≡ savepoints_in old.catalog

  -- the statement has made a database of this one, and the connections are as they were but for that
  pub record IsApplied (s : Statement) (old : Connections D g) (db : Database) (new : Connections D g) (left : Writer) : Type 0 where
    pub kept : KeepsCommitted old new
    pub made : Database
    pub reaches : Reaches (change_made s db) made
    pub applies : CanApply new left made

  -- the statement was refused, and the connections have what they had
  pub record IsNotApplied (s : Statement) (old : Connections D g) (db : Database) (new : Connections D g) (f : Fault) : Type 0 where
    pub kept : KeepsCommitted old new
    pub tables : current_in new.catalog ≡ current_in old.catalog
    pub why : IsRefusedStatement s db f

  -- what a statement's write has come to; after a refusal the writer's pages may be any
  abbrev pub Applies : Statement → Connections D g → Writer → Database → Result ⊤ Fault → Connections D g → Writer → Type 0
  Applies s old writer db (Ok done) new left = IsApplied s old db new left
  Applies s old writer db (Err f) new left = IsNotApplied s old db new f

  -- ---- a commit

  -- there are more frames, and each snapshot sees what it saw
  pub record KeepsSnapshots (old new : Log D g) : Type 0 where
    pub more : (state_of old).frames < (state_of new).frames
    pub at : (snapshot : Snapshot) → seen_by snapshot ≤ (state_of old).frames → view_at new snapshot ≡ view_at old snapshot

  -- the log was begun anew where no other connection sees a snapshot and all frames were copied
  abbrev pub BeginsAnewBeside : Connections D g → Connections D g → Type 0
  BeginsAnewBeside old new = IsTrue (begins_anew (state_of (files_of old)) (is_alone old)) → (state_of (files_of new)).header ≡ next_header (state_of (files_of old)).header

  -- the database is the newest committed one, the present connection has no savepoint, and the others that see a snapshot see what they saw
  pub record CommitsDatabase (old : Connections D g) (db : Database) (new : Connections D g) : Type 0 where
    pub told : Tells (files_of new)
    pub settled : IsSettled (files_of new)
    pub failed : has_failed_in new ≡ has_failed_in old
    pub connection : new.connection ≡ old.connection
    pub parked : new.parked.items ≡ old.parked.items
    pub transaction : new.transaction ≡ old.transaction
    pub all : IsUnchanged new.catalog
    pub savepoints : HasNoSavepoints new.catalog
    pub stored : ShowsDatabase (newest_view (files_of new)) (newest_tables new) db
    pub older : is_alone old ≡ false → KeepsSnapshots (files_of old) (files_of new)
    pub renewed : BeginsAnewBeside old new

  -- At each moment of a commit a crash leaves the database that was the newest before it, or this one.
  abbrev pub HoldsEither : Connections D g → Database → Connections D g → Type 0
  HoldsEither old db new =
      (was : Database) → ShowsDatabase (newest_view (files_of old)) (committed_in old.catalog) was → HoldThroughout (λ d. (d ≡ was) ⊎ (d ≡ db)) (files_of old) (files_of new)

  -- a call of a disk has failed, so that it is open which of the two the files hold
  pub record IsInDoubt (old : Connections D g) (db : Database) (new : Connections D g) (f : Fault) : Type 0 where
    pub io : f ≡ fault.Io
    pub failed : has_failed_in new ≡ true
    pub held : HoldsEither old db new
    pub db_left : IsContentLeft (g.file (db_of (files_of new)))
    pub log_left : IsContentLeft (g.file (log_of (files_of new)))

  -- what a writer's commit would write, the pages that its snapshot doesn't show, is past the limits of the log or of the database
  pub record IsPast (files : Log D g) (writer : Writer) : Type 0 where
    pub pages : List PageImage
    pub are : AreNew (view_at files (snapshot_of writer)) (changes_of writer) pages
    pub past : IsWithin (state_of files) (length pages) (pages_of writer) → ⊥

  -- why nothing is committed: when out of memory, or past the limits
  abbrev pub IsCommitCause : Log D g → Writer → Fault → Type 0
  IsCommitCause files writer f = (f ≡ fault.Memory) ⊎ (f ≡ fault.Full) × IsPast files writer

  -- nothing is committed, and the writer may commit later; it can go back to what it could go back to
  pub record IsUncommitted (old : Connections D g) (writer : Writer) (db : Database) (new : Connections D g) (left : Writer) (f : Fault) : Type 0 where
    pub why : IsCommitCause (files_of old) writer f
    pub kept : KeepsCommitted old new
    pub tables : current_in new.catalog ≡ current_in old.catalog
    pub applies : CanApply new left db
    pub marks : marks_of left ≡ marks_of writer
    pub stands : IsOverTheSame writer left

  -- what a commit has come to; after a failed call of a disk nothing more is supported
  abbrev pub CommitsChanges : Connections D g → Writer → Database → Result ⊤ Fault → Connections D g → Writer → Type 0
  CommitsChanges old writer db (Ok done) new left = CommitsDatabase old db new × HoldsEither old db new
  CommitsChanges old writer db (Err f) new left = IsInDoubt old db new f ⊎ IsUncommitted old writer db new left f

  -- the same, where frames may have been copied into the database file after the commit
  abbrev pub CommitsThen : Connections D g → Writer → Database → Result ⊤ Fault → Connections D g → Writer → Type 0
  CommitsThen old writer db (Ok done) new left = (mid : Connections D g) × CommitsDatabase old db mid × HoldsEither old db mid × CopiesAfter mid new
  CommitsThen old writer db (Err f) new left = CommitsChanges old writer db (Err f) new left

  -- nothing differs but the files
  pub record KeepsAllButFiles (old new : Connections D g) : Type 0 where
    pub beside : beside_in new ≡ beside_in old
    pub transaction : new.transaction ≡ old.transaction
    pub catalog : new.catalog ≡ old.catalog

  -- the connections after a commit was written: what the transaction saw are the newest tables, and there is no savepoint
  pub record IsAfterCommit (old : Connections D g) (files : Log D g) (next : Connections D g) : Type 0 where
    pub files_are : files_of next ≡ files
    pub failed : has_failed_in next ≡ has_failed_in old
    pub connection : next.connection ≡ old.connection
    pub parked : next.parked.items ≡ old.parked.items
    pub transaction : next.transaction ≡ old.transaction
    pub newest : newest_tables next ≡ current_in old.catalog
    pub all : IsUnchanged next.catalog
    pub savepoints : HasNoSavepoints next.catalog

  -- the connections after its writing was refused: they are marked where a call of a disk failed
  pub record IsAfterRefusal (old : Connections D g) (files : Log D g) (f : Fault) (next : Connections D g) : Type 0 where
    pub files_are : files_of next ≡ files
    pub beside : beside_in next ≡ record (beside_in old) { failed = is_io f }
    pub transaction : next.transaction ≡ old.transaction
    pub catalog : next.catalog ≡ old.catalog

  -- what the writing of a commit has come to, for the connections that are made of the files then
  abbrev pub WritesChanges : Connections D g → Writer → Database → Result ⊤ Fault → Log D g → Writer → Type 0
  WritesChanges old writer db (Ok done) files left = (next : Connections D g) → IsAfterCommit old files next → CommitsChanges old writer db (Ok done) next left
  WritesChanges old writer db (Err f) files left = (next : Connections D g) → IsAfterRefusal old files f next → CommitsChanges old writer db (Err f) next left

  -- nothing is committed, of the tables the committed ones are left, and there is no savepoint
  pub record IsDropped (old : Connections D g) (writer : Writer) (new : Connections D g) (f : Fault) : Type 0 where
    pub why : IsCommitCause (files_of old) writer f
    pub files : ShowTheSame (files_of old) (files_of new)
    pub beside : beside_in new ≡ beside_in old
    pub transaction : new.transaction ≡ old.transaction
    pub committed : committed_in new.catalog ≡ committed_in old.catalog
    pub tables : current_in new.catalog ≡ committed_in old.catalog
    pub savepoints : HasNoSavepoints new.catalog

  -- what the commit of a statement of its own has come to
  abbrev pub EndsAlone : Connections D g → Writer → Database → Result ⊤ Fault → Connections D g → Type 0
  EndsAlone old writer db (Ok done) new = (mid : Connections D g) × CommitsDatabase old db mid × HoldsEither old db mid × CopiesAfter mid new
  EndsAlone old writer db (Err f) new = IsInDoubt old db new f ⊎ IsDropped old writer new f
