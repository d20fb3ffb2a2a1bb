-- What a crash leaves of two files while they are opened, and what opening makes of them.
use Rattle.std.specs.Prelude.{◌≡◌, ◌⊎◌, ◌≤◌, ℕ, Bool, true, IsFalse, IsTrue, List, take, Result, Ok, Err}
use Rattle.disk.specs.Calls.{Rose}
use Rattle.disk.specs.File.{File, IsLeft, IsSynced, Throughout, Version}
use Rattle.disk.specs.declared.device.Disk.{Ghosts}
use Rattle.db_header.specs.Header.{IsHeader}
use Rattle.db_header.specs.declared.fields.Header.{Header}
use Rattle.sqlval.specs.Faults.{IsOutside}
use Rattle.sqlval.specs.declared.fault.Fault.{Fault}
use Rattle.sqlval.specs.declared.fault.Fault.TheVariants.{Io, Blank}
use Rattle.catalog.specs.Database.{Database}
use Rattle.catalog.specs.Listed.{listed_in}
use Rattle.wal_frame.specs.Accepted.{KeepsFile}
use Rattle.wal_frame.specs.Written.{Framed}
use Rattle.wal_frame.specs.declared.log_header.Salts.{Salts}
use Rattle.wal.specs.Committed.{HasCommits}
use Rattle.wal.specs.LogState.{LogState, db_of, state_of, log_of}
use Rattle.wal.specs.Stands.{log_end}
use Rattle.wal.specs.Opened.{LeavesAsBefore}
use Rattle.wal.specs.Crashes.{LeavesCommits}
use Rattle.db_load.specs.Loading.{IsLoadFault}
use Rattle.wal.specs.declared.log.Log.{Log}
use Rattle.wal.specs.declared.log.Refused.{Refused}
use Rattle.pager.specs.Views.{Tells, newest_view}
use Rattle.session.specs.Holding.{Hold, IsSettled, LeaveHeld}
use Rattle.session.specs.ConnectionState.{files_of}
use Rattle.session.specs.Machine.{fresh}
use Rattle.session.specs.Representation.{Represents}
use Rattle.session.specs.Seats.{AreFresh, catalog_in}
use Rattle.session.specs.declared.seats.Seats.{Seats}
use Rattle.session.specs.Stored.{ShowsDatabase}
use Rattle.engine.specs.Creating.{is_blank_content}
use Rattle.engine.specs.EngineState.{connections_of, db_disk, has_failed_of, log_disk}
use Rattle.engine.specs.declared.opening.Engine.{Engine}

-- The header is this one; or a disk's call failed.
abbrev pub ReadsHeader : Header → Result Header Fault → Type 0
ReadsHeader head (Ok header) = header ≡ head
ReadsHeader head (Err fault) = fault ≡ Io

-- a header that a database file begins with says this page size
abbrev pub HasPageSize : List ℕ → ℕ → Type 0
HasPageSize bytes page_size = (head : Header) → IsHeader bytes head → head.page_size ≡ page_size

-- The database file as it was read, beside a log that has the commits of the one that was read and no others.
pub record LeavesCut (db log : File) (db_versions log_versions : List Version) : Type 0 where
  pub db_read : (c : List ℕ) → IsLeft db_versions c → c ≡ db.content
  pub page_size : ℕ
  pub headed : HasPageSize db.content page_size
  pub frames : List Framed
  pub read : HasCommits page_size log.content frames
  pub left : LeavesCommits page_size frames log_versions

-- A crash leaves of each file what it may have left before, or what was read of it; or the database file as it was read, beside a
-- log of the same commits.
abbrev pub LeavesOpened : File → File → List Version → List Version → Type 0
LeavesOpened db log db_versions log_versions = LeavesAsBefore db log db_versions log_versions ⊎ LeavesCut db log db_versions log_versions

-- Whatever refusal but one comes, both files are as they were.
abbrev pub KeepsFilesBut : Fault → File → File → File → File → Fault → Type 0
KeepsFilesBut but db log new_db new_log fault = (fault ≡ but → ⊥) → (new_db ≡ db) × (new_log ≡ log)

-- The log's content is what it was, cut after the committed frames, of which this is known.
abbrev pub IsCutTo : LogState → List ℕ → List ℕ → Type 0
IsCutTo known old new = new ≡ take (log_end known.header known.has_header known.frames) old

-- A blank file is refused as such, except that a call may fail; and no other is.
pub record TellsBlank (bytes : List ℕ) (fault : Fault) : Type 0 where
  pub only : fault ≡ Blank → is_blank_content bytes ≡ true
  pub always : is_blank_content bytes ≡ true → (fault ≡ Blank) ⊎ (fault ≡ Io)

-- Whatever refusal but one comes, both files hold what they held.
abbrev pub KeepsBut : Fault → File → File → File → File → Fault → Type 0
KeepsBut but db log new_db new_log fault = (fault ≡ but → ⊥) → (new_db.content ≡ db.content) × (new_log.content ≡ log.content)

-- Why files aren't opened: for what keeps a database from being loaded, or for a database file that is blank.
abbrev pub IsOpenFault : Fault → Type 0
IsOpenFault fault = IsLoadFault fault ⊎ (fault ≡ Blank)

-- What a refusal leaves, and why it comes: both files hold what they held and are synced, except where a call failed; that is `Io`,
-- and it was counted. A blank file is refused as such, and no other.
pub record IsRefusedOpen {D : Type 0} (tells : D → Bool) (file : D → File) (failures : D → ℕ) (db log : D) (refused : Refused D) : Type 0 where
  pub kept : IsTrue (tells db) → IsTrue (tells log) → KeepsBut Io (file db) (file log) (file refused.db) (file refused.log) refused.fault
  pub synced : IsTrue (tells db) → IsTrue (tells log) → (refused.fault ≡ Io → ⊥) → IsSynced (file refused.db) × IsSynced (file refused.log)
  pub io : refused.fault ≡ Io → Rose (failures db) (failures refused.db) ⊎ Rose (failures log) (failures refused.log)
  pub blank : IsTrue (tells db) → TellsBlank (file db).content refused.fault
  pub listed : IsOpenFault refused.fault

module _ {D : Type 0} {g : Ghosts D} where
  -- nothing is known anew of the log, and the files are as they were
  pub record KeepsFiles (old new : Log D g) : Type 0 where
    pub known : state_of new ≡ state_of old
    pub db : KeepsFile g.tells g.file (db_of old) (db_of new)
    pub log : KeepsFile g.tells g.file (log_of old) (log_of new)

  -- the disks of what was opened, or given back
  abbrev pub db_left : Result (Engine D g) (Refused D) → D
  db_left (Ok engine) = db_of (files_of engine.connections)
  db_left (Err refused) = refused.db

  abbrev pub log_left : Result (Engine D g) (Refused D) → D
  log_left (Ok engine) = log_of (files_of engine.connections)
  log_left (Err refused) = refused.log

  -- a log that has no header is to get one with these salts
  abbrev pub TakesSalts : Salts → Engine D g → Type 0
  TakesSalts salts engine = IsFalse (state_of (files_of engine.connections)).has_header → (state_of (files_of engine.connections)).header.salts ≡ salts

  -- The contents of the two files hold a database, and the engine represents it, with 16 idle connections.
  pub record ShowsHeld (db log : List ℕ) (engine : Engine D g) : Type 0 where
    pub database : Database
    pub held : Hold db log database
    pub shown : Represents (connections_of engine) (fresh database)

  -- What was opened is the database that the files hold. It hasn't failed, and its database file wasn't blank. The counts of
  -- failed calls didn't fall. The log has its committed frames and no more; one that has no header is to get one with these salts.
  pub record IsOpenedFrom (db log : D) (salts : Salts) (engine : Engine D g) : Type 0 where
    pub found : IsTrue (g.tells db) → IsTrue (g.tells log) → ShowsHeld (g.file db).content (g.file log).content engine
    pub whole : IsFalse (has_failed_of engine)
    pub not_blank : IsTrue (g.tells db) → is_blank_content (g.file db).content ≡ true → ⊥
    pub cut : IsTrue (g.tells log) → IsCutTo (state_of (files_of engine.connections)) (g.file log).content (g.file (log_disk engine)).content
    pub takes : TakesSalts salts engine
    pub db_counts : g.failures db ≤ g.failures (db_disk engine)
    pub log_counts : g.failures log ≤ g.failures (log_disk engine)

  -- No connection has a transaction, and the files are settled and hold the database of the tables that the catalog lists.
  pub record StartsWith (database : Database) (files : Log D g) (seats : Seats) : Type 0 where
    pub fresh : AreFresh seats
    pub told : Tells files
    pub settled : IsSettled files
    pub stored : ShowsDatabase (newest_view files) (listed_in (catalog_in seats)) database

  -- What was opened shows the one database; or memory was short, or a disk's call failed.
  abbrev pub Opens : Database → Result (Engine D g) (Refused D) → Type 0
  Opens database (Ok engine) = Represents (connections_of engine) (fresh database)
  Opens database (Err refused) = IsOutside refused.fault

  -- An answer of opening: where the files tell what they hold, and hold a database, it is opened.
  abbrev pub IsOpenOf : D → D → Result (Engine D g) (Refused D) → Type 0
  IsOpenOf db log result = (database : Database) → IsTrue (g.tells db) → IsTrue (g.tells log) → Hold (g.file db).content (g.file log).content database → Opens database result

  -- At each moment of an opening of files that were synced and hold a database, a crash leaves files that hold it.
  abbrev pub HoldsMeanwhile : D → D → Result (Engine D g) (Refused D) → Type 0
  HoldsMeanwhile db log result = (database : Database) → IsTrue (g.tells db) → IsTrue (g.tells log) → IsSynced (g.file db) → IsSynced (g.file log)
      → Hold (g.file db).content (g.file log).content database
      → Throughout (LeaveHeld (λ d. d ≡ database)) (g.file db) (g.file log) (g.file (db_left result)) (g.file (log_left result))
