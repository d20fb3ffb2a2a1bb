-- What follows of databases and crashes: the promise to a program that has been answered.
use Rattle.std.specs.Prelude.{◌≡◌, ◌⊎◌, ℕ, true, false, IsTrue, List, [], ◌++◌, Result, IfErr, IfOk, IsErrAnd}
use Rattle.disk.specs.File.{File, Version, IsLeft, IsMoment, IsSynced, Throughout, versions}
use Rattle.disk.specs.Replay as replay
use Rattle.disk.specs.declared.device.Disk.{Ghosts}
use Rattle.sqlval.specs.declared.fault.Fault.TheVariants.{Blank, Io}
use Rattle.sql_syntax.specs.declared.statement.Statement.{Statement}
use Rattle.catalog.specs.Database.{Database}
use Rattle.wal.specs.Crashes.{HasNoChance}
use Rattle.wal.specs.declared.log.Refused.{Refused}
use Rattle.wal_frame.specs.declared.log_header.Salts.{Salts}
use Rattle.session.specs.Crashes.{MayShow, MayShowInRun}
use Rattle.session.specs.Holding.{Hold, LeaveHeld}
use Rattle.session.specs.Machine.{Machine, Reply, newest}
use Rattle.session.specs.Representation.{StepsOver}
use Rattle.engine.specs.Converting.{HoldsAlone, LeaveAloneOrHeld}
use Rattle.engine.specs.Creating.{BecomesDatabase, IsEmptyDatabase, LeavesBlankOrCreated, is_blank_content}
use Rattle.engine.specs.EngineState.{db_disk, log_disk}
use Rattle.engine.specs.Opening.{HoldsMeanwhile, IsOpenOf, IsOpenedFrom, IsRefusedOpen, LeavesOpened, Opens, db_left, log_left}
use Rattle.engine.specs.Representation.{EngineRepresents, StepsByTextTo}
use Rattle.engine.specs.Serving.{RunsTo, Reply as Answer}
use Rattle.engine.specs.declared.opening.Engine.{Engine}

-- The contents of two files hold one database at most.
abbrev pub HeldOnce : Type 0
HeldOnce = (db log : List ℕ) (a b : Database) → Hold db log a → Hold db log b → a ≡ b

-- What is true of more versions of the two files is true of fewer.
abbrev pub IsTrueEarlier : (List Version → List Version → Type 0) → Type 0
IsTrueEarlier Good = (dbs more_dbs logs more_logs : List Version) → Good (dbs ++ more_dbs) (logs ++ more_logs) → Good dbs logs

-- So it is of what a crash leaves in a step, while files are opened, while a database is made, and while a file is converted.
pub record HoldsEarlier : Type 0 where
  pub in_step : (before after : Machine) → IsTrueEarlier (LeaveHeld (MayShow before after))
  pub in_opening : (db log : File) → IsTrueEarlier (LeavesOpened db log)
  pub in_creating : (page_size : ℕ) → IsTrueEarlier (LeavesBlankOrCreated page_size)
  pub in_converting : (database : Database) → IsTrueEarlier (LeaveAloneOrHeld database)

-- Each moment of one file, from the old files until the new ones, goes with a moment of the other so that this is true of the two; and it is
-- true of the two as they are at the end. (Each call of a disk may be the last that does anything, so each real moment is such an end.)
pub record IsTrueAtMoments (Good : List Version → List Version → Type 0) (db log new_db new_log : File) : Type 0 where
  pub of_db : (dbs : List Version) → IsMoment db new_db dbs → (logs : List Version) × IsMoment log new_log logs × Good dbs logs
  pub of_log : (logs : List Version) → IsMoment log new_log logs → (dbs : List Version) × IsMoment db new_db dbs × Good dbs logs
  pub at_end : Good (versions new_db) (versions new_log)

module _ {D : Type 0} (g : Ghosts D) where
  -- These contents of the two files hold a database that may be shown. Two disks with just these contents, all synced, are opened as
  -- that database, unless memory runs out or a call fails.
  pub record IsFoundAgain (May : Database → Type 0) (db log : List ℕ) : Type 0 where
    pub database : Database
    pub may : May database
    pub held : Hold db log database
    pub opens : (d l : D) (result : Result (Engine D g) (Refused D)) → IsTrue (g.tells d) → IsTrue (g.tells l) → g.file d ≡ replay.fresh db → g.file l ≡ replay.fresh log → IsOpenOf d l result → Opens database result

  -- whatever pair of contents a crash leaves, where no frame of the log is accepted by chance
  abbrev pub AreFoundAgain : (Database → Type 0) → List Version → List Version → Type 0
  AreFoundAgain May dbs logs = (db log : List ℕ) → IsLeft dbs db → IsLeft logs log → HasNoChance logs log → IsFoundAgain May db log

  -- This database file is blank, so that a database can be created of it. A disk with just this content, all synced, is refused as blank
  -- beside any log, unless a call fails.
  pub record IsBlankAgain (db : List ℕ) : Type 0 where
    pub blank : is_blank_content db ≡ true
    pub refused : (d l : D) (salts : Salts) (result : Result (Engine D g) (Refused D)) → IsTrue (g.tells d) → g.file d ≡ replay.fresh db → IfOk result (IsOpenedFrom d l salts) → IfErr result (IsRefusedOpen g.tells g.file g.failures d l)
        → IsErrAnd result (λ given. (given.fault ≡ Blank) ⊎ (given.fault ≡ Io))

  -- page 1 of the empty database beside a log without a byte, where opening finds the database of no objects
  pub record IsNewAgain (page_size : ℕ) (db log : List ℕ) : Type 0 where
    pub page : IsEmptyDatabase page_size db
    pub no_log : log ≡ []
    pub found : IsFoundAgain (λ database. database ≡ []) db log

  -- whatever pair of contents a crash leaves is one of these two
  abbrev pub AreBlankOrNew : ℕ → List Version → List Version → Type 0
  AreBlankOrNew page_size dbs logs = (db log : List ℕ) → IsLeft dbs db → IsLeft logs log → IsBlankAgain db ⊎ IsNewAgain page_size db log

  -- A database was created of two disks whose database file was blank and synced. Whenever in it a crash comes, and whatever it leaves, the
  -- database file is blank, or opening finds the database of no objects.
  abbrev pub CreatingKeeps : ℕ → D → D → D → D → Type 0
  CreatingKeeps page_size db log new_db new_log = BecomesDatabase page_size (g.file db) (g.file log) (g.file new_db) (g.file new_log)
      → IsTrueAtMoments (AreBlankOrNew page_size) (g.file db) (g.file log) (g.file new_db) (g.file new_log)

  -- whatever pair of contents a crash leaves, the file holds the database alone, or opening finds it
  abbrev pub AreAloneOrFound : Database → List Version → List Version → Type 0
  AreAloneOrFound database dbs logs = (db log : List ℕ) → IsLeft dbs db → IsLeft logs log → HoldsAlone db database ⊎ IsFoundAgain (λ found. found ≡ database) db log

  -- A file was converted that was synced and held a database alone, beside a log without a byte. Whenever in it a crash comes, and whatever
  -- it leaves, the file holds the database alone still, or opening finds it.
  abbrev pub ConvertingKeeps : D → D → D → D → Type 0
  ConvertingKeeps db log new_db new_log = (database : Database) → Throughout (LeaveAloneOrHeld database) (g.file db) (g.file log) (g.file new_db) (g.file new_log)
      → IsTrueAtMoments (AreAloneOrFound database) (g.file db) (g.file log) (g.file new_db) (g.file new_log)

module _ {D : Type 0} {g : Ghosts D} where
  -- The files of an engine that hasn't failed hold the newest database of the machine that it represents.
  abbrev pub RepresentedFilesHold : Engine D g → Type 0
  RepresentedFilesHold engine = (m : Machine) → EngineRepresents engine m → m.failed ≡ false → Hold (g.file (db_disk engine)).content (g.file (log_disk engine)).content (newest m)

  -- The files of one that has failed hold, as they are, a database that may be shown, where no frame of the log is accepted by chance.
  abbrev pub FailedFilesHold : Engine D g → Type 0
  FailedFilesHold engine = (m : Machine) → EngineRepresents engine m → m.failed ≡ true → HasNoChance (versions (g.file (log_disk engine))) (g.file (log_disk engine)).content
      → IsFoundAgain g (MayShow m m) (g.file (db_disk engine)).content (g.file (log_disk engine)).content

  -- The promise. A statement was answered, from one machine to the next. Whenever in it a crash comes, and whatever it leaves, opening
  -- finds the newest database before or after the statement, or one that a failed commit has left in doubt.
  abbrev pub CrashKeepsCommits : Engine D g → Engine D g → Type 0
  CrashKeepsCommits old new = (m : Machine) (connection : ℕ) (text : List ℕ) (reply : Reply) (to : StepsByTextTo old m connection text reply new)
      → IsTrueAtMoments (AreFoundAgain g (MayShow m to.next)) (g.file (db_disk old)) (g.file (log_disk old)) (g.file (db_disk new)) (g.file (log_disk new))

  -- The same of a statement that was prepared, with values in its places.
  abbrev pub CrashKeepsPrepared : Engine D g → Engine D g → Type 0
  CrashKeepsPrepared old new = (m : Machine) (connection : ℕ) (bound : Statement) (reply : Reply) (to : StepsOver old.connections m connection bound reply new.connections)
      → IsTrueAtMoments (AreFoundAgain g (MayShow m to.next)) (g.file (db_disk old)) (g.file (log_disk old)) (g.file (db_disk new)) (g.file (log_disk new))

  -- The same of lines that were served, from the machine before the first to the one after the last.
  abbrev pub CrashKeepsRuns : Engine D g → Engine D g → Type 0
  CrashKeepsRuns old new = (m : Machine) (lines : List (List ℕ)) (replies : List Answer) (to : RunsTo old m lines replies new)
      → IsTrueAtMoments (AreFoundAgain g (MayShowInRun m to.end)) (g.file (db_disk old)) (g.file (log_disk old)) (g.file (db_disk new)) (g.file (log_disk new))

  -- Two disks were opened, which were synced and held a database. Whenever in it a crash comes, and whatever it leaves, opening finds the same.
  abbrev pub OpeningKeeps : D → D → Result (Engine D g) (Refused D) → Type 0
  OpeningKeeps db log result = (database : Database) → IsTrue (g.tells db) → IsTrue (g.tells log) → IsSynced (g.file db) → IsSynced (g.file log)
      → Hold (g.file db).content (g.file log).content database → HoldsMeanwhile db log result
      → IsTrueAtMoments (AreFoundAgain g (λ found. found ≡ database)) (g.file db) (g.file log) (g.file (db_left result)) (g.file (log_left result))
