-- Turning a database file of the older kind, whose changes a rollback journal undoes, into one in WAL mode (Database File Format, "File
-- format version numbers").
use Rattle.std.specs.Prelude.{◌≡◌, ◌≤◌, ◌⊎◌, ℕ, Bool, true, false, List, [], Result, Ok, Err, IfErr}
use Rattle.catalog.specs.Database.{Database}
use Rattle.disk.specs.Calls.{Rose}
use Rattle.disk.specs.File.{File, IsLeft, Version}
use Rattle.pager_older.specs.Older.{HasVersions, IsFrontRefusal, IsSyncedAs, as_wal}
use Rattle.session.specs.Holding.{Hold}
use Rattle.sqlval.specs.Faults.{IsOutside}
use Rattle.sqlval.specs.declared.fault.Fault.{Fault}
use Rattle.sqlval.specs.declared.fault.Fault.TheVariants.{Io, Journal, Misuse}
use Rattle.sqlval.specs.declared.fault.Misuse.TheVariants.{LogNotEmpty}
use Rattle.engine.specs.Creating.{is_blank_content}

-- The database file is of the older kind and holds this database alone: as a file in WAL mode it would hold it, beside a log without a byte.
pub record HoldsAlone (db : List ℕ) (database : Database) : Type 0 where
  pub older : HasVersions 1 db
  pub held : Hold (as_wal db) [] database

-- Why a file isn't converted, beside a log and a journal of so many bytes: memory was short, or a disk's call failed; its first bytes aren't
-- those of a database, or of neither kind; there is a journal; the log has a byte; or no database is held.
pub data IsConvertRefusal (db log : List ℕ) (journal : ℕ) (fault : Fault) : Type 0 where
  outside : IsOutside fault → IsConvertRefusal db log journal fault
  by_front : IsFrontRefusal db fault → IsConvertRefusal db log journal fault
  by_journal : HasVersions 1 db → (journal ≡ 0 → ⊥) → fault ≡ Journal → IsConvertRefusal db log journal fault
  by_log : HasVersions 1 db → journal ≡ 0 → (log ≡ [] → ⊥) → fault ≡ Misuse LogNotEmpty → IsConvertRefusal db log journal fault
  by_pages : journal ≡ 0 → log ≡ [] → ((database : Database) → HoldsAlone db database → ⊥) → IsConvertRefusal db log journal fault

-- What an answer tells of two contents, and of a journal of so many bytes: a blank file, or one in WAL mode, stays as it is; one of the older
-- kind that was converted holds a database alone.
abbrev pub TellsConverted : List ℕ → List ℕ → ℕ → Result Bool Fault → Type 0
TellsConverted db log journal (Ok false) = (is_blank_content db ≡ true) ⊎ HasVersions 2 db
TellsConverted db log journal (Ok true) = (journal ≡ 0) × (log ≡ []) × ((database : Database) × HoldsAlone db database)
TellsConverted db log journal (Err fault) = IsConvertRefusal db log journal fault

-- the database file is as it was, or the same with the versions of WAL mode
abbrev pub IsSameOrWal : List ℕ → List ℕ → Type 0
IsSameOrWal old new = (new ≡ old) ⊎ (HasVersions 1 old × (new ≡ as_wal old))

-- What an answer leaves: no byte has changed but the two versions, and these only where the file was converted, or a call failed.
pub record LeavesConverted (old_db old_log new_db new_log : File) (result : Result Bool Fault) : Type 0 where
  pub converted : result ≡ Ok true → IsSyncedAs (as_wal old_db.content) new_db × IsSyncedAs old_log.content new_log
  pub same : (result ≡ Ok true → ⊥) → (result ≡ Err Io → ⊥) → new_db.content ≡ old_db.content
  pub failed : result ≡ Err Io → IsSameOrWal old_db.content new_db.content
  pub log_same : new_log.content ≡ old_log.content

-- Each pair of files that a crash may leave of these versions holds the database: the file alone, or both.
abbrev pub LeaveAloneOrHeld : Database → List Version → List Version → Type 0
LeaveAloneOrHeld database dbs logs = (db log : List ℕ) → IsLeft dbs db → IsLeft logs log → HoldsAlone db database ⊎ Hold db log database

-- the count of failed calls didn't fall, and `Io` comes only where it rose
pub record CountsCalls {T : Type 0} (result : Result T Fault) (old new : ℕ) : Type 0 where
  pub counts : old ≤ new
  pub io : IfErr result (λ fault. fault ≡ Io → Rose old new)

-- the same of both files
pub record CountsBoth {D T : Type 0} (failures : D → ℕ) (result : Result T Fault) (db log new_db new_log : D) : Type 0 where
  pub db_counts : failures db ≤ failures new_db
  pub log_counts : failures log ≤ failures new_log
  pub io : IfErr result (λ fault. fault ≡ Io → Rose (failures db) (failures new_db) ⊎ Rose (failures log) (failures new_log))
