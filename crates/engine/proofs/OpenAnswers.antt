-- What opening answers: files that were read and refused, or whose log was cut.
use Rattle.std.proofs.Common.{◌≡◌, ◌⊎◌, subst}
use Rattle.std.specs.Prelude.{IsTrue, Result, Err, IfErr, IfOk}
use Rattle.disk.specs.Calls.{Rose}
use Rattle.disk.specs.File.{IsContentLeft, IsSynced, Throughout}
use Rattle.disk.specs.declared.device.Disk.{Ghosts}
use Rattle.sqlval.specs.declared.fault.Fault.{Fault}
use Rattle.sqlval.specs.declared.fault.Fault.TheVariants.{Io}
use Rattle.catalog.specs.Database.{Database}
use Rattle.wal_frame.specs.declared.log_header.Salts.{Salts}
use Rattle.wal.specs.declared.log.Refused.{Refused}
use Rattle.session.specs.Holding.{Hold, LeaveHeld}
use Rattle.session.proofs.StoredFiles.{stored_if_held}
use Rattle.engine.specs.Opening.{IsOpenFault, IsOpenedFrom, TellsBlank, IsRefusedOpen, LeavesOpened, db_left, log_left}
use Rattle.engine.specs.declared.opening.Engine.{Engine}
use Rattle.engine.proofs.HeldCrashes.{held_throughout}
use Rattle.engine.proofs.Opened.{WereRead, as_before, then_opened}

module _ {D : Type 0} {g : Ghosts D} where
  -- an answer, but for the database that is shown
  pub record IsAnswer (db log : D) (salts : Salts) (result : Result (Engine D g) (Refused D)) : Type 0 where
    pub crash : IsTrue (g.tells db) → IsTrue (g.tells log) → Throughout (LeavesOpened (g.file db) (g.file log)) (g.file db) (g.file log) (g.file (db_left result)) (g.file (log_left result))
    pub left : IsTrue (g.tells db) → IsTrue (g.tells log) → IsContentLeft (g.file db) → IsContentLeft (g.file log) → IsContentLeft (g.file (db_left result)) × IsContentLeft (g.file (log_left result))
    pub opened : IfOk result (IsOpenedFrom db log salts)
    pub refused : IfErr result (IsRefusedOpen g.tells g.file g.failures db log)

  -- files that hold a database hold it at each moment
  pub holds : (db log : D) (salts : Salts) (result : Result (Engine D g) (Refused D)) → IsAnswer db log salts result → (database : Database) → IsTrue (g.tells db) → IsTrue (g.tells log) → IsSynced (g.file db) → IsSynced (g.file log)
      → Hold (g.file db).content (g.file log).content database → Throughout (LeaveHeld (λ (d : Database). d ≡ database)) (g.file db) (g.file log) (g.file (db_left result)) (g.file (log_left result))
  holds db log salts result answer database told_db told_log db_synced log_synced held =
      held_throughout (g.file db) (g.file log) db_synced log_synced database (stored_if_held (g.file db).content (g.file log).content database held) (g.file (db_left result)) (g.file (log_left result)) (answer.crash told_db told_log)

  -- files that were read, and refused
  pub refused_read : (db log : D) (salts : Salts) (refused : Refused D) → WereRead g.tells g.file g.failures db log refused.db refused.log
      → (IsTrue (g.tells db) → IsTrue (g.tells log) → (refused.fault ≡ Io → ⊥) → IsSynced (g.file refused.db) × IsSynced (g.file refused.log))
      → (refused.fault ≡ Io → Rose (g.failures db) (g.failures refused.db) ⊎ Rose (g.failures log) (g.failures refused.log))
      → (IsTrue (g.tells db) → TellsBlank (g.file db).content refused.fault) → IsOpenFault refused.fault → IsAnswer db log salts (Err refused)
  refused_read db log salts refused were synced io blank listed = record {
    crash = λ told_db told_log. as_before (g.file db) (g.file log) (g.file refused.db) (g.file refused.log) (were.before told_db told_log);
    left = λ told_db told_log db_was log_was. (were.db_kept.left told_db db_was, were.log_kept.left told_log log_was);
    opened = tt;
    refused = record {
      kept = λ told_db told_log other. (were.db_kept.same told_db, were.log_kept.same told_log);
      synced = synced;
      io = io;
      blank = blank;
      listed = listed;
    };
  }

  -- and files that were read and whose log was cut then
  pub cut_crash : (db log mid_db mid_log new_db new_log : D) → WereRead g.tells g.file g.failures db log mid_db mid_log → IsTrue (g.tells db) → IsTrue (g.tells log) → IsSynced (g.file mid_db) → IsSynced (g.file mid_log)
      → Throughout (LeavesOpened (g.file mid_db) (g.file mid_log)) (g.file mid_db) (g.file mid_log) (g.file new_db) (g.file new_log) → Throughout (LeavesOpened (g.file db) (g.file log)) (g.file db) (g.file log) (g.file new_db) (g.file new_log)
  cut_crash db log mid_db mid_log new_db new_log were told_db told_log db_synced log_synced two =
      then_opened (g.file db) (g.file log) (g.file mid_db) (g.file mid_log) db_synced log_synced (were.db_kept.same told_db) (were.log_kept.same told_log) (g.file new_db) (g.file new_log) (were.before told_db told_log) two

  -- the disks that are given back, under other names
  pub given_back : (db log : D) (salts : Salts) (fault : Fault) {new_db new_log old_db old_log : D} → old_db ≡ new_db → old_log ≡ new_log
      → IsAnswer db log salts (Err (record { fault = fault; db = old_db; log = old_log })) → IsAnswer db log salts (Err (record { fault = fault; db = new_db; log = new_log }))
  given_back db log salts fault {new_db = new_db} {old_log = old_log} same_db same_log answer =
      subst (λ (l : D). IsAnswer db log salts (Err (record { fault = fault; db = new_db; log = l }))) same_log
      (subst (λ (d : D). IsAnswer db log salts (Err (record { fault = fault; db = d; log = old_log }))) same_db answer)
