-- Why calls are refused, by the counts of the two disks' failed calls before and after them.
use Rattle.std.specs.Prelude.{◌≡◌, ◌⊎◌, ◌≤◌, ℕ, Bool, IsTrue, Result, OnOk, IfErr}
use Rattle.disk.specs.Calls.{Rose}
use Rattle.disk.specs.declared.device.Disk.{Ghosts}
use Rattle.sqlval.specs.declared.fault.Fault.{Fault}
use Rattle.sqlval.specs.declared.fault.Fault.TheVariants.{Io, Full}
use Rattle.wal.specs.declared.log.Log.{Log}
use Rattle.wal.specs.LogState.{db_of, log_of}

-- a refusal has its reason: `Io` comes only where one of the counts rose, `Full` only where it may
pub record IsErrorCause (may_be_full : Bool) (db new_db log new_log : ℕ) (fault : Fault) : Type 0 where
  pub io : fault ≡ Io → Rose db new_db ⊎ Rose log new_log
  pub full : fault ≡ Full → IsTrue may_be_full

-- the counts didn't fall, and didn't rise in a call that answered Ok; and a refusal has its reason
pub record AreErrorCauses {T : Type 0} (may_be_full : Bool) (result : Result T Fault) (db new_db log new_log : ℕ) : Type 0 where
  pub db_counts : db ≤ new_db
  pub log_counts : log ≤ new_log
  pub none_failed : OnOk result ((new_db ≡ db) × (new_log ≡ log))
  pub why : IfErr result (IsErrorCause may_be_full db new_db log new_log)

-- A function that calls one disk: the disk tells as it did, and its count of failed calls didn't fall. Ok comes only where none
-- failed, and the one refusal is `Io`, where one did.
pub record TouchesDisk {D T : Type 0} (tells : D → Bool) (failures : D → ℕ) (old new : D) (result : Result T Fault) : Type 0 where
  pub tells_same : tells new ≡ tells old
  pub counts : failures old ≤ failures new
  pub none_failed : OnOk result (failures new ≡ failures old)
  pub refused : IfErr result (λ fault. (fault ≡ Io) × Rose (failures old) (failures new))

module _ {D : Type 0} {g : Ghosts D} where
  -- the same of a call's two files
  abbrev pub HasCause : {T : Type 0} → Bool → Result T Fault → Log D g → Log D g → Type 0
  HasCause may_be_full result old new = AreErrorCauses may_be_full result (g.failures (db_of old)) (g.failures (db_of new)) (g.failures (log_of old)) (g.failures (log_of new))
