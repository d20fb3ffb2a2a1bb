-- Which refusals have which causes, and when the engine is marked as failed.
use Rattle.std.specs.Prelude.{◌≡◌, ◌⊎◌, ◌≤◌, ℕ, length, Bool, true, false, IsTrue, IsFalse, IfErr, Result, Err}
use Rattle.disk.specs.Calls.{Rose}
use Rattle.disk.specs.declared.device.Disk.{Ghosts}
use Rattle.sqlval.specs.declared.fault.Fault.{Fault}
use Rattle.sqlval.specs.declared.fault.Fault.TheVariants as fault
use Rattle.sql_syntax.specs.declared.statement.BeginMode.{BeginMode}
use Rattle.sql_syntax.specs.declared.statement.BeginMode.TheVariants as begins
use Rattle.sql_syntax.specs.declared.statement.Statement.{Statement}
use Rattle.sql_syntax.specs.declared.statement.Statement.TheVariants as statement
use Rattle.wal.specs.LogState.{db_of, log_of}
use Rattle.wal.specs.declared.log.Log.{Log}
use Rattle.pager.specs.Views.{Tells}
use Rattle.session.specs.Applying.{IsPast}
use Rattle.session.specs.ConnectionState.{files_of, has_failed_in}
use Rattle.session.specs.Machine.{Machine}
use Rattle.session.specs.Representation.{RepresentsRunning, ShowTheSame, transaction_of}
use Rattle.session.specs.declared.transactions.Connections.{Connections}
use Rattle.session.specs.declared.seats.Transaction.{Transaction}
use Rattle.session.specs.declared.seats.Transaction.TheVariants as transaction

-- it takes the write right at once
abbrev pub is_immediate : BeginMode → Bool
is_immediate begins.Immediate = true
is_immediate begins.Deferred = false

-- it has changed pages
abbrev pub has_written : Transaction → Bool
has_written (transaction.Writing writer) = true
has_written _ = false

-- it may end a transaction by a commit
abbrev pub may_commit : Statement → Bool
may_commit statement.Commit = true
may_commit (statement.Release name) = true
may_commit _ = false

-- whether a statement of a connection in this transaction may take memory
abbrev pub may_want_memory : Transaction → Statement → Bool
may_want_memory t (statement.Begin mode) = is_immediate mode
may_want_memory t statement.Commit = has_written t
may_want_memory t statement.Rollback = false
may_want_memory t (statement.Release name) = has_written t
may_want_memory t (statement.RollbackTo name) = false
may_want_memory t _ = true

module _ {D : Type 0} {g : Ghosts D} where
  -- a call of one of the two disks has failed, as their counts say
  abbrev pub HasCallFailed : Log D g → Log D g → Type 0
  HasCallFailed old new = Rose (g.failures (db_of old)) (g.failures (db_of new)) ⊎ Rose (g.failures (log_of old)) (g.failures (log_of new))

  -- the counts of the two disks' failed calls didn't fall
  abbrev pub CountsStay : Log D g → Log D g → Type 0
  CountsStay old new = (g.failures (db_of old) ≤ g.failures (db_of new)) × (g.failures (log_of old) ≤ g.failures (log_of new))

  -- the files were read at most, and the engine is marked as failed where it was
  pub record ReadsFiles (old new : Connections D g) : Type 0 where
    pub files : Tells (files_of old) → ShowTheSame (files_of old) (files_of new)
    pub failed : has_failed_in new ≡ has_failed_in old

  -- Of refusals `Io` alone marks the engine as failed, and only where a call of a disk failed; so does a commit that answers ok, where the copying
  -- of frames after it failed. A refusal that doesn't mark it leaves what readers see.
  pub record MarksFailure {T : Type 0} (result : Result T Fault) (old new : Connections D g) : Type 0 where
    pub marked : IsFalse (has_failed_in old) → IsTrue (has_failed_in new) → IfErr result (λ f. f ≡ fault.Io) × HasCallFailed (files_of old) (files_of new)
    pub unmarked : result ≡ Err fault.Io → IsFalse (has_failed_in new) → Tells (files_of old) → ShowTheSame (files_of old) (files_of new)

  -- this transaction has written, and what its commit would write is past the limits
  abbrev pub IsPastIn : Log D g → Transaction → Type 0
  IsPastIn files (transaction.Writing writer) = IsPast files writer
  IsPastIn files _ = ⊥

  -- the same of the present connection's
  abbrev pub IsPastLimits : Connections D g → Type 0
  IsPastLimits c = IsPastIn (files_of c) c.transaction

  -- A statement's refusal, of a connection in this transaction, has its cause: `Memory` only where it may take memory, and `Full` of a COMMIT
  -- or a RELEASE only past the limits.
  pub record IsRefusedIn (c : Connections D g) (t : Transaction) (s : Statement) (f : Fault) : Type 0 where
    pub memory : f ≡ fault.Memory → IsTrue (may_want_memory t s)
    pub full : (m : Machine) → RepresentsRunning c m → may_commit s ≡ true → f ≡ fault.Full → IsPastIn (files_of c) t

  -- the same of the present connection
  abbrev pub IsRefusedHere : Connections D g → Statement → Fault → Type 0
  IsRefusedHere c = IsRefusedIn c c.transaction

  -- the same of a connection, where both it and the present one have a seat
  abbrev pub IsRefusedFor : Connections D g → ℕ → Statement → Fault → Type 0
  IsRefusedFor c connection s f =
      1 ≤ connection → connection ≤ length c.parked.items → 1 ≤ c.connection → c.connection ≤ length c.parked.items → IsRefusedIn c (transaction_of c connection) s f
