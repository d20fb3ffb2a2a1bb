-- What the counts of the two disks' failed calls say of an engine.
use Rattle.std.specs.Prelude.{◌≡◌, ◌≤◌, ℕ, List, true, IsTrue, IsFalse, Result, Err}
use Rattle.disk.specs.declared.device.Disk.{Ghosts}
use Rattle.sqlval.specs.declared.fault.Fault.{Fault}
use Rattle.sqlval.specs.declared.fault.Fault.TheVariants.{Full}
use Rattle.sql_syntax.specs.declared.statement.Statement.{Statement}
use Rattle.sql_grammar.specs.Texts.{IsStatementText}
use Rattle.session.specs.ConnectionState.{HasCauseIn}
use Rattle.session.specs.CopiedBack.{KeepsDisksWhereShort}
use Rattle.session.specs.Failing.{HasCallFailed, IsPastIn, MarksFailure, may_commit}
use Rattle.session.specs.Machine.{Machine}
use Rattle.session.specs.Representation.{transaction_of}
use Rattle.session.specs.Limits.{may_be_full}
use Rattle.engine.specs.EngineState.{connections_of, db_disk, has_failed_of, log_disk}
use Rattle.engine.specs.Representation.{EngineRepresents, files_in}
use Rattle.engine.specs.declared.opening.Engine.{Engine}

module _ {D : Type 0} {g : Ghosts D} where
  -- where the statement may commit, what the connection's transaction has written is past the limits
  abbrev pub IsPastOnCommit : Engine D g → ℕ → Statement → Type 0
  IsPastOnCommit engine connection s = (m : Machine) → EngineRepresents engine m → may_commit s ≡ true → IsPastIn (files_in engine) (transaction_of (connections_of engine) connection)

  -- `Full` comes only of a statement that may make the database larger or commit, and where it commits, only past the limits
  abbrev pub HasFullCause : {T : Type 0} → Engine D g → ℕ → List ℕ → Result T Fault → Type 0
  HasFullCause engine connection text result = result ≡ Err Full → (s : Statement) × IsStatementText text s × IsTrue (may_be_full s) × IsPastOnCommit engine connection s

  -- A checkpoint that is refused for memory leaves both disks as they were.
  abbrev pub KeepsDisksOfText : {T : Type 0} → Engine D g → List ℕ → Result T Fault → Engine D g → Type 0
  KeepsDisksOfText old text result new = (s : Statement) → IsStatementText text s → KeepsDisksWhereShort s (files_in old) result (files_in new)

  -- The answer to a statement: `Io` comes only where a call of a disk failed; of refusals it alone marks the engine as failed, and where it
  -- doesn't, it leaves what readers see.
  pub record CountsFailures {T : Type 0} (result : Result T Fault) (old new : Engine D g) : Type 0 where
    pub cause : HasCauseIn true result (connections_of old) (connections_of new)
    pub marks : MarksFailure result (connections_of old) (connections_of new)

  -- The counts didn't fall, and where the engine was marked as failed, one of them rose.
  pub record MarksWhereCounted (old new : Engine D g) : Type 0 where
    pub db_counts : g.failures (db_disk old) ≤ g.failures (db_disk new)
    pub log_counts : g.failures (log_disk old) ≤ g.failures (log_disk new)
    pub marked : IsFalse (has_failed_of old) → IsTrue (has_failed_of new) → HasCallFailed (files_in old) (files_in new)
