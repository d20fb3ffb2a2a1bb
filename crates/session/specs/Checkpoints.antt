-- What a checkpoint makes of the connections, and what follows a commit (Write-Ahead Logging, "Checkpointing").
use Rattle.std.specs.Prelude.{◌≡◌, ◌<◌, ◌≤◌, ◌||◌, Result, IfErr, IfOk}
use Rattle.disk.specs.declared.device.Disk.{Ghosts}
use Rattle.sqlval.specs.declared.fault.Fault.{Fault}
use Rattle.sql_syntax.specs.declared.statement.CheckpointMode.TheVariants as modes
use Rattle.wal.specs.LogState.{state_of}
use Rattle.wal_checkpoint.specs.declared.checkpoints.Counts.{Counts}
use Rattle.session.specs.ConnectionState.{files_of, has_failed_in, is_io}
use Rattle.session.specs.CopiedBack.{CopiesBack}
use Rattle.session.specs.Representation.{beside_in}
use Rattle.session.specs.declared.transactions.Connections.{Connections}

module _ {D : Type 0} {g : Ghosts D} where
  -- nothing differs but the files, and that the engine is marked as failed where a call of a disk failed
  pub record KeepsSeats (result : Result Counts Fault) (old new : Connections D g) : Type 0 where
    pub beside : IfOk result (λ counts. beside_in new ≡ beside_in old)
    pub failed : IfErr result (λ f. beside_in new ≡ record (beside_in old) { failed = has_failed_in old || is_io f })
    pub transaction : new.transaction ≡ old.transaction
    pub catalog : new.catalog ≡ old.catalog

  -- frames were copied as by a passive checkpoint, whose refusal isn't answered
  pub record CopiesQuietly (old new : Connections D g) : Type 0 where
    pub result : Result Counts Fault
    pub seats : KeepsSeats result old new
    pub copies : CopiesBack modes.Passive old.parked.items (files_of old) result (files_of new)

  -- what follows a commit: nothing where the log has fewer than 1,000 frames, and else that
  pub record CopiesAfter (old new : Connections D g) : Type 0 where
    pub short : (state_of (files_of old)).frames < 1000 → new ≡ old
    pub long : 1000 ≤ (state_of (files_of old)).frames → CopiesQuietly old new
