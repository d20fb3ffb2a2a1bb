-- What a checkpoint copies back and answers (PRAGMA Statements, "wal_checkpoint"; Write-Ahead Logging, "Checkpointing").
use Rattle.std.specs.Prelude.{◌≡◌, ◌≤◌, Bool, false, not, List, [], ◌∷◌, pos, IsFalse, IsTrue, Result, Err, OnOk, IfErr, IfOk, if◌then◌else◌}
use Rattle.std.specs.List.{list_any}
use Rattle.disk.specs.declared.device.Disk.{Ghosts}
use Rattle.sqlval.specs.declared.fault.Fault.{Fault}
use Rattle.sqlval.specs.declared.fault.Fault.TheVariants.{Memory}
use Rattle.sqlval.specs.declared.value.Value.{Value}
use Rattle.sqlval.specs.declared.value.Value.TheVariants.{Int}
use Rattle.sql_syntax.specs.declared.statement.CheckpointMode.{CheckpointMode}
use Rattle.sql_syntax.specs.declared.statement.CheckpointMode.TheVariants as modes
use Rattle.sql_syntax.specs.declared.statement.Statement.{Statement}
use Rattle.sql_syntax.specs.declared.statement.Statement.TheVariants as statement
use Rattle.wal.specs.Copies.{after_copying}
use Rattle.wal.specs.LogState.{LogState, db_of, log_of, state_of}
use Rattle.wal.specs.declared.log.Log.{Log}
use Rattle.wal.specs.declared.log.Snapshot.{Snapshot}
use Rattle.wal_checkpoint.specs.Answers.{counts_of, no_counts}
use Rattle.wal_checkpoint.specs.declared.checkpoints.Counts.{Counts}
use Rattle.wal_checkpoint.specs.Shown.{Checkpoints, IsRefusedCopying, MayCopy, Meanwhile}
use Rattle.session.specs.Seats.{IsLeast, holds_snapshot}
use Rattle.session.specs.Writers.{IsNewest}
use Rattle.session.specs.declared.seats.Seat.{Seat}

-- the three numbers that a checkpoint answers
abbrev pub numbers_of : Counts → List Value
numbers_of counts = Int (pos (if counts.is_blocked then 1 else 0)) ∷ Int (pos counts.frames) ∷ Int (pos counts.copied) ∷ []

-- whether the log may be begun anew, or cut, where other connections see snapshots or none
abbrev pub may_restart : CheckpointMode → Bool → Bool
may_restart modes.Passive others = false
may_restart modes.Restart others = not others
may_restart modes.Truncate others = not others

-- and whether it is kept from it
abbrev pub is_kept : CheckpointMode → Bool → Bool
is_kept modes.Passive others = false
is_kept modes.Restart others = others
is_kept modes.Truncate others = others

-- what is answered: how many frames the log had, and how many of them are copied up to a snapshot's mark; nothing of a log that was cut
abbrev pub answer_of : CheckpointMode → Bool → LogState → Snapshot → Counts
answer_of modes.Truncate false known target = no_counts
answer_of mode others known target = counts_of (is_kept mode others) known target

module _ {D : Type 0} {g : Ghosts D} where
  -- Frames were copied up to the fewest that one of these seats sees, or that there are. Where the log may have been begun anew or cut, no frame
  -- is left in it.
  pub record CopiesBack (mode : CheckpointMode) (seats : List Seat) (old : Log D g) (result : Result Counts Fault) (new : Log D g) : Type 0 where
    pub newest : Snapshot
    pub newest_is : IsNewest old newest
    pub target : Snapshot
    pub least : IsLeast seats newest target
    pub done : MayCopy old target → OnOk result (Checkpoints old target (may_restart mode (list_any holds_snapshot seats)) new)
    pub crash : MayCopy old target → Meanwhile old target new
    pub refused : IfErr result (IsRefusedCopying old target new)
    pub counts : IfOk result (λ counts. counts ≡ answer_of mode (list_any holds_snapshot seats) (state_of old) target)
    pub few : IfOk result (λ counts. counts.copied ≤ counts.frames)
    pub copied : OnOk result (IsFalse (may_restart mode (list_any holds_snapshot seats)) → state_of new ≡ after_copying (state_of old) target)
    pub gone : MayCopy old target → OnOk result (IsTrue (may_restart mode (list_any holds_snapshot seats))
        → ((state_of new).frames ≡ 0) × (mode ≡ modes.Truncate → (g.file (log_of new)).content ≡ []))
    pub header : mode ≡ modes.Passive → (state_of new).header ≡ (state_of old).header

  -- neither disk has changed where this statement is a checkpoint that was refused for memory
  abbrev pub KeepsDisksWhereShort : {T : Type 0} → Statement → Log D g → Result T Fault → Log D g → Type 0
  KeepsDisksWhereShort s old result new = (mode : CheckpointMode) → s ≡ statement.Checkpoint mode → result ≡ Err Memory → (db_of new ≡ db_of old) × (log_of new ≡ log_of old)
