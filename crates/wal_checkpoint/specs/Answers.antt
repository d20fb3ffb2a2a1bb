-- What a checkpoint answers (PRAGMA Statements, "wal_checkpoint").
use Rattle.std.specs.Prelude.{Bool, false}
use Rattle.wal.specs.LogState.{LogState}
use Rattle.wal.specs.Copies.{after_copying}
use Rattle.wal.specs.declared.log.Snapshot.{Snapshot}
use Rattle.wal_checkpoint.specs.declared.checkpoints.Counts.{Counts}

-- whether another connection's snapshot kept the log, how many frames the log had, and how many of them are copied
abbrev pub counts_of : Bool → LogState → Snapshot → Counts
counts_of is_blocked known target = record { is_blocked = is_blocked; frames = known.frames; copied = (after_copying known target).copied }

-- of a log that was cut to nothing
abbrev pub no_counts : Counts
no_counts = record { is_blocked = false; frames = 0; copied = 0 }
