-- Which snapshots are of the newest commit, and which writers may commit over it (Isolation In SQLite).
use Rattle.std.specs.Prelude.{◌≡◌, ◌==◌, ◌&&◌, not, Bool, false}
use Rattle.disk.specs.declared.device.Disk.{Ghosts}
use Rattle.wal.specs.LogState.{state_of, seen_by, size_of}
use Rattle.wal.specs.declared.log.Log.{Log}
use Rattle.wal.specs.declared.log.Snapshot.{Snapshot}
use Rattle.pager.specs.Limits.{page_size_of}
use Rattle.pager.specs.Sound.{IsSound}
use Rattle.pager.specs.Writers.{snapshot_of}
use Rattle.pager.specs.declared.writer.Writer.{Writer}
use Rattle.session.specs.declared.seats.Transaction.{Transaction}
use Rattle.session.specs.declared.seats.Transaction.TheVariants as transaction

module _ {D : Type 0} {g : Ghosts D} where
  -- the snapshot is of the newest commit
  pub record IsNewest (files : Log D g) (snapshot : Snapshot) : Type 0 where
    pub seen : seen_by snapshot ≡ (state_of files).frames
    pub sized : size_of snapshot ≡ (state_of files).size

  -- the transaction reads on a snapshot that isn't of the newest commit
  abbrev pub is_stale : Log D g → Transaction → Bool
  is_stale files (transaction.Reading snapshot) = not (seen_by snapshot == (state_of files).frames && size_of snapshot == (state_of files).size)
  is_stale files _ = false

  -- a transaction reads on this snapshot: its own, or the newest where it has none
  abbrev pub SeesBy : Log D g → Transaction → Snapshot → Type 0
  SeesBy files (transaction.Reading own) snapshot = snapshot ≡ own
  SeesBy files (transaction.Writing writer) snapshot = snapshot ≡ snapshot_of writer
  SeesBy files _ snapshot = IsNewest files snapshot

  -- the writer's changes can be committed over the newest commit
  pub record IsWriter (files : Log D g) (writer : Writer) : Type 0 where
    pub newest : IsNewest files (snapshot_of writer)
    pub sound : IsSound writer
    pub page_size : page_size_of writer ≡ (state_of files).page_size
