-- A log that begins anew, or is cut to nothing, once its frames are in the database file (Database File Format, "WAL Reset").
use Rattle.std.specs.Prelude.{◌≡◌, ◌⊎◌, ℕ, List, []}
use Rattle.disk.specs.declared.device.Disk.{Ghosts}
use Rattle.disk.specs.File.{Version, IsLeft, IsSynced, IsContentLeft, Always}
use Rattle.sqlval.specs.declared.fault.Fault.{Fault}
use Rattle.sqlval.specs.declared.fault.Fault.TheVariants.{Io, Memory}
use Rattle.wal_frame.specs.Written.{Framed}
use Rattle.wal.specs.Alone.{StandsAlone}
use Rattle.wal.specs.Committed.{HasCommits}
use Rattle.wal.specs.LogState.{db_of, log_of, state_of}
use Rattle.wal.specs.declared.log.Log.{Log}
use Rattle.pager.specs.Views.{Tells, newest_view}

module _ {D : Type 0} {g : Ghosts D} where
  -- what is known of the two files before
  pub record MayEmpty (files : Log D g) : Type 0 where
    pub told : Tells files
    pub log_synced : IsSynced (g.file (log_of files))
    pub commits : HasCommits (state_of files).page_size (g.file (log_of files)).content (newest_view files).frames

  -- the frames count on; or there are none, and the database file stands for itself
  abbrev pub CountOn : Log D g → List Framed → Type 0
  CountOn files frames = (frames ≡ (newest_view files).frames)
      ⊎ (frames ≡ []) × StandsAlone (newest_view files).db (state_of files).page_size (newest_view files).frames (state_of files).size

  -- what is known after: the log is synced, and its frames count on, or there are none
  pub record Emptied (old new : Log D g) : Type 0 where
    pub told : Tells new
    pub page_size : (state_of new).page_size ≡ (state_of old).page_size
    pub size : (state_of new).size ≡ (state_of old).size
    pub frames : CountOn old (newest_view new).frames
    pub log_synced : IsSynced (g.file (log_of new))
    pub commits : HasCommits (state_of new).page_size (g.file (log_of new)).content (newest_view new).frames

  -- a crash leaves committed frames that count on, or none
  abbrev pub LeavesCounting : Log D g → List Version → Type 0
  LeavesCounting files versions = (log : List ℕ) → IsLeft versions log → (frames : List Framed) × HasCommits (state_of files).page_size log frames × CountOn files frames

  -- while it runs
  pub record EmptiedMeanwhile (old new : Log D g) : Type 0 where
    pub shown : Always (g.file (log_of old)) (g.file (log_of new)) (LeavesCounting old)
    pub left : IsContentLeft (g.file (log_of new))
    pub db : db_of new ≡ db_of old

  -- it takes no memory, and where that is known before, only a call of the disk that failed refuses it
  abbrev pub IsRefusedEmptying : Log D g → Fault → Type 0
  IsRefusedEmptying old fault = (fault ≡ Memory → ⊥) × (MayEmpty old → fault ≡ Io)
