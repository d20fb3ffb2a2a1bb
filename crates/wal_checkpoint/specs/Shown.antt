-- What stays where the log's frames are copied into the database file (Write-Ahead Logging, "Checkpointing"; Isolation In SQLite).
use Rattle.std.specs.Prelude.{◌≡◌, ◌⊎◌, ◌≤◌, ◌*◌, ℕ, Bool, IsFalse, List, [], length, take}
use Rattle.disk.specs.declared.device.Disk.{Ghosts}
use Rattle.disk.specs.File.{Version, IsLeft, IsSynced, IsContentLeft, Throughout}
use Rattle.sqlval.specs.declared.fault.Fault.{Fault}
use Rattle.sqlval.specs.declared.fault.Fault.TheVariants.{Memory, Io}
use Rattle.wal_frame.specs.Written.{Framed}
use Rattle.wal.specs.Committed.{HasCommits}
use Rattle.wal.specs.LogState.{db_of, log_of, seen_by, size_of, state_of}
use Rattle.wal.specs.declared.log.Log.{Log}
use Rattle.wal.specs.declared.log.Snapshot.{Snapshot}
use Rattle.pager.specs.Views.{Tells, View, ViewHas, newest_view, view_at}

-- each page that one view shows, another shows
pub record ShowsSame (old new : View) : Type 0 where
  pub page_size : new.page_size ≡ old.page_size
  pub size : new.size ≡ old.size
  pub pages : (number : ℕ) (bytes : List ℕ) → 1 ≤ number → number ≤ old.size → ViewHas old number bytes → ViewHas new number bytes

module _ {D : Type 0} {g : Ghosts D} where
  -- the newest view's pages, out of this database file under these frames
  abbrev pub view_over : Log D g → List ℕ → List Framed → View
  view_over files db frames = record (newest_view files) { db = db; frames = frames }

  -- This database file shows under these frames what the newest view shows. It begins as the file did, or as page 1 does that a snapshot sees.
  -- These are the committed frames, and where there are none the file is as it was; or there are none, and the file has as many pages as the view.
  pub record ShowsNewest (files : Log D g) (target : Snapshot) (db : List ℕ) (frames : List Framed) : Type 0 where
    pub same : ShowsSame (newest_view files) (view_over files db frames)
    pub front : (take 100 db ≡ take 100 (newest_view files).db) ⊎ ((page : List ℕ) × ViewHas (view_at files target) 1 page × (take 100 db ≡ take 100 page))
    pub frames_are : ((frames ≡ (newest_view files).frames) × (frames ≡ [] → db ≡ (newest_view files).db)) ⊎ (frames ≡ []) × (length db ≡ (newest_view files).size * (newest_view files).page_size)

  -- each pair of files that a crash may leave shows what the newest view shows
  abbrev pub LeaveShown : Log D g → Snapshot → List Version → List Version → Type 0
  LeaveShown files target dbs logs = (db log : List ℕ) → IsLeft dbs db → IsLeft logs log
      → (frames : List Framed) × HasCommits (state_of files).page_size log frames × ShowsNewest files target db frames

  -- The log's frames up to a snapshot's mark may be copied: both files are synced, the log's commits are those of the newest view, and its pages
  -- and those that the snapshot sees are there.
  pub record MayCopy (files : Log D g) (target : Snapshot) : Type 0 where
    pub told : Tells files
    pub db_synced : IsSynced (g.file (db_of files))
    pub log_synced : IsSynced (g.file (log_of files))
    pub commits : HasCommits (state_of files).page_size (g.file (log_of files)).content (newest_view files).frames
    pub within : seen_by target ≤ (state_of files).frames
    pub sized : seen_by target ≡ (state_of files).frames → size_of target ≡ (state_of files).size
    pub some : 1 ≤ (state_of files).size
    pub long : 100 ≤ length (newest_view files).db
    pub there : (number : ℕ) → 1 ≤ number → number ≤ size_of target → (bytes : List ℕ) × ViewHas (view_at files target) number bytes

  -- What a checkpoint leaves: both files are synced, and show what they showed. Whoever sees at least the frames of the snapshot sees what he saw,
  -- unless the log may have been begun anew.
  pub record Checkpoints (old : Log D g) (target : Snapshot) (may_restart : Bool) (new : Log D g) : Type 0 where
    pub told : Tells new
    pub page_size : (state_of new).page_size ≡ (state_of old).page_size
    pub size : (state_of new).size ≡ (state_of old).size
    pub shows : ShowsNewest old target (newest_view new).db (newest_view new).frames
    pub frames : IsFalse may_restart → (state_of new).frames ≡ (state_of old).frames
    pub others : IsFalse may_restart → (snapshot : Snapshot) → seen_by target ≤ seen_by snapshot → seen_by snapshot ≤ (state_of old).frames
        → (seen_by snapshot ≡ (state_of old).frames → size_of snapshot ≡ (state_of old).size) → ShowsSame (view_at old snapshot) (view_at new snapshot)
    pub db_synced : IsSynced (g.file (db_of new))
    pub log_synced : IsSynced (g.file (log_of new))
    pub commits : HasCommits (state_of new).page_size (g.file (log_of new)).content (newest_view new).frames

  -- while it runs: at each moment a crash leaves files that show what the newest view showed; and so do those that are there at the end
  pub record Meanwhile (old : Log D g) (target : Snapshot) (new : Log D g) : Type 0 where
    pub shown : Throughout (LeaveShown old target) (g.file (db_of old)) (g.file (log_of old)) (g.file (db_of new)) (g.file (log_of new))
    pub db_left : IsContentLeft (g.file (db_of new))
    pub log_left : IsContentLeft (g.file (log_of new))

  -- why it is refused: when out of memory, which changes nothing, or where a call of a disk failed
  abbrev pub IsCheckpointRefusal : Log D g → Log D g → Fault → Type 0
  IsCheckpointRefusal old new fault = (fault ≡ Memory) × (state_of new ≡ state_of old) × (db_of new ≡ db_of old) × (log_of new ≡ log_of old) ⊎ (fault ≡ Io)

  -- out of memory neither disk has changed; and where frames may be copied it is refused so
  abbrev pub IsRefusedCopying : Log D g → Snapshot → Log D g → Fault → Type 0
  IsRefusedCopying old target new fault = (fault ≡ Memory → (db_of new ≡ db_of old) × (log_of new ≡ log_of old)) × (MayCopy old target → IsCheckpointRefusal old new fault)
