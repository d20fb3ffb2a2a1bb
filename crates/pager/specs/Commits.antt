-- What a writer's commit makes of the database (Database File Format, "WAL File Format" and "The Database Header").
use Rattle.std.specs.Prelude.{◌≡◌, ◌⊎◌, ◌↔◌, ◌<◌, ◌≤◌, ℕ, Bool, IsFalse, List, [], Option, length, map}
use Rattle.disk.specs.declared.device.Disk.{Ghosts}
use Rattle.disk.specs.File.{Always, IsContentLeft, IsSynced}
use Rattle.db_header.specs.declared.fields.Header.{Header}
use Rattle.db_header.specs.Header.{IsHeader}
use Rattle.db_header.specs.Writing.{IsBytes}
use Rattle.sqlval.specs.declared.fault.Fault.{Fault}
use Rattle.sqlval.specs.declared.fault.Fault.TheVariants.{Memory, Io, Full}
use Rattle.wal.specs.declared.log.Log.{Log}
use Rattle.wal.specs.declared.log.Snapshot.{Snapshot}
use Rattle.wal_frame.specs.Written.{Framed}
use Rattle.wal.specs.Committed.{HasCommits}
use Rattle.wal.specs.LogState.{db_of, log_of, state_of, seen_by}
use Rattle.wal.specs.Laws.{IsNotAmong}
use Rattle.wal.specs.Sizes.{IsViewSize}
use Rattle.wal.specs.Refusals.{IsWithin}
use Rattle.wal.specs.Alone.{StandsAlone}
use Rattle.wal.specs.Anew.{LeavesAmong, base_of, begins_anew}
use Rattle.pager.specs.declared.writer.Writer.{Writer}
use Rattle.pager.specs.Limits.{pages_of, page_size_of}
use Rattle.pager.specs.Marks.{marks_of, now_of}
use Rattle.pager.specs.Views.{View, ViewHas, Tells, changes_of, newest_view, view_at, view_of}
use Rattle.pager.specs.Writers.{IsHeaded, IsNextHeader, IsConsistent, makes_objects, snapshot_of}

module _ {D : Type 0} {g : Ghosts D} where
  -- A writer may commit: its changes are whole, it stands on the newest snapshot, each page past that is among its changes, and page 1, as it
  -- sees it, has this header.
  pub record MayCommit (files : Log D g) (writer : Writer) (page : List ℕ) (header : Header) : Type 0 where
    pub tells : Tells files
    pub whole : IsConsistent writer
    pub newest : seen_by (snapshot_of writer) ≡ (state_of files).frames
    pub page_size : page_size_of writer ≡ (state_of files).page_size
    pub reaches : (number : ℕ) → (state_of files).size < number → number ≤ pages_of writer → IsNotAmong (changes_of writer) number → ⊥
    pub first : ViewHas (view_of files writer) 1 page
    pub header_is : IsHeader page header

  -- What a view shows that a writer's commit leaves: what the writer saw, except for the header on page 1, which is the next one.
  pub record IsCommittedOver (old : Log D g) (writer : Writer) (page : List ℕ) (header : Header) (view : View) : Type 0 where
    pub size : view.size ≡ pages_of writer
    pub others : (number : ℕ) (bytes : List ℕ) → (number ≡ 1 → ⊥) → 1 ≤ number → number ≤ view.size → ViewHas view number bytes ↔ ViewHas (view_of old writer) number bytes
    pub first : List ℕ
    pub next : Header
    pub has_first : ViewHas view 1 first
    pub headed : IsHeaded page first next
    pub next_is : IsNextHeader header next (makes_objects writer) (pages_of writer)

  -- What a commit leaves: the newest view is what the writer saw, with the next header on page 1, and it is on the disk; and snapshots
  -- that were there see what they saw, unless the log was begun anew.
  pub record CommitsPages (old : Log D g) (may_restart : Bool) (writer : Writer) (page : List ℕ) (header : Header) (new : Log D g) : Type 0 where
    pub tells : Tells new
    pub left : IsCommittedOver old writer page header (newest_view new)
    pub stay : IsFalse (begins_anew (state_of old) may_restart) → (snapshot : Snapshot) → seen_by snapshot ≤ (state_of old).frames → view_at new snapshot ≡ view_at old snapshot
    pub db_is : (newest_view new).db ≡ (newest_view old).db
    pub page_size_is : (newest_view new).page_size ≡ (newest_view old).page_size
    pub sized : (counted : Option ℕ) (len : ℕ) → IsViewSize (map (λ (f : Framed). f.head) (newest_view new).frames) counted len (newest_view new).page_size (newest_view new).size
    pub few : length (newest_view new).frames ≤ 1000000
    pub settled : HasCommits (state_of new).page_size (g.file (log_of new)).content (newest_view new).frames
    pub synced : IsSynced (g.file (log_of new))

  -- the committed frames that a crash may leave in place of the newest view's: the same, or none where the database file stands for itself
  abbrev pub IsBase : Log D g → List Framed → Type 0
  IsBase files frames =
      (frames ≡ (newest_view files).frames)
      ⊎ (frames ≡ []) × StandsAlone (newest_view files).db (newest_view files).page_size (newest_view files).frames (newest_view files).size

  -- A commit that may write: the view that it would leave after the newest one, and what a crash leaves of the log at each moment: the
  -- frames of the one or of the other, or none where the log is begun anew.
  pub record LeavesCommit (old : Log D g) (writer : Writer) (page : List ℕ) (header : Header) (new : Log D g) : Type 0 where
    pub view : View
    pub db_is : view.db ≡ (newest_view old).db
    pub page_size_is : view.page_size ≡ (newest_view old).page_size
    pub is : IsCommittedOver old writer page header view
    pub sized : (counted : Option ℕ) (len : ℕ) → IsViewSize (map (λ (f : Framed). f.head) view.frames) counted len view.page_size view.size
    pub few : length view.frames ≤ 1000000
    pub base : List Framed
    pub base_is : IsBase old base
    pub crash : Always (g.file (log_of old)) (g.file (log_of new)) (LeavesAmong (state_of old).page_size (newest_view old).frames base view.frames)
    pub content : IsContentLeft (g.file (log_of new))

  -- What a refused commit leaves: nothing of the files has changed unless a call of theirs failed; and the writer would commit what it
  -- would have, now and at its marks. It is `Full` only where it isn't within the limits.
  pub record IsRefusedCommit (old : Log D g) (may_restart : Bool) (writer : Writer) (page : List ℕ) (header : Header) (new : Log D g) (left : Writer) (fault : Fault) : Type 0 where
    pub why : (fault ≡ Memory) ⊎ ((fault ≡ Io) ⊎ ((fault ≡ Full) × (IsWithin (base_of (state_of old) may_restart) (length (changes_of writer)) (pages_of writer) → ⊥)))
    pub files : (fault ≡ Io → ⊥) → (db_of new ≡ db_of old) × (log_of new ≡ log_of old) × (state_of new ≡ state_of old)
    pub whole : IsConsistent left
    pub size : pages_of left ≡ pages_of writer
    pub page_size : page_size_of left ≡ page_size_of writer
    pub snapshot : snapshot_of left ≡ snapshot_of writer
    pub objects : makes_objects left ≡ makes_objects writer
    pub now : now_of left ≡ now_of writer
    pub marks : marks_of left ≡ marks_of writer
    -- a page that isn't among its changes now wasn't before
    pub numbers : (number : ℕ) → IsNotAmong (changes_of left) number → IsNotAmong (changes_of writer) number
    pub others : (number : ℕ) (bytes : List ℕ) → (number ≡ 1 → ⊥) → ViewHas (view_of old left) number bytes ↔ ViewHas (view_of old writer) number bytes
    pub first : List ℕ
    pub has_first : ViewHas (view_of old left) 1 first
    pub headed : IsHeaded page first header
    -- where page 1 was of bytes, it is as it was too
    pub same : IsBytes page → (number : ℕ) (bytes : List ℕ) → ViewHas (view_of old left) number bytes ↔ ViewHas (view_of old writer) number bytes
