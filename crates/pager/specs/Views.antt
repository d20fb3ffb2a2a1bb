-- What readers and writers see of the two files: pages by their numbers (Database File Format, "Reader Algorithm").
use Rattle.std.specs.Prelude.{◌≤◌, ℕ, List, ◌++◌, IsTrue, IsFalse}
use Rattle.disk.specs.declared.device.Disk.{Ghosts}
use Rattle.wal_frame.specs.Written.{Framed}
use Rattle.wal.specs.declared.log.Log.{Log}
use Rattle.wal.specs.declared.log.Snapshot.{Snapshot}
use Rattle.wal.specs.declared.pages.PageImage.{PageImage}
use Rattle.wal.specs.Committed.{frames_under}
use Rattle.wal.specs.LogState.{db_of, log_of, state_of, header_of, seen_by, size_of}
use Rattle.wal.specs.Pages.{framed}
use Rattle.wal.specs.View.{IsPageIn}
use Rattle.pager.specs.declared.writer.Writer.{Writer}

-- What is seen of a database file and its log: the file's bytes under these frames, in pages of a size in bytes, so many of them.
pub record View : Type 0 where
  pub db : List ℕ
  pub frames : List Framed
  pub page_size : ℕ
  pub size : ℕ

-- the page of this number has these bytes
abbrev pub ViewHas : View → ℕ → List ℕ → Type 0
ViewHas view number bytes = IsPageIn view.db view.page_size view.frames number bytes

-- the view where these pages are committed after it, in a database of so many
abbrev pub after : View → List PageImage → ℕ → View
after view pages size = record view { frames = view.frames ++ framed pages size; size = size }

-- a page of the view, which its readers can get
pub record IsViewPage (view : View) (number : ℕ) (bytes : List ℕ) : Type 0 where
  pub first : 1 ≤ number
  pub last : number ≤ view.size
  pub has : ViewHas view number bytes

-- the pages that a writer has changed, and how many the database has then
abbrev pub changes_of : Writer → List PageImage
changes_of writer = writer.pages.items

module _ {D : Type 0} {g : Ghosts D} where
  -- what a snapshot shows
  abbrev pub view_at : Log D g → Snapshot → View
  view_at files snapshot = record {
    db = (g.file (db_of files)).content;
    frames = frames_under (header_of (state_of files)) (g.file (log_of files)).content (seen_by snapshot);
    page_size = (state_of files).page_size;
    size = size_of snapshot;
  }

  -- what the newest commit left
  abbrev pub newest_view : Log D g → View
  newest_view files = record {
    db = (g.file (db_of files)).content;
    frames = frames_under (header_of (state_of files)) (g.file (log_of files)).content (state_of files).frames;
    page_size = (state_of files).page_size;
    size = (state_of files).size;
  }

  -- what a writer's transaction sees: its snapshot, and what it has changed
  abbrev pub view_of : Log D g → Writer → View
  view_of files writer = after (view_at files writer.snapshot) (changes_of writer) writer.size

  -- both disks tell what their files hold, and no call has failed that left the log unknown
  pub record Tells (files : Log D g) : Type 0 where
    pub db : IsTrue (g.tells (db_of files))
    pub log : IsTrue (g.tells (log_of files))
    pub whole : IsFalse (state_of files).has_failed
