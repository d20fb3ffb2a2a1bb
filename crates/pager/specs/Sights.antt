-- What stands below the pages of a snapshot and of a transaction, and which they are.
use Rattle.std.specs.Prelude.{◌&&◌, ◌==◌, ℕ, Bool, true, false, not, List, [], map, nat_le, slice_index_or, Option, Some, None, if◌then◌else◌}
use Rattle.disk.specs.File.{File}
use Rattle.disk.specs.declared.device.Disk.{Ghosts}
use Rattle.wal.specs.declared.log.Log.{Log}
use Rattle.wal.specs.declared.log.Snapshot.{Snapshot}
use Rattle.wal.specs.Committed.{frames_under}
use Rattle.wal.specs.LogState.{LogState, db_of, log_of, state_of, header_of, seen_by, size_of}
use Rattle.pages.specs.Map.{PageMap}
use Rattle.wal.specs.declared.pages.PageImage.{PageImage}
use Rattle.pager.specs.declared.writer.Writer.{Writer}
use Rattle.pager.specs.Limits.{page_size_of}
use Rattle.pager.specs.Maps.{pages_in}
use Rattle.pager.specs.Marks.{Changes, marks_of}
use Rattle.pager.specs.Sound.{is_sound}
use Rattle.pager.specs.Views.{View}
use Rattle.pager.specs.Writers.{makes_objects, seen, snapshot_of}

-- the bytes of a file, and none where its disk doesn't tell them
abbrev pub told_bytes : Option File → List ℕ
told_bytes None = []
told_bytes (Some file) = file.content

abbrev pub is_told : Option File → Bool
is_told None = false
is_told (Some file) = true

-- What a reader of a snapshot leaves as it is: what is known of the two files, the files themselves where their disks tell them, the
-- snapshot, and which log and which buffer were lent.
pub record UnderReader : Type 0 where
  pub known : LogState
  pub db : Option File
  pub log : Option File
  pub snapshot : Snapshot
  pub log_name : ℕ
  pub buffer_name : ℕ

-- both files are told, no call has failed that left the log unknown, and the log reaches as far as the snapshot
abbrev pub tells_reader : UnderReader → Bool
tells_reader under = is_told under.db && (is_told under.log && (not under.known.has_failed && nat_le (seen_by under.snapshot) under.known.frames))

-- what the snapshot shows, as far as it is told
abbrev pub view_under : UnderReader → View
view_under under = record {
  db = told_bytes under.db;
  frames = frames_under (header_of under.known) (told_bytes under.log) (seen_by under.snapshot);
  page_size = under.known.page_size;
  size = size_of under.snapshot;
}

-- the file of a disk that tells it
abbrev pub told_file : {D : Type 0} → (D → Bool) → (D → File) → D → Option File
told_file tells file disk = if tells disk then Some (file disk) else None

module _ {D : Type 0} {g : Ghosts D} where
  -- what stands below a reader of this snapshot, over this log and this buffer
  abbrev pub under_reader : Log D g → Snapshot → ℕ → ℕ → UnderReader
  under_reader files snapshot log_name buffer_name = record {
    known = state_of files;
    db = told_file g.tells g.file (db_of files);
    log = told_file g.tells g.file (log_of files);
    snapshot = snapshot;
    log_name = log_name;
    buffer_name = buffer_name;
  }

  -- how many calls of the two disks have failed
  abbrev pub failures_of : Log D g → ℕ × ℕ
  failures_of files = (g.failures (db_of files), g.failures (log_of files))

-- ---- a writer

-- What calls of a writer's pages leave as it is: whether it is sound, its page size, whether a new object is among what it changes,
-- what it would have committed at its marks, which writer was lent, and what stands below a reader of its snapshot.
pub record UnderWriter : Type 0 where
  pub is_sound : Bool
  pub page_size : ℕ
  pub makes_objects : Bool
  pub marks : List Changes
  pub writer_name : ℕ
  pub reader : UnderReader

-- the writer is sound, over a snapshot that is told, of pages of its size
abbrev pub tells_writer : UnderWriter → Bool
tells_writer under = under.is_sound && (under.page_size == under.reader.known.page_size && tells_reader under.reader)

-- the pages that it sees
abbrev pub map_over : UnderReader → Writer → PageMap
map_over under writer = pages_in (seen (view_under under) writer)

-- the bytes of pages
abbrev pub bytes_of : List PageImage → List (List ℕ)
bytes_of pages = map (λ (p : PageImage). p.bytes.items) pages

-- the page at a place among the changed ones, or else what the buffer has
abbrev pub page_held : Option ℕ → List PageImage → List ℕ → List ℕ
page_held None pages buffer = buffer
page_held (Some index) pages buffer = slice_index_or (bytes_of pages) index []

module _ {D : Type 0} {g : Ghosts D} where
  -- what stands below this writer's pages, over this log and this buffer
  abbrev pub under_writer : Log D g → Writer → ℕ → ℕ → ℕ → UnderWriter
  under_writer files writer log_name writer_name buffer_name = record {
    is_sound = is_sound writer;
    page_size = page_size_of writer;
    makes_objects = makes_objects writer;
    marks = marks_of writer;
    writer_name = writer_name;
    reader = under_reader files (snapshot_of writer) log_name buffer_name;
  }
