-- What a log says of its two files.
use Rattle.std.specs.Prelude.{ℕ, Bool, Option}
use Rattle.disk.specs.declared.device.Disk.{Ghosts}
use Rattle.wal_frame.specs.declared.log_header.LogHeader.{LogHeader}
use Rattle.wal.specs.declared.log.Log.{Log}
use Rattle.wal.specs.declared.log.Snapshot.{Snapshot}
use Rattle.wal.specs.declared.state.State.{State}
use Rattle.wal.specs.Stands.{header_where}

-- The size of a page in bytes; the log's header, or the one that it is to get; whether the log has it; how many frames are
-- committed, and how many of them were copied into the database file since it was opened; the size of the newest commit in pages; and
-- whether a call failed that left the files unknown.
pub record LogState : Type 0 where
  pub page_size : ℕ
  pub header : LogHeader
  pub has_header : Bool
  pub frames : ℕ
  pub copied : ℕ
  pub size : ℕ
  pub has_failed : Bool

-- the log's header, where it has one
abbrev pub header_of : LogState → Option LogHeader
header_of known = header_where known.has_header known.header

-- what is known of the two files
abbrev pub state_in : State → LogState
state_in state = record {
  page_size = state.page_size;
  header = state.header;
  has_header = state.is_begun;
  frames = state.mark;
  copied = state.copied;
  size = state.size;
  has_failed = state.is_failed;
}

-- up to which frame a snapshot sees
abbrev pub seen_by : Snapshot → ℕ
seen_by snapshot = snapshot.mark

-- its size, in pages
abbrev pub size_of : Snapshot → ℕ
size_of snapshot = snapshot.size

module _ {D : Type 0} {g : Ghosts D} where
  -- the disk of the database file, and that of the log
  abbrev pub db_of : Log D g → D
  db_of files = files.db

  abbrev pub log_of : Log D g → D
  log_of files = files.log

  abbrev pub state_of : Log D g → LogState
  state_of files = state_in files.state
