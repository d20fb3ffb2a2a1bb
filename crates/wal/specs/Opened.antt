-- What opening the two files tells of them.
use Rattle.sqlval.specs.PageSizes.{IsPageSize}
use Rattle.std.specs.Prelude.{◌≡◌, ◌≤◌, ◌⊎◌, ℕ, Bool, List, length, Option, Ok, Err, Result, IsTrue, IsFalse}
use Rattle.disk.specs.declared.device.Disk.{Ghosts}
use Rattle.disk.specs.File.{File, Version, IsLeft, IsContentLeft, versions}
use Rattle.wal_frame.specs.declared.log_header.LogHeader.{LogHeader}
use Rattle.wal_frame.specs.declared.log_header.Salts.{Salts}
use Rattle.wal_frame.specs.declared.sums.WordOrder.TheVariants.{Big}
use Rattle.wal_frame.specs.Log.{header_in}
use Rattle.wal.specs.declared.log.Log.{Log}
use Rattle.wal.specs.declared.log.Refused.{Refused}
use Rattle.wal.specs.declared.log.Synced.{Synced}
use Rattle.wal.specs.Committed.{AreCommitted}
use Rattle.wal.specs.Sizes.{IsViewSize, IsSizeWithinLimits}
use Rattle.wal.specs.View.{heads}
use Rattle.wal.specs.LogState.{LogState, header_of, db_of, log_of}

-- the header that a log without one is to get
abbrev pub fresh_header : ℕ → Salts → LogHeader
fresh_header page_size salts = record { order = Big; page_size = page_size; sequence = 0; salts = salts }

-- files of pages of this size were opened, no larger than is supported
pub record IsOpened (page_size : ℕ) (salts : Salts) (known : LogState) : Type 0 where
  pub page_size_is : known.page_size ≡ page_size
  pub whole : IsFalse known.has_failed
  pub copied : known.copied ≡ 0
  pub served : IsSizeWithinLimits page_size known.size
  pub fresh : IsFalse known.has_header → known.header ≡ fresh_header page_size salts

-- What is known is the newest view of these contents: the log's header, its committed frames, and the size that it has.
pub record IsStateOf (counted : Option ℕ) (db log : List ℕ) (known : LogState) : Type 0 where
  pub header_is : header_in log ≡ Ok (header_of known)
  pub frames_are : AreCommitted log known.page_size (header_of known) known.frames
  pub few : known.frames ≤ 1000000
  pub size_is : IsViewSize (heads log (header_of known) known.frames) counted (length db) known.page_size known.size

-- The contents can be opened: pages of this size are supported; the log has no header, or one of this page size, with no more
-- than 1,000,000 committed frames; and the newest view has a size that is supported.
pub record CanOpen (page_size : ℕ) (counted : Option ℕ) (db log : List ℕ) : Type 0 where
  pub page_size_is : IsPageSize page_size
  pub header : Option LogHeader
  pub header_is : header_in log ≡ Ok header
  pub frames : ℕ
  pub frames_are : AreCommitted log page_size header frames
  pub few : frames ≤ 1000000
  pub size : ℕ
  pub size_is : IsViewSize (heads log header frames) counted (length db) page_size size
  pub served : IsSizeWithinLimits page_size size

-- A call left the content of a disk's file, which a crash may leave where it may have before, and the count of failed calls didn't fall.
pub record KeepsContent {D : Type 0} (tells : D → Bool) (file : D → File) (failures : D → ℕ) (old new : D) : Type 0 where
  pub tells_same : tells new ≡ tells old
  pub same : IsTrue (tells old) → (file new).content ≡ (file old).content
  pub left : IsTrue (tells old) → IsContentLeft (file old) → IsContentLeft (file new)
  pub counts : failures old ≤ failures new

-- a crash leaves of a file what it may have left before, or its content
abbrev pub LeavesOld : File → List Version → Type 0
LeavesOld old vs = (c : List ℕ) → IsLeft vs c → IsLeft (versions old) c ⊎ (c ≡ old.content)

-- A crash leaves of each file what it may have left before, or the content that was read.
abbrev pub LeavesAsBefore : File → File → List Version → List Version → Type 0
LeavesAsBefore old_db old_log db_versions log_versions =
    (db log : List ℕ) → IsLeft db_versions db → IsLeft log_versions log
    → (IsLeft (versions old_db) db ⊎ (db ≡ old_db.content)) × (IsLeft (versions old_log) log ⊎ (log ≡ old_log.content))

module _ {D : Type 0} {g : Ghosts D} where
  -- the disks that syncing gives, or gives back
  abbrev pub db_synced : Result (Synced D g) (Refused D) → D
  db_synced (Ok files) = files.db
  db_synced (Err refused) = refused.db

  abbrev pub log_synced : Result (Synced D g) (Refused D) → D
  log_synced (Ok files) = files.log
  log_synced (Err refused) = refused.log

  -- the disks that opening gives, or gives back
  abbrev pub db_in : Result (Log D g) (Refused D) → D
  db_in (Ok files) = db_of files
  db_in (Err refused) = refused.db

  abbrev pub log_in : Result (Log D g) (Refused D) → D
  log_in (Ok files) = log_of files
  log_in (Err refused) = refused.log
