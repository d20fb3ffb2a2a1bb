-- The pages that the two files stand for together (Database File Format, "Reader Algorithm").
use Rattle.std.specs.Prelude.{◌≡◌, ◌⊎◌, ◌<◌, ◌≤◌, ◌-◌, ◌*◌, ℕ, Bool, IsTrue, List, [], length, take, drop, slice_index_or, Option, Some, None, Ok}
use Rattle.sqlval.specs.declared.fault.Fault.{Fault}
use Rattle.sqlval.specs.declared.fault.Fault.TheVariants.{Io, Failed, Damaged}
use Rattle.sqlval.specs.declared.fault.Damage.TheVariants.{Size}
use Rattle.wal_frame.specs.declared.frame.FrameHeader.{FrameHeader}
use Rattle.wal_frame.specs.declared.log_header.LogHeader.{LogHeader}
use Rattle.wal_frame.specs.Log.{header_in}
use Rattle.wal_frame.specs.Accepted.{frame_at, head_at, heads_to}
use Rattle.wal_frame.specs.Written.{Framed}
use Rattle.wal.specs.Committed.{AreCommitted}
use Rattle.wal.specs.Sizes.{IsViewSize, IsSizeWithinLimits}

-- frame k is the last one of the page among the first n, the first being frame 0
pub record IsNewest (h : LogHeader) (log : List ℕ) (n number k : ℕ) : Type 0 where
  pub within : k < n
  pub page : (head_at h log k).page ≡ number
  pub last : (j : ℕ) → k < j → j < n → (head_at h log j).page ≡ number → ⊥

-- none of the first n frames is of the page
abbrev pub HasNoFrame : LogHeader → List ℕ → ℕ → ℕ → Type 0
HasNoFrame h log n number = (k : ℕ) → k < n → (head_at h log k).page ≡ number → ⊥

-- the page is in the database file as a whole, and has these bytes there
pub record IsInFile (db : List ℕ) (page_size number : ℕ) (bytes : List ℕ) : Type 0 where
  pub whole : number * page_size ≤ length db
  pub bytes_are : bytes ≡ take page_size (drop ((number - 1) * page_size) db)

-- A page comes from its newest frame among the first n, else from the database file.
abbrev pub IsPage : List ℕ → List ℕ → ℕ → Option LogHeader → ℕ → ℕ → List ℕ → Type 0
IsPage db log page_size None n number bytes = IsInFile db page_size number bytes
IsPage db log page_size (Some h) n number bytes =
    ((k : ℕ) × IsNewest h log n number k × (bytes ≡ drop 24 (frame_at h log k))) ⊎ (HasNoFrame h log n number × IsInFile db page_size number bytes)

abbrev pub blank_frame : Framed
blank_frame = record { head = record { page = 0; size = 0 }; page = [] }

-- the last frame of the page among these
pub record IsNewestIn (frames : List Framed) (number k : ℕ) : Type 0 where
  pub within : k < length frames
  pub page : (slice_index_or frames k blank_frame).head.page ≡ number
  pub last : (j : ℕ) → k < j → j < length frames → (slice_index_or frames j blank_frame).head.page ≡ number → ⊥

-- A page comes from the newest of these frames that is of it, else from the database file: what readers see depends on the committed
-- frames, and on nothing else of the log.
abbrev pub IsPageIn : List ℕ → ℕ → List Framed → ℕ → List ℕ → Type 0
IsPageIn db page_size frames number bytes =
    ((k : ℕ) × IsNewestIn frames number k × (bytes ≡ (slice_index_or frames k blank_frame).page))
    ⊎ (((k : ℕ) → k < length frames → (slice_index_or frames k blank_frame).head.page ≡ number → ⊥) × IsInFile db page_size number bytes)

-- what the first n frames say
abbrev pub heads : List ℕ → Option LogHeader → ℕ → List FrameHeader
heads log None n = []
heads log (Some h) n = heads_to h log n

-- The pages, page 1 first, that the files stand for where the first n frames of the log count and the database file's
-- header tells this page size and, where its count holds, this number of pages.
pub record IsViewTo (page_size : ℕ) (counted : Option ℕ) (db log : List ℕ) (header : Option LogHeader) (n : ℕ) (pages : List (List ℕ)) : Type 0 where
  pub size : IsViewSize (heads log header n) counted (length db) page_size (length pages)
  pub each : (number : ℕ) → 1 ≤ number → number ≤ length pages → IsPage db log page_size header n number (slice_index_or pages (number - 1) [])

-- The newest view: that up to the last commit of the log.
pub record IsFilesView (page_size : ℕ) (counted : Option ℕ) (db log : List ℕ) (pages : List (List ℕ)) : Type 0 where
  pub header : Option LogHeader
  pub frames : ℕ
  pub header_is : header_in log ≡ Ok header
  pub frames_are : AreCommitted log page_size header frames
  pub view : IsViewTo page_size counted db log header frames pages

-- and it is no larger than is supported
abbrev pub AreWithinLimits : ℕ → List (List ℕ) → Type 0
AreWithinLimits page_size pages = IsSizeWithinLimits page_size (length pages)

-- A page is there for a reader who has room for so many bytes: the snapshot's size reaches to it, and one of the two files has it.
pub record IsThere (db log : List ℕ) (page_size : ℕ) (header : Option LogHeader) (n size number room : ℕ) : Type 0 where
  pub first : 1 ≤ number
  pub last : number ≤ size
  pub whole : room ≡ page_size
  pub bytes : List ℕ
  pub is : IsPage db log page_size header n number bytes

-- Why a page can't be read: a call of a disk failed, now or before, or the page isn't there.
abbrev pub IsPageRefusal : Bool → ℕ → Type 0 → Fault → Type 0
IsPageRefusal has_failed number There e = (e ≡ Io) ⊎ (e ≡ Failed) × IsTrue has_failed ⊎ (e ≡ Damaged Size number) × (There → ⊥)
