-- Which frames of a log count (Database File Format, "WAL File Format" and "Checkpoint Algorithm").
use Rattle.sqlval.specs.PageSizes.{IsPageSize}
use Rattle.std.specs.Prelude.{◌≡◌, ◌⊎◌, ◌<◌, ◌≤◌, ◌+◌, ◌*◌, ℕ, zero, suc, Bool, List, [], ◌∷◌, ◌++◌, length, take, drop, MatchOption, Some, Ok, IsTrue}
use Rattle.disk.specs.Calls.{Rose}
use Rattle.disk.specs.File.{File}
use Rattle.sqlval.specs.declared.fault.Fault.{Fault}
use Rattle.sqlval.specs.declared.fault.Fault.TheVariants.{Memory, Io, Unsupported}
use Rattle.sqlval.specs.declared.fault.Feature.TheVariants.{LogFormat, Limit}
use Rattle.wal_frame.specs.declared.frame.FrameHeader.{FrameHeader}
use Rattle.wal_frame.specs.declared.log_header.LogHeader.{LogHeader}
use Rattle.wal_frame.specs.declared.progress.Scan.{Scan}
use Rattle.wal_frame.specs.declared.sums.Sum.{Sum}
use Rattle.wal_frame.specs.Sums.{words, carried, zero_sum}
use Rattle.wal_frame.specs.Log.{header_front, header_in, frame_of, summed, salts_at, sum_at}

-- where frame k of a log begins; the first is frame 0
abbrev pub frame_start : LogHeader → ℕ → ℕ
frame_start h k = 32 + k * (24 + h.page_size)

-- its bytes
abbrev pub frame_at : LogHeader → List ℕ → ℕ → List ℕ
frame_at h log k = take (24 + h.page_size) (drop (frame_start h k) log)

-- what the sums of the first n frames go over: the header's 24 bytes, then the first 8 bytes and the page of each frame
abbrev pub summed_to : LogHeader → List ℕ → ℕ → List ℕ
summed_to h log zero = header_front h
summed_to h log (suc n) = summed_to h log n ++ summed (frame_at h log n)

-- the sums of this one list of words
abbrev pub sum_to : LogHeader → List ℕ → ℕ → Sum
sum_to h log n = carried zero_sum (words h.order (summed_to h log n))

-- frame k is there as a whole, has the header's salts, and its sums are those carried up to it
pub record IsFrame (h : LogHeader) (log : List ℕ) (k : ℕ) : Type 0 where
  pub whole : frame_start h (suc k) ≤ length log
  pub salts : salts_at 8 (frame_at h log k) ≡ h.salts
  pub sums : sum_at 16 (frame_at h log k) ≡ sum_to h log (suc k)

-- the first n frames are accepted, and frame n is not
pub record IsAccepted (h : LogHeader) (log : List ℕ) (n : ℕ) : Type 0 where
  pub each : (k : ℕ) → k < n → IsFrame h log k
  pub no_more : IsFrame h log n → ⊥

-- n frames are accepted: none where pages can't have the size that the header says
abbrev pub HasAccepted : LogHeader → List ℕ → ℕ → Type 0
HasAccepted h log n = (IsPageSize h.page_size × IsAccepted h log n) ⊎ ((IsPageSize h.page_size → ⊥) × (n ≡ 0))

-- what the first 8 bytes of frame k say
abbrev pub head_at : LogHeader → List ℕ → ℕ → FrameHeader
head_at h log k = frame_of (frame_at h log k)

-- what those of the first n frames say
abbrev pub heads_to : LogHeader → List ℕ → ℕ → List FrameHeader
heads_to h log zero = []
heads_to h log (suc n) = heads_to h log n ++ head_at h log n ∷ []

-- of so many accepted frames the first n are committed: the last of them ends a commit, and no frame after them does
pub record IsCommitted (h : LogHeader) (log : List ℕ) (accepted n : ℕ) : Type 0 where
  pub within : n ≤ accepted
  pub ends : (k : ℕ) → n ≡ suc k → (head_at h log k).size ≡ 0 → ⊥
  pub rest : (k : ℕ) → n ≤ k → k < accepted → (head_at h log k).size ≡ 0

-- this was read of a log with that header
pub record IsScanOf (h : LogHeader) (log : List ℕ) (scan : Scan) : Type 0 where
  pub accepted : ℕ
  pub are_accepted : HasAccepted h log accepted
  pub are_committed : IsCommitted h log accepted (length scan.frames.items)
  pub frames : scan.frames.items ≡ heads_to h log (length scan.frames.items)
  pub sum : scan.sum ≡ sum_to h log (length scan.frames.items)
  pub end : scan.end ≡ frame_start h (length scan.frames.items)

-- nothing was read, as the header isn't valid
pub record ReadsNone (scan : Scan) : Type 0 where
  pub frames : scan.frames.items ≡ []
  pub end : scan.end ≡ 0

-- this is the log's header, where it has one, and its committed frames
abbrev pub IsScan : List ℕ → Scan → Type 0
IsScan log scan = (header_in log ≡ Ok scan.header) × MatchOption scan.header (ReadsNone scan) (λ h. IsScanOf h log scan)

-- More than 1,000,000 frames are committed: one after so many others ends a commit, and it and all before it are right.
pub record HasTooMany (h : LogHeader) (log : List ℕ) : Type 0 where
  pub frame : ℕ
  pub past : 1000000 ≤ frame
  pub right : (k : ℕ) → k ≤ frame → IsFrame h log k
  pub ends : (head_at h log frame).size ≡ 0 → ⊥

-- the log has a header, and more than 1,000,000 committed frames
abbrev pub IsTooLong : List ℕ → Type 0
IsTooLong log = (h : LogHeader) × (header_in log ≡ Ok (Some h)) × HasTooMany h log

-- A refusal of a call between these two counts of failed calls of a disk. `Io` comes only where a call of the disk failed,
-- `LogFormat` only where the log is of another format, and `Limit` only where it is too long.
abbrev pub IsRefusal : Type 0 → Type 0 → Fault → ℕ → ℕ → Type 0
IsRefusal is_other is_long Memory old new = Unit {0}
IsRefusal is_other is_long Io old new = Rose old new
IsRefusal is_other is_long (Unsupported LogFormat) old new = is_other
IsRefusal is_other is_long (Unsupported Limit) old new = is_long
IsRefusal is_other is_long _ old new = ⊥

-- a call left the file of a disk as it was
pub record KeepsFile {D : Type 0} (tells : D → Bool) (file : D → File) (old new : D) : Type 0 where
  pub tells_same : tells new ≡ tells old
  pub same : IsTrue (tells old) → file new ≡ file old
