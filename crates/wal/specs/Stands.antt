-- What a log on a disk stands for.
use Rattle.std.specs.Prelude.{◌≡◌, ◌<◌, ◌≤◌, ◌+◌, ◌-◌, ℕ, Bool, true, false, List, length, take, Option, Some, None, Ok, if◌then◌else◌}
use Rattle.wal_frame.specs.declared.log_header.LogHeader.{LogHeader}
use Rattle.wal_frame.specs.declared.sums.Sum.{Sum}
use Rattle.wal_frame.specs.Log.{header_in, header_bytes}
use Rattle.wal_frame.specs.Accepted.{frame_start, head_at, sum_to}
use Rattle.wal.specs.Committed.{HasCommitted}
use Rattle.wal_index.specs.declared.index.Index.{Index}
use Rattle.wal_index.specs.Index.{IsPageNumber}
use Rattle.wal.specs.Indexed.{EachFrame, Misses}

-- a frame is one of the log's, of that page
abbrev pub IsOfPage : LogHeader → List ℕ → ℕ → ℕ → Type 0
IsOfPage h log p f = (head_at h log (f - 1)).page ≡ p

-- the index misses none of the first frames, so many, of a page that has a number
abbrev pub MissesNone : LogHeader → List ℕ → ℕ → Index → Type 0
MissesNone h log mark index = (k : ℕ) → k < mark → IsPageNumber (head_at h log k).page → Misses index (head_at h log k).page (k + 1) → ⊥

-- the header that a log has, where it has one
abbrev pub header_where : Bool → LogHeader → Option LogHeader
header_where is_begun h = if is_begun then Some h else None

-- where the committed frames of a log end
abbrev pub log_end : LogHeader → Bool → ℕ → ℕ
log_end h is_begun mark = if is_begun then frame_start h mark else 0

-- the log has so many committed frames under this header, those of the index and no others, and these are the sums carried over them
pub record LogStands (h : LogHeader) (is_begun : Bool) (mark : ℕ) (sum : Sum) (index : Index) (log : List ℕ) : Type 0 where
  pub header_is : header_in log ≡ Ok (header_where is_begun h)
  pub inside : is_begun ≡ true → frame_start h mark ≤ length log
  pub none : is_begun ≡ false → mark ≡ 0
  pub committed : is_begun ≡ true → HasCommitted h log mark
  pub sum_is : sum ≡ sum_to h log mark
  pub pages : EachFrame (IsOfPage h log) index
  pub all : MissesNone h log mark index

-- the front of a log, as far as it is to stay; or the header, where it has none
abbrev pub front_at : LogHeader → Bool → ℕ → List ℕ → List ℕ
front_at h is_begun end log = if is_begun then take end log else header_bytes h

-- What stays of a log when frames are written after its committed ones: all of it, where no more stands there than older frames, else
-- the committed ones alone.
abbrev pub kept_at : Bool → ℕ → List ℕ → List ℕ
kept_at is_clean end log = if is_clean then log else take end log

-- the log that the frames are written into: what stays, or the header, where it had none
abbrev pub base_at : LogHeader → Bool → Bool → ℕ → List ℕ → List ℕ
base_at h is_begun is_clean end log = if is_begun then kept_at is_clean end log else header_bytes h

-- where they are written
abbrev pub place_at : Bool → ℕ → ℕ
place_at is_begun end = if is_begun then end else 32

-- the committed part of a log, or the header that it is to get
abbrev pub log_front : LogHeader → Bool → ℕ → List ℕ → List ℕ
log_front h is_begun mark log = front_at h is_begun (log_end h is_begun mark) log
