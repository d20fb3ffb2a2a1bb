-- What becomes of headers and frames that are written (Database File Format, "WAL File Format").
use Rattle.sqlval.specs.PageSizes.{IsPageSize}
use Rattle.std.specs.Prelude.{◌≡◌, ◌<◌, ◌≤◌, ◌+◌, ℕ, List, ◌++◌, map, length, Some, Ok}
use Rattle.wal_frame.specs.declared.log_header.LogHeader.{LogHeader}
use Rattle.wal_frame.specs.Log.{header_in, header_bytes}
use Rattle.wal_frame.specs.Accepted.{IsFrame, HasAccepted, frame_start, frame_at, sum_to, heads_to}
use Rattle.wal_frame.specs.Written.{Framed, written, sum_after, SaltsFit, HeaderFits, AllFit}

-- frames that were written after n others: all of them are accepted
pub record AreWritten (h : LogHeader) (log front : List ℕ) (n : ℕ) (fs : List Framed) : Type 0 where
  pub each : (k : ℕ) → k < n + length fs → IsFrame h log k
  pub heads : heads_to h log (n + length fs) ≡ heads_to h front n ++ map (λ (f : Framed). f.head) fs
  pub sum_is : sum_to h log (n + length fs) ≡ sum_after h (sum_to h front n) fs

-- a header that was written is read, whatever follows it
abbrev pub ReadsWrittenHeaders : Type 0
ReadsWrittenHeaders = (h : LogHeader) (rest : List ℕ) → HeaderFits h → header_in (header_bytes h ++ rest) ≡ Ok (Some h)

-- Frames that were written after n accepted ones are accepted with them, whatever follows.
abbrev pub AcceptsWrittenFrames : Type 0
AcceptsWrittenFrames = (h : LogHeader) (front : List ℕ) (n : ℕ) (fs : List Framed) (rest : List ℕ)
    → IsPageSize h.page_size → SaltsFit h.salts → AllFit h fs → length front ≡ frame_start h n → ((k : ℕ) → k < n → IsFrame h front k)
    → AreWritten h (front ++ (written h (sum_to h front n) fs ++ rest)) front n fs

-- the m frames of one log begin with the n of another
pub record BeginsWithFrames (h : LogHeader) (old new : List ℕ) (n m : ℕ) : Type 0 where
  pub enough : n ≤ m
  pub same : (k : ℕ) → k < n → frame_at h new k ≡ frame_at h old k

-- Where a log goes on, its accepted frames begin with those that it had.
abbrev pub KeepsAcceptedFrames : Type 0
KeepsAcceptedFrames = (h : LogHeader) (log more : List ℕ) (n m : ℕ) → HasAccepted h log n → HasAccepted h (log ++ more) m → BeginsWithFrames h log (log ++ more) n m
