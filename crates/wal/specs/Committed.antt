-- Which frames of a log are committed (Database File Format, "WAL File Format" and "Checkpoint Algorithm").
use Rattle.std.specs.Prelude.{◌≡◌, ◌<◌, ◌≤◌, ℕ, zero, suc, List, [], ◌∷◌, ◌++◌, length, drop, Option, Some, None, Ok}
use Rattle.wal_frame.specs.declared.log_header.LogHeader.{LogHeader}
use Rattle.wal_frame.specs.Log.{header_in}
use Rattle.wal_frame.specs.Accepted.{IsFrame, frame_at, head_at}
use Rattle.wal_frame.specs.Written.{Framed}

-- frame k is accepted: it and all frames before it are right
abbrev pub IsAcceptedAt : LogHeader → List ℕ → ℕ → Type 0
IsAcceptedAt h log k = (j : ℕ) → j ≤ k → IsFrame h log j

-- The first n frames of a log are committed: they are accepted, the last of them ends a commit, and no later accepted frame does.
pub record HasCommitted (h : LogHeader) (log : List ℕ) (n : ℕ) : Type 0 where
  pub each : (k : ℕ) → k < n → IsFrame h log k
  pub ends : (k : ℕ) → n ≡ suc k → (head_at h log k).size ≡ 0 → ⊥
  pub rest : (k : ℕ) → n ≤ k → IsAcceptedAt h log k → (head_at h log k).size ≡ 0

-- So many frames of a log are committed: none where it has no header, else under a header of this page size.
abbrev pub AreCommitted : List ℕ → ℕ → Option LogHeader → ℕ → Type 0
AreCommitted log page_size None n = n ≡ 0
AreCommitted log page_size (Some h) n = (h.page_size ≡ page_size) × HasCommitted h log n

-- frame k of a log: its page's number, the size of the database, and the page
abbrev pub framed_at : LogHeader → List ℕ → ℕ → Framed
framed_at h log k = record { head = head_at h log k; page = drop 24 (frame_at h log k) }

-- the first n frames
abbrev pub framed_to : LogHeader → List ℕ → ℕ → List Framed
framed_to h log zero = []
framed_to h log (suc n) = framed_to h log n ++ framed_at h log n ∷ []

-- the first n frames of a log that may have no header, and then has none
abbrev pub frames_under : Option LogHeader → List ℕ → ℕ → List Framed
frames_under None log n = []
frames_under (Some h) log n = framed_to h log n

-- These are the committed frames of a log.
pub record HasCommits (page_size : ℕ) (log : List ℕ) (frames : List Framed) : Type 0 where
  pub header : Option LogHeader
  pub header_is : header_in log ≡ Ok header
  pub committed : AreCommitted log page_size header (length frames)
  pub frames_are : frames ≡ frames_under header log (length frames)
