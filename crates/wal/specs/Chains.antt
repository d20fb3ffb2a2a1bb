-- Which frames the log of a header is meant to have, and that a crash leaves no others (Database File Format, "WAL File
-- Format" and "Checkpoint Algorithm").
use Rattle.std.specs.Prelude.{◌≡◌, ◌<◌, ℕ, List, length, slice_get, Some, Ok}
use Rattle.disk.specs.File.{File, Version, IsLeft, versions, version_at}
use Rattle.wal_frame.specs.declared.log_header.LogHeader.{LogHeader}
use Rattle.wal_frame.specs.Log.{header_in}
use Rattle.wal_frame.specs.Written.{Framed}
use Rattle.wal.specs.Committed.{IsAcceptedAt, framed_at, framed_to}

-- a header, and how many frames there are under it
pub record Chained : Type 0 where
  pub header : LogHeader
  pub count : ℕ

-- this content begins with this valid header
abbrev pub BeginsWith : LogHeader → List ℕ → Type 0
BeginsWith h content = header_in content ≡ Ok (Some h)

-- the newest version that begins with the header
pub record IsNewestOf (versions : List Version) (h : LogHeader) (i : ℕ) : Type 0 where
  pub within : i < length versions
  pub has : BeginsWith h (version_at versions i).bytes
  pub newest : (j : ℕ) → i < j → j < length versions → BeginsWith h (version_at versions j).bytes → ⊥

-- The chain of a header: that many first frames of the newest version that begins with it.
pub record IsChainOf (versions : List Version) (chained : Chained) (chain : List Framed) : Type 0 where
  pub version : ℕ
  pub is : IsNewestOf versions chained.header version
  pub frames : chain ≡ framed_to chained.header (version_at versions version).bytes chained.count

-- an accepted frame is the one at its place in the chain of one of these headers
pub record IsChained (versions : List Version) (headers : List Chained) (h : LogHeader) (k : ℕ) (frame : Framed) : Type 0 where
  pub place : ℕ
  pub count : ℕ
  pub chain : List Framed
  pub known : slice_get headers place ≡ Some (record { header = h; count = count })
  pub is : IsChainOf versions (record { header = h; count = count }) chain
  pub same : slice_get chain k ≡ Some frame

-- No chance match: in each log that a crash may leave of these versions, each accepted frame is the one at its place in its
-- header's chain.
abbrev pub NoChanceMatchIn : List Version → List Chained → Type 0
NoChanceMatchIn versions headers =
    (log : List ℕ) (h : LogHeader) (k : ℕ) → IsLeft versions log → BeginsWith h log → IsAcceptedAt h log k
    → IsChained versions headers h k (framed_at h log k)

-- and of a file as it is now
abbrev pub NoChanceMatch : File → List Chained → Type 0
NoChanceMatch log headers = NoChanceMatchIn (versions log) headers
