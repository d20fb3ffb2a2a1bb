-- What opening makes of what was read of a log.
use Rattle.std.specs.Prelude.{◌≡◌, ◌≤◌, ◌+◌, ◌*◌, ℕ, List, [], ◌∷◌, length, slice_index_or, Option, Some, None, MatchOption}
use Rattle.wal_frame.specs.declared.frame.FrameHeader.{FrameHeader}
use Rattle.wal_frame.specs.declared.log_header.LogHeader.{LogHeader}
use Rattle.wal_frame.specs.declared.progress.Scan.{Scan}
use Rattle.wal_frame.specs.declared.sums.Sum.{Sum}
use Rattle.wal_frame.specs.Log.{header_sum}

-- there is no header, or one of this page size
abbrev pub IsOfSize : Option LogHeader → ℕ → Type 0
IsOfSize header page_size = MatchOption header (Unit {0}) (λ h. h.page_size ≡ page_size)

-- the header is the log's, where it has one
abbrev pub IsHeaderOf : Scan → LogHeader → Type 0
IsHeaderOf scanned header = MatchOption scanned.header (Unit {0}) (λ found. header ≡ found)

-- the sums are those that were read, or those of the header that the log is to get
abbrev pub IsSumOf : Scan → LogHeader → Sum → Type 0
IsSumOf scanned header sum = MatchOption scanned.header (sum ≡ header_sum header) (λ found. sum ≡ scanned.sum)

-- The size of the newest view, in pages: that of the last commit, else what the header counts, else that of the database file, which has whole pages.
abbrev pub IsViewSize : List FrameHeader → Option ℕ → ℕ → ℕ → ℕ → Type 0
IsViewSize [] (Some counted) db_len page_size size = size ≡ counted
IsViewSize [] None db_len page_size size = size * page_size ≡ db_len
IsViewSize (f ∷ fs) counted db_len page_size size = size ≡ (slice_index_or (f ∷ fs) (length fs) f).size

-- a size that is supported: at most 65,536 pages and 1,073,741,824 bytes
pub record IsSizeWithinLimits (page_size size : ℕ) : Type 0 where
  pub few : size ≤ 65536
  pub small : size * page_size ≤ 1073741824

-- So many frames more, after these, and pages of this size, so many of them, are within the limits.
pub record IsWithinLimits (frames page_size count size : ℕ) : Type 0 where
  pub few : frames + count ≤ 1000000
  pub served : IsSizeWithinLimits page_size size
