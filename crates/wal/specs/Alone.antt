-- A database file that stands for itself, and the pages of it that were copied (Write-Ahead Logging, "Checkpointing").
use Rattle.std.specs.Prelude.{◌≡◌, ◌<◌, ◌≤◌, ◌*◌, ℕ, Bool, List, length, slice_index_or}
use Rattle.wal_frame.specs.declared.log_header.LogHeader.{LogHeader}
use Rattle.wal_frame.specs.Written.{Framed}
use Rattle.wal.specs.declared.state.State.{State}
use Rattle.wal.specs.Committed.{frames_under}
use Rattle.wal.specs.Stands.{header_where}
use Rattle.wal.specs.View.{IsInFile, IsNewestIn, IsPageIn, blank_frame}

-- Each page up to a size that the file shows under these frames stands in the file itself, which has so many pages and no more.
pub record StandsAlone (db : List ℕ) (page_size : ℕ) (frames : List Framed) (size : ℕ) : Type 0 where
  pub long : length db ≡ size * page_size
  pub pages : (number : ℕ) (bytes : List ℕ) → 1 ≤ number → number ≤ size → IsPageIn db page_size frames number bytes → IsInFile db page_size number bytes

-- where all frames of a log are copied, so many, the database file stands for itself
abbrev pub StandsWhereCopied : LogHeader → Bool → ℕ → ℕ → ℕ → ℕ → List ℕ → List ℕ → Type 0
StandsWhereCopied h is_begun mark copied page_size size db log = 0 < mark → copied ≡ mark → StandsAlone db page_size (frames_under (header_where is_begun h) log mark) size

-- the file has a page as the newest of these frames shows it
abbrev pub HasNewest : List ℕ → ℕ → List Framed → ℕ → Type 0
HasNewest db page_size frames number = (k : ℕ) → IsNewestIn frames number k → IsInFile db page_size number (slice_index_or frames k blank_frame).page

-- so it has a page of the size that was copied, as the newest of the copied frames shows it
abbrev pub HasCopiedPage : State → ℕ → List ℕ → List ℕ → Type 0
HasCopiedPage state number db log = number ≤ state.copied_pages → HasNewest db state.page_size (frames_under (header_where state.is_begun state.header) log state.copied) number

-- and each page up to another size
abbrev pub HasCopiedPages : State → ℕ → List ℕ → List ℕ → Type 0
HasCopiedPages state size db log = (number : ℕ) → 1 ≤ number → number ≤ size → HasCopiedPage state number db log
