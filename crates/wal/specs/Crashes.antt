-- What a crash may leave of a log (Database File Format, "WAL File Format").
use Rattle.std.specs.Prelude.{◌≡◌, ◌⊎◌, ◌<◌, ◌≤◌, ◌++◌, ℕ, Bool, false, IsTrue, List, [], length, take, replicate, slice_get, Some, None, Ok}
use Rattle.disk.specs.File.{File, Version, IsLeft, IsSynced, IsContentLeft, Always, version_at}
use Rattle.disk.specs.Calls.{overwritten}
use Rattle.wal_frame.specs.declared.log_header.LogHeader.{LogHeader}
use Rattle.wal_frame.specs.Log.{header_in, header_bytes}
use Rattle.wal_frame.specs.Accepted.{IsFrame, sum_to}
use Rattle.wal_frame.specs.Written.{Framed, written}
use Rattle.wal.specs.Chains.{BeginsWith, Chained, IsNewestOf}
use Rattle.wal.specs.Committed.{IsAcceptedAt, HasCommits, framed_at}
use Rattle.wal.specs.Commits.{commits_of}
use Rattle.wal.specs.LogState.{LogState}
use Rattle.wal.specs.Stands.{kept_at, base_at, place_at, log_end}

-- frame k of a log is one that a version has accepted at the same place
pub record IsVersionsFrame (versions : List Version) (h : LogHeader) (k : ℕ) (c : List ℕ) : Type 0 where
  pub version : ℕ
  pub within : version < length versions
  pub accepted : IsAcceptedAt h (version_at versions version).bytes k
  pub same : framed_at h c k ≡ framed_at h (version_at versions version).bytes k

-- No frame of a log is accepted by chance: a version has accepted each at the same place.
abbrev pub HasNoChance : List Version → List ℕ → Type 0
HasNoChance versions c = (h : LogHeader) (k : ℕ) → BeginsWith h c → IsAcceptedAt h c k → IsVersionsFrame versions h k c

-- The newest version of each header has accepted the header's chain: a writer writes whole frames that are right, one after the other.
abbrev pub AcceptTheirChains : List Version → List Chained → Type 0
AcceptTheirChains versions headers = (place : ℕ) (chained : Chained) (i : ℕ) → slice_get headers place ≡ Some chained → IsNewestOf versions chained.header i
    → (k : ℕ) → k < chained.count → IsFrame chained.header (version_at versions i).bytes k

-- Each log that a crash may leave of these versions, where none of its frames is accepted by chance, has these committed frames
-- or those. (What holds of more versions, holds of fewer.)
abbrev pub LeavesEither : ℕ → List Framed → List Framed → List Version → Type 0
LeavesEither page_size these those versions = (c : List ℕ) → IsLeft versions c → HasNoChance versions c → HasCommits page_size c these ⊎ HasCommits page_size c those

-- and here these alone, whatever chance does
abbrev pub LeavesCommits : ℕ → List Framed → List Version → Type 0
LeavesCommits page_size these versions = (c : List ℕ) → IsLeft versions c → HasCommits page_size c these

-- a crash leaves one of two contents
abbrev pub LeavesOneOf : List ℕ → List ℕ → List Version → Type 0
LeavesOneOf a b versions = (c : List ℕ) → IsLeft versions c → (c ≡ a) ⊎ (c ≡ b)

-- 32 zeros, which are no header
abbrev pub zeros : List ℕ
zeros = replicate 32 0

-- a crash leaves the content, or that of a log whose header was being written: nothing, zeros, or the header
abbrev pub LeavesHeader : LogHeader → Bool → List ℕ → List Version → Type 0
LeavesHeader h is_begun content versions = (c : List ℕ) → IsLeft versions c → (c ≡ content) ⊎ ((is_begun ≡ false) × ((c ≡ zeros) ⊎ (c ≡ header_bytes h)))

-- each version is one of two contents
abbrev pub AreEither : List ℕ → List ℕ → List Version → Type 0
AreEither a b versions = (i : ℕ) → i < length versions → ((version_at versions i).bytes ≡ a) ⊎ ((version_at versions i).bytes ≡ b)

-- while frames are written after the committed ones of a log: it is cut there unless older frames alone stand after them, it gets its
-- header, and then the frames
abbrev pub LeavesWriting : LogHeader → Bool → Bool → ℕ → List ℕ → List ℕ → List Version → Type 0
LeavesWriting h is_begun is_clean end bytes content versions =
    LeavesOneOf content (take end content) versions
    ⊎ LeavesHeader h is_begun (kept_at is_clean end content) versions
    ⊎ AreEither (base_at h is_begun is_clean end content) (overwritten (place_at is_begun end) bytes (base_at h is_begun is_clean end content)) versions

-- what is on a synced file when a function ends, a crash may leave
abbrev pub LeavesContent : {D : Type 0} → (D → Bool) → (D → File) → D → D → Type 0
LeavesContent tells file old new = IsTrue (tells old) → IsSynced (file old) → IsContentLeft (file new)

-- While these frames are committed. Each version is the log as it was, cut after its committed frames, with its header, or with all
-- bytes of the frames, whatever chance does: nothing else is ever written. So a crash leaves its committed frames, or these after them.
-- What is on the log at the end, a crash may leave.
pub record WritesCommit (known : LogState) (fs : List Framed) (old new : File) : Type 0 where
  pub is_clean : Bool
  pub writing : Always old new (LeavesWriting known.header known.has_header is_clean (log_end known.header known.has_header known.frames) (written known.header (sum_to known.header old.content known.frames) fs) old.content)
  pub either : Always old new (LeavesEither known.page_size (commits_of known old.content) (commits_of known old.content ++ fs))
  pub left : IsContentLeft new

-- What the log keeps: each log that a crash may leave, where none of its frames is accepted by chance, has all commits that are on the
-- disk, perhaps with more after them; or it has none, and the database file alone has them.
abbrev pub KeepsSynced : ℕ → List Framed → Type 0 → List Version → Type 0
KeepsSynced page_size synced is_copied versions = (c : List ℕ) → IsLeft versions c → HasNoChance versions c
    → ((more : List Framed) × HasCommits page_size c (synced ++ more)) ⊎ (HasCommits page_size c [] × is_copied)

-- the log has no valid header, or one of this page size
abbrev pub IsFitting : ℕ → List ℕ → Type 0
IsFitting page_size log = (header_in log ≡ Ok None) ⊎ ((h : LogHeader) × (header_in log ≡ Ok (Some h)) × (h.page_size ≡ page_size))

-- What makes a view of each pair of files that a crash may leave: the first sector of each version of the database file has a header that
-- this says is good, each version of the log fits, and none has more than 1,000,000 committed frames.
pub record AreFit (IsHead : List ℕ → Type 0) (page_size : ℕ) (db_versions log_versions : List Version) : Type 0 where
  pub heads : (i : ℕ) → i < length db_versions → IsHead (take 512 (version_at db_versions i).bytes)
  pub logs : (i : ℕ) → i < length log_versions → IsFitting page_size (version_at log_versions i).bytes
  pub few : (i : ℕ) (frames : List Framed) → i < length log_versions → HasCommits page_size (version_at log_versions i).bytes frames → length frames ≤ 1000000
