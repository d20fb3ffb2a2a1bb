-- Frames that are copied into the database file (Write-Ahead Logging, "Checkpointing"; Database File Format, "Checkpoint Algorithm").
use Rattle.std.specs.Prelude.{◌≡◌, ◌⊎◌, ◌≤◌, ◌*◌, ◌==◌, ◌&&◌, ℕ, Bool, IsTrue, IsFalse, List, length, take, nat_lt, nat_le, Result, MatchResult, if◌then◌else◌}
use Rattle.disk.specs.File.{File, Version, IsLeft, IsSynced, IsContentLeft, Always}
use Rattle.sqlval.specs.declared.fault.Fault.{Fault}
use Rattle.sqlval.specs.declared.fault.Fault.TheVariants.{Memory, Io, Failed, Damaged}
use Rattle.sqlval.specs.declared.fault.Damage.TheVariants.{Size}
use Rattle.wal_frame.specs.Written.{Framed}
use Rattle.wal.specs.declared.log.Snapshot.{Snapshot}
use Rattle.wal.specs.Committed.{frames_under}
use Rattle.wal.specs.Commits.{after_refusal, commits_of}
use Rattle.wal.specs.LogState.{LogState, header_of, seen_by, size_of}
use Rattle.wal.specs.View.{IsInFile, IsPageIn}

-- whether a snapshot sees frames that aren't copied yet, and no more than there are
abbrev pub sees_uncopied : LogState → Snapshot → Bool
sees_uncopied known target = nat_lt known.copied (seen_by target) && nat_le (seen_by target) known.frames

-- how many pages are copied for a snapshot: those that it sees, or those of the newest commit where it sees all frames
abbrev pub copied_size : LogState → Snapshot → ℕ
copied_size known target = if seen_by target == known.frames then known.size else size_of target

-- the frames that a snapshot sees
abbrev pub frames_seen : LogState → Snapshot → List ℕ → List Framed
frames_seen known target log = frames_under (header_of known) log (seen_by target)

-- what is known after its frames were copied
abbrev pub after_copying : LogState → Snapshot → LogState
after_copying known target = if sees_uncopied known target then record known { copied = seen_by target } else known

abbrev pub IsStateCopied : Result (Unit {0}) Fault → Snapshot → LogState → LogState → Type 0
IsStateCopied result target old new = MatchResult result (λ _. new ≡ after_copying old target) (λ e. new ≡ after_refusal old e)

-- The database file has each page as the snapshot sees it. Who sees at least these frames sees what he saw: where all frames are copied, each
-- page of the newest commit, and no other page is left in the file.
pub record HasCopied (known : LogState) (target : Snapshot) (log old new : List ℕ) : Type 0 where
  pub stands : (number : ℕ) (bytes : List ℕ) → 1 ≤ number → number ≤ copied_size known target → IsPageIn old known.page_size (frames_seen known target log) number bytes → IsInFile new known.page_size number bytes
  pub stays : (n number : ℕ) (bytes : List ℕ) → seen_by target ≤ n → 1 ≤ number → (seen_by target ≡ known.frames → number ≤ known.size)
      → IsPageIn old known.page_size (frames_under (header_of known) log n) number bytes → IsPageIn new known.page_size (frames_under (header_of known) log n) number bytes
  pub long : seen_by target ≡ known.frames → length new ≡ known.size * known.page_size

-- where the snapshot sees frames that weren't copied yet, these are copied and synced; else the database file is as it was
pub record Copies (known : LogState) (target : Snapshot) (log : List ℕ) (old new : File) : Type 0 where
  pub copied : IsTrue (sees_uncopied known target) → HasCopied known target log old.content new.content
  pub synced : IsTrue (sees_uncopied known target) → IsSynced new
  pub same : IsFalse (sees_uncopied known target) → new ≡ old

-- A database file shows under the committed frames what it showed, and begins as it began, or as page 1 begins as the snapshot sees it.
pub record ShowsStill (known : LogState) (target : Snapshot) (log old new : List ℕ) : Type 0 where
  pub pages : (number : ℕ) (bytes : List ℕ) → 1 ≤ number → number ≤ known.size → IsPageIn old known.page_size (commits_of known log) number bytes → IsPageIn new known.page_size (commits_of known log) number bytes
  pub front : 100 ≤ length old → 1 ≤ known.size → (take 100 new ≡ take 100 old) ⊎ ((page : List ℕ) × IsPageIn old known.page_size (frames_seen known target log) 1 page × (take 100 new ≡ take 100 page))

-- and each that a crash may leave does
abbrev pub LeavesShown : LogState → Snapshot → List ℕ → List ℕ → List Version → Type 0
LeavesShown known target log old versions = (c : List ℕ) → IsLeft versions c → ShowsStill known target log old c

-- while frames are copied into a database file; what is on it at the end, a crash may leave
pub record CopiesMeanwhile (known : LogState) (target : Snapshot) (log : List ℕ) (old new : File) : Type 0 where
  pub shown : Always old new (LeavesShown known target log old.content)
  pub left : IsContentLeft new

-- a page that the snapshot sees is in neither file
pub record IsMissing (known : LogState) (target : Snapshot) (db log : List ℕ) (number : ℕ) : Type 0 where
  pub first : 1 ≤ number
  pub last : number ≤ copied_size known target
  pub none : (bytes : List ℕ) → IsPageIn db known.page_size (frames_seen known target log) number bytes → ⊥

-- A copying that was refused: but for `Io` both disks are as they were; `Failed` comes only where a call had failed before, and `Damaged` only
-- where a page is missing.
abbrev pub IsCopyRefusal : Bool → (ℕ → Type 0) → Type 0 → Fault → Type 0
IsCopyRefusal has_failed Missing Same Io = Unit {0}
IsCopyRefusal has_failed Missing Same Memory = Same
IsCopyRefusal has_failed Missing Same Failed = Same × IsTrue has_failed
IsCopyRefusal has_failed Missing Same (Damaged Size number) = Same × Missing number
IsCopyRefusal has_failed Missing Same _ = ⊥
