-- Commits that may begin the log anew (Database File Format, "WAL Reset").
use Rattle.std.specs.Prelude.{◌≡◌, ◌⊎◌, ◌&&◌, ℕ, Bool, IsTrue, IsFalse, List, [], Result, MatchResult, if◌then◌else◌}
use Rattle.disk.specs.Calls.{overwritten}
use Rattle.disk.specs.File.{File, Version, IsLeft, IsSynced, IsContentLeft, Always}
use Rattle.sqlval.specs.declared.fault.Fault.{Fault}
use Rattle.wal_frame.specs.declared.log_header.LogHeader.{LogHeader}
use Rattle.wal_frame.specs.Written.{Framed}
use Rattle.wal.specs.Committed.{HasCommits}
use Rattle.wal.specs.Commits.{Commits, after_refusal, commits_of, grown}
use Rattle.wal.specs.Crashes.{AreEither, HasNoChance, WritesCommit}
use Rattle.wal.specs.LogState.{LogState}
use Rattle.wal.specs.Restarts.{BeginsAnew, LeavesRenewed, is_copied, renewed, restarted}

-- whether a commit begins the log anew: it may, and all frames are copied
abbrev pub begins_anew : LogState → Bool → Bool
begins_anew known may_restart = may_restart && is_copied known

-- what is known of the log that a commit's frames are written into
abbrev pub base_of : LogState → Bool → LogState
base_of known may_restart = if begins_anew known may_restart then restarted known else known

-- the committed frames that stay before those of a commit
abbrev pub kept_frames : LogState → Bool → List ℕ → List Framed
kept_frames known may_restart log = if begins_anew known may_restart then [] else commits_of known log

-- The log was synced with a header over what stood there, and then with bytes after the header.
pub record IsRewritten (h : LogHeader) (old bytes : List ℕ) (new : File) : Type 0 where
  pub begun : File
  pub begun_is : begun.content ≡ renewed h old
  pub begun_synced : IsSynced begun
  pub content : new.content ≡ overwritten 32 bytes (renewed h old)
  pub synced : IsSynced new

-- while a log gets another header, and then bytes after it
abbrev pub LeavesRewriting : LogHeader → List ℕ → List ℕ → List ℕ → List ℕ → List Version → Type 0
LeavesRewriting h content cut kept bytes versions = LeavesRenewed h content cut kept versions ⊎ AreEither (renewed h kept) (overwritten 32 bytes (renewed h kept)) versions

-- The log was begun anew, and then synced with exactly these frames.
pub record CommitsAnew (known : LogState) (fs : List Framed) (new : File) : Type 0 where
  pub begun : File
  pub is : BeginsAnew known begun
  pub commits : Commits (restarted known) fs begun new

-- the log has these frames after its committed ones, or it was begun anew and has these alone
pub record CommitsOver (known : LogState) (may_restart : Bool) (fs : List Framed) (old new : File) : Type 0 where
  pub grows : IsFalse (begins_anew known may_restart) → Commits known fs old new
  pub anew : IsTrue (begins_anew known may_restart) → CommitsAnew known fs new

-- what is known after a commit of so many pages
abbrev pub IsStateCommitted : Bool → Result (Unit {0}) Fault → LogState → ℕ → ℕ → LogState → Type 0
IsStateCommitted may_restart result old count size new = MatchResult result (λ _. new ≡ grown (base_of old may_restart) count size) (λ e. new ≡ after_refusal old e)

-- each log that a crash may leave of these versions, where none of its frames is accepted by chance, has one of these three lists of committed frames
abbrev pub LeavesAmong : ℕ → List Framed → List Framed → List Framed → List Version → Type 0
LeavesAmong page_size these base those versions = (c : List ℕ) → IsLeft versions c → HasNoChance versions c
    → HasCommits page_size c these ⊎ HasCommits page_size c base ⊎ HasCommits page_size c those

-- While the log is begun anew and these frames are committed, a crash leaves the frames that were copied, or none, or these. What is on the log
-- at the end, a crash may leave.
pub record WritesAnew (known : LogState) (fs : List Framed) (old new : File) : Type 0 where
  pub among : Always old new (LeavesAmong known.page_size (commits_of known old.content) [] fs)
  pub left : IsContentLeft new

-- while frames are committed after the others, or in a log that is begun anew
pub record WritesOver (known : LogState) (may_restart : Bool) (fs : List Framed) (old new : File) : Type 0 where
  pub grows : IsFalse (begins_anew known may_restart) → WritesCommit known fs old new
  pub anew : IsTrue (begins_anew known may_restart) → WritesAnew known fs old new
