-- How a log begins anew, once all its frames stand in the database file (Database File Format, "WAL Reset").
use Rattle.std.specs.Prelude.{◌≡◌, ◌⊎◌, ◌+◌, ◌%◌, ◌^◌, ◌==◌, ◌&&◌, ℕ, Bool, false, List, [], ◌++◌, drop, nat_lt, Ok, Some, Result, MatchResult, IsTrue, IsFalse, if◌then◌else◌}
use Rattle.disk.specs.File.{File, Version, IsLeft, IsSynced}
use Rattle.sqlval.specs.declared.fault.Fault.{Fault}
use Rattle.wal_frame.specs.declared.log_header.LogHeader.{LogHeader}
use Rattle.wal_frame.specs.declared.sums.WordOrder.TheVariants.{Big}
use Rattle.wal_frame.specs.Log.{header_in, header_bytes}
use Rattle.wal_frame.specs.Accepted.{IsFrame}
use Rattle.wal_frame.specs.Written.{Framed}
use Rattle.wal.specs.Committed.{HasCommits}
use Rattle.wal.specs.Commits.{after_refusal}
use Rattle.wal.specs.Crashes.{zeros}
use Rattle.wal.specs.LogState.{LogState}

-- the header that a log gets next: it counts one restart more, and has other salts
abbrev pub next_header : LogHeader → LogHeader
next_header h = record {
  order = Big;
  page_size = h.page_size;
  sequence = (h.sequence + 1) % 2 ^ 32;
  salts = record { first = (h.salts.first + 1) % 2 ^ 32; second = (h.salts.second + 2654435769) % 2 ^ 32 };
}

-- whether the log has frames, and all of them were copied into the database file
abbrev pub is_copied : LogState → Bool
is_copied known = known.has_header && nat_lt 0 known.frames && known.copied == known.frames

-- what is known of a log that has begun anew: it has the next header, and no frames
abbrev pub restarted : LogState → LogState
restarted known = record known { header = next_header known.header; frames = 0; copied = 0 }

-- the header that a log gets when it was cut to nothing: the next one, or the one that it was to get
abbrev pub header_after_cut : LogState → LogHeader
header_after_cut known = if known.has_header then next_header known.header else known.header

-- what is known of a log that was cut to nothing
abbrev pub truncated : LogState → LogState
truncated known = record known { header = header_after_cut known; has_header = false; frames = 0; copied = 0 }

-- what is known after a call that cuts the log to nothing, where all its frames are copied
abbrev pub IsStateTruncated : Result (Unit {0}) Fault → LogState → LogState → Type 0
IsStateTruncated result old new = MatchResult result (λ _. new ≡ (if old.copied == old.frames then truncated old else old)) (λ e. new ≡ after_refusal old e)

-- where all frames of a log are copied it was cut to nothing and synced, else it is as it was
pub record IsTruncated (known : LogState) (old new : File) : Type 0 where
  pub content : known.copied ≡ known.frames → new.content ≡ []
  pub synced : known.copied ≡ known.frames → IsSynced new
  pub same : (known.copied ≡ known.frames → ⊥) → new ≡ old

-- what is known after a call that begins the log anew, where all its frames are copied
abbrev pub IsStateAnew : Result (Unit {0}) Fault → LogState → LogState → Type 0
IsStateAnew result old new = MatchResult result (λ _. new ≡ (if is_copied old then restarted old else old)) (λ e. new ≡ after_refusal old e)

-- a log with this header over what stood there; nothing stays where its first salt begins at 0 again
abbrev pub renewed : LogHeader → List ℕ → List ℕ
renewed h log = header_bytes h ++ (if h.salts.first == 0 then [] else drop 32 log)

-- The log was synced with the next header, and no frame counts: what stands after the header is older.
pub record BeginsAnew (known : LogState) (new : File) : Type 0 where
  pub header_is : header_in new.content ≡ Ok (Some (next_header known.header))
  pub none : (k : ℕ) → IsFrame (next_header known.header) new.content k → ⊥
  pub commits : HasCommits known.page_size new.content []
  pub synced : IsSynced new

-- where all frames of a log are copied it has begun anew, else it is as it was
pub record IsRestarted (known : LogState) (old new : File) : Type 0 where
  pub anew : IsTrue (is_copied known) → BeginsAnew known new
  pub same : IsFalse (is_copied known) → new ≡ old

-- a crash leaves the committed frames of a log, or none, whatever chance does
abbrev pub LeavesOrNone : ℕ → List Framed → List Version → Type 0
LeavesOrNone page_size frames versions = (c : List ℕ) → IsLeft versions c → HasCommits page_size c frames ⊎ HasCommits page_size c []

-- while a log gets another header: a crash leaves it as it was, or cut, nothing, zeros, or what is kept of it under that header
abbrev pub LeavesRenewed : LogHeader → List ℕ → List ℕ → List ℕ → List Version → Type 0
LeavesRenewed h content cut kept versions = (c : List ℕ) → IsLeft versions c → (c ≡ content) ⊎ (c ≡ cut) ⊎ (c ≡ []) ⊎ (c ≡ zeros) ⊎ (c ≡ renewed h kept)
