-- What a commit makes of a log (Database File Format, "WAL File Format").
use Rattle.std.specs.Prelude.{◌≡◌, ◌⊎◌, ◌≤◌, ◌+◌, ℕ, Bool, true, List, [], ◌++◌, length, take, drop, Some, Ok, Result, MatchResult}
use Rattle.disk.specs.File.{File, IsSynced}
use Rattle.sqlval.specs.declared.fault.Fault.{Fault}
use Rattle.sqlval.specs.declared.fault.Fault.TheVariants.{Io}
use Rattle.wal_frame.specs.Log.{header_in}
use Rattle.wal_frame.specs.Accepted.{frame_start, sum_to}
use Rattle.wal_frame.specs.Written.{Framed, written}
use Rattle.wal.specs.Committed.{HasCommitted, AreCommitted, framed_to, frames_under}
use Rattle.wal.specs.LogState.{LogState, header_of}
use Rattle.wal.specs.Stands.{log_front, log_end}

-- the committed frames of a log
abbrev pub commits_of : LogState → List ℕ → List Framed
commits_of known log = frames_under (header_of known) log known.frames

-- where the frames of a commit end: so many after the committed ones
abbrev pub end_with : LogState → ℕ → ℕ
end_with known count = frame_start known.header (known.frames + count)

-- The log was synced with exactly these frames after its committed ones, and all of them are committed now. What stood after their end
-- stands there still, or was cut away.
pub record Commits (known : LogState) (fs : List Framed) (old new : File) : Type 0 where
  pub front : take (end_with known (length fs)) new.content ≡ log_front known.header known.has_header known.frames old.content ++ written known.header (sum_to known.header old.content known.frames) fs
  pub rest : (drop (end_with known (length fs)) new.content ≡ []) ⊎ (drop (end_with known (length fs)) new.content ≡ drop (end_with known (length fs)) old.content)
  pub header_is : header_in new.content ≡ Ok (Some known.header)
  pub committed : HasCommitted known.header new.content (known.frames + length fs)
  pub frames_are : framed_to known.header new.content (known.frames + length fs) ≡ commits_of known old.content ++ fs
  pub synced : IsSynced new
  pub few : known.frames + length fs ≤ 1000000

-- so many frames more count, and the database has this size
abbrev pub grown : LogState → ℕ → ℕ → LogState
grown known count size = record known { has_header = true; frames = known.frames + count; size = size }

-- after a failed call of the log's disk nothing is known of the log; any other refusal changes nothing
abbrev pub after_refusal : LogState → Fault → LogState
after_refusal known Io = record known { has_failed = true }
after_refusal known _ = known

-- the disk of the database file is as it was, that of the log tells as it did, and the count of its failed calls didn't fall
pub record KeepsDisks {D : Type 0} (tells : D → Bool) (failures : D → ℕ) (old_db new_db old_log new_log : D) : Type 0 where
  pub db : new_db ≡ old_db
  pub tells_same : tells new_log ≡ tells old_log
  pub counts : failures old_log ≤ failures new_log

-- the log was cut after its committed frames, which are what they were, and synced
pub record IsCut (known : LogState) (old new : File) : Type 0 where
  pub content : new.content ≡ take (log_end known.header known.has_header known.frames) old.content
  pub header_is : header_in new.content ≡ Ok (header_of known)
  pub committed : AreCommitted new.content known.page_size (header_of known) known.frames
  pub frames : commits_of known new.content ≡ commits_of known old.content
  pub synced : IsSynced new

-- what is known after it was cut
abbrev pub IsStateCut : Result (Unit {0}) Fault → LogState → LogState → Type 0
IsStateCut result old new = MatchResult result (λ _. new ≡ old) (λ e. new ≡ after_refusal old e)
