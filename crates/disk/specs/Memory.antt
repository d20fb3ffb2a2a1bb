-- The file that a file in memory stands for, and which of its calls fail.
use Rattle.std.specs.Prelude.{◌≡◌, ◌⊎◌, ℕ, Bool, true, false}
use Rattle.disk.specs.File.{File, Version}
use Rattle.disk.specs.Calls.{Gains}
use Rattle.disk.specs.Replay.{file_of}
use Rattle.disk.specs.Schedule.{Schedule, IsNextCall, has_come, is_failing}
use Rattle.disk.specs.declared.memory.MemDisk.{MemDisk}

-- what it holds, and what a crash may leave of it
abbrev pub memory_file : MemDisk → File
memory_file m = file_of m.start.items m.changes.items

-- how many of its calls have failed
abbrev pub failed_calls : MemDisk → ℕ
failed_calls m = m.failures

-- how many calls there were
abbrev pub calls_of : MemDisk → ℕ
calls_of m = m.call

-- the last call found no memory
abbrev pub lacked_memory : MemDisk → Bool
lacked_memory m = m.lacks_memory

-- ---- the schedule

abbrev pub schedule_of : MemDisk → Schedule
schedule_of m = record { fail_at = m.fail_at; stop_at = m.stop_at }

-- A call follows the schedule: it is counted, it fails where it is to, and nowhere else, unless it found no memory.
pub record Follows (old new : MemDisk) (ok : Bool) : Type 0 where
  pub schedule : schedule_of new ≡ schedule_of old
  pub counted : IsNextCall (calls_of old) (calls_of new)
  pub failed : is_failing (schedule_of old) (calls_of new) ≡ true → ok ≡ false
  pub done : is_failing (schedule_of old) (calls_of new) ≡ false → (ok ≡ true) ⊎ (lacked_memory new ≡ true)

-- So does one that changes the file: until the file has crashed it leaves this version, whether it lands or fails, unless it found no
-- memory; after that the file stays as it was.
pub record FollowsWith (version : Version) (old new : MemDisk) (ok : Bool) : Type 0 where
  pub follows : Follows old new ok
  pub leaves : has_come (schedule_of old).stop_at (calls_of old) ≡ false → lacked_memory new ≡ false → Gains version (memory_file old) (memory_file new)
  pub gone : has_come (schedule_of old).stop_at (calls_of old) ≡ true → memory_file new ≡ memory_file old
