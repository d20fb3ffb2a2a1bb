-- Calls of a file in memory follow its schedule.
use Rattle.std.proofs.Common.{◌≡◌, inl, inr, true, false, sym, ap, ◌∙◌}
use Rattle.std.specs.Prelude.{Bool, not, Result, Ok, Err, IfOk, OnOk, is_ok}
use Rattle.disk.specs.Landing.{has_landed}
use Rattle.disk.specs.Memory.{Follows, calls_of, lacked_memory, schedule_of}
use Rattle.disk.specs.Schedule.{IsNextCall, is_failing}
use Rattle.disk.specs.declared.memory.MemDisk.{MemDisk}

-- a call that is to land as the schedule says, and else only finds no memory
pub follows : {E : Type 0} (old new : MemDisk) (ok to_fail : Bool) (landed : Result Bool E) → schedule_of new ≡ schedule_of old → IsNextCall (calls_of old) (calls_of new)
    → to_fail ≡ is_failing (schedule_of old) (calls_of new) → ok ≡ has_landed landed → IfOk landed (λ l. l ≡ not to_fail) → lacked_memory new ≡ not (is_ok landed) → Follows old new ok
follows old new ok to_fail (Ok l) schedule counted is said answered lacked = record {
  schedule = schedule;
  counted = counted;
  failed = λ h. said ∙ (answered ∙ ap not (is ∙ h));
  done = λ h. inl (said ∙ (answered ∙ ap not (is ∙ h)));
}
follows old new ok to_fail (Err e) schedule counted is said answered lacked = record {
  schedule = schedule;
  counted = counted;
  failed = λ h. said;
  done = λ h. inr lacked;
}

-- what is so where a call found memory
pub with_memory : {E : Type 0} (P : Type 0) (lacked : Bool) (landed : Result Bool E) → lacked ≡ not (is_ok landed) → lacked ≡ false → OnOk landed P → P
with_memory P lacked (Ok l) is none holds = holds
with_memory P lacked (Err e) is none holds = (let bad : true ≡ false = sym is ∙ none in absurd cc)
