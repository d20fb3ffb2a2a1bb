-- Loops that check one thing after the other, and keep marks and other things.
use Rattle.std.proofs.Common.{◌≡◌, ℕ, Bool, List, length, refl, sym, ◌∙◌, arith, Ok, Err}
use Rattle.sqlval.specs.Faults.{IsNotDiskFault}
use Rattle.std.specs.Prelude.{⊤, Result, IsErrAnd}
use Rattle.sqlval.specs.declared.fault.Fault.{Fault}
use Rattle.pages.specs.Calls.{Limits, Stays}
use Rattle.pages.specs.Map.{PageMap}
use Rattle.tree_overflow.proofs.ReadChains.{unrefused, stays_after, stays_done, stays_refused}
use Rattle.tree_check.specs.Checks.{CanMark}
use Rattle.tree_check.specs.Exact.{AreTold}
use Rattle.tree_check.proofs.Parting.{told_after, can_after}

-- What a check says of what there is before and after it, the marks and what else it keeps, on these pages.
abbrev pub Says : Type 0 → Type 1
Says S = PageMap → ℕ → S → S → Result ⊤ Fault → Type 0

module _ {P K S : Type 0} (below : P → K) (tells : K → Bool) (limits : K → Limits) (bytes : P → PageMap) (count : P → ℕ) (failures : P → ℕ × ℕ) (marks_in : S → List Bool) where
  -- What was checked up to here: what is left decides.
  pub record HasChecked (start now : P) (before here : S) (Whole Rest : Says S) : Type 0 where
    pub stays : Stays below bytes count failures unrefused start now
    pub long : length (marks_in here) ≡ length (marks_in before)
    pub decides : (map : PageMap) (size : ℕ) → AreTold below tells limits bytes start map size → CanMark map size (marks_in before)
        → (after : S) (result : Result ⊤ Fault) → Rest map size here after result → Whole map size before after result

  -- nothing was checked yet
  pub begun : (start : P) (before : S) (Whole : Says S) → HasChecked start start before before Whole Whole
  begun start before Whole = record {
    stays = record { kept = refl; same = refl; counted = refl; causes = record { db = omega arith; log = omega arith; why = tt } };
    long = refl;
    decides = λ map size told can after result rest. rest;
  }

  module _ (start now : P) (before here : S) (Whole Rest : Says S) (has : HasChecked start now before here Whole Rest) where
    pub told_now : (map : PageMap) (size : ℕ) → AreTold below tells limits bytes start map size → AreTold below tells limits bytes now map size
    told_now map size told = told_after below tells limits bytes start now map size has.stays.kept has.stays.same told

    pub can_now : (map : PageMap) (size : ℕ) → CanMark map size (marks_in before) → CanMark map size (marks_in here)
    can_now map size can = can_after map size (marks_in before) (marks_in here) has.long can

    -- one more thing was checked
    pub goes_on : {T : Type 0} (call : Result T Fault) (next : P) (then : S) (After : Says S) → Stays below bytes count failures call now next → length (marks_in then) ≡ length (marks_in here)
        → ((map : PageMap) (size : ℕ) → AreTold below tells limits bytes now map size → CanMark map size (marks_in here) → (after : S) (result : Result ⊤ Fault) → After map size then after result → Rest map size here after result)
        → HasChecked start next before then Whole After
    goes_on call next then After stays same step = record {
      stays = stays_done below bytes count failures call start next (stays_after below bytes count failures unrefused call start now next has.stays stays);
      long = same ∙ has.long;
      decides = λ map size told can after result rest. has.decides map size told can after result (step map size (told_now map size told) (can_now map size can) after result rest);
    }

    -- the last thing is checked, or one is refused
    pub ends : (after : S) (result : Result ⊤ Fault)
        → ((map : PageMap) (size : ℕ) → AreTold below tells limits bytes now map size → CanMark map size (marks_in here) → Rest map size here after result)
        → (map : PageMap) (size : ℕ) → AreTold below tells limits bytes start map size → CanMark map size (marks_in before) → Whole map size before after result
    ends after result last map size told can = has.decides map size told can after result (last map size (told_now map size told) (can_now map size can))

    pub stays_then : {T : Type 0} (result : Result T Fault) (next : P) → Stays below bytes count failures result now next → Stays below bytes count failures result start next
    stays_then result next stays = stays_after below bytes count failures unrefused result start now next has.stays stays

    pub stays_stopped : {T : Type 0} (fault : Fault) (result : Result ⊤ Fault) (next : P) → Stays below bytes count failures {T = T} (Err fault) now next → IsErrAnd result (λ e. e ≡ fault)
        → Stays below bytes count failures result start next
    stays_stopped {T} fault result next stays is = stays_then result next (stays_refused {S = T} below bytes count failures fault result now next stays is)

    -- nothing was called, and the fault is no disk's
    pub stays_still : {T : Type 0} (fault : Fault) (result : Result T Fault) → IsNotDiskFault fault → IsErrAnd result (λ e. e ≡ fault) → Stays below bytes count failures result start now
    stays_still fault (Ok x) other is = absurd is
    stays_still fault (Err e) other is = stays_then (Err e) now (record {
      kept = refl;
      same = refl;
      counted = refl;
      causes = record { db = omega arith; log = omega arith; why = record { io = λ io. absurd (other.0 (sym is ∙ io)); full = λ full. absurd (other.1 (sym is ∙ full)) } };
    })
