-- A refusal is `Io` only where a call failed and was counted.
use Rattle.std.proofs.Common.{◌≡◌, ◌⊎◌, ◌≤◌, ◌+◌, ◌-◌, ◌^◌, inl, inr, refl, sym, ◌∙◌, ap, subst, ⊎_elim, ℕ, Bool, arith}
use Rattle.std.specs.Prelude.{Result, Ok, Err, IfErr, IsErrAnd, OnErr, OnOk}
use Rattle.std.proofs.lemmas.Result.{IfErr-weaker}
use Rattle.disk.specs.Calls.{CountsFailure, Rose}
use Rattle.disk.proofs.Moments.{rose_after}
use Rattle.sqlval.specs.declared.fault.Fault.{Fault}
use Rattle.sqlval.specs.declared.fault.Fault.TheVariants.{Io}
use Rattle.sqlval.specs.Faults.{IsNotDiskFault}
use Rattle.wal.specs.Refusals.{IsCutRefusal, IsOpenRefusal}
use Rattle.pages.specs.Calls.{Causes, IsCause}
use Rattle.pager_older.specs.Counting.{CountsIo}
use Rattle.engine.specs.Creating.{IsNewFileRefusal}
use Rattle.engine.proofs.Refusing.{never_ok, on_err}

always : {T : Type 0} (R : Type 0) (result : Result T Fault) → R → IfErr result (λ fault. fault ≡ Io → R)
always R (Ok x) holds = tt
always R (Err fault) holds = λ is. holds

always_ok : {T P : Type 0} (result : Result T Fault) → P → OnOk result P
always_ok (Ok x) holds = holds
always_ok (Err fault) holds = tt

failed_rose : (old new : ℕ) → (new ≡ old + 1) ⊎ ((2 ^ 64 - 1 ≤ old) × (new ≡ old)) → Rose old new
failed_rose old new counts = ⊎_elim (λ one. inl (omega (arith, one))) (λ top. inr (top.0, omega (arith, top.1))) counts

failed_rise : (old new : ℕ) → (new ≡ old + 1) ⊎ ((2 ^ 64 - 1 ≤ old) × (new ≡ old)) → old ≤ new
failed_rise old new counts = ⊎_elim (λ one. omega (arith, one)) (λ top. omega (arith, top.1)) counts

-- a call of the disk failed, after others
pub call_refused : {T : Type 0} (result : Result T Fault) (fault : Fault) (old mid new : ℕ) → IsErrAnd result (λ e. e ≡ fault) → mid ≡ old → (new ≡ mid + 1) ⊎ ((2 ^ 64 - 1 ≤ mid) × (new ≡ mid)) → CountsIo result old new
call_refused result fault old mid new is same counts = record {
  counts = omega (arith, same, failed_rise mid new counts);
  none_failed = never_ok (new ≡ old) result fault is;
  io = always (Rose old new) result (rose_after old mid new (omega (arith, same)) (failed_rose mid new counts));
}

-- a part was refused, and its refusal is passed on
pub part_refused : {T : Type 0} (result : Result T Fault) (fault : Fault) (old new : ℕ) → IsErrAnd result (λ e. e ≡ fault) → old ≤ new → (fault ≡ Io → Rose old new) → CountsIo result old new
part_refused result fault old new is le rose = record { counts = le; none_failed = never_ok (new ≡ old) result fault is; io = on_err (λ f. f ≡ Io → Rose old new) result fault is rose }

-- what a part answers after others
pub part_behind : {T : Type 0} (result : Result T Fault) (old mid new : ℕ) → mid ≡ old → CountsIo result mid new → CountsIo result old new
part_behind result old mid new same counts = subst (λ (n : ℕ). CountsIo result n new) same counts

pub calm_refused : {T : Type 0} (result : Result T Fault) (old new : ℕ) → new ≡ old → IfErr result (λ fault. IsNotDiskFault fault) → CountsIo result old new
calm_refused result old new same calm = record {
  counts = omega (arith, same);
  none_failed = always_ok result same;
  io = IfErr-weaker result (λ f. IsNotDiskFault f) (λ f. f ≡ Io → Rose old new) (λ f quiet is. absurd (quiet.0 is)) calm;
}

-- ---- both disks

pub causes_passed : {X T : Type 0} (F : Type 0) (result : Result T Fault) (fault : Fault) (old new : ℕ × ℕ) → IsErrAnd result (λ e. e ≡ fault) → Causes {T = X} (Err fault) old new F → Causes result old new F
causes_passed F result fault old new is causes = record { db = causes.db; log = causes.log; why = on_err (IsCause old new F) result fault is causes.why }

module _ {D : Type 0} (failures : D → ℕ) where
  -- the log's cut was refused
  pub cut_causes : {T : Type 0} (F : Type 0) (result : Result T Fault) (fault : Fault) (has_failed : Bool) (old_db mid_db new_db old_log mid_log new_log : D) → failures old_db ≤ failures mid_db → failures old_log ≤ failures mid_log
      → new_db ≡ mid_db → failures mid_log ≤ failures new_log → IsErrAnd result (λ e. e ≡ fault) → IsCutRefusal has_failed mid_log new_log (failures mid_log) (failures new_log) fault
      → Causes result (failures old_db, failures old_log) (failures new_db, failures new_log) F
  cut_causes F result fault has_failed old_db mid_db new_db old_log mid_log new_log db log same cut is refusal = record {
    db = omega (arith, db, ap failures same);
    log = omega (arith, log, cut);
    why =
        on_err (IsCause (failures old_db, failures old_log) (failures new_db, failures new_log) F) result fault is
        (record {
          io = λ io. inr (rose_after (failures old_log) (failures mid_log) (failures new_log) log (subst (λ (f : Fault). IsCutRefusal has_failed mid_log new_log (failures mid_log) (failures new_log) f) io refusal));
          full = λ full. absurd (subst (λ (f : Fault). IsCutRefusal has_failed mid_log new_log (failures mid_log) (failures new_log) f) full refusal);
        });
  }

pub opened_rose : (has_called cannot : Type 0) (fault : Fault) → IsOpenRefusal has_called cannot fault → fault ≡ Io → has_called
opened_rose has_called cannot fault refusal is = subst (λ (f : Fault). IsOpenRefusal has_called cannot f) is refusal

pub rose_both : (a b c new_c d e f new_f : ℕ) → a ≤ b → d ≤ e → new_c ≡ c → new_f ≡ f → Rose b c ⊎ Rose e f → Rose a new_c ⊎ Rose d new_f
rose_both a b c new_c d e f new_f db log same_c same_f rose =
    ⊎_elim (λ r. inl (subst (λ (n : ℕ). Rose a n) (sym same_c) (rose_after a b c db r))) (λ r. inr (subst (λ (n : ℕ). Rose d n) (sym same_f) (rose_after d e f log r))) rose

-- ---- while a database is made

pub on_call : {T R : Type 0} (result : Result T Fault) → R → OnErr result R
on_call (Ok x) rose = tt
on_call (Err fault) rose = rose

pub last_counted : {T : Type 0} (result : Result T Fault) (old mid new : ℕ) → mid ≡ old → CountsFailure result mid new → CountsIo result old new
last_counted (Ok x) old mid new same counts = record { counts = omega (arith, counts, same); none_failed = counts ∙ same; io = tt }
last_counted (Err fault) old mid new same counts = call_refused (Err fault) fault old mid new refl same counts

-- one disk's calls, after those of the other
pub none_of_two : {T : Type 0} (A B : Type 0) (result : Result T Fault) → OnOk result A → B → OnOk result (A × B)
none_of_two A B (Ok x) first second = (first, second)
none_of_two A B (Err fault) first second = tt

pub last_of_two : {T : Type 0} (A B : Type 0) (result : Result T Fault) → IfErr result (λ f. f ≡ Io) → IfErr result (λ f. f ≡ Io → A) → OnErr result (A ⊎ B)
last_of_two A B (Ok x) io rose = tt
last_of_two A B (Err fault) io rose = inl (rose io)

pub create_refused : {T : Type 0} (page_size : ℕ) (IsNotBlank : Type 0) (result : Result T Fault) (a b c d e : ℕ) → a ≤ b → IfErr result (λ f. f ≡ Io) → OnErr result (Rose b c ⊎ Rose d e)
    → IfErr result (λ f. IsNewFileRefusal page_size IsNotBlank (Rose a c ⊎ Rose d e) f)
create_refused page_size IsNotBlank (Ok x) a b c d e le is rose = tt
create_refused page_size IsNotBlank (Err fault) a b c d e le is rose =
    subst (λ (f : Fault). IsNewFileRefusal page_size IsNotBlank (Rose a c ⊎ Rose d e) f) (sym is) (⊎_elim (λ r. inl (rose_after a b c le r)) (λ r. inr r) rose)

pub blank_refused : {T : Type 0} (page_size : ℕ) (IsNotBlank R : Type 0) (result : Result T Fault) (fault : Fault) → IsErrAnd result (λ e. e ≡ fault) → fault ≡ Io → R → IfErr result (λ f. IsNewFileRefusal page_size IsNotBlank R f)
blank_refused page_size IsNotBlank R result fault is io rose =
    on_err (λ f. IsNewFileRefusal page_size IsNotBlank R f) result fault is (subst (λ (f : Fault). IsNewFileRefusal page_size IsNotBlank R f) (sym io) rose)
