-- A call of a connection by its number, from what it does as the present one.
use Rattle.std.proofs.Common.{◌≡◌, ◌⊎◌, inl, inr, sym, ap, subst, ◌∙◌, ℕ, ◌==◌, Bool, true, false, Result, Ok, Err, arith}
use Rattle.std.specs.Prelude.{⊤, ◌||◌, if◌then◌else◌, nat_lt, IfErr, IsErrAnd, IsTrue}
use Rattle.std.proofs.lemmas.Bool.{false≢true}
use Rattle.disk.specs.declared.device.Disk.{Ghosts}
use Rattle.sqlval.specs.declared.fault.Fault.{Fault}
use Rattle.sqlval.specs.declared.fault.Fault.TheVariants as fault
use Rattle.sqlval.specs.declared.fault.Misuse.TheVariants as misuse
use Rattle.sql_syntax.specs.declared.statement.Statement.{Statement}
use Rattle.executor.specs.Forms.{answers_rows}
use Rattle.executor.specs.Works.{Controlling, sort}
use Rattle.wal.specs.declared.log.Log.{Log}
use Rattle.session.specs.Calls.{IsCallOf, IsRefusedOnly}
use Rattle.session.specs.ConnectionState.{HasCause, HasCauseIn, files_of, first_refusal, has_failed_in}
use Rattle.session.specs.Failing.{IsRefusedHere, MarksFailure, ReadsFiles, may_commit, may_want_memory}
use Rattle.session.specs.Limits.{may_be_full}
use Rattle.session.specs.Representation.{StepsOn, Switches, done_reply}
use Rattle.session.specs.declared.transactions.Connections.{Connections}
use Rattle.session.proofs.EndedSteps.{control_answered}
use Rattle.session.proofs.Executing.{done, done_copies, marks_switched, refused_first, refused_switched, steps_switched}
use Rattle.session.proofs.Switching.{was_present}

-- what is refused only for memory that it may take
pub memory_alone : {D : Type 0} {g : Ghosts D} (c : Connections D g) (s : Statement) (result : Result ⊤ Fault) → may_commit s ≡ false → IfErr result (λ f. f ≡ fault.Memory → IsTrue (may_want_memory c.transaction s))
    → IfErr result (IsRefusedHere c s)
memory_alone c s (Ok u) no_commit why = tt
memory_alone c s (Err f) no_commit why = record { memory = why; full = λ m shown commits full. absurd (false≢true (sym no_commit ∙ commits)) }

-- a refusal that isn't for memory
pub not_memory : {D : Type 0} {g : Ghosts D} (c : Connections D g) (s : Statement) (why : Fault) (result : Result ⊤ Fault) → may_commit s ≡ false → (why ≡ fault.Memory → ⊥) → IfErr result (λ f. f ≡ why)
    → IfErr result (IsRefusedHere c s)
not_memory c s why (Ok u) no_commit other is = tt
not_memory c s why (Err f) no_commit other is = record { memory = λ memory. absurd (other (sym is ∙ memory)); full = λ m shown commits full. absurd (false≢true (sym no_commit ∙ commits)) }

abbrev failed_by : Fault → Result ⊤ Fault
failed_by f = Err f

-- the only refusal of a call but for the first ones
pub only_so : {D : Type 0} {g : Ghosts D} (why : Fault) (old : Connections D g) (n : ℕ) (result : Result ⊤ Fault) → IfErr result (λ f. f ≡ why) → IsRefusedOnly why old n result
only_so why old n (Ok u) is = tt
only_so why old n (Err f) is = inr is

pub first_only : {D : Type 0} {g : Ghosts D} (why : Fault) (old : Connections D g) (n : ℕ) (f : Fault) (result : Result ⊤ Fault) → IsErrAnd result (λ e. e ≡ f) → first_refusal (has_failed_in old) n ≡ Err f
    → IsRefusedOnly why old n result
first_only why old n f (Ok u) is first = absurd is
first_only why old n f (Err e) is first = inl (first ∙ ap failed_by (sym is))

module _ {D : Type 0} {g : Ghosts D} where
  -- a call that has read the files at most marks nothing
  pub reads_mark : (old new : Connections D g) (result : Result ⊤ Fault) → ReadsFiles old new → MarksFailure result old new
  reads_mark old new result reads = record {
    marked = λ whole failed. absurd (false≢true (sym (reads.failed ∙ whole) ∙ failed));
    unmarked = λ io whole told. reads.files told;
  }

  -- a connection that is refused at first
  pub refused_call : (old new : Connections D g) (n : ℕ) (s : Statement) (f : Fault) (result : Result ⊤ Fault) → IsErrAnd result (λ e. e ≡ f) → (first_refusal (has_failed_in old) n ≡ Err f) × (new ≡ old)
      → IsCallOf s old n result new
  refused_call old new n s f result is why =
      subst (λ (c : Connections D g). IsCallOf s old n result c) (sym why.1)
      (as_refused result f is (λ r. IsCallOf s old n r old) (record {
        step = refused_first old n s f why.0;
        cause = record { db = omega arith; log = omega arith; why = record { io = λ io. absurd (other_fault f why.0 (inl (inl io))); full = λ full. absurd (other_fault f why.0 (inr full)) } };
        marks = record { marked = λ whole failed. absurd (false≢true (sym whole ∙ failed)); unmarked = λ io. absurd (other_fault f why.0 (inl (inl (the_fault f io)))) };
        refused = λ above below from to. record { memory = λ memory. absurd (other_fault f why.0 (inl (inr memory))); full = λ m shown commits full. absurd (other_fault f why.0 (inr full)) };
      }))
    where
      the_fault : (f : Fault) → failed_by f ≡ Err fault.Io → f ≡ fault.Io
      the_fault f is = cc

      other_fault : (f : Fault) → first_refusal (has_failed_in old) n ≡ Err f → (((f ≡ fault.Io) ⊎ (f ≡ fault.Memory)) ⊎ (f ≡ fault.Full)) → ⊥
      other_fault f first which = by_flag (has_failed_in old) (n == 0 || nat_lt 16 n) first which
        where
          by_flag : (b c : Bool) → (if b then Err fault.Failed else (if c then Err (fault.Misuse misuse.Connection) else done)) ≡ Err f → (((f ≡ fault.Io) ⊎ (f ≡ fault.Memory)) ⊎ (f ≡ fault.Full)) → ⊥
          by_flag true c is (inl (inl io)) = absurd cc
          by_flag true c is (inl (inr memory)) = absurd cc
          by_flag true c is (inr full) = absurd cc
          by_flag false true is (inl (inl io)) = absurd cc
          by_flag false true is (inl (inr memory)) = absurd cc
          by_flag false true is (inr full) = absurd cc
          by_flag false false is which = absurd cc

      as_refused : (r : Result ⊤ Fault) (f : Fault) → IsErrAnd r (λ e. e ≡ f) → (P : Result ⊤ Fault → Type 0) → P (Err f) → P r
      as_refused (Ok u) f is P there = absurd is
      as_refused (Err e) f is P there = subst (λ (x : Fault). P (Err x)) (sym is) there

  -- what the present connection does, once it is the present one
  pub call_made : (old mid new : Connections D g) (n : ℕ) (s : Statement) (result : Result ⊤ Fault) → answers_rows s ≡ false → sort s ≡ Controlling → first_refusal (has_failed_in old) n ≡ done → Switches n old mid → StepsOn mid s (done_reply result) new
      → HasCauseIn (may_be_full s) result mid new → MarksFailure result mid new → IfErr result (IsRefusedHere mid s) → IsCallOf s old n result new
  call_made old mid new n s result other controls first switch steps cause marks refused = record {
    step = steps_switched old mid new n s (done_reply result) first switch (done_copies mid.parked.items (files_of mid) (files_of new) s (done_reply result) other)
        (λ m shown. control_answered mid new m s result controls (steps m shown));
    cause = subst (λ (l : Log D g). HasCause (may_be_full s) result l (files_of new)) (was_present n old mid switch).files cause;
    marks = marks_switched old mid new n result switch marks;
    refused = refused_switched old mid n s result first switch refused;
  }
