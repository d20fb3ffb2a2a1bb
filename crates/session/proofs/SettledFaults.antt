-- A fault that is settled has the cause that it had.
use Rattle.std.proofs.Common.{◌≡◌, refl, sym, ap, subst, ◌∙◌, ℕ, Bool, true, false}
use Rattle.std.proofs.lemmas.Bool.{false≢true}
use Rattle.std.specs.Prelude.{Err, IsTrue, Result}
use Rattle.disk.specs.declared.device.Disk.{Ghosts}
use Rattle.pager.specs.Sights.{failures_of}
use Rattle.pages.specs.Calls.{Causes}
use Rattle.sqlval.specs.Refusals.{refusal_of}
use Rattle.sqlval.specs.declared.fault.Fault.{Fault}
use Rattle.sqlval.specs.declared.fault.Fault.TheVariants as fault
use Rattle.sql_syntax.specs.declared.statement.Statement.{Statement}
use Rattle.wal.specs.declared.log.Log.{Log}
use Rattle.session.specs.ConnectionState.{HasCauseIn, files_of}
use Rattle.session.specs.CopiedBack.{KeepsDisksWhereShort}
use Rattle.session.specs.Failing.{IsRefusedFor, MarksFailure}
use Rattle.session.specs.Representation.{Beside}
use Rattle.session.specs.Endings.{without_end}
use Rattle.session.specs.declared.transactions.Connections.{Connections}
use Rattle.session.proofs.Answered.{IsEndingFault, ended_is_raised, ending_refusal, is_raise}
use Rattle.session.proofs.EndedSteps.{Ends, IsSettledBy, Stays}

abbrev pub failing : (T : Type 0) → Fault → Result T Fault
failing T f = Err f

one_failing : (T : Type 0) (e f : Fault) → failing T e ≡ failing T f → e ≡ f
one_failing T e f is = cc

-- it is no other fault than RAISE
not_other : (f answer e : Fault) → IsEndingFault f → answer ≡ without_end f → is_raise (refusal_of e) ≡ false → answer ≡ e → ⊥
not_other f answer e ends is other same = false≢true (sym other ∙ ended_is_raised f e ends (sym is ∙ same))

module _ {D : Type 0} {g : Ghosts D} (T : Type 0) (f answer : Fault) (old served new : Connections D g) where
  pub settled_cause : (b : Bool) → IsSettledBy f served answer new → HasCauseIn b (failing T f) old served → HasCauseIn b (failing T answer) old new
  settled_cause b (Stays plain same stays) cause =
      subst (λ (e : Fault). HasCauseIn b (failing T e) old new) (sym same) (subst (λ (c : Connections D g). HasCauseIn b (failing T f) old c) (sym stays) cause)
  settled_cause b (Ends ends is gone) cause =
      subst (λ (l : Log D g). Causes (failing T answer) (failures_of (files_of old)) (failures_of l) (IsTrue b)) (sym gone.files)
      (record {
        db = cause.db;
        log = cause.log;
        why = record { io = λ io. absurd (not_other f answer fault.Io ends is refl io); full = λ full. absurd (not_other f answer fault.Full ends is refl full) };
      })

  pub settled_marks : IsSettledBy f served answer new → MarksFailure (failing T f) old served → MarksFailure (failing T answer) old new
  settled_marks (Stays plain same stays) marks =
      subst (λ (e : Fault). MarksFailure (failing T e) old new) (sym same) (subst (λ (c : Connections D g). MarksFailure (failing T f) old c) (sym stays) marks)
  settled_marks (Ends ends is gone) marks = record {
    marked = λ whole failed.
        let io = (marks.marked whole (sym (ap (λ (b : Beside). b.failed) gone.beside) ∙ failed)).0 in
        absurd (false≢true (ap (λ (x : Fault). is_raise (refusal_of x)) (sym io) ∙ raises));
    unmarked = λ io. absurd (not_other f answer fault.Io ends is refl (one_failing T answer fault.Io io));
  }
    where
      raises : is_raise (refusal_of f) ≡ true
      raises = ap is_raise (ending_refusal f ends).is

  pub settled_refused : (n : ℕ) (s : Statement) → IsSettledBy f served answer new → IsRefusedFor old n s f → IsRefusedFor old n s answer
  settled_refused n s (Stays plain same stays) why = subst (λ (e : Fault). IsRefusedFor old n s e) (sym same) why
  settled_refused n s (Ends ends is gone) why = λ above below from to. record {
    memory = λ memory. absurd (not_other f answer fault.Memory ends is refl memory);
    full = λ m shown commits full. absurd (not_other f answer fault.Full ends is refl full);
  }

  pub settled_short : (s : Statement) → IsSettledBy f served answer new → KeepsDisksWhereShort s (files_of old) (failing T f) (files_of served) → KeepsDisksWhereShort s (files_of old) (failing T answer) (files_of new)
  settled_short s (Stays plain same stays) keeps =
      subst (λ (e : Fault). KeepsDisksWhereShort s (files_of old) (failing T e) (files_of new)) (sym same)
      (subst (λ (c : Connections D g). KeepsDisksWhereShort s (files_of old) (failing T f) (files_of c)) (sym stays) keeps)
  settled_short s (Ends ends is gone) keeps = λ mode checkpoint memory. absurd (not_other f answer fault.Memory ends is refl (one_failing T answer fault.Memory memory))
