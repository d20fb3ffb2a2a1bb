-- Where an engine is marked as failed, a call of a disk has failed.
use Rattle.std.proofs.Common.{◌≡◌, ◌≤◌, inl, inr, refl, sym, ap, ◌∙◌, ℕ, Bool, true, false, List, [], ◌∷◌, arith}
use Rattle.std.specs.Prelude.{⊤, ◌==◌, ◌||◌, nat_lt, if◌then◌else◌, IsTrue, Option, Result, Ok, Err, OnOk, OnErr, IsErrAnd}
use Rattle.std.proofs.lemmas.Result.{IfErr-weaker}
use Rattle.std.proofs.lemmas.Bool.{cases_Bool, false≢true}
use Rattle.std.proofs.lemmas.Bool.Decides.{nat_tests}
use Rattle.disk.specs.Calls.{Rose}
use Rattle.disk.specs.declared.device.Disk.{Ghosts}
use Rattle.disk.proofs.Moments.{rose_after}
use Rattle.sqlval.specs.declared.fault.Fault.{Fault}
use Rattle.sqlval.specs.declared.fault.Fault.TheVariants.{Io, Misuse}
use Rattle.sqlval.specs.declared.fault.Misuse.TheVariants.{Connection}
use Rattle.pages.specs.Calls.{Causes, IsCause}
use Rattle.pager.specs.Sights.{failures_of}
use Rattle.session.specs.ConnectionState.{IsNoConnection, first_refusal}
use Rattle.session.proofs.Showing.{the_same}
use Rattle.engine.proofs.Refusing.{on_err}
use Rattle.wal.specs.LogState.{db_of, log_of}
use Rattle.engine.specs.EngineState.{has_failed_of}
use Rattle.engine.specs.Failing.{CountsFailures, MarksWhereCounted}
use Rattle.engine.specs.Representation.{files_in}
use Rattle.engine.specs.Serving.{AnswersKept, AreReplies, GivesUp, HasServed, HasServedInPart, Reply}
use Rattle.engine.specs.declared.opening.Engine.{Engine}

-- a count that rose before one that didn't fall
rose_before : (old mid new : ℕ) → mid ≤ new → Rose old mid → Rose old new
rose_before old mid new le (inl lt) = inl (omega (arith, le, lt))
rose_before old mid new le (inr top) = inr (top.0, omega (arith, le, top.1))

-- the first refusal is no failed call
pub check_not_io : (has_failed : Bool) (connection : ℕ) (fault : Fault) → first_refusal has_failed connection ≡ Err fault → fault ≡ Io → ⊥
check_not_io true connection fault is io = absurd cc
check_not_io false connection fault is io = by_number (connection == 0 || nat_lt 16 connection) is
  where
    by_number : (b : Bool) → ◌≡◌ {A = Result ⊤ Fault} (if b then Err (Misuse Connection) else Ok tt) (Err fault) → ⊥
    by_number true is = absurd cc
    by_number false is = absurd cc

-- where no commit has failed, a connection from 1 to 16 isn't refused at first
pub check_passes : (has_failed : Bool) (connection : ℕ) (fault : Fault) → has_failed ≡ false → (IsNoConnection connection → ⊥) → first_refusal has_failed connection ≡ Err fault → ⊥
check_passes true connection fault whole there is = false≢true (sym whole)
check_passes false connection fault whole there is = by_number (connection == 0 || nat_lt 16 connection) refl is
  where
    by_zero : (z : Bool) → (connection == 0) ≡ z → (connection == 0 || nat_lt 16 connection) ≡ true → ⊥
    by_zero true zero test = there (inl (grind (arith, nat_tests)))
    by_zero false zero test = there (inr (grind (arith, nat_tests)))

    by_number : (b : Bool) → (connection == 0 || nat_lt 16 connection) ≡ b → ◌≡◌ {A = Result ⊤ Fault} (if b then Err (Misuse Connection) else Ok tt) (Err fault) → ⊥
    by_number true test e = by_zero (connection == 0) refl test
    by_number false test e = absurd cc

-- a statement that may be full
pub for_any : {T : Type 0} (flag : Bool) (result : Result T Fault) (old new : ℕ × ℕ) → Causes result old new (IsTrue flag) → Causes result old new (IsTrue true)
for_any flag result old new is = record {
  db = is.db;
  log = is.log;
  why = IfErr-weaker result (IsCause old new (IsTrue flag)) (IsCause old new (IsTrue true)) (λ f why. record { io = why.io; full = λ full. refl }) is.why;
}

module _ {D : Type 0} {g : Ghosts D} where
  -- a refusal before any call of a disk
  pub nothing_called : {T : Type 0} (result : Result T Fault) (fault : Fault) (old : Engine D g) → IsErrAnd result (λ e. e ≡ fault) → (fault ≡ Io → ⊥) → CountsFailures result old old
  nothing_called result fault old is other =
      let counts = failures_of (files_in old) in
      record {
        cause = record { db = omega arith; log = omega arith; why = on_err (IsCause counts counts (IsTrue true)) result fault is (record { io = λ io. absurd (other io); full = λ full. refl }) };
        marks = record { marked = λ whole marked. absurd (false≢true (sym whole ∙ marked)); unmarked = λ io whole told. the_same (files_in old) told };
      }

  pub counted_marks : {T : Type 0} (result : Result T Fault) (old new : Engine D g) → CountsFailures result old new → MarksWhereCounted old new
  counted_marks result old new counts = record {
    db_counts = counts.cause.db;
    log_counts = counts.cause.log;
    marked = λ whole marked. (let is = counts.marks.marked whole marked in is.1);
  }

  still_marked : (old new : Engine D g) → files_in new ≡ files_in old → has_failed_of new ≡ has_failed_of old → MarksWhereCounted old new
  still_marked old new files failed = record {
    db_counts = omega (arith, ap (λ f. g.failures (db_of f)) files);
    log_counts = omega (arith, ap (λ f. g.failures (log_of f)) files);
    marked = λ whole marked. absurd (false≢true (sym whole ∙ sym failed ∙ marked));
  }

  same_marked : (old new : Engine D g) → new ≡ old → MarksWhereCounted old new
  same_marked old new is = still_marked old new (ap files_in is) (ap has_failed_of is)

  marks_on : (old mid new : Engine D g) → MarksWhereCounted old mid → MarksWhereCounted mid new → MarksWhereCounted old new
  marks_on old mid new first second = record {
    db_counts = omega (arith, first.db_counts, second.db_counts);
    log_counts = omega (arith, first.log_counts, second.log_counts);
    marked = λ whole marked.
        elim (cases_Bool (has_failed_of mid)) [
          | inl failed ↦ (elim (first.marked whole failed) [
            | inl db ↦ inl (rose_before _ _ _ second.db_counts db)
            | inr log ↦ inr (rose_before _ _ _ second.log_counts log)
          ])
          | inr still ↦ (elim (second.marked still marked) [
            | inl db ↦ inl (rose_after _ _ _ first.db_counts db)
            | inr log ↦ inr (rose_after _ _ _ first.log_counts log)
          ])
        ];
  }

  answer_marks : (old : Engine D g) (line : List ℕ) (reply : Reply) (new : Engine D g) → AnswersKept old line reply new → MarksWhereCounted old new
  answer_marks old line reply new (inl failed) = same_marked old new failed.2
  answer_marks old line reply new (inr (inl refused)) = same_marked old new refused.2
  answer_marks old line reply new (inr (inr executed)) = executed.1.counted

  replies_mark : (lines : List (List ℕ)) (replies : List Reply) (old new : Engine D g) → AreReplies old lines replies new → MarksWhereCounted old new
  replies_mark [] [] old new is = same_marked old new is
  replies_mark [] (reply ∷ replies) old new is = absurd is
  replies_mark (line ∷ lines) [] old new is = absurd is
  replies_mark (line ∷ lines) (reply ∷ replies) old new is = marks_on old is.0 new (answer_marks old _ reply is.0 is.1) (replies_mark lines replies is.0 new is.2)

  gone_marks : (old new : Engine D g) → GivesUp old new → MarksWhereCounted old new
  gone_marks old new gives = still_marked old new gives.files gives.gone.failed

  pub run_marks : (old end new : Engine D g) (result : Result (Unit {0}) Fault) (given left before after : Option (List ℕ)) → OnOk result (HasServed old given left before after end) → OnErr result (HasServedInPart old given before after end) → GivesUp end new → MarksWhereCounted old new
  run_marks old end new (Ok done) given left before after served part gives = marks_on old end new (replies_mark served.lines served.replies old end served.are_replies) (gone_marks end new gives)
  run_marks old end new (Err fault) given left before after served part gives = marks_on old end new (replies_mark part.lines part.replies old end part.are_replies) (gone_marks end new gives)
