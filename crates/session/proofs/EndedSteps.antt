-- What a connection answers of a step, and what it leaves: RAISE(ROLLBACK) gives its transaction up.
use Rattle.std.proofs.Common.{◌≡◌, ◌⊎◌, inl, inr, refl, sym, ap, subst, ◌∙◌, ℕ, List, []}
use Rattle.std.specs.Prelude.{⊤, Result, Ok, Err}
use Rattle.disk.specs.declared.device.Disk.{Ghosts}
use Rattle.sqlval.specs.Refusals.{Refusal, refusal_of}
use Rattle.sqlval.specs.declared.fault.Fault.{Fault}
use Rattle.sqlval.specs.declared.value.Value.{Value}
use Rattle.sql_syntax.specs.declared.statement.Statement.{Statement}
use Rattle.executor.specs.Works.{Controlling, sort}
use Rattle.wal.specs.declared.log.Log.{Log}
use Rattle.session.specs.ConnectionState.{files_of}
use Rattle.session.specs.Crashes.{MayShow}
use Rattle.session.specs.Endings.{ends_transaction, without_end}
use Rattle.session.specs.Holding.{HoldThroughout, IsLeftBy}
use Rattle.session.specs.Machine.{Machine, Idle, Reply, Rows, Refused, with_connection}
use Rattle.session.specs.Outcomes.{answered, left_by}
use Rattle.session.specs.Representation.{BeginsLog, Beside, IsGivenUp, IsTransaction, Represents, SettlesWhere, ShowTheSame, StepsTo, done_reply}
use Rattle.session.specs.TooLong.{StepOrTooLong}
use Rattle.session.specs.declared.seats.Transaction.{Transaction}
use Rattle.session.specs.declared.transactions.Connections.{Connections}
use Rattle.session.proofs.Answered.{IsEnding, IsEndingFault, IsPlain, IsPlainFault, answered_fault, either_way, ending_refusal, fault_way}
use Rattle.session.proofs.ControlRefusals.{control_never_raises}
use Rattle.session.proofs.Showing.{moved, the_same}

-- a step is one of a refusal that is answered as it is
pub plain_step : (m next : Machine) (c k : ℕ) (s : Statement) (r : Refusal) → IsPlain r → StepOrTooLong m c s (Refused r) next → StepOrTooLong m c s (Refused (answered r)) (left_by next k r)
plain_step m next c k s r plain step = subst (λ (x : Machine). StepOrTooLong m c s (Refused (answered r)) x) (sym (plain.left next k))
    (subst (λ (x : Refusal). StepOrTooLong m c s (Refused x) next) (sym plain.answer) step)

module _ {D : Type 0} {g : Ghosts D} where
  -- this reply is a step of the present connection, where no commit has failed
  pub record AnswersTo (old : Connections D g) (m : Machine) (s : Statement) (reply : Reply) (new : Connections D g) : Type 0 where
    pub next : Machine
    pub step : StepOrTooLong m old.connection s reply next
    pub shown : Represents new next
    pub crash : HoldThroughout (MayShow m next) (files_of old) (files_of new)
    pub renewed : BeginsLog old.parked.items (files_of old) m next (files_of new)

  -- ---- what ends nothing

  pub rows_answered : (old new : Connections D g) (m : Machine) (s : Statement) (rows : List (List Value)) → StepsTo old m s (Rows rows) new → AnswersTo old m s (Rows rows) new
  rows_answered old new m s rows step = record { next = step.next; step = step.step; shown = step.shown; crash = step.crash; renewed = step.renewed }

  pub plain_answered : (old new : Connections D g) (m : Machine) (s : Statement) (r : Refusal) → IsPlain r → StepsTo old m s (Refused r) new → AnswersTo old m s (Refused r) new
  plain_answered old new m s r plain step = record {
    next = step.next;
    step = subst (λ (x : Machine). StepOrTooLong m old.connection s (Refused r) x) (plain.left step.next new.connection)
        (subst (λ (x : Refusal). StepOrTooLong m old.connection s (Refused x) (left_by step.next new.connection r)) plain.answer step.step);
    shown = step.shown;
    crash = step.crash;
    renewed = step.renewed;
  }

  -- ---- what ends the transaction

  pub given_up_shown : (old new : Connections D g) (m : Machine) → IsGivenUp old new → Represents old m → Represents new (with_connection m old.connection Idle)
  given_up_shown old new m gone (inl failed) = inl (
    ap (λ (b : Beside). b.failed) gone.beside ∙ failed.0,
    failed.1,
    subst (λ (l : Log D g). IsLeftBy l (with_connection m old.connection Idle)) (sym gone.files)
        (record { some = failed.2.some; db_left = failed.2.db_left; log_left = failed.2.log_left; held = failed.2.held }),
  )
  given_up_shown old new m gone (inr shown) = inr (moved old new m Idle shown (subst (ShowTheSame (files_of old)) (sym gone.files) (the_same (files_of old) shown.told)) gone.beside (inl refl)
      (subst (λ (t : Transaction). IsTransaction (files_of new) new.catalog m.history t Idle) (sym gone.idle) (refl, gone.all, gone.savepoints)))

  pub ended_answered : (old served new : Connections D g) (m : Machine) (s : Statement) (r : Refusal) → IsEnding r → IsGivenUp served new → StepsTo old m s (Refused r) served → AnswersTo old m s (Refused (answered r)) new
  ended_answered old served new m s r ends gone step = record {
    next = left_by step.next served.connection r;
    step = step.step;
    shown = subst (λ (x : Refusal). Represents new (left_by step.next served.connection x)) (sym ends.is) (given_up_shown served new step.next gone step.shown);
    crash = subst (λ (x : Refusal). HoldThroughout (MayShow m (left_by step.next served.connection x)) (files_of old) (files_of new)) (sym ends.is)
        (subst (λ (l : Log D g). HoldThroughout (MayShow m step.next) (files_of old) l) (sym gone.files) step.crash);
    renewed = subst (λ (x : Refusal). BeginsLog old.parked.items (files_of old) m (left_by step.next served.connection x) (files_of new)) (sym ends.is)
        (subst (λ (l : Log D g). BeginsLog old.parked.items (files_of old) m step.next l) (sym gone.files) step.renewed);
  }

  -- ---- settled

  -- what is left of the connections where a fault was settled
  pub data IsSettledBy (f : Fault) (served : Connections D g) (answer : Fault) (new : Connections D g) : Type 0 where
    Stays : IsPlain (refusal_of f) → answer ≡ f → new ≡ served → IsSettledBy f served answer new
    Ends : IsEndingFault f → answer ≡ without_end f → IsGivenUp served new → IsSettledBy f served answer new

  pub settled_way : (f answer : Fault) (served new : Connections D g) → SettlesWhere (ends_transaction f) f served answer new → IsSettledBy f served answer new
  settled_way f answer served new settles = by_way (fault_way f)
    where
      by_way : IsPlainFault f ⊎ IsEndingFault f → IsSettledBy f served answer new
      by_way (inl plain) = (let is = subst (λ b. SettlesWhere b f served answer new) plain.never settles in Stays plain.plain is.0 is.1)
      by_way (inr ends) = (let is = subst (λ b. SettlesWhere b f served answer new) (ap ends_transaction ends.is ∙ ends.ends) settles in Ends ends is.0 is.1)

  pub settled_answered : (old served new : Connections D g) (m : Machine) (s : Statement) (f answer : Fault) → IsSettledBy f served answer new → StepsTo old m s (Refused (refusal_of f)) served → AnswersTo old m s (Refused (refusal_of answer)) new
  settled_answered old served new m s f answer (Stays plain same stays) step =
      subst (λ (e : Fault). AnswersTo old m s (Refused (refusal_of e)) new) (sym same)
      (subst (λ (c : Connections D g). AnswersTo old m s (Refused (refusal_of f)) c) (sym stays) (plain_answered old served m s (refusal_of f) plain step))
  settled_answered old served new m s f answer (Ends ends is gone) step =
      subst (λ (r : Refusal). AnswersTo old m s (Refused r) new) (sym (ap refusal_of is ∙ answered_fault f ends))
      (ended_answered old served new m s (refusal_of f) (ending_refusal f ends) gone step)

  -- ---- calls

  -- a statement of transactions or savepoints is never refused by RAISE
  pub control_answered : (old new : Connections D g) (m : Machine) (s : Statement) (result : Result ⊤ Fault) → sort s ≡ Controlling → StepsTo old m s (done_reply result) new → AnswersTo old m s (done_reply result) new
  control_answered old new m s (Ok done) is step = rows_answered old new m s [] step
  control_answered old new m s (Err f) is step = by_way (either_way (refusal_of f))
    where
      by_way : IsPlain (refusal_of f) ⊎ IsEnding (refusal_of f) → AnswersTo old m s (Refused (refusal_of f)) new
      by_way (inl plain) = plain_answered old new m s (refusal_of f) plain step
      by_way (inr ends) = absurd (control_never_raises m old.connection s ends.text (left_by step.next new.connection (refusal_of f)) is
          (subst (λ (r : Refusal). StepOrTooLong m old.connection s (Refused (answered r)) (left_by step.next new.connection (refusal_of f))) ends.is step.step))
