-- What is answered before a statement is looked at.
use Rattle.std.proofs.Common.{◌≡◌, inl, inr, refl, sym, ap, subst, ◌∙◌, ℕ, ◌==◌, List, Bool, true, false, Ok, Err, arith}
use Rattle.std.specs.Prelude.{◌||◌, nat_lt, IfErr, IsErrAnd, IsTrue, Result, ⊤, if◌then◌else◌}
use Rattle.std.proofs.lemmas.Bool.{false≢true}
use Rattle.std.proofs.lemmas.Bool.Decides.{nat_tests}
use Rattle.disk.specs.declared.device.Disk.{Ghosts}
use Rattle.sqlval.specs.Refusals as refusal
use Rattle.sqlval.specs.Refusals.{Refusal, refusal_of}
use Rattle.sqlval.specs.declared.fault.Fault.{Fault}
use Rattle.sqlval.specs.declared.fault.Fault.TheVariants as fault
use Rattle.sqlval.specs.declared.fault.Misuse.TheVariants as misuse
use Rattle.sqlval.specs.declared.value.Value.{Value}
use Rattle.sql_syntax.specs.declared.query.Query.{Query}
use Rattle.sql_syntax.specs.declared.statement.CheckpointMode.{CheckpointMode}
use Rattle.sql_syntax.specs.declared.statement.Statement.{Statement}
use Rattle.sql_syntax.specs.declared.statement.Statement.TheVariants as statement
use Rattle.session.specs.TooLong.{StepOrTooLong}
use Rattle.executor.specs.Forms.{answers_rows}
use Rattle.wal.specs.declared.log.Log.{Log}
use Rattle.session.specs.CopiedBack.{KeepsDisksWhereShort}
use Rattle.session.specs.ConnectionState.{files_of, first_refusal, has_failed_in}
use Rattle.session.specs.Machine.{Machine, Reply, Refused, Rows}
use Rattle.session.specs.Steps.{is_connection}
use Rattle.pager.specs.Views.{Tells}
use Rattle.session.specs.Failing.{HasCallFailed, IsPastIn, IsRefusedFor, IsRefusedHere, MarksFailure, may_want_memory}
use Rattle.session.specs.Representation.{CopiesAnswered, Represents, RepresentsRunning, ShowTheSame, Steps, StepsOver, Switches, done_reply, others_in, rows_reply}
use Rattle.session.specs.declared.seats.Seat.{Seat}
use Rattle.session.specs.declared.transactions.Connections.{Connections}
use Rattle.session.proofs.EndedSteps.{AnswersTo}
use Rattle.session.proofs.Selecting.{Rowed}
use Rattle.session.proofs.Settled.{as_shown, not_longer}
use Rattle.session.proofs.Switching.{steps_over, switched_others, switched_shown, was_present}
use Rattle.session.specs.declared.seats.Transaction.{Transaction}

-- ---- what copies nothing

-- a refusal has no rows
no_rows : (r : Refusal) (rows : List (List Value)) → Refused r ≡ Rows rows → ⊥
no_rows r rows is = absurd cc

-- a statement that answers no rows is no checkpoint, and neither is a query
pub no_checkpoint : (s : Statement) (mode : CheckpointMode) → answers_rows s ≡ false → s ≡ statement.Checkpoint mode → ⊥
no_checkpoint s mode other is = false≢true (sym other ∙ ap answers_rows is)

pub select_is_other : (s : Statement) (q : Query) (mode : CheckpointMode) → s ≡ statement.Select q → s ≡ statement.Checkpoint mode → ⊥
select_is_other s q mode query is = by_form q mode (sym query ∙ is)
  where
    by_form : (q : Query) (mode : CheckpointMode) → statement.Select q ≡ statement.Checkpoint mode → ⊥
    by_form q mode e = absurd cc

module _ {D : Type 0} {g : Ghosts D} (others : List Seat) (old new : Log D g) (s : Statement) (reply : Reply) where
  pub refused_copies : (r : Refusal) → reply ≡ Refused r → CopiesAnswered others old s reply new
  refused_copies r refused mode is rows answered = absurd (no_rows r rows (sym refused ∙ answered))

  pub done_copies : answers_rows s ≡ false → CopiesAnswered others old s reply new
  done_copies other mode is rows answered = absurd (no_checkpoint s mode other is)

  pub query_copies : (q : Query) → s ≡ statement.Select q → CopiesAnswered others old s reply new
  query_copies q query mode is rows answered = absurd (select_is_other s q mode query is)

abbrev failing : (T : Type 0) → Fault → Result T Fault
failing T f = Err f

abbrev answering : {T : Type 0} → T → Result T Fault
answering x = Ok x

one_failing : (T : Type 0) (e : Fault) → failing T e ≡ Err fault.Memory → e ≡ fault.Memory
one_failing T e is = cc

-- what was handed on was refused for memory
pub short_of : {T : Type 0} (result : Result T Fault) (f : Fault) → IsErrAnd result (λ e. e ≡ f) → result ≡ Err fault.Memory → f ≡ fault.Memory
short_of (Ok x) f is memory = absurd is
short_of {T = T} (Err e) f is memory = sym is ∙ one_failing T e memory

pub never_short : {T : Type 0} (x : T) → answering x ≡ Err fault.Memory → ⊥
never_short x is = absurd cc

-- ---- the first refusals

abbrev pub first_fault : Fault → Result ⊤ Fault
first_fault f = Err f

abbrev pub done : Result ⊤ Fault
done = Ok tt

pub either : {P : Type 0} (b : Bool) → (b ≡ true → P) → (b ≡ false → P) → P
either true go other = go refl
either false go other = other refl

module _ (m : Machine) (n : ℕ) (s : Statement) where
  failed_step : m.failed ≡ true → StepOrTooLong m n s (Refused refusal.Failed) m
  failed_step failed = inl (inl (failed, refl, refl))

  numbered_step : m.failed ≡ false → is_connection n ≡ false → StepOrTooLong m n s (Refused refusal.Misuse) m
  numbered_step running none = inl (inr (inl (running, none, refl, refl)))

pub no_connection : (n : ℕ) → (n == 0 || nat_lt 16 n) ≡ true → is_connection n ≡ false
no_connection n is = grind (arith, nat_tests)

a_connection : (n : ℕ) → (n == 0 || nat_lt 16 n) ≡ false → is_connection n ≡ true
a_connection n is = grind (arith, nat_tests)

pub one_fault : (a b : Fault) → first_fault a ≡ Err b → a ≡ b
one_fault a b is = cc

pub not_both : (f : Fault) → done ≡ Err f → ⊥
not_both f is = absurd cc

pub first_by : (n : ℕ) → (n == 0 || nat_lt 16 n) ≡ true → first_refusal false n ≡ first_fault (fault.Misuse misuse.Connection)
first_by n bad = ap (λ b. if b then first_fault (fault.Misuse misuse.Connection) else done) bad

pub passes_by : (n : ℕ) → (n == 0 || nat_lt 16 n) ≡ false → first_refusal false n ≡ done
passes_by n good = ap (λ b. if b then first_fault (fault.Misuse misuse.Connection) else done) good

pub no_query : (s : Statement) → ((q : Query) → s ≡ statement.Select q → ⊥) → ((mode : CheckpointMode) → s ≡ statement.Checkpoint mode → ⊥) → answers_rows s ≡ false
no_query (statement.Create c) none other = refl
no_query (statement.Drop k n) none other = refl
no_query (statement.Change c) none other = refl
no_query (statement.Select q) none other = absurd (none q refl)
no_query (statement.Begin mode) none other = refl
no_query statement.Commit none other = refl
no_query statement.Rollback none other = refl
no_query (statement.RollbackTo n) none other = refl
no_query (statement.Savepoint n) none other = refl
no_query (statement.Release n) none other = refl
no_query (statement.Checkpoint mode) none other = absurd (other mode refl)

pub refused_as : (result : Rowed) (f : Fault) → IsErrAnd result (λ e. e ≡ f) → rows_reply result ≡ done_reply (Err f)
refused_as (Ok rows) f is = absurd is
refused_as (Err e) f is = ap (λ (x : Fault). Refused (refusal_of x)) is

module _ {D : Type 0} {g : Ghosts D} where
  -- what isn't refused at first is a connection's, of a machine that goes on
  pub served_for : (c : Connections D g) (m : Machine) (n : ℕ) → first_refusal (has_failed_in c) n ≡ done → Represents c m → (m.failed ≡ false) × (is_connection n ≡ true)
  served_for c m n is (inl failed) = absurd (not_both fault.Failed (sym is ∙ ap (λ b. first_refusal b n) failed.0))
  served_for c m n is (inr shown) = either (n == 0 || nat_lt 16 n)
      (λ bad. absurd (not_both (fault.Misuse misuse.Connection) (sym whole ∙ first_by n bad)))
      (λ good. (shown.running, a_connection n good))
    where
      whole : first_refusal false n ≡ done
      whole = ap (λ b. first_refusal b n) (sym shown.whole) ∙ is

  stays_with : (c : Connections D g) (m : Machine) (n : ℕ) (s : Statement) (r : Refusal) → Represents c m → StepOrTooLong m n s (Refused r) m → StepsOver c m n s (Refused r) c
  stays_with c m n s r shows step = record {
    next = m;
    step = step;
    shown = shows;
    crash = as_shown c m shows;
    copied = refused_copies (others_in c n) (files_of c) (files_of c) s (Refused r) r refl;
    renewed = λ more. not_longer m.history more;
  }

  -- refused before the statement is looked at
  pub refused_first : (c : Connections D g) (n : ℕ) (s : Statement) (f : Fault) → first_refusal (has_failed_in c) n ≡ Err f → Steps c n s (Refused (refusal_of f)) c
  refused_first c n s f is m (inl failed) =
      let why : first_refusal true n ≡ Err f = ap (λ b. first_refusal b n) (sym failed.0) ∙ is in
      subst (λ (e : Fault). StepsOver c m n s (Refused (refusal_of e)) c) (one_fault fault.Failed f why)
      (stays_with c m n s refusal.Failed (inl failed) (failed_step m n s failed.1))
  refused_first c n s f is m (inr shown) = either (n == 0 || nat_lt 16 n) none some
    where
      whole : first_refusal false n ≡ Err f
      whole = ap (λ b. first_refusal b n) (sym shown.whole) ∙ is

      none : (n == 0 || nat_lt 16 n) ≡ true → StepsOver c m n s (Refused (refusal_of f)) c
      none bad = subst (λ (e : Fault). StepsOver c m n s (Refused (refusal_of e)) c) (one_fault (fault.Misuse misuse.Connection) f (sym (first_by n bad) ∙ whole))
          (stays_with c m n s refusal.Misuse (inr shown) (numbered_step m n s shown.running (no_connection n bad)))

      some : (n == 0 || nat_lt 16 n) ≡ false → StepsOver c m n s (Refused (refusal_of f)) c
      some good = absurd (not_both f (sym (passes_by n good) ∙ whole))

  -- where no commit has failed, what is shown is shown whole
  pub steps_switched : (old mid new : Connections D g) (n : ℕ) (s : Statement) (reply : Reply) → first_refusal (has_failed_in old) n ≡ done → Switches n old mid → CopiesAnswered mid.parked.items (files_of mid) s reply (files_of new)
      → ((m : Machine) → RepresentsRunning mid m → AnswersTo mid m s reply new) → Steps old n s reply new
  steps_switched old mid new n s reply is switch copied steps m (inl failed) = absurd (not_both fault.Failed (sym is ∙ ap (λ b. first_refusal b n) failed.0))
  steps_switched old mid new n s reply is switch copied steps m (inr shown) =
      let on = served_for old m n is (inr shown) in
      let was = was_present n old mid switch in
      steps_over old mid new m n s reply was.files was.number (switched_others n old mid m on.1 switch shown) copied (steps m (switched_shown n old mid m on.1 switch shown))

  -- the causes of refusals are those of the connection that became the present one
  pub refused_switched : {T : Type 0} (old mid : Connections D g) (n : ℕ) (s : Statement) (result : Result T Fault) → first_refusal (has_failed_in old) n ≡ done → Switches n old mid → IfErr result (IsRefusedHere mid s) → IfErr result (IsRefusedFor old n s)
  refused_switched old mid n s (Ok x) is switch refused = tt
  refused_switched old mid n s (Err f) is switch refused = λ above below from to.
      let was = was_present n old mid switch in
      let same = was.transaction above below from to in
      record {
        memory = λ memory. subst (λ (t : Transaction). IsTrue (may_want_memory t s)) same (refused.memory memory);
        full = λ m shown commit full.
            let on = served_for old m n is (inr shown) in
            subst (λ (t : Transaction). IsPastIn (files_of old) t) same
            (subst (λ (l : Log D g). IsPastIn l mid.transaction) was.files (refused.full m (switched_shown n old mid m on.1 switch shown) commit full));
      }

  -- the engine is marked by what failed after it
  pub marks_switched : {T : Type 0} (old mid new : Connections D g) (n : ℕ) (result : Result T Fault) → Switches n old mid → MarksFailure result mid new → MarksFailure result old new
  marks_switched old mid new n result switch marks =
      let was = was_present n old mid switch in
      record {
        marked = λ whole failed. (let is = marks.marked (was.failed ∙ whole) failed in (is.0, subst (λ (l : Log D g). HasCallFailed l (files_of new)) was.files is.1));
        unmarked = λ io whole told. subst (λ (l : Log D g). ShowTheSame l (files_of new)) was.files (marks.unmarked io whole (subst Tells (sym was.files) told));
      }

  -- what short memory leaves, it leaves of the connections from before
  pub short_switched : {T : Type 0} (old mid new : Connections D g) (n : ℕ) (s : Statement) (result : Result T Fault) → Switches n old mid → KeepsDisksWhereShort s (files_of mid) result (files_of new) → KeepsDisksWhereShort s (files_of old) result (files_of new)
  short_switched old mid new n s result switch keeps = subst (λ (l : Log D g). KeepsDisksWhereShort s l result (files_of new)) (was_present n old mid switch).files keeps
