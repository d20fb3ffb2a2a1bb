-- What a statement that writes comes to, by what it makes of the database before it.
use Rattle.std.proofs.Common.{◌≡◌, ◌⊎◌, inl, inr, refl, sym, ap, subst, ◌∙◌, ℕ, Bool, true, false, List, [], ◌∷◌, if◌then◌else◌}
use Rattle.pages.specs.Calls.{IsOutsideOrFull}
use Rattle.sqlval.specs.Refusals as refusal
use Rattle.sqlval.specs.Refusals.{Refusal, Busy, refusal_of}
use Rattle.sqlval.specs.declared.fault.Fault.{Fault}
use Rattle.sqlval.specs.declared.fault.Fault.TheVariants as fault
use Rattle.sql_syntax.specs.declared.statement.Statement.{Statement}
use Rattle.catalog.specs.Database.{Database}
use Rattle.executor_programs.specs.Making.{IsBeyond}
use Rattle.session.specs.TooLong.{CannotStore, StepOrTooLong, database_of}
use Rattle.session.specs.Machine.{Machine, Connection, Idle, InTransactionOf, Phase, SavepointState, Writes, Rows, Refused, connection, another, is_writing, last_place, newest, with_connection}
use Rattle.session.specs.Outcomes.{Outcome, RefusedBy, answered, left_by, outcome, unless_busy, worked, worked_alone, write_outcome}
use Rattle.executor.specs.Works.{Work, Makes, IsRefused, Binds, Reaches, RefusesWith, change_made}
use Rattle.session.specs.Steps.{Allowed, Instead, is_connection}
use Rattle.executor_programs.specs.Writes.{written}
use Rattle.executor_programs.specs.declared.changes.Write.{Write}
use Rattle.executor_programs.specs.declared.changes.Write.TheVariants as write
use Rattle.session.proofs.ReadingPhases.{IsNewestPhase}
use Rattle.session.proofs.Answered.{IsPlain}
use Rattle.session.proofs.EndedSteps.{plain_step}
use Rattle.session.proofs.Stepping.{by_outcome, instead}

-- ---- in a transaction

-- how the first connection's transaction began, and its savepoints
pub record Begun : Type 0 where
  pub by_savepoint : Bool
  pub points : List SavepointState

-- the machine whose first connection works on this database
abbrev pub working_on : Begun → Machine → ℕ → Database → Machine
working_on b m n db = with_connection m n (InTransactionOf b.by_savepoint b.points (Writes (last_place m) db))

abbrev pub working : Begun → Machine → ℕ → Work → Outcome
working b m n w = worked m n b.by_savepoint b.points (last_place m) w

pub worked_gives : (b : Begun) (m : Machine) (n : ℕ) (made : Database) (w : Work) → Reaches w made → Allowed m n (working b m n w) (Rows []) (working_on b m n made)
worked_gives b m n made (Makes db) is = (refl, ap (working_on b m n) (sym is))
worked_gives b m n made (IsRefused rs) is = absurd is
worked_gives b m n made (Binds over ch w) is = inr (is.0, worked_gives b m n made w is.1)

-- ---- what either end of a statement has in common

-- what a statement's work comes to, for the connection
pub record IsFinish (m : Machine) (n : ℕ) (finish : Work → Outcome) : Type 0 where
  pub refuses : (r : Refusal) (w : Work) → RefusesWith w r → Allowed m n (finish w) (Refused (answered r)) (left_by m n r)
  pub io : (w : Work) → Instead m (finish w) (Refused refusal.Io) m

module _ (b : Begun) (m : Machine) (n : ℕ) where
  in_refuses : (r : Refusal) (w : Work) → RefusesWith w r → Allowed m n (working b m n w) (Refused (answered r)) (left_by m n r)
  in_refuses r (Makes db) why = absurd why
  in_refuses r (IsRefused rs) why = (r, why, refl, refl)
  in_refuses r (Binds over ch w) (inl bad) = inl (r, bad, refl, refl)
  in_refuses r (Binds over ch w) (inr rest) = inr (rest.0, in_refuses r w rest.1)

  in_io : (w : Work) → Instead m (working b m n w) (Refused refusal.Io) m
  in_io (Makes db) = (inr (refl, refl), refl)
  in_io (IsRefused rs) = (inr (refl, refl), refl)
  in_io (Binds over ch w) = in_io w

  pub finish_in : IsFinish m n (working b m n)
  finish_in = record { refuses = in_refuses; io = in_io }

abbrev pub alone : Machine → Work → Outcome
alone m w = worked_alone w m

alone_refuses : (m : Machine) (n : ℕ) (r : Refusal) (w : Work) → RefusesWith w r → Allowed m n (alone m w) (Refused (answered r)) (left_by m n r)
alone_refuses m n r (Makes db) why = absurd why
alone_refuses m n r (IsRefused rs) why = (r, why, refl, refl)
alone_refuses m n r (Binds over ch w) (inl bad) = inl (r, bad, refl, refl)
alone_refuses m n r (Binds over ch w) (inr rest) = inr (rest.0, alone_refuses m n r w rest.1)

alone_io : (m : Machine) (w : Work) → Instead m (alone m w) (Refused refusal.Io) m
alone_io m (Makes db) = (inr (refl, refl), refl)
alone_io m (IsRefused rs) = (inr (refl, refl), refl)
alone_io m (Binds over ch w) = alone_io m w

pub finish_alone : (m : Machine) (n : ℕ) → IsFinish m n (alone m)
finish_alone m n = record { refuses = alone_refuses m n; io = alone_io m }

-- ---- a refused statement

-- why a statement's work isn't done, where this says for which refusal it can't be stored
abbrev pub IsErrorCause : (Refusal → Type 0) → Work → Fault → Type 0
IsErrorCause Unstored w f = IsOutsideOrFull f ⊎ (RefusesWith w (refusal_of f) ⊎ Unstored (refusal_of f))

module _ (m : Machine) (n : ℕ) (s : Statement) (running : m.failed ≡ false) (numbered : is_connection n ≡ true) (finish : Work → Outcome) (ends : IsFinish m n finish) (w : Work) (is : outcome m n s ≡ finish w) where
  -- the fault's refusal, as it is answered, and what it leaves
  abbrev Answers : Refusal → Type 0
  Answers r = StepOrTooLong m n s (Refused (answered r)) (left_by m n r)

  step_for : (e f : Fault) → f ≡ e → Answers (refusal_of e) → Answers (refusal_of f)
  step_for e f same step = subst (λ (x : Fault). Answers (refusal_of x)) (sym same) step

  -- what can't be made ends no transaction
  cannot_make : (db : Database) → database_of m (connection m n) ≡ db → (f : Fault) → CannotStore s db (refusal_of f) → IsPlain (refusal_of f) → Answers (refusal_of f)
  cannot_make db sees f unmade plain = plain_step m m n n s (refusal_of f) plain (inr (refusal_of f, refl, refl, running, subst (λ (d : Database). CannotStore s d (refusal_of f)) (sym sees) unmade))

  unmade_plain : (db : Database) (r : Refusal) → CannotStore s db r → IsPlain r
  unmade_plain db r made = subst IsPlain (sym made.1) (by_fault made.0 made.2)
    where
      by_fault : (f : Fault) → IsBeyond s db f → IsPlain (refusal_of f)
      by_fault f (inl (inl long)) = subst (λ (x : Fault). IsPlain (refusal_of x)) (sym long.is) (record { answer = refl; left = λ m c. refl })
      by_fault f (inl (inr none)) = subst (λ (x : Fault). IsPlain (refusal_of x)) (sym none.is) (record { answer = refl; left = λ m c. refl })
      by_fault f (inr wide) = subst (λ (x : Fault). IsPlain (refusal_of x)) (sym wide.is) (record { answer = refl; left = λ m c. refl })

  pub refused_step : (db : Database) → database_of m (connection m n) ≡ db → (f : Fault) → IsErrorCause (CannotStore s db) w f → Answers (refusal_of f)
  refused_step db sees f (inl (inl (inl memory))) = step_for fault.Memory f memory (instead m n s running numbered (finish w) (Refused refusal.Memory) is (inl refl, refl))
  refused_step db sees f (inl (inl (inr io))) = step_for fault.Io f io (instead m n s running numbered (finish w) (Refused refusal.Io) is (ends.io w))
  refused_step db sees f (inl (inr full)) = step_for fault.Full f full (instead m n s running numbered (finish w) (Refused refusal.Full) is (inl refl, refl))
  refused_step db sees f (inr (inl why)) = by_outcome m n s running numbered (finish w) (Refused (answered (refusal_of f))) (left_by m n (refusal_of f)) is (ends.refuses (refusal_of f) w why)
  refused_step db sees f (inr (inr unmade)) = cannot_make db sees f unmade (unmade_plain db (refusal_of f) unmade)

-- ---- outcomes by what the first connection is

pub write_outcome_of : (w : Write) (m : Machine) (n : ℕ) (k : Connection) → connection m n ≡ k → outcome m n (written w) ≡ write_outcome m n (change_made (written w)) k
unfolding outcome
write_outcome_of (write.Change c) m n k is = ap (write_outcome m n (change_made (written (write.Change c)))) is
write_outcome_of (write.Drop kind name) m n k is = ap (write_outcome m n (change_made (written (write.Drop kind name)))) is
write_outcome_of (write.CreateTable sql d) m n k is = ap (write_outcome m n (change_made (written (write.CreateTable sql d)))) is
write_outcome_of (write.CreateIndex sql d) m n k is = ap (write_outcome m n (change_made (written (write.CreateIndex sql d)))) is
write_outcome_of (write.CreateView sql d) m n k is = ap (write_outcome m n (change_made (written (write.CreateView sql d)))) is
write_outcome_of (write.CreateTrigger sql d) m n k is = ap (write_outcome m n (change_made (written (write.CreateTrigger sql d)))) is

module _ (m : Machine) (n : ℕ) (free : another is_writing m n ≡ false) where
  not_busy : (o : Outcome) → unless_busy m n o ≡ o
  not_busy o = ap (λ b. if b then RefusedBy (Busy ∷ []) else o) free

  pub writes_alone : (work : Database → Work) → write_outcome m n work Idle ≡ alone m (work (newest m))
  writes_alone work = not_busy (alone m (work (newest m)))

  pub writes_reading : (b : Begun) (phase : Phase) → IsNewestPhase m n phase → (work : Database → Work) → write_outcome m n work (InTransactionOf b.by_savepoint b.points phase) ≡ working b m n (work (newest m))
  writes_reading b phase is work = is.writes b.by_savepoint b.points work ∙ not_busy (working b m n (work (newest m)))

-- ---- refused before the statement's work is looked at

pub is_busy : (m : Machine) (n : ℕ) (o : Outcome) → another is_writing m n ≡ true → unless_busy m n o ≡ RefusedBy (Busy ∷ [])
is_busy m n o busy = ap (λ b. if b then RefusedBy (Busy ∷ []) else o) busy
