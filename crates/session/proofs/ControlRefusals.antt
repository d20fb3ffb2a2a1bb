-- Statements of transactions and savepoints, and checkpoints, are never refused by RAISE.
use Rattle.std.proofs.Common.{◌≡◌, inl, inr, refl, sym, ap, subst, ◌∙◌, ℕ, zero, suc, List, [], ◌∷◌, length, Bool, true, false, arith, nat_lt, cond}
use Rattle.std.specs.Prelude.{Contains}
use Rattle.std.proofs.lemmas.Bool.{false≢true}
use Rattle.sqlval.specs.Refusals.{Refusal, Busy, Raised, TooLong, refusal_of}
use Rattle.sqlval.specs.declared.fault.Fault.{Fault}
use Rattle.sql_syntax.specs.declared.statement.BeginMode.{BeginMode}
use Rattle.sql_syntax.specs.declared.statement.BeginMode.TheVariants as begins
use Rattle.sql_syntax.specs.declared.statement.Statement.{Statement}
use Rattle.sql_syntax.specs.declared.statement.Statement.TheVariants as statement
use Rattle.catalog.specs.Database.{Database}
use Rattle.executor_programs.specs.Making.{IsBeyond}
use Rattle.executor.specs.Works.{Sort, Controlling, sort}
use Rattle.session.specs.Machine.{Machine, Connection, Idle, InTransactionOf, Phase, NoSnapshot, Reads, Writes, SavepointState, Reply, Rows, Refused, another, connection, is_writing}
use Rattle.session.specs.Outcomes.{Outcome, Gives, RefusedBy, Commits, Copies, Bound, answered, begun, commit_outcome, control, from_name, outcome, released, restored, saved, sorted_outcome, unless_busy}
use Rattle.session.specs.Steps.{Allowed, Instead}
use Rattle.session.specs.TooLong.{CannotStore, StepOrTooLong, database_of}
use Rattle.session.proofs.Answered.{answer_raises, is_raise}

-- it is refused for one reason at most, and not by RAISE
abbrev pub IsCalm : Outcome → Type 0
IsCalm (RefusedBy []) = ⊥
IsCalm (RefusedBy (r ∷ [])) = is_raise r ≡ false
IsCalm (RefusedBy (r ∷ s ∷ rs)) = ⊥
IsCalm (Bound db ch o) = ⊥
IsCalm _ = Unit {0}

-- ---- what control comes to

chosen_calm : (b : Bool) (o p : Outcome) → IsCalm o → IsCalm p → IsCalm (cond b o p)
chosen_calm true o p h g = h
chosen_calm false o p h g = g

busy_calm : (m : Machine) (c : ℕ) (o : Outcome) → IsCalm o → IsCalm (unless_busy m c o)
busy_calm m c o h = chosen_calm (another is_writing m c) (RefusedBy (Busy ∷ [])) o refl h

commit_calm : (m : Machine) (c : ℕ) (p : Phase) → IsCalm (commit_outcome m c p)
commit_calm m c NoSnapshot = tt
commit_calm m c (Reads i) = tt
commit_calm m c (Writes i db) = tt

released_calm : (m : Machine) (c : ℕ) (b : Bool) (p : Phase) (ss : List SavepointState) → IsCalm (released m c b p ss)
released_calm m c b p [] = refl
released_calm m c true p (s ∷ []) = commit_calm m c p
released_calm m c false p (s ∷ []) = tt
released_calm m c true p (s ∷ r ∷ ss) = tt
released_calm m c false p (s ∷ r ∷ ss) = tt

restored_calm : (m : Machine) (c : ℕ) (b : Bool) (p : Phase) (ss : List SavepointState) → IsCalm (restored m c b p ss)
restored_calm m c b p [] = refl
restored_calm m c b p (s ∷ ss) = tt

saved_calm : (m : Machine) (c : ℕ) (n : List ℕ) (k : Connection) → IsCalm (saved m c n k)
saved_calm m c n Idle = tt
saved_calm m c n (InTransactionOf b ss p) = chosen_calm (nat_lt 63 (length ss)) (RefusedBy (TooLong ∷ [])) _ refl tt

begun_calm : (mode : BeginMode) (m : Machine) (c : ℕ) → IsCalm (begun mode m c)
begun_calm begins.Deferred m c = tt
begun_calm begins.Immediate m c = busy_calm m c _ tt

control_calm : (s : Statement) (m : Machine) (c : ℕ) (k : Connection) → IsCalm (control s m c k)
control_calm (statement.Begin mode) m c Idle = begun_calm mode m c
control_calm statement.Commit m c (InTransactionOf b ss p) = commit_calm m c p
control_calm (statement.Savepoint n) m c k = saved_calm m c n k
control_calm (statement.Release n) m c (InTransactionOf b ss p) = released_calm m c b p (from_name n ss)
control_calm (statement.RollbackTo n) m c (InTransactionOf b ss p) = restored_calm m c b p (from_name n ss)
control_calm statement.Rollback m c (InTransactionOf b ss p) = tt
control_calm statement.Rollback m c Idle = refl
control_calm (statement.Checkpoint mode) m c Idle = tt
control_calm _ m c Idle = refl
control_calm _ m c (InTransactionOf b ss p) = refl

control_outcome : (m : Machine) (c : ℕ) (s : Statement) → sort s ≡ Controlling → IsCalm (outcome m c s)
unfolding outcome
control_outcome m c s is = subst (λ (o : Sort). IsCalm (sorted_outcome o s m c (connection m c))) (sym is) (control_calm s m c (connection m c))

-- ---- what is answered then

abbrev raise_of : Reply → Bool
raise_of (Refused r) = is_raise r
raise_of (Rows rows) = false

single : (x r : Refusal) → Contains (x ∷ []) r → r ≡ x
single x r (zero, low, is) = sym is
single x r (suc k, low, is) = absurd (omega (arith, low))

by_answer : (t : List ℕ) (r : Refusal) → is_raise r ≡ false → Refused (Raised t) ≡ Refused (answered r) → ⊥
by_answer t r calm is = false≢true (sym (answer_raises r ∙ calm) ∙ sym (ap raise_of is))

allowed_never : (m : Machine) (c : ℕ) (o : Outcome) (t : List ℕ) (new : Machine) → IsCalm o → Allowed m c o (Refused (Raised t)) new → ⊥
allowed_never m c (Gives rows m') t new calm h = false≢true (sym (ap raise_of h.0))
allowed_never m c (RefusedBy []) t new calm h = calm
allowed_never m c (RefusedBy (x ∷ [])) t new calm h = by_answer t h.0 (ap is_raise (single x h.0 h.1) ∙ calm) h.2
allowed_never m c (RefusedBy (x ∷ y ∷ rs)) t new calm h = calm
allowed_never m c (Commits alone db) t new calm h = false≢true (sym (ap is_raise h.0))
allowed_never m c (Copies mode) t new calm h = false≢true (sym (ap is_raise h.0))
allowed_never m c (Bound db ch o) t new calm h = calm

instead_never : (m : Machine) (o : Outcome) (t : List ℕ) (new : Machine) → Instead m o (Refused (Raised t)) new → ⊥
instead_never m o t new (inl free, same) = false≢true free
instead_never m o t new (inr io, same) = false≢true (sym (ap is_raise io.0))

made_never : (s : Statement) (db : Database) (t : List ℕ) (r : Refusal) → Refused (Raised t) ≡ Refused r → CannotStore s db r → ⊥
made_never s db t r is made = false≢true (sym (ap is_raise made.1 ∙ by_fault made.0 made.2) ∙ sym (ap raise_of is))
  where
    by_fault : (f : Fault) → IsBeyond s db f → is_raise (refusal_of f) ≡ false
    by_fault f (inl (inl long)) = ap (λ (x : Fault). is_raise (refusal_of x)) long.is
    by_fault f (inl (inr none)) = ap (λ (x : Fault). is_raise (refusal_of x)) none.is
    by_fault f (inr wide) = ap (λ (x : Fault). is_raise (refusal_of x)) wide.is

pub control_never_raises : (m : Machine) (c : ℕ) (s : Statement) (t : List ℕ) (new : Machine) → sort s ≡ Controlling → StepOrTooLong m c s (Refused (Raised t)) new → ⊥
control_never_raises m c s t new is (inl (inl h)) = false≢true (sym (ap raise_of h.1))
control_never_raises m c s t new is (inl (inr (inl h))) = false≢true (sym (ap raise_of h.2))
control_never_raises m c s t new is (inl (inr (inr (running, numbered, inl h)))) = allowed_never m c (outcome m c s) t new (control_outcome m c s is) h
control_never_raises m c s t new is (inl (inr (inr (running, numbered, inr h)))) = instead_never m (outcome m c s) t new h
control_never_raises m c s t new is (inr h) = made_never s (database_of m (connection m c)) t h.0 h.1 h.4
