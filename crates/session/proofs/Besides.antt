-- A step of one connection leaves the others as they were.
use Rattle.std.proofs.Common.{◌≡◌, ◌≤◌, ◌<◌, ◌-◌, ◌≢◌, refl, sym, ap, ◌∙◌, ℕ, zero, suc, List, Bool, true, false, inl, inr, subst, [], ◌∷◌, ◌++◌, length, get_or, slice_set, ◌==◌, Some, Ok, Err, nat_lt, ◌⊎◌, cond, arith, length-append}
use Rattle.std.specs.Prelude.{slice_get, unwrap_or}
use Rattle.std.proofs.lemmas.Option.{unwrap_or-slice_get}
use Rattle.std.proofs.lemmas.List.{get_or-set_other, get_or_append_left}
use Rattle.sqlval.specs.Refusals.{Answer, Refusal, Busy, StaleSnapshot, TooLong}
use Rattle.sqlval.specs.declared.value.Value.{Value}
use Rattle.sql_syntax.specs.declared.query.Query.{Query}
use Rattle.sql_syntax.specs.declared.statement.BeginMode.{BeginMode}
use Rattle.sql_syntax.specs.declared.statement.BeginMode.TheVariants as begins
use Rattle.sql_syntax.specs.declared.statement.Statement.{Statement}
use Rattle.sql_syntax.specs.declared.statement.Statement.TheVariants as statement
use Rattle.catalog.specs.Database.{Database}
use Rattle.query_names.specs.Checked.{Checked, Meant}
use Rattle.session.specs.Laws.{IsBeside, LeavesOthers}
use Rattle.session.specs.Machine.{is_writing, another, newest, committed, last_place, Machine, Connection, Idle, InTransactionOf, Phase, NoSnapshot, Reads, Writes, SavepointState, Reply, Rows, Refused, connection, with_connection}
use Rattle.session.specs.Outcomes.{Outcome, left_by, Gives, RefusedBy, Commits, Copies, Bound, outcome, sorted_outcome, begun, control, write_outcome, read_outcome, given, worked, worked_alone, unless_busy, commit_outcome, released, restored, saved, from_name}
use Rattle.executor.specs.Works.{Work, Makes, IsRefused, Binds, Sort, Querying, Writing, Controlling, sort}
use Rattle.session.proofs.Answered.{IsEnding, IsPlain, either_way}
use Rattle.session.specs.Steps.{Allowed, Instead, is_connection, after_commit, fails}

-- the machine is left so that the others are as they were
pub beside_itself : (m : Machine) (c : ℕ) → IsBeside m c m
beside_itself m c = record { others = λ d low other. refl; longer = omega arith; kept = λ i within. refl }

at_place : (ks : List Connection) (d : ℕ) → unwrap_or (slice_get ks d) Idle ≡ get_or ks d Idle
at_place ks d = unwrap_or-slice_get ks d Idle

apart : (c d : ℕ) → 1 ≤ c → 1 ≤ d → (d ≡ c → ⊥) → d - 1 ≢ c - 1
apart c d low high other e = other (omega (arith, low, high, e))

others_stay : (m : Machine) (c : ℕ) (k : Connection) → 1 ≤ c → (d : ℕ) → 1 ≤ d → (d ≡ c → ⊥) → connection (with_connection m c k) d ≡ connection m d
others_stay m c k low d high other =
    at_place (slice_set m.connections (c - 1) k) (d - 1)
    ∙ (get_or-set_other m.connections (c - 1) (d - 1) k Idle (apart c d low high other) ∙ sym (at_place m.connections (d - 1)))

with_beside : (m : Machine) (c : ℕ) (k : Connection) → 1 ≤ c → IsBeside m c (with_connection m c k)
with_beside m c k low = record { others = others_stay m c k low; longer = omega arith; kept = λ i within. refl }

committed_at : (dbs : List Database) (i : ℕ) → unwrap_or (slice_get dbs i) [] ≡ get_or dbs i []
committed_at dbs i = unwrap_or-slice_get dbs i []

front_stays : (dbs : List Database) (db : Database) (i : ℕ) → i < length dbs → unwrap_or (slice_get (dbs ++ db ∷ []) i) [] ≡ unwrap_or (slice_get dbs i) []
front_stays dbs db i within = committed_at (dbs ++ db ∷ []) i ∙ (get_or_append_left dbs (db ∷ []) [] i within ∙ sym (committed_at dbs i))

commit_beside : (m : Machine) (c : ℕ) (db : Database) → 1 ≤ c → IsBeside m c (after_commit m c db)
commit_beside m c db low = record { others = others_stay m c Idle low; longer = omega (arith, length-append m.history (db ∷ [])); kept = λ i within. front_stays m.history db i within }

fails_beside : (m new : Machine) (c : ℕ) → IsBeside m c new → IsBeside m c (fails new)
fails_beside m new c h = record { others = h.others; longer = h.longer; kept = h.kept }

doubt_beside : (m : Machine) (c : ℕ) (db : Database) → IsBeside m c (record (fails m) { in_doubt = Some db })
doubt_beside m c db = record { others = λ d low other. refl; longer = omega arith; kept = λ i within. refl }

-- ---- each outcome

-- where it goes on in a machine, the others are as they were there
abbrev pub Stays : Machine → ℕ → Outcome → Type 0
Stays m c (Gives rows m') = IsBeside m c m'
Stays m c (Bound db ch o) = Stays m c o
Stays m c _ = Unit {0}

given_stays : (m m' : Machine) (c : ℕ) (a : Checked (Answer (List (List Value)))) → IsBeside m c m' → Stays m c (given m' a)
given_stays m m' c (Meant a (r ∷ rs)) h = tt
given_stays m m' c (Meant (Err r) []) h = tt
given_stays m m' c (Meant (Ok rows) []) h = h

read_stays : (m : Machine) (c : ℕ) (q : Query) (k : Connection) → 1 ≤ c → Stays m c (read_outcome m c q k)
read_stays m c q Idle low = given_stays m m c _ (beside_itself m c)
read_stays m c q (InTransactionOf b ss NoSnapshot) low = given_stays m _ c _ (with_beside m c _ low)
read_stays m c q (InTransactionOf b ss (Reads i)) low = given_stays m m c _ (beside_itself m c)
read_stays m c q (InTransactionOf b ss (Writes i db)) low = given_stays m m c _ (beside_itself m c)

worked_stays : (m : Machine) (c : ℕ) (b : Bool) (ss : List SavepointState) (i : ℕ) (w : Work) → 1 ≤ c → Stays m c (worked m c b ss i w)
worked_stays m c b ss i (Makes db) low = with_beside m c _ low
worked_stays m c b ss i (IsRefused rs) low = tt
worked_stays m c b ss i (Binds db ch w) low = worked_stays m c b ss i w low

alone_stays : (m : Machine) (c : ℕ) (w : Work) → Stays m c (worked_alone w m)
alone_stays m c (Makes db) = tt
alone_stays m c (IsRefused rs) = tt
alone_stays m c (Binds db ch w) = alone_stays m c w

chosen_stays : (m : Machine) (c : ℕ) (b : Bool) (o p : Outcome) → Stays m c o → Stays m c p → Stays m c (cond b o p)
chosen_stays m c true o p h g = h
chosen_stays m c false o p h g = g

busy_stays : (m : Machine) (c : ℕ) (o : Outcome) → Stays m c o → Stays m c (unless_busy m c o)
busy_stays m c o h = chosen_stays m c (another is_writing m c) (RefusedBy (Busy ∷ [])) o tt h

write_stays : (m : Machine) (c : ℕ) (w : Database → Work) (k : Connection) → 1 ≤ c → Stays m c (write_outcome m c w k)
write_stays m c w Idle low = busy_stays m c (worked_alone (w (newest m)) m) (alone_stays m c (w (newest m)))
write_stays m c w (InTransactionOf b ss NoSnapshot) low = busy_stays m c (worked m c b ss (last_place m) (w (newest m))) (worked_stays m c b ss (last_place m) (w (newest m)) low)
write_stays m c w (InTransactionOf b ss (Reads i)) low =
    let o : Outcome = worked m c b ss i (w (committed m i)) in
    chosen_stays m c (i == last_place m) (unless_busy m c o) (RefusedBy (StaleSnapshot ∷ [])) (busy_stays m c o (worked_stays m c b ss i (w (committed m i)) low)) tt
write_stays m c w (InTransactionOf b ss (Writes i db)) low = worked_stays m c b ss i (w db) low

commit_stays : (m : Machine) (c : ℕ) (p : Phase) → 1 ≤ c → Stays m c (commit_outcome m c p)
commit_stays m c NoSnapshot low = with_beside m c Idle low
commit_stays m c (Reads i) low = with_beside m c Idle low
commit_stays m c (Writes i db) low = tt

released_stays : (m : Machine) (c : ℕ) (b : Bool) (p : Phase) (ss : List SavepointState) → 1 ≤ c → Stays m c (released m c b p ss)
released_stays m c b p [] low = tt
released_stays m c true p (s ∷ []) low = commit_stays m c p low
released_stays m c false p (s ∷ []) low = with_beside m c _ low
released_stays m c true p (s ∷ r ∷ ss) low = with_beside m c _ low
released_stays m c false p (s ∷ r ∷ ss) low = with_beside m c _ low

restored_stays : (m : Machine) (c : ℕ) (b : Bool) (p : Phase) (ss : List SavepointState) → 1 ≤ c → Stays m c (restored m c b p ss)
restored_stays m c b p [] low = tt
restored_stays m c b p (s ∷ ss) low = with_beside m c _ low

saved_stays : (m : Machine) (c : ℕ) (n : List ℕ) (k : Connection) → 1 ≤ c → Stays m c (saved m c n k)
saved_stays m c n Idle low = with_beside m c _ low
saved_stays m c n (InTransactionOf b ss p) low = chosen_stays m c (nat_lt 63 (length ss)) (RefusedBy (TooLong ∷ [])) _ tt (with_beside m c _ low)

begun_stays : (mode : BeginMode) (m : Machine) (c : ℕ) → 1 ≤ c → Stays m c (begun mode m c)
begun_stays begins.Deferred m c low = with_beside m c _ low
begun_stays begins.Immediate m c low = busy_stays m c _ (with_beside m c _ low)

control_stays : (s : Statement) (m : Machine) (c : ℕ) (k : Connection) → 1 ≤ c → Stays m c (control s m c k)
control_stays (statement.Begin mode) m c Idle low = begun_stays mode m c low
control_stays statement.Commit m c (InTransactionOf b ss p) low = commit_stays m c p low
control_stays (statement.Savepoint n) m c k low = saved_stays m c n k low
control_stays (statement.Release n) m c (InTransactionOf b ss p) low = released_stays m c b p (from_name n ss) low
control_stays (statement.RollbackTo n) m c (InTransactionOf b ss p) low = restored_stays m c b p (from_name n ss) low
control_stays statement.Rollback m c (InTransactionOf b ss p) low = with_beside m c Idle low
control_stays statement.Rollback m c Idle low = tt
control_stays (statement.Checkpoint mode) m c Idle low = tt
control_stays _ m c Idle low = tt
control_stays _ m c (InTransactionOf b ss p) low = tt

sorted_stays : (o : Sort) (s : Statement) (m : Machine) (c : ℕ) (k : Connection) → 1 ≤ c → Stays m c (sorted_outcome o s m c k)
sorted_stays (Querying q) s m c k low = read_stays m c q k low
sorted_stays (Writing w) s m c k low = write_stays m c w k low
sorted_stays Controlling s m c k low = control_stays s m c k low

outcome_stays : (m : Machine) (c : ℕ) (s : Statement) → 1 ≤ c → Stays m c (outcome m c s)
unfolding outcome
outcome_stays m c s low = sorted_stays (sort s) s m c (connection m c) low

-- ---- each answer

pub moved : (m new mid : Machine) (c : ℕ) → new ≡ mid → IsBeside m c mid → IsBeside m c new
moved m new mid c e h = subst (λ n. IsBeside m c n) (sym e) h

left_beside : (m : Machine) (c : ℕ) (r : Refusal) → 1 ≤ c → IsBeside m c (left_by m c r)
left_beside m c r low = by_way (either_way r)
  where
    by_way : IsPlain r ⊎ IsEnding r → IsBeside m c (left_by m c r)
    by_way (inl plain) = moved m (left_by m c r) m c (plain.left m c) (beside_itself m c)
    by_way (inr ends) = moved m (left_by m c r) (with_connection m c Idle) c (ap (left_by m c) ends.is) (with_beside m c Idle low)

allowed_stays : (m : Machine) (c : ℕ) (o : Outcome) (reply : Reply) (new : Machine) → 1 ≤ c → Stays m c o → Allowed m c o reply new → IsBeside m c new
allowed_stays m c (Gives rows m') reply new low k h = moved m new m' c h.1 k
allowed_stays m c (RefusedBy rs) reply new low k h = moved m new (left_by m c h.0) c h.3 (left_beside m c h.0 low)
allowed_stays m c (Commits alone db) (Rows rows) new low k h = either h.1
  where
    either : (new ≡ after_commit m c db) ⊎ (new ≡ fails (after_commit m c db)) → IsBeside m c new
    either (inl e) = moved m new (after_commit m c db) c e (commit_beside m c db low)
    either (inr e) = moved m new (fails (after_commit m c db)) c e (fails_beside m (after_commit m c db) c (commit_beside m c db low))
allowed_stays m c (Commits alone db) (Refused r) new low k h = either h.1
  where
    either : (new ≡ fails m) ⊎ (new ≡ record (fails m) { in_doubt = Some db }) → IsBeside m c new
    either (inl e) = moved m new (fails m) c e (fails_beside m m c (beside_itself m c))
    either (inr e) = moved m new (record (fails m) { in_doubt = Some db }) c e (doubt_beside m c db)
allowed_stays m c (Copies mode) (Rows rows) new low k (n, copied, le, e, same) = moved m new m c same (beside_itself m c)
allowed_stays m c (Copies mode) (Refused r) new low k h = moved m new (fails m) c h.1 (fails_beside m m c (beside_itself m c))
allowed_stays m c (Bound db ch o) reply new low k (inl h) = moved m new (left_by m c h.0) c h.3 (left_beside m c h.0 low)
allowed_stays m c (Bound db ch o) reply new low k (inr h) = allowed_stays m c o reply new low k h.1

instead_stays : (m : Machine) (c : ℕ) (o : Outcome) (reply : Reply) (new : Machine) → Instead m o reply new → IsBeside m c new
instead_stays m c o (Refused r) new h = moved m new m c h.1 (beside_itself m c)
instead_stays m c o (Rows rows) new h = absurd h

numbered : (c : ℕ) → is_connection c ≡ true → 1 ≤ c
numbered zero e = absurd (subst (λ b. cond b ⊥ (Unit {0})) e tt)
numbered (suc c) e = omega arith

pub others_stay_beside : LeavesOthers
others_stay_beside m c s reply new (inl h) = moved m new m c h.2 (beside_itself m c)
others_stay_beside m c s reply new (inr (inl h)) = moved m new m c h.3 (beside_itself m c)
others_stay_beside m c s reply new (inr (inr (f, is, inl h))) = allowed_stays m c (outcome m c s) reply new (numbered c is) (outcome_stays m c s (numbered c is)) h
others_stay_beside m c s reply new (inr (inr (f, is, inr h))) = instead_stays m c (outcome m c s) reply new h
