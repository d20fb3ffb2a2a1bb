-- SAVEPOINT, RELEASE and ROLLBACK TO are steps of the machine.
use Rattle.std.proofs.Common.{◌≡◌, ◌⊎◌, ◌<◌, inl, inr, refl, sym, ap, subst, ◌∙◌, ℕ, ◌+◌, ◌==◌, Bool, true, false, List, [], ◌∷◌, length, take, ◌++◌, Option, Some, None, arith}
use Rattle.std.proofs.lemmas.Bool.{false≢true}
use Rattle.std.proofs.lemmas.Bool.Decides.{nat_tests}
use Rattle.std.proofs.lemmas.List.{length-map, length-take-le}
use Rattle.std.specs.List.{list_any}
use Rattle.std.specs.Prelude.{◌&&◌, ⊤, IfErr, OnOk, Result, Ok, Err, if◌then◌else◌, map, nat_lt, unwrap_or}
use Rattle.disk.specs.declared.device.Disk.{Ghosts}
use Rattle.sqlval.specs.Names.{folded, is_same_name}
use Rattle.sqlval.specs.Refusals as refusal
use Rattle.sqlval.specs.Refusals.{Refusal, NoSavepoint, TooLong, refusal_of}
use Rattle.sqlval.specs.declared.fault.Fault.{Fault}
use Rattle.sqlval.specs.declared.fault.Fault.TheVariants as fault
use Rattle.sql_syntax.specs.declared.statement.Statement.{Statement}
use Rattle.sql_syntax.specs.declared.statement.Statement.TheVariants as statement
use Rattle.wal.specs.declared.log.Log.{Log}
use Rattle.catalog.specs.Database.{Name, Database}
use Rattle.pager.specs.Marks.{marks_of}
use Rattle.pager.specs.Views.{Tells}
use Rattle.pager.specs.declared.writer.Writer.{Writer}
use Rattle.session.specs.ConnectionState.{files_of}
use Rattle.session.specs.Machine.{Machine, Connection, Idle, InTransactionOf, NoSnapshot, Phase, Reads, SavepointState, Writes, Rows, Refused, is_writing, last_place, newest, with_connection}
use Rattle.session.specs.Outcomes.{Outcome, Gives, RefusedBy, answered, back_to, left_by, commit_outcome, from_name, outcome, released, restored, saved}
use Rattle.session.specs.Representation.{CommitsBy, IsReadingIn, IsTransaction, IsWritingIn, RepresentsRunning, ShowTheSame, StepsOn, StepsTo, beside_in, done_reply, is_idle, is_reading}
use Rattle.session.specs.SavedTables.{AddsSavepoint, GoesBackTo, HasNoSavepoints, HasRoom, IsNewestNamed, KeepsTables, ReleasesFrom, SavedTables, Savepoints, current_in, names_in, savepoints_in}
use Rattle.session.specs.Saving.{AddsMark, AreSaved, GoesBackToMark, IsOfName, KeepsWriter, OnWriter, ReleasesMarks, SavedAs, in_transaction, states_of}
use Rattle.session.specs.declared.savepoints.SavedCatalogs.{SavedCatalogs}
use Rattle.session.specs.declared.transactions.Connections.{Connections}
use Rattle.session.specs.declared.seats.Transaction.{Transaction}
use Rattle.session.specs.declared.seats.Transaction.TheVariants as transaction
use Rattle.session.proofs.Beginning.{none_where_idle}
use Rattle.session.proofs.ReadingPhases.{ReadsIn, reads_in}
use Rattle.session.proofs.SavedPoints.{reading_adds, reading_takes, saved_count, saved_names_are, states_count, tables_at, unwritten, writing_adds, writing_goes_back, writing_keeps, writing_releases}
use Rattle.session.proofs.SavedStates.{FromPlace, all_map, from_place, states_none}
use Rattle.session.proofs.Settled.{as_shown, crash_keeps, not_longer}
use Rattle.session.proofs.Showing.{IsLone, idle_first, lone_still, moved, stays, still_transaction, the_same}
use Rattle.session.proofs.Stepping.{by_outcome, commit_outcome_of, instead, release_outcome, return_outcome, savepoint_outcome}
use Rattle.session.proofs.Writing.{other_catalog}

-- ---- the machine

-- a savepoint beside those that there are
abbrev saves : Machine → ℕ → Name → Bool → List SavepointState → Option Database → Phase → Outcome
saves m i n b ss working phase = if nat_lt 63 (length ss) then RefusedBy (TooLong ∷ []) else Gives [] (with_connection m i (InTransactionOf b (record { name = folded n; working = working } ∷ ss) phase))

released_on : (m : Machine) (i : ℕ) (b : Bool) (p : Phase) (s : SavepointState) (ss : List SavepointState) → (b ≡ true → ss ≡ [] → ⊥) → released m i b p (s ∷ ss) ≡ Gives [] (with_connection m i (InTransactionOf b ss p))
released_on m i true p s [] open_still = absurd (open_still refl refl)
released_on m i false p s [] open_still = refl
released_on m i true p s (r ∷ ss) open_still = refl
released_on m i false p s (r ∷ ss) open_still = refl

back_writes : (m : Machine) (working : Option Database) (db : Database) → back_to m working (Writes (last_place m) db) ≡ Writes (last_place m) (unwrap_or working (newest m))
back_writes m (Some was) db = refl
back_writes m None db = refl

-- no savepoint is the first where others stand before it
some_before : {Kept : Type 0} (points : List (SavedAs Kept)) (place : ℕ) → place < length points → states_of (take place points) ≡ [] → place ≡ 0
some_before points place within none = sym (length-take-le place points (omega (arith, within))) ∙ sym (states_count (take place points)) ∙ ap length none

empty_place : (n : Name) (ns : List Name) (place : ℕ) → ns ≡ [] → IsNewestNamed n ns place → ⊥
empty_place n ns place none is = absurd (omega (arith, is.within, ap length none))

pub both_so : (place : ℕ) (began : Bool) → (place == 0 && began) ≡ true → (place ≡ 0) × (began ≡ true)
both_so place true is = (grind (arith, nat_tests), refl)
both_so place false is = absurd (false≢true (and_false (place == 0) ∙ is))
  where
    and_false : (b : Bool) → false ≡ (b && false)
    and_false true = refl
    and_false false = refl

not_first : (place : ℕ) (began : Bool) → (place == 0 && began) ≡ false → began ≡ true → place ≡ 0 → ⊥
not_first place began none began_it first = false≢true (sym none ∙ ap (λ n. n == 0 && began) first ∙ began_it)

room_is : {Kept : Type 0} {P : SavedAs Kept → Type 0} (catalog : SavedCatalogs) (points : List (SavedAs Kept)) (b : Bool) → AreSaved P catalog points → nat_lt 63 (length (savepoints_in catalog).points) ≡ b → nat_lt 63 (length (states_of points)) ≡ b
room_is catalog points b saved is = ap (nat_lt 63) (states_count points ∙ sym (saved_count catalog points saved)) ∙ is

none_from : {Kept : Type 0} {P : SavedAs Kept → Type 0} (catalog : SavedCatalogs) (n : Name) (points : List (SavedAs Kept)) → ((p : SavedAs Kept) → P p → IsOfName p) → AreSaved P catalog points → list_any (λ other. is_same_name other n) (names_in catalog) ≡ false → from_name n (states_of points) ≡ []
none_from {P = P} catalog n points named saved none = states_none n points (all_map P IsOfName points named saved.hold) (ap (list_any (λ other. is_same_name other n)) (sym (saved_names_are catalog points saved)) ∙ none)

found : {Kept : Type 0} {P : SavedAs Kept → Type 0} (catalog : SavedCatalogs) (n : Name) (points : List (SavedAs Kept)) (place : ℕ) → ((p : SavedAs Kept) → P p → IsOfName p) → AreSaved P catalog points → IsNewestNamed n (names_in catalog) place → FromPlace n points place P
found catalog n points place named saved named_here = from_place n points place named saved.hold (subst (λ (ns : List Name). IsNewestNamed n ns place) (saved_names_are catalog points saved) named_here)

within_of : {Kept : Type 0} {P : SavedAs Kept → Type 0} (catalog : SavedCatalogs) (n : Name) (points : List (SavedAs Kept)) (place : ℕ) → AreSaved P catalog points → IsNewestNamed n (names_in catalog) place → place < length points
within_of catalog n points place saved named_here = omega (arith, named_here.within, length-map (savepoints_in catalog).points (λ (s : SavedTables). s.name), saved_count catalog points saved)

module _ {D : Type 0} {g : Ghosts D} where
  -- the files are what they were
  pub record KeepsFiles (old new : Connections D g) : Type 0 where
    pub files : files_of new ≡ files_of old
    pub beside : beside_in new ≡ beside_in old

  same_files : (old new : Connections D g) → KeepsFiles old new → Tells (files_of old) → ShowTheSame (files_of old) (files_of new)
  same_files old new kept told = subst (ShowTheSame (files_of old)) (sym kept.files) (the_same (files_of old) told)

  -- a statement that is done leaves the machine with this connection
  done_step : (old new : Connections D g) (m : Machine) (shown : RepresentsRunning old m) (s : Statement) → (k : Connection) → IsLone m old.connection k → outcome m old.connection s ≡ Gives [] (with_connection m old.connection k)
      → KeepsFiles old new → IsTransaction (files_of old) new.catalog m.history new.transaction k → StepsTo old m s (Rows []) new
  done_step old new m shown s k lone comes kept is = record {
    next = with_connection m old.connection k;
    step = by_outcome m old.connection s shown.running shown.numbered (Gives [] (with_connection m old.connection k)) (Rows []) (with_connection m old.connection k) comes (refl, refl);
    shown = inr (moved old new m k shown (same_files old new kept shown.told) kept.beside lone (subst (λ (l : Log D g). IsTransaction l new.catalog m.history new.transaction k) (sym kept.files) is));
    crash = crash_keeps old new m (with_connection m old.connection k) shown (same_files old new kept shown.told);
    renewed = λ more. not_longer m.history more;
  }

  -- a refusal that leaves all as it was
  refused_step : (c : Connections D g) (m : Machine) (shown : RepresentsRunning c m) (s : Statement) → (r : Refusal) → outcome m c.connection s ≡ RefusedBy (r ∷ []) → StepsTo c m s (Refused r) c
  refused_step c m shown s r comes = record {
    next = m;
    step = by_outcome m c.connection s shown.running shown.numbered (RefusedBy (r ∷ [])) (Refused (answered r)) (left_by m c.connection r) comes (r, (0, omega arith, refl), refl, refl);
    shown = inr shown;
    crash = as_shown c m (inr shown);
    renewed = λ more. not_longer m.history more;
  }

  -- ---- SAVEPOINT

  reading_saves : (c : Connections D g) (m : Machine) (shown : RepresentsRunning c m) (n : Name) (t : Transaction) (r : ReadsIn (files_of c) c.catalog m c.connection t shown.present)
      → outcome m c.connection (statement.Savepoint n) ≡ saves m c.connection n (savepoints_in c.catalog).began (states_of r.first.points) None r.phase
  reading_saves c m shown n t r =
      savepoint_outcome n m c.connection (in_transaction c.catalog r.first.points r.phase) (shown.is ∙ r.first.is) ∙ r.is.saves (savepoints_in c.catalog).began (states_of r.first.points) n

  writing_saves : (c : Connections D g) (m : Machine) (shown : RepresentsRunning c m) (n : Name) (w : Writer) (is : IsWritingIn (files_of c) c.catalog m.history w shown.present)
      → outcome m c.connection (statement.Savepoint n) ≡ saves m c.connection n (savepoints_in c.catalog).began (states_of is.points) (Some is.db) (Writes (last_place m) is.db)
  writing_saves c m shown n w is = savepoint_outcome n m c.connection (in_transaction c.catalog is.points (Writes (last_place m) is.db)) (shown.is ∙ is.is)

  -- the 65th
  pub too_many : (c : Connections D g) (n : Name) → nat_lt 63 (length (savepoints_in c.catalog).points) ≡ true → StepsOn c (statement.Savepoint n) (Refused TooLong) c
  too_many c n full m shown = by_case c.transaction shown.transaction
    where
      other : Outcome
      other = RefusedBy (TooLong ∷ [])

      reading : (t : Transaction) → ReadsIn (files_of c) c.catalog m c.connection t shown.present → StepsTo c m (statement.Savepoint n) (Refused TooLong) c
      reading t r =
          let next = Gives [] (with_connection m c.connection (InTransactionOf (savepoints_in c.catalog).began (record { name = folded n; working = None } ∷ states_of r.first.points) r.phase)) in
          refused_step c m shown (statement.Savepoint n) TooLong (reading_saves c m shown n t r ∙ ap (λ b. if b then other else next) (room_is c.catalog r.first.points true r.first.saved full))

      by_case : (t : Transaction) → IsTransaction (files_of c) c.catalog m.history t shown.present → StepsTo c m (statement.Savepoint n) (Refused TooLong) c
      by_case transaction.Idle is = absurd (false≢true (sym (ap (λ (s : Savepoints). nat_lt 63 (length s.points)) is.2) ∙ full))
      by_case transaction.Begun is = reading transaction.Begun (reads_in (files_of c) c.catalog m c.connection transaction.Begun shown.present refl is)
      by_case (transaction.Reading s) is = reading (transaction.Reading s) (reads_in (files_of c) c.catalog m c.connection (transaction.Reading s) shown.present refl is)
      by_case (transaction.Writing w) is =
          let next = Gives [] (with_connection m c.connection (InTransactionOf (savepoints_in c.catalog).began (record { name = folded n; working = Some is.db } ∷ states_of is.points) (Writes (last_place m) is.db))) in
          refused_step c m shown (statement.Savepoint n) TooLong (writing_saves c m shown n w is ∙ ap (λ b. if b then other else next) (room_is c.catalog is.points true is.saved full))

  -- out of memory, with all as it was
  pub out_of_memory : (old new : Connections D g) (s : Statement) → (m : Machine) → RepresentsRunning old m → KeepsFiles old new → RepresentsRunning new m → StepsTo old m s (Refused refusal.Memory) new
  out_of_memory old new s m shown kept still = record {
    next = m;
    step = instead m old.connection s shown.running shown.numbered (outcome m old.connection s) (Refused refusal.Memory) refl (inl refl, refl);
    shown = inr still;
    crash = crash_keeps old new m m shown (same_files old new kept shown.told);
    renewed = λ more. not_longer m.history more;
  }

  -- the connections show what they showed
  pub still_so : (old new : Connections D g) (m : Machine) → RepresentsRunning old m → KeepsFiles old new → KeepsTables old.catalog new.catalog → new.transaction ≡ old.transaction → RepresentsRunning new m
  still_so old new m shown kept keeps same =
      let files = same_files old new kept shown.told in
      stays old new m shown files kept.beside
      (subst (λ (t : Transaction). IsTransaction (files_of new) new.catalog m.history t shown.present) (sym same)
      (other_catalog (files_of new) old.catalog new.catalog m old.transaction shown.present keeps.committed keeps.current keeps.savepoints
      (still_transaction (files_of old) (files_of new) old.catalog m.history old.transaction shown.present files shown.transaction)))

  pub still_writing_so : (old new : Connections D g) (m : Machine) (w v : Writer) → RepresentsRunning old m → KeepsFiles old new → KeepsTables old.catalog new.catalog → old.transaction ≡ transaction.Writing w → new.transaction ≡ transaction.Writing v → KeepsWriter w v → RepresentsRunning new m
  still_writing_so old new m w v shown kept keeps was now writer =
      stays old new m shown (same_files old new kept shown.told) kept.beside
      (subst (λ (t : Transaction). IsTransaction (files_of new) new.catalog m.history t shown.present) (sym now)
      (subst (λ (l : Log D g). IsWritingIn l new.catalog m.history v shown.present) (sym kept.files)
      (writing_keeps (files_of old) old.catalog new.catalog m w v shown.present keeps writer
      (subst (λ (t : Transaction). IsTransaction (files_of old) old.catalog m.history t shown.present) was shown.transaction))))

  -- a savepoint that begins a transaction
  pub saved_first : (old new : Connections D g) (n : Name) → is_idle old.transaction ≡ true → KeepsFiles old new → AddsSavepoint n true old.catalog new.catalog → new.transaction ≡ transaction.Begun → StepsOn old (statement.Savepoint n) (Rows []) new
  saved_first old new n idle kept adds now m shown =
      let none = none_where_idle old m old.transaction shown.present shown.transaction idle in
      let k = idle_first (files_of old) old.catalog m old.transaction shown.present shown.transaction idle in
      let p = unwritten n (current_in old.catalog) in
      let next = InTransactionOf true (p.state ∷ []) NoSnapshot in
      let points : (savepoints_in new.catalog).points ≡ p.tables ∷ [] = ap (λ (s : Savepoints). s.points) adds.savepoints ∙ ap (λ (s : Savepoints). s.points ++ p.tables ∷ []) none.1 in
      let first : IsReadingIn new.catalog NoSnapshot next = record {
        points = p ∷ [];
        is = ap (λ (s : Savepoints). InTransactionOf s.began (p.state ∷ []) NoSnapshot) (sym adds.savepoints);
        all = adds.current ∙ none.0 ∙ sym adds.committed;
        saved = record { tables = points; hold = (record { named = refl; working = refl; tables = none.0 ∙ sym adds.committed }, tt) };
      } in
      done_step old new m shown (statement.Savepoint n) next (inl refl) (savepoint_outcome n m old.connection Idle (shown.is ∙ k)) kept
      (subst (λ (t : Transaction). IsTransaction (files_of old) new.catalog m.history t next) (sym now) first)

  -- one in a transaction that hasn't written
  pub saved_reading : (old new : Connections D g) (n : Name) → is_reading old.transaction ≡ true → HasRoom old.catalog → KeepsFiles old new → AddsSavepoint n (savepoints_in old.catalog).began old.catalog new.catalog → new.transaction ≡ old.transaction
      → StepsOn old (statement.Savepoint n) (Rows []) new
  saved_reading old new n reads room kept adds same m shown =
      let r = reads_in (files_of old) old.catalog m old.connection old.transaction shown.present reads shown.transaction in
      let b = (savepoints_in old.catalog).began in
      let next = InTransactionOf b (record { name = folded n; working = None } ∷ states_of r.first.points) r.phase in
      done_step old new m shown (statement.Savepoint n) next (inl (r.is.no_writer b (record { name = folded n; working = None } ∷ states_of r.first.points)))
      (reading_saves old m shown n old.transaction r ∙ ap (λ t. if t then RefusedBy (TooLong ∷ []) else Gives [] (with_connection m old.connection next)) (room_is old.catalog r.first.points false r.first.saved room)) kept
      (subst (λ (t : Transaction). IsTransaction (files_of old) new.catalog m.history t next) (sym same) (r.stays new.catalog next adds.committed (reading_adds old.catalog new.catalog n r.phase shown.present r.first b adds)))

  -- one in a transaction that has written
  pub saved_writing : (old new : Connections D g) (n : Name) (w v : Writer) → old.transaction ≡ transaction.Writing w → HasRoom old.catalog → KeepsFiles old new → AddsSavepoint n (savepoints_in old.catalog).began old.catalog new.catalog
      → new.transaction ≡ transaction.Writing v → AddsMark w v → StepsOn old (statement.Savepoint n) (Rows []) new
  saved_writing old new n w v was room kept adds now marks m shown =
      let is = subst (λ (t : Transaction). IsTransaction (files_of old) old.catalog m.history t shown.present) was shown.transaction in
      let next = InTransactionOf (savepoints_in old.catalog).began (record { name = folded n; working = Some is.db } ∷ states_of is.points) (Writes (last_place m) is.db) in
      done_step old new m shown (statement.Savepoint n) next (inr (lone_still old m shown (ap is_writing is.is)))
      (writing_saves old m shown n w is ∙ ap (λ t. if t then RefusedBy (TooLong ∷ []) else Gives [] (with_connection m old.connection next)) (room_is old.catalog is.points false is.saved room)) kept
      (subst (λ (t : Transaction). IsTransaction (files_of old) new.catalog m.history t next) (sym now) (writing_adds (files_of old) old.catalog new.catalog m w v n shown.present is adds marks))

  -- by what adding it has come to
  pub saves_reading : (old new : Connections D g) (n : Name) (result : Result ⊤ Fault) → is_reading old.transaction ≡ true → HasRoom old.catalog → KeepsFiles old new → OnOk result (AddsSavepoint n (savepoints_in old.catalog).began old.catalog new.catalog)
      → IfErr result (λ f. (f ≡ fault.Memory) × KeepsTables old.catalog new.catalog) → new.transaction ≡ old.transaction → StepsOn old (statement.Savepoint n) (done_reply result) new
  saves_reading old new n (Ok done) reads room kept adds short same m shown = saved_reading old new n reads room kept adds same m shown
  saves_reading old new n (Err f) reads room kept adds short same m shown =
      subst (λ (e : Fault). StepsTo old m (statement.Savepoint n) (Refused (refusal_of e)) new) (sym short.0) (out_of_memory old new (statement.Savepoint n) m shown kept (still_so old new m shown kept short.1 same))

  pub saves_writing : (old new : Connections D g) (n : Name) (w v : Writer) (result : Result ⊤ Fault) → old.transaction ≡ transaction.Writing w → HasRoom old.catalog → KeepsFiles old new → OnOk result (AddsSavepoint n (savepoints_in old.catalog).began old.catalog new.catalog)
      → OnOk result (AddsMark w v) → IfErr result (λ f. (f ≡ fault.Memory) × KeepsTables old.catalog new.catalog × KeepsWriter w v) → new.transaction ≡ transaction.Writing v → StepsOn old (statement.Savepoint n) (done_reply result) new
  saves_writing old new n w v (Ok done) was room kept adds marks short now m shown = saved_writing old new n w v was room kept adds now marks m shown
  saves_writing old new n w v (Err f) was room kept adds marks short now m shown =
      subst (λ (e : Fault). StepsTo old m (statement.Savepoint n) (Refused (refusal_of e)) new) (sym short.0) (out_of_memory old new (statement.Savepoint n) m shown kept (still_writing_so old new m w v shown kept short.1 was now short.2))

  -- ---- no savepoint of the name

  -- what the first connection is, in a transaction
  record InAny (c : Connections D g) (m : Machine) (k : Connection) (n : Name) : Type 0 where
    pub began : Bool
    pub states : List SavepointState
    pub phase : Phase
    pub is : k ≡ InTransactionOf began states phase
    pub none : from_name n states ≡ []

  no_savepoint : (c : Connections D g) (n : Name) → list_any (λ other. is_same_name other n) (names_in c.catalog) ≡ false → (m : Machine) (shown : RepresentsRunning c m) → (shown.present ≡ Idle) ⊎ InAny c m shown.present n
  no_savepoint c n none m shown = by_case c.transaction shown.transaction
    where
      reading : (t : Transaction) → ReadsIn (files_of c) c.catalog m c.connection t shown.present → InAny c m shown.present n
      reading t r = record { began = (savepoints_in c.catalog).began; states = states_of r.first.points; phase = r.phase; is = r.first.is; none = none_from c.catalog n r.first.points (λ p is. is.named) r.first.saved none }

      by_case : (t : Transaction) → IsTransaction (files_of c) c.catalog m.history t shown.present → (shown.present ≡ Idle) ⊎ InAny c m shown.present n
      by_case transaction.Idle is = inl is.0
      by_case transaction.Begun is = inr (reading transaction.Begun (reads_in (files_of c) c.catalog m c.connection transaction.Begun shown.present refl is))
      by_case (transaction.Reading s) is = inr (reading (transaction.Reading s) (reads_in (files_of c) c.catalog m c.connection (transaction.Reading s) shown.present refl is))
      by_case (transaction.Writing w) is = inr (record { began = (savepoints_in c.catalog).began; states = states_of is.points; phase = Writes (last_place m) is.db; is = is.is; none = none_from c.catalog n is.points (λ p has. has.named) is.saved none })

  pub none_to_release : (c : Connections D g) (n : Name) → list_any (λ other. is_same_name other n) (names_in c.catalog) ≡ false → StepsOn c (statement.Release n) (Refused NoSavepoint) c
  none_to_release c n none m shown = elim (no_savepoint c n none m shown) [
    | inl idle ↦ refused_step c m shown (statement.Release n) NoSavepoint (release_outcome n m c.connection Idle (shown.is ∙ idle))
    | inr in_any ↦ refused_step c m shown (statement.Release n) NoSavepoint
        (release_outcome n m c.connection (InTransactionOf in_any.began in_any.states in_any.phase) (shown.is ∙ in_any.is) ∙ ap (released m c.connection in_any.began in_any.phase) in_any.none)
  ]

  pub none_to_go_back : (c : Connections D g) (n : Name) → list_any (λ other. is_same_name other n) (names_in c.catalog) ≡ false → StepsOn c (statement.RollbackTo n) (Refused NoSavepoint) c
  none_to_go_back c n none m shown = elim (no_savepoint c n none m shown) [
    | inl idle ↦ refused_step c m shown (statement.RollbackTo n) NoSavepoint (return_outcome n m c.connection Idle (shown.is ∙ idle))
    | inr in_any ↦ refused_step c m shown (statement.RollbackTo n) NoSavepoint
        (return_outcome n m c.connection (InTransactionOf in_any.began in_any.states in_any.phase) (shown.is ∙ in_any.is) ∙ ap (restored m c.connection in_any.began in_any.phase) in_any.none)
  ]

  -- ---- RELEASE and ROLLBACK TO

  no_place : (c : Connections D g) (n : Name) (place : ℕ) → HasNoSavepoints c.catalog → IsNewestNamed n (names_in c.catalog) place → ⊥
  no_place c n place none named_here = empty_place n (names_in c.catalog) place (ap (λ (s : Savepoints). map (λ (p : SavedTables). p.name) s.points) none) named_here

  -- the oldest savepoint of a transaction that it began: RELEASE comes to what COMMIT comes to
  pub release_commits : (c : Connections D g) (n : Name) (place : ℕ) → IsNewestNamed n (names_in c.catalog) place → place ≡ 0 → (savepoints_in c.catalog).began ≡ true → CommitsBy c (statement.Release n)
  release_commits c n place named_here first began m shown = by_case m shown c.transaction shown.transaction
    where
      comes : (m : Machine) (p : Phase) (s : SavepointState) (b : Bool) (ss : List SavepointState) → b ≡ true → ss ≡ [] → released m c.connection b p (s ∷ ss) ≡ commit_outcome m c.connection p
      comes m p s true [] b none = refl
      comes m p s true (r ∷ ss) b none = absurd cc
      comes m p s false ss b none = absurd (false≢true b)

      in_either : {Kept : Type 0} {P : SavedAs Kept → Type 0} (m : Machine) (shown : RepresentsRunning c m) (points : List (SavedAs Kept)) (phase : Phase) → ((p : SavedAs Kept) → P p → IsOfName p) → AreSaved P c.catalog points → shown.present ≡ in_transaction c.catalog points phase
          → outcome m c.connection (statement.Release n) ≡ outcome m c.connection statement.Commit
      in_either m shown points phase named saved is =
          let k = shown.is ∙ is in
          let at = found c.catalog n points place named saved named_here in
          release_outcome n m c.connection (in_transaction c.catalog points phase) k
          ∙ ap (released m c.connection (savepoints_in c.catalog).began phase) at.is
          ∙ comes m phase at.at.item.state (savepoints_in c.catalog).began (states_of (take place points)) began (ap (λ i. states_of (take i points)) first)
          ∙ sym (commit_outcome_of m c.connection (in_transaction c.catalog points phase) k)

      by_case : (m : Machine) (shown : RepresentsRunning c m) (t : Transaction) → IsTransaction (files_of c) c.catalog m.history t shown.present → outcome m c.connection (statement.Release n) ≡ outcome m c.connection statement.Commit
      by_case m shown transaction.Idle is = absurd (no_place c n place is.2 named_here)
      by_case m shown transaction.Begun is = in_either m shown is.points NoSnapshot (λ p has. has.named) is.saved is.is
      by_case m shown (transaction.Reading s) is = in_either m shown is.1.points (Reads is.0) (λ p has. has.named) is.1.saved is.1.is
      by_case m shown (transaction.Writing w) is = in_either m shown is.points (Writes (last_place m) is.db) (λ p has. has.named) is.saved is.is

  -- another savepoint
  pub released_step : (old new : Connections D g) (n : Name) (place : ℕ) → IsNewestNamed n (names_in old.catalog) place → (place == 0 && (savepoints_in old.catalog).began) ≡ false → KeepsFiles old new → ReleasesFrom place old.catalog new.catalog
      → OnWriter (λ w v. place < length (marks_of w) → ReleasesMarks place w v) old.transaction new.transaction → StepsOn old (statement.Release n) (Rows []) new
  released_step old new n place named_here other kept releases on m shown = by_case old.transaction shown.transaction on
    where
      b : Bool
      b = (savepoints_in old.catalog).began

      comes : {Kept : Type 0} {P : SavedAs Kept → Type 0} (points : List (SavedAs Kept)) (phase : Phase) → ((p : SavedAs Kept) → P p → IsOfName p) → AreSaved P old.catalog points → shown.present ≡ in_transaction old.catalog points phase
          → outcome m old.connection (statement.Release n) ≡ Gives [] (with_connection m old.connection (in_transaction old.catalog (take place points) phase))
      comes points phase named saved is =
          let at = found old.catalog n points place named saved named_here in
          release_outcome n m old.connection (in_transaction old.catalog points phase) (shown.is ∙ is)
          ∙ ap (released m old.connection b phase) at.is
          ∙ released_on m old.connection b phase at.at.item.state (states_of (take place points)) (λ began none. not_first place b other began (some_before points place (within_of old.catalog n points place saved named_here) none))

      reading : (t : Transaction) → new.transaction ≡ t → ReadsIn (files_of old) old.catalog m old.connection t shown.present → StepsTo old m (statement.Release n) (Rows []) new
      reading t now r =
          let k = in_transaction old.catalog (take place r.first.points) r.phase in
          done_step old new m shown (statement.Release n) k (inl (r.is.no_writer b (states_of (take place r.first.points)))) (comes r.first.points r.phase (λ p has. has.named) r.first.saved r.first.is) kept
          (subst (λ (t : Transaction). IsTransaction (files_of old) new.catalog m.history t k) (sym now)
          (r.stays new.catalog k releases.committed (reading_takes old.catalog new.catalog r.phase shown.present r.first place releases.committed (releases.current ∙ r.first.all) releases.savepoints)))

      by_case : (t : Transaction) → IsTransaction (files_of old) old.catalog m.history t shown.present → OnWriter (λ w v. place < length (marks_of w) → ReleasesMarks place w v) t new.transaction → StepsTo old m (statement.Release n) (Rows []) new
      by_case transaction.Idle is on = absurd (no_place old n place is.2 named_here)
      by_case transaction.Begun is on = reading transaction.Begun on (reads_in (files_of old) old.catalog m old.connection transaction.Begun shown.present refl is)
      by_case (transaction.Reading s) is on = reading (transaction.Reading s) on (reads_in (files_of old) old.catalog m old.connection (transaction.Reading s) shown.present refl is)
      by_case (transaction.Writing w) is on =
          let k = in_transaction old.catalog (take place is.points) (Writes (last_place m) is.db) in
          let within = within_of old.catalog n is.points place is.saved named_here in
          done_step old new m shown (statement.Release n) k (inr (lone_still old m shown (ap is_writing is.is))) (comes is.points (Writes (last_place m) is.db) (λ p has. has.named) is.saved is.is) kept
          (subst (λ (t : Transaction). IsTransaction (files_of old) new.catalog m.history t k) (sym on.1)
          (writing_releases (files_of old) old.catalog new.catalog m w on.0 place shown.present is releases (on.2 (omega (arith, within, ap length is.marks, length-map is.points (λ p. p.kept))))))

  pub returned_step : (old new : Connections D g) (n : Name) (place : ℕ) → IsNewestNamed n (names_in old.catalog) place → KeepsFiles old new → GoesBackTo place old.catalog new.catalog
      → OnWriter (λ w v. place < length (marks_of w) → GoesBackToMark place w v) old.transaction new.transaction → StepsOn old (statement.RollbackTo n) (Rows []) new
  returned_step old new n place named_here kept back on m shown = by_case old.transaction shown.transaction on
    where
      b : Bool
      b = (savepoints_in old.catalog).began

      comes : {Kept : Type 0} {P : SavedAs Kept → Type 0} (points : List (SavedAs Kept)) (phase next : Phase) (named : (p : SavedAs Kept) → P p → IsOfName p) (saved : AreSaved P old.catalog points) → shown.present ≡ in_transaction old.catalog points phase
          → back_to m (found old.catalog n points place named saved named_here).at.item.state.working phase ≡ next
          → outcome m old.connection (statement.RollbackTo n) ≡ Gives [] (with_connection m old.connection (in_transaction old.catalog (take (place + 1) points) next))
      comes points phase next named saved is to =
          let at = found old.catalog n points place named saved named_here in
          return_outcome n m old.connection (in_transaction old.catalog points phase) (shown.is ∙ is)
          ∙ ap (restored m old.connection b phase) at.is
          ∙ ap (λ p. Gives [] (with_connection m old.connection (InTransactionOf b (at.at.item.state ∷ states_of (take place points)) p))) to
          ∙ ap (λ ss. Gives [] (with_connection m old.connection (InTransactionOf b ss next))) (sym at.stays)

      reading : (t : Transaction) → new.transaction ≡ t → ReadsIn (files_of old) old.catalog m old.connection t shown.present → StepsTo old m (statement.RollbackTo n) (Rows []) new
      reading t now r =
          let at = found old.catalog n r.first.points place (λ p has. has.named) r.first.saved named_here in
          let k = in_transaction old.catalog (take (place + 1) r.first.points) r.phase in
          let within = within_of old.catalog n r.first.points place r.first.saved named_here in
          let tables = back.current at.at.item.tables ∙ ap (λ (s : SavedTables). s.tables) (tables_at old.catalog r.first.points place at.at r.first.saved within) ∙ at.at.has.tables in
          done_step old new m shown (statement.RollbackTo n) k (inl (r.is.no_writer b (states_of (take (place + 1) r.first.points))))
          (comes r.first.points r.phase r.phase (λ p has. has.named) r.first.saved r.first.is (ap (λ working. back_to m working r.phase) at.at.has.working ∙ r.is.back)) kept
          (subst (λ (t : Transaction). IsTransaction (files_of old) new.catalog m.history t k) (sym now)
          (r.stays new.catalog k back.committed (reading_takes old.catalog new.catalog r.phase shown.present r.first (place + 1) back.committed tables back.savepoints)))

      by_case : (t : Transaction) → IsTransaction (files_of old) old.catalog m.history t shown.present → OnWriter (λ w v. place < length (marks_of w) → GoesBackToMark place w v) t new.transaction → StepsTo old m (statement.RollbackTo n) (Rows []) new
      by_case transaction.Idle is on = absurd (no_place old n place is.2 named_here)
      by_case transaction.Begun is on = reading transaction.Begun on (reads_in (files_of old) old.catalog m old.connection transaction.Begun shown.present refl is)
      by_case (transaction.Reading s) is on = reading (transaction.Reading s) on (reads_in (files_of old) old.catalog m old.connection (transaction.Reading s) shown.present refl is)
      by_case (transaction.Writing w) is on =
          let at = found old.catalog n is.points place (λ p has. has.named) is.saved named_here in
          let next = Writes (last_place m) (unwrap_or at.at.item.state.working (newest m)) in
          let k = in_transaction old.catalog (take (place + 1) is.points) next in
          let within = within_of old.catalog n is.points place is.saved named_here in
          done_step old new m shown (statement.RollbackTo n) k (inr (lone_still old m shown (ap is_writing is.is)))
          (comes is.points (Writes (last_place m) is.db) next (λ p has. has.named) is.saved is.is (back_writes m at.at.item.state.working is.db)) kept
          (subst (λ (t : Transaction). IsTransaction (files_of old) new.catalog m.history t k) (sym on.1)
          (writing_goes_back (files_of old) old.catalog new.catalog m w on.0 place shown.present is at.at within back (on.2 (omega (arith, within, ap length is.marks, length-map is.points (λ p. p.kept))))))
