-- COMMIT is a step of the machine.
use Rattle.std.proofs.Common.{◌≡◌, ◌<◌, ◌≤◌, inl, inr, refl, sym, ap, subst, ◌∙◌, ℕ, ◌-◌, zero, suc, List, [], ◌∷◌, ◌++◌, length, Bool, true, false, arith}
use Rattle.std.proofs.lemmas.Bool.{false≢true}
use Rattle.std.specs.Prelude.{⊤, ◌||◌, not, Option, Result, Ok, Err, slice_set, unwrap_or}
use Rattle.std.specs.List.{list_any}
use Rattle.std.specs.Result.{is_err}
use Rattle.std.proofs.lemmas.List.{length-append}
use Rattle.disk.specs.declared.device.Disk.{Ghosts}
use Rattle.sqlval.specs.Refusals as refusal
use Rattle.sqlval.specs.Refusals.{Refusal, refusal_of}
use Rattle.sqlval.specs.declared.fault.Fault.{Fault}
use Rattle.sql_syntax.specs.declared.statement.Statement.{Statement}
use Rattle.catalog.specs.Database.{Database}
use Rattle.session.specs.SavedTables.{Savepoints, committed_in, current_in, savepoints_in}
use Rattle.session.specs.Saving.{in_transaction, states_of}
use Rattle.session.specs.declared.savepoints.SavedCatalogs.{SavedCatalogs}
use Rattle.wal.specs.LogState.{seen_by, state_of}
use Rattle.wal.specs.declared.log.Log.{Log}
use Rattle.pager.specs.Views.{Tells, View, newest_view, view_at, view_of}
use Rattle.pager.specs.declared.writer.Writer.{Writer}
use Rattle.session.specs.TooLong.{StepOrTooLong}
use Rattle.session.specs.Holding.{IsSettled}
use Rattle.session.specs.ConnectionState.{files_of}
use Rattle.session.specs.Machine.{Machine, Connection, Idle, InTransactionOf, Reply, Rows, Refused, Writes, another, connection, is_writing, last_place, newest, with_connection}
use Rattle.session.specs.Outcomes.{Commits, Gives, RefusedBy, outcome}
use Rattle.session.specs.Representation.{AreParked, Beside, CommitsBy, IsGivenUp, IsWritingIn, RepresentsRunning, IsTransaction, ShowTheSame, StepsOn, StepsTo, beside_in, committed_at, done_reply, is_idle, is_reading, newest_tables}
use Rattle.session.specs.Seats.{holds_snapshot, sees_snapshot}
use Rattle.session.specs.declared.seats.Seat.{Seat}
use Rattle.session.specs.Writers.{IsWriter}
use Rattle.session.specs.Steps.{Allowed, after_commit, fails, is_connection, is_free}
use Rattle.session.specs.Stored.{ShowsDatabase}
use Rattle.session.specs.Applying.{CommitsChanges, CommitsDatabase, CommitsThen, HoldsEither, IsCommitCause, IsInDoubt, IsUncommitted, KeepsSnapshots, CanApply}
use Rattle.session.specs.declared.transactions.Connections.{Connections}
use Rattle.session.specs.declared.seats.Transaction.{Transaction}
use Rattle.session.specs.declared.seats.Transaction.TheVariants as transaction
use Rattle.session.proofs.Answered.{free_is_plain}
use Rattle.session.proofs.EndedSteps.{plain_step}
use Rattle.session.proofs.CommitCrashes.{commit_crashes, doubt_left, doubt_crashes, doubted, last_is}
use Rattle.session.specs.Checkpoints.{CopiesAfter}
use Rattle.session.proofs.CheckpointSteps.{copied_after, renewed_after, then_steps}
use Rattle.session.proofs.Settled.{crash_keeps, not_longer}
use Rattle.session.proofs.Showing.{Begins, idle_first, in_range, lone_still, moved, stays, still_parked, still_saved, still_shown, the_same}
use Rattle.session.proofs.Parking.{get_set, one_set, set_length, set_twice}
use Rattle.session.proofs.Marked.{over_on}
use Rattle.session.proofs.ReadingPhases.{ReadsIn, reads_in}
use Rattle.session.proofs.Stepping.{by_outcome, commit_outcome_of, instead}
use Rattle.catalog.specs.Listed.{Listed}

-- a committed database is where it was
longer : (history : List Database) (db : Database) (i : ℕ) → i < length history → committed_at (history ++ db ∷ []) i ≡ committed_at history i
longer [] db i within = absurd (omega (arith, within))
longer (d ∷ history) db zero within = refl
longer (d ∷ history) db (suc i) within = longer history db i (omega (arith, within))

any_after : (p q : Bool) → q ≡ true → (p || q) ≡ true
any_after true q is = refl
any_after false q is = is

none_after : (p q : Bool) → (p || q) ≡ false → (p ≡ false) × (q ≡ false)
none_after true q none = absurd (false≢true (sym none))
none_after false q none = (refl, none)

module _ {D : Type 0} {g : Ghosts D} where
  -- ---- nothing to commit

  pub none_to_commit : (old new : Connections D g) (s : Statement) → CommitsBy old s → is_idle old.transaction ≡ true → Begins old new old.transaction → StepsOn old s (Refused refusal.NoTransaction) new
  none_to_commit old new s commits idle same m shown =
      let k = idle_first (files_of old) old.catalog m old.transaction shown.present shown.transaction idle in
      let is = commits m shown ∙ commit_outcome_of m old.connection Idle (shown.is ∙ k) in
      record {
        next = m;
        step = by_outcome m old.connection s shown.running shown.numbered (RefusedBy (refusal.NoTransaction ∷ [])) (Refused refusal.NoTransaction) m is (refusal.NoTransaction, (0, omega arith, refl), refl, refl);
        shown = inr (still_shown old new m shown (subst (ShowTheSame (files_of old)) (sym same.files) (the_same (files_of old) shown.told)) same.beside same.catalog same.now);
        crash = crash_keeps old new m m shown (subst (ShowTheSame (files_of old)) (sym same.files) (the_same (files_of old) shown.told));
        renewed = λ more. not_longer m.history more;
      }

  -- a transaction that has written nothing ends
  pub ended_reading : (old new : Connections D g) (s : Statement) → CommitsBy old s → is_reading old.transaction ≡ true → IsGivenUp old new → StepsOn old s (Rows []) new
  ended_reading old new s commits reads ends m shown = record {
    next = with_connection m old.connection Idle;
    step = by_outcome m old.connection s shown.running shown.numbered (Gives [] (with_connection m old.connection Idle)) (Rows []) (with_connection m old.connection Idle) is (refl, refl);
    shown = inr (moved old new m Idle shown (subst (ShowTheSame (files_of old)) (sym ends.files) (the_same (files_of old) shown.told)) ends.beside (inl refl)
        (subst (λ (t : Transaction). IsTransaction (files_of new) new.catalog m.history t Idle) (sym ends.idle) (refl, ends.all, ends.savepoints)));
    crash = crash_keeps old new m (with_connection m old.connection Idle) shown (subst (ShowTheSame (files_of old)) (sym ends.files) (the_same (files_of old) shown.told));
    renewed = λ more. not_longer m.history more;
  }
    where
      r : ReadsIn (files_of old) old.catalog m old.connection old.transaction shown.present
      r = reads_in (files_of old) old.catalog m old.connection old.transaction shown.present reads shown.transaction

      is : outcome m old.connection s ≡ Gives [] (with_connection m old.connection Idle)
      is = commits m shown ∙ commit_outcome_of m old.connection (in_transaction old.catalog r.first.points r.phase) (shown.is ∙ r.first.is) ∙ r.is.commits

  -- ---- what a commit shows

  -- what another connection reads, it reads still
  older_parked : (old new : Log D g) (history : List Database) (db : Database) (catalog : SavedCatalogs) (t : Transaction) (k : Connection) → (sees_snapshot t ≡ true → KeepsSnapshots old new) → 1 ≤ length history → is_writing k ≡ false
      → IsTransaction old catalog history t k → IsTransaction new catalog (history ++ db ∷ []) t k
  older_parked old new history db catalog transaction.Idle k keeps some not is = is
  older_parked old new history db catalog transaction.Begun k keeps some not is = is
  older_parked old new history db catalog (transaction.Reading s) k keeps some not is =
      let within : (is.0 < length history) × (seen_by s ≤ (state_of old).frames) = elim is.2.age [
        | inl last ↦ (omega (arith, some, last.0), omega (arith, last.1.seen))
        | inr before ↦ (omega (arith, before.0), omega (arith, before.1))
      ] in (
        is.0,
        is.1,
        record {
          shows = subst (λ (v : View). ShowsDatabase v (committed_in catalog) (committed_at (history ++ db ∷ []) is.0)) (sym ((keeps refl).at s within.1))
              (subst (λ (d : Database). ShowsDatabase (view_at old s) (committed_in catalog) d) (sym (longer history db is.0 within.0)) is.2.shows);
          age = inr (omega (arith, within.0, length-append history (db ∷ [])), omega (arith, within.1, (keeps refl).more));
        },
      )
  older_parked old new history db catalog (transaction.Writing w) k keeps some not is = absurd (false≢true (sym not ∙ ap is_writing is.is))

  all_older : (old new : Log D g) (history : List Database) (db : Database) (ss : List Seat) (ks : List Connection) → (list_any holds_snapshot ss ≡ true → KeepsSnapshots old new) → 1 ≤ length history → list_any is_writing ks ≡ false
      → AreParked old history ss ks → AreParked new (history ++ db ∷ []) ss ks
  all_older old new history db [] [] keeps some not are = tt
  all_older old new history db [] (k ∷ ks) keeps some not are = absurd are
  all_older old new history db (s ∷ ss) [] keeps some not are = absurd are
  all_older old new history db (s ∷ ss) (k ∷ ks) keeps some not are =
      let none = none_after (is_writing k) (list_any is_writing ks) not in (
        older_parked old new history db s.catalog s.transaction k (λ sees. keeps (ap (λ (b : Bool). b || list_any holds_snapshot ss) sees)) some none.0 are.0,
        all_older old new history db ss ks (λ others. keeps (any_after (holds_snapshot s) (list_any holds_snapshot ss) others)) some none.1 are.1,
      )

  pub committed_shown : (old before new : Connections D g) (m : Machine) (shown : RepresentsRunning old m) (made : Database) → ShowTheSame (files_of old) (files_of before) → beside_in before ≡ beside_in old → CommitsDatabase before made new
      → new.transaction ≡ transaction.Idle → another is_writing m old.connection ≡ false → RepresentsRunning new (after_commit m old.connection made)
  committed_shown old before new m shown made same beside has idle free = record {
    running = shown.running;
    sure = shown.sure;
    whole = has.failed ∙ ap (λ (b : Beside). b.failed) beside ∙ shown.whole;
    told = has.told;
    settled = has.settled;
    some = omega (arith, length-append m.history (made ∷ []));
    stored = subst (ShowsDatabase (newest_view (files_of new)) (newest_tables new)) (sym (last_is m.history made)) has.stored;
    sixteen = set_length m.connections (old.connection - 1) Idle ∙ shown.sixteen;
    numbered = ap is_connection place ∙ shown.numbered;
    present = Idle;
    is = ap (λ n. connection (after_commit m old.connection made) n) place ∙ ap (λ (x : Option Connection). unwrap_or x Idle) (get_set m.connections (old.connection - 1) Idle (in_range old.connection m shown.sixteen shown.numbered));
    transaction = subst (λ (t : Transaction). IsTransaction (files_of new) new.catalog (after_commit m old.connection made).history t Idle) (sym idle) (refl, has.all, has.savepoints);
    parked = subst (AreParked (files_of new) (m.history ++ made ∷ []) new.parked.items) set_over
        (subst (λ (ss : List Seat). AreParked (files_of new) (m.history ++ made ∷ []) ss (slice_set m.connections (old.connection - 1) Idle)) (sym (has.parked ∙ ap (λ (b : Beside). b.parked) beside))
        (all_older (files_of before) (files_of new) m.history made old.parked.items (slice_set m.connections (old.connection - 1) Idle)
        (λ others. has.older (ap not (ap (λ (b : Beside). list_any holds_snapshot b.parked) beside ∙ others))) shown.some free
        (still_parked (files_of old) (files_of before) m.history old.parked.items (slice_set m.connections (old.connection - 1) Idle) same shown.parked)));
    sole = one_set m.connections (old.connection - 1) Idle free;
  }
    where
      place : new.connection ≡ old.connection
      place = has.connection ∙ ap (λ (b : Beside). b.connection) beside

      set_over : slice_set m.connections (old.connection - 1) Idle ≡ slice_set (slice_set m.connections (old.connection - 1) Idle) (new.connection - 1) Idle
      set_over = sym (ap (λ n. slice_set (slice_set m.connections (old.connection - 1) Idle) (n - 1) Idle) place ∙ set_twice m.connections (old.connection - 1) Idle Idle)

  -- ---- a writer's pages

  -- the connections, where the present one's transaction goes on with this writer
  abbrev writing_on : Connections D g → Writer → Connections D g
  writing_on c w = record c { transaction = transaction.Writing w }

  -- a transaction that writes, and what its pages hold
  pub record WritesIn (old mid : Connections D g) (m : Machine) (w : Writer) : Type 0 where
    pub shown : RepresentsRunning old m
    pub on : IsWritingIn (files_of old) old.catalog m.history w shown.present
    pub applies : CanApply mid w on.db
    pub same : ShowTheSame (files_of old) (files_of mid)
    pub base : ShowsDatabase (newest_view (files_of mid)) (committed_in mid.catalog) (newest m)

  pub writes_in : (old mid : Connections D g) (m : Machine) (w : Writer) → RepresentsRunning old m → old.transaction ≡ transaction.Writing w → files_of mid ≡ files_of old → mid.catalog ≡ old.catalog → WritesIn old mid m w
  writes_in old mid m w shown was files catalog =
      let first = subst (λ (t : Transaction). IsTransaction (files_of old) old.catalog m.history t shown.present) was shown.transaction in
      record {
        shown = shown;
        on = first;
        applies = record {
          told = subst Tells (sym files) shown.told;
          settled = subst IsSettled (sym files) shown.settled;
          writer = subst (λ (l : Log D g). IsWriter l w) (sym files) first.may;
          stored = subst (λ (l : Log D g). ShowsDatabase (view_of l w) (current_in mid.catalog) first.db) (sym files) (subst (λ (c : SavedCatalogs). ShowsDatabase (view_of (files_of old) w) (current_in c) first.db) (sym catalog) first.stored);
        };
        same = subst (ShowTheSame (files_of old)) (sym files) (the_same (files_of old) shown.told);
        base = subst (λ (l : Log D g). ShowsDatabase (newest_view l) (committed_in mid.catalog) (newest m)) (sym files) (subst (λ (c : SavedCatalogs). ShowsDatabase (newest_view (files_of old)) (committed_in c) (newest m)) (sym catalog) first.base);
      }

  module _ (old mid new : Connections D g) (m : Machine) (w : Writer) (in_writing : WritesIn old mid m w) (s : Statement) (commits : CommitsBy old s) where
    commits_it : outcome m old.connection s ≡ Commits false in_writing.on.db
    commits_it = commits m in_writing.shown ∙ commit_outcome_of m old.connection (in_transaction old.catalog in_writing.on.points (Writes (last_place m) in_writing.on.db)) (in_writing.shown.is ∙ in_writing.on.is)

    step_to : (reply : Reply) (next : Machine) → Allowed m old.connection (Commits false in_writing.on.db) reply next → StepOrTooLong m old.connection s reply next
    step_to reply next allowed = by_outcome m old.connection s in_writing.shown.running in_writing.shown.numbered (Commits false in_writing.on.db) reply next commits_it allowed

    -- no other connection writes
    alone_writes : another is_writing m old.connection ≡ false
    alone_writes = lone_still old m in_writing.shown (ap is_writing in_writing.on.is)

    pub committed_step : (committed : Connections D g) → beside_in mid ≡ beside_in old → mid.transaction ≡ transaction.Idle → CommitsDatabase mid in_writing.on.db committed → HoldsEither mid in_writing.on.db committed → CopiesAfter committed new
        → StepsTo old m s (Rows []) new
    committed_step committed beside idle has held after =
        let shown = in_writing.shown in
        let next = after_commit m old.connection in_writing.on.db in
        then_steps old committed new m next s (copied_after committed new next (committed_shown old mid committed m shown in_writing.on.db in_writing.same beside has (has.transaction ∙ idle) alone_writes) (has.transaction ∙ idle) after)
        (commit_crashes old mid committed m in_writing.on.db shown in_writing.same in_writing.base held) (renewed_after old mid committed new in_writing.same beside has.renewed after)
        (step_to (Rows []) next (refl, inl refl)) (step_to (Rows []) (fails next) (refl, inr refl))

    -- where a call of a disk has failed, the database is in doubt
    failed_step : (left : Writer) (f : Fault) → IsInDoubt mid in_writing.on.db new f → StepsTo old m s (Refused refusal.Io) (writing_on new left)
    failed_step left f doubt = record {
      next = doubted m in_writing.on.db;
      step = step_to (Refused refusal.Io) (doubted m in_writing.on.db) (refl, inr refl);
      shown = inl (doubt.failed, refl, doubt_left old mid new m in_writing.on.db in_writing.shown in_writing.same in_writing.base doubt.held f doubt);
      crash = doubt_crashes old mid new m in_writing.on.db in_writing.shown in_writing.same in_writing.base doubt.held;
      renewed = λ more. not_longer m.history more;
    }

    -- and where nothing was committed, the transaction goes on
    shown_on : (left : Writer) (f : Fault) → beside_in mid ≡ beside_in old → files_of mid ≡ files_of old → mid.catalog ≡ old.catalog → IsUncommitted mid w in_writing.on.db new left f → RepresentsRunning (writing_on new left) m
    shown_on left f beside files catalog is = stays old (writing_on new left) m in_writing.shown same (is.kept.beside ∙ beside) (record {
      db = on.db;
      points = on.points;
      is = on.is ∙ ap (λ (k : Savepoints). InTransactionOf k.began (states_of on.points) (Writes (last_place m) on.db)) (sym points);
      may = is.applies.writer;
      stored = is.applies.stored;
      saved = record {
        tables = ap (λ (k : Savepoints). k.points) points ∙ on.saved.tables;
        hold = (still_saved (files_of old) (files_of new) old.catalog (newest m) w left on.points same (λ u over. over_on w left u is.stands over) on.saved).hold;
      };
      marks = is.marks ∙ on.marks;
      base = subst (λ (v : View). ShowsDatabase v (committed_in new.catalog) (newest m)) (sym same.newest)
          (subst (λ (ts : Listed). ShowsDatabase (newest_view (files_of old)) ts (newest m)) (sym (is.kept.tables ∙ ap committed_in catalog)) on.base);
    })
      where
        on : IsWritingIn (files_of old) old.catalog m.history w in_writing.shown.present
        on = in_writing.on

        same : ShowTheSame (files_of old) (files_of new)
        same = subst (λ (l : Log D g). ShowTheSame l (files_of new)) files is.kept.files

        points : savepoints_in new.catalog ≡ savepoints_in old.catalog
        points = is.kept.savepoints ∙ ap savepoints_in catalog

    instead_step : (left : Writer) (r : Refusal) → is_free r ≡ true → ShowTheSame (files_of old) (files_of new) → RepresentsRunning (writing_on new left) m → StepsTo old m s (Refused r) (writing_on new left)
    instead_step left r free same shown = record {
      next = m;
      step = plain_step m m old.connection new.connection s r (free_is_plain r free) (instead m old.connection s in_writing.shown.running in_writing.shown.numbered (Commits false in_writing.on.db) (Refused r) commits_it (inl free, refl));
      shown = inr shown;
      crash = crash_keeps old new m m in_writing.shown same;
      renewed = λ more. not_longer m.history more;
    }

    pub refused_step : (left : Writer) (f : Fault) → beside_in mid ≡ beside_in old → files_of mid ≡ files_of old → mid.catalog ≡ old.catalog → CommitsChanges mid w in_writing.on.db (Err f) new left
        → StepsTo old m s (Refused (refusal_of f)) (writing_on new left)
    refused_step left f failed files catalog (inl io) = subst (λ (e : Fault). StepsTo old m s (Refused (refusal_of e)) (writing_on new left)) (sym io.io) (failed_step left f io)
    refused_step left f failed files catalog (inr is) = by_why is.why
      where
        on : RepresentsRunning (writing_on new left) m
        on = shown_on left f failed files catalog is

        same : ShowTheSame (files_of old) (files_of new)
        same = subst (λ (l : Log D g). ShowTheSame l (files_of new)) files is.kept.files

        by_why : IsCommitCause (files_of mid) w f → StepsTo old m s (Refused (refusal_of f)) (writing_on new left)
        by_why (inl memory) = subst (λ (e : Fault). StepsTo old m s (Refused (refusal_of e)) (writing_on new left)) (sym memory) (instead_step left refusal.Memory refl same on)
        by_why (inr full) = subst (λ (e : Fault). StepsTo old m s (Refused (refusal_of e)) (writing_on new left)) (sym full.0) (instead_step left refusal.Full refl same on)

    -- by what the commit answered
    pub ok_step : (result : Result ⊤ Fault) (left : Writer) → is_err result ≡ false → beside_in mid ≡ beside_in old → mid.transaction ≡ transaction.Idle → CommitsThen mid w in_writing.on.db result new left
        → StepsTo old m s (done_reply result) new
    ok_step (Ok done) left is failed idle has = committed_step has.0 failed idle has.1 has.2 has.3
    ok_step (Err f) left is failed idle has = absurd (false≢true (sym is))

    pub err_step : (result : Result ⊤ Fault) (left : Writer) → is_err result ≡ true → beside_in mid ≡ beside_in old → files_of mid ≡ files_of old → mid.catalog ≡ old.catalog → CommitsThen mid w in_writing.on.db result new left
        → StepsTo old m s (done_reply result) (writing_on new left)
    err_step (Ok done) left is failed files catalog has = absurd (false≢true is)
    err_step (Err f) left is failed files catalog has = refused_step left f failed files catalog has
