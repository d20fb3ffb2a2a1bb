-- What the connections show after a statement.
use Rattle.std.proofs.Common.{◌≡◌, ◌⊎◌, ◌<◌, ◌≤◌, inl, inr, refl, sym, ap, subst, ◌∙◌, ℕ, ◌-◌, Bool, List, [], ◌∷◌, length, true, false, arith}
use Rattle.std.specs.Prelude.{⊤, Option, slice_set, unwrap_or}
use Rattle.std.specs.List.{AllByRecursion}
use Rattle.std.proofs.lemmas.Bool.{false≢true}
use Rattle.std.proofs.lemmas.Bool.Decides.{nat_tests}
use Rattle.disk.specs.declared.device.Disk.{Ghosts}
use Rattle.sqlval.specs.Refusals.{InTransaction, NoTransaction}
use Rattle.sql_syntax.specs.declared.statement.BeginMode.{BeginMode}
use Rattle.sql_syntax.specs.declared.statement.BeginMode.TheVariants as begins
use Rattle.sql_syntax.specs.declared.statement.Statement.TheVariants as statement
use Rattle.wal.specs.declared.log.Log.{Log}
use Rattle.session.specs.SavedTables.{HasNoSavepoints, IsUnchanged, Savepoints, committed_in, current_in, savepoints_in}
use Rattle.session.specs.Saving.{AreSaved, IsMarked, SavedAs, in_transaction, states_of}
use Rattle.session.specs.declared.savepoints.SavedCatalogs.{SavedCatalogs}
use Rattle.catalog.specs.Database.{Database}
use Rattle.disk.specs.File.{File}
use Rattle.wal_frame.specs.Accepted.{KeepsFile}
use Rattle.wal.specs.Committed.{frames_under}
use Rattle.wal.specs.LogState.{LogState, db_of, log_of, state_of, header_of, seen_by, size_of}
use Rattle.wal.specs.declared.log.Snapshot.{Snapshot}
use Rattle.pager.specs.Limits.{pages_of}
use Rattle.pager.specs.Marks.{Changes, IsOverTheSame}
use Rattle.pager.specs.Views.{View, Tells, after, changes_of, newest_view, view_of}
use Rattle.pager.specs.Writers.{snapshot_of}
use Rattle.pager.specs.declared.writer.Writer.{Writer}
use Rattle.session.specs.ConnectionState.{files_of}
use Rattle.session.specs.Machine.{Machine, Connection, Idle, InTransactionOf, Phase, NoSnapshot, Reads, SavepointState, Writes, Rows, Refused, another, connection, is_writing, last_place, newest, with_connection}
use Rattle.session.specs.Steps.{is_connection}
use Rattle.session.specs.Outcomes.{Gives, RefusedBy, begun}
use Rattle.session.specs.Stored.{ShowsDatabase}
use Rattle.session.specs.Representation.{AreParked, Beside, HaveOneWriter, IsGivenUp, IsReadingIn, IsSnapshotOf, RepresentsRunning, IsTransaction, ShowTheSame, StepsOn, beside_in, committed_at, is_idle, newest_in, newest_tables}
use Rattle.session.specs.declared.seats.Seat.{Seat}
use Rattle.session.proofs.Parking.{get_set, one_kept, one_set, set_length, set_twice, sole_is}
use Rattle.session.specs.Writers.{IsNewest, IsWriter}
use Rattle.session.specs.declared.transactions.Connections.{Connections}
use Rattle.session.specs.declared.seats.Transaction.{Transaction}
use Rattle.session.specs.declared.seats.Transaction.TheVariants as transaction
use Rattle.session.proofs.Settled.{as_shown, crash_keeps, not_longer, still_settled}
use Rattle.session.proofs.Stepping.{by_outcome, begin_outcome, rollback_outcome}
use Rattle.catalog.specs.Listed.{Listed}

-- a transaction that begins has no savepoint
pub begins_in : (Kept : Type 0) (catalog : SavedCatalogs) (phase : Phase) → HasNoSavepoints catalog → InTransactionOf false [] phase ≡ in_transaction {Kept = Kept} catalog [] phase
begins_in Kept catalog phase none = ap (λ (s : Savepoints). InTransactionOf s.began [] phase) (sym none)

pub begins_reading : (catalog : SavedCatalogs) → IsUnchanged catalog → HasNoSavepoints catalog → IsReadingIn catalog NoSnapshot (InTransactionOf false [] NoSnapshot)
begins_reading catalog all none = record { points = []; is = begins_in ⊤ catalog NoSnapshot none; all = all; saved = record { tables = ap (λ (s : Savepoints). s.points) none; hold = tt } }

pub record IsBusy (k : Connection) : Type 0 where
  pub began : Bool
  pub points : List SavepointState
  pub phase : Phase
  pub is : k ≡ InTransactionOf began points phase

-- what is seen, by the files' contents and what is known of them
abbrev newest_by : List ℕ → List ℕ → LogState → View
newest_by d l k = record { db = d; frames = frames_under (header_of k) l k.frames; page_size = k.page_size; size = k.size }

abbrev at_by : List ℕ → List ℕ → LogState → Snapshot → View
at_by d l k s = record { db = d; frames = frames_under (header_of k) l (seen_by s); page_size = k.page_size; size = size_of s }

-- a connection has its place
pub in_range : (n : ℕ) (m : Machine) → length m.connections ≡ 16 → is_connection n ≡ true → n - 1 < length m.connections
in_range n m sixteen is = (let within = numbers_within n is in omega (arith, sixteen, within.0, within.1))
  where
    numbers_within : (n : ℕ) → is_connection n ≡ true → (1 ≤ n) × (n ≤ 16)
    numbers_within n is = grind (arith, nat_tests)

-- the connection may be so: it doesn't write, or no other does
abbrev pub IsLone : Machine → ℕ → Connection → Type 0
IsLone m n k = (is_writing k ≡ false) ⊎ (another is_writing m n ≡ false)

pub lone_set : (m : Machine) (n : ℕ) (k : Connection) → HaveOneWriter m.connections → IsLone m n k → HaveOneWriter (with_connection m n k).connections
lone_set m n k one (inl not) = one_kept m.connections (n - 1) k not one
lone_set m n k one (inr none) = one_set m.connections (n - 1) k none

-- ---- the machine after a statement that commits nothing

module _ {D : Type 0} {g : Ghosts D} where
  -- ---- what the present connection is

  pub idle_first : (files : Log D g) (catalog : SavedCatalogs) (m : Machine) (t : Transaction) (k : Connection) → IsTransaction files catalog m.history t k → is_idle t ≡ true → k ≡ Idle
  idle_first files catalog m transaction.Idle k is idle = is.0
  idle_first files catalog m transaction.Begun k is idle = absurd (false≢true idle)
  idle_first files catalog m (transaction.Reading s) k is idle = absurd (false≢true idle)
  idle_first files catalog m (transaction.Writing w) k is idle = absurd (false≢true idle)

  pub busy_first : (files : Log D g) (catalog : SavedCatalogs) (m : Machine) (t : Transaction) (k : Connection) → IsTransaction files catalog m.history t k → is_idle t ≡ false → IsBusy k
  busy_first files catalog m transaction.Idle k is idle = absurd (false≢true (sym idle))
  busy_first files catalog m transaction.Begun k is idle = record { began = (savepoints_in catalog).began; points = states_of is.points; phase = NoSnapshot; is = is.is }
  busy_first files catalog m (transaction.Reading s) k is idle = record { began = (savepoints_in catalog).began; points = states_of is.1.points; phase = Reads is.0; is = is.1.is }
  busy_first files catalog m (transaction.Writing w) k is idle = record { began = (savepoints_in catalog).began; points = states_of is.points; phase = Writes (last_place m) is.db; is = is.is }

  -- ---- files that were read at most

  pub the_same : (files : Log D g) → Tells files → ShowTheSame files files
  the_same files told = record { told = told; known = refl; newest = refl; at = λ s. refl; db_file = refl; log_file = refl }

  pub read_files : (old new : Log D g) → Tells old → state_of new ≡ state_of old → KeepsFile g.tells g.file (db_of old) (db_of new) → KeepsFile g.tells g.file (log_of old) (log_of new) → ShowTheSame old new
  read_files old new told known db log =
      let same_db = ap (λ (f : File). f.content) (db.same told.db) in
      let same_log = ap (λ (f : File). f.content) (log.same told.log) in
      record {
        told = record { db = db.tells_same ∙ told.db; log = log.tells_same ∙ told.log; whole = ap (λ (k : LogState). k.has_failed) known ∙ told.whole };
        known = known;
        newest = λ i. newest_by (same_db i) (same_log i) (known i);
        at = λ s i. at_by (same_db i) (same_log i) (known i) s;
        db_file = db.same told.db;
        log_file = log.same told.log;
      }

  pub still_newest : (old new : Log D g) (s : Snapshot) → ShowTheSame old new → IsNewest old s → IsNewest new s
  still_newest old new s same is = record { seen = is.seen ∙ ap (λ (k : LogState). k.frames) (sym same.known); sized = is.sized ∙ ap (λ (k : LogState). k.size) (sym same.known) }

  pub still_writer : (old new : Log D g) (w : Writer) → ShowTheSame old new → IsWriter old w → IsWriter new w
  still_writer old new w same is = record { newest = still_newest old new (snapshot_of w) same is.newest; sound = is.sound; page_size = is.page_size ∙ ap (λ (k : LogState). k.page_size) (sym same.known) }

  -- what a writer shows is what it showed
  pub still_stored : (old new : Log D g) (w : Writer) (tables : Listed) (db : Database) → ShowTheSame old new → ShowsDatabase (view_of old w) tables db → ShowsDatabase (view_of new w) tables db
  still_stored old new w tables db same stored = subst (λ (v : View). ShowsDatabase (after v (changes_of w) (pages_of w)) tables db) (sym (same.at (snapshot_of w))) stored

  -- what is kept at a mark is kept of a writer over the same snapshot
  still_marked : (old new : Log D g) (newest : Database) (w v : Writer) (p : SavedAs Changes) → ShowTheSame old new → ((u : Writer) → IsOverTheSame v u → IsOverTheSame w u) → IsMarked old newest w p → IsMarked new newest v p
  still_marked old new newest w v p same over is = record {
    named = is.named;
    back = λ u now on. (let back = is.back u now (over u on) in (still_writer old new u same back.0, still_stored old new u p.tables.tables (unwrap_or p.state.working newest) same back.1));
  }

  all_marked : (old new : Log D g) (newest : Database) (w v : Writer) (points : List (SavedAs Changes)) → ShowTheSame old new → ((u : Writer) → IsOverTheSame v u → IsOverTheSame w u) → AllByRecursion (IsMarked old newest w) points → AllByRecursion (IsMarked new newest v) points
  all_marked old new newest w v [] same over all = tt
  all_marked old new newest w v (p ∷ points) same over all = (still_marked old new newest w v p same over all.0, all_marked old new newest w v points same over all.1)

  pub still_saved : (old new : Log D g) (catalog : SavedCatalogs) (newest : Database) (w v : Writer) (points : List (SavedAs Changes)) → ShowTheSame old new → ((u : Writer) → IsOverTheSame v u → IsOverTheSame w u) → AreSaved (IsMarked old newest w) catalog points → AreSaved (IsMarked new newest v) catalog points
  still_saved old new catalog newest w v points same over saved = record { tables = saved.tables; hold = all_marked old new newest w v points same over saved.hold }

  still_snapshot : (old new : Log D g) (tables : Listed) (history : List Database) (i : ℕ) (s : Snapshot) → ShowTheSame old new → IsSnapshotOf old tables history i s → IsSnapshotOf new tables history i s
  still_snapshot old new tables history i s same is = record {
    shows = subst (λ (v : View). ShowsDatabase v tables (committed_at history i)) (sym (same.at s)) is.shows;
    age = elim is.age [
      | inl last ↦ inl (last.0, still_newest old new s same last.1)
      | inr before ↦ inr (before.0, omega (arith, before.1, ap (λ (k : LogState). k.frames) same.known))
    ];
  }

  pub still_transaction : (old new : Log D g) (catalog : SavedCatalogs) (history : List Database) (t : Transaction) (k : Connection) → ShowTheSame old new → IsTransaction old catalog history t k → IsTransaction new catalog history t k
  still_transaction old new catalog history transaction.Idle k same is = is
  still_transaction old new catalog history transaction.Begun k same is = is
  still_transaction old new catalog history (transaction.Reading s) k same is = (is.0, is.1, still_snapshot old new (committed_in catalog) history is.0 s same is.2)
  still_transaction old new catalog history (transaction.Writing w) k same is = record {
    db = is.db;
    points = is.points;
    is = is.is;
    may = still_writer old new w same is.may;
    stored = still_stored old new w (current_in catalog) is.db same is.stored;
    saved = still_saved old new catalog (newest_in history) w w is.points same (λ v over. over) is.saved;
    marks = is.marks;
    base = subst (λ (v : View). ShowsDatabase v (committed_in catalog) (newest_in history)) (sym same.newest) is.base;
  }

  -- so are the connections that aren't present
  pub still_parked : (old new : Log D g) (history : List Database) (ss : List Seat) (ks : List Connection) → ShowTheSame old new → AreParked old history ss ks → AreParked new history ss ks
  still_parked old new history [] [] same are = tt
  still_parked old new history [] (k ∷ ks) same are = absurd are
  still_parked old new history (s ∷ ss) [] same are = absurd are
  still_parked old new history (s ∷ ss) (k ∷ ks) same are = (still_transaction old new s.catalog history s.transaction k same are.0, still_parked old new history ss ks same are.1)

  -- where all that a statement leaves was left
  parked_beside : (old new : Connections D g) (m : Machine) (shown : RepresentsRunning old m) → ShowTheSame (files_of old) (files_of new) → beside_in new ≡ beside_in old
      → AreParked (files_of new) m.history new.parked.items (slice_set m.connections (new.connection - 1) Idle)
  parked_beside old new m shown same beside =
      subst (λ (b : Beside). AreParked (files_of new) m.history b.parked (slice_set m.connections (b.connection - 1) Idle)) (sym beside)
      (still_parked (files_of old) (files_of new) m.history old.parked.items (slice_set m.connections (old.connection - 1) Idle) same shown.parked)

  stored_beside : (old new : Connections D g) (m : Machine) (shown : RepresentsRunning old m) → ShowTheSame (files_of old) (files_of new) → beside_in new ≡ beside_in old → ShowsDatabase (newest_view (files_of new)) (newest_tables new) (newest m)
  stored_beside old new m shown same beside = subst (λ (v : View). ShowsDatabase v (newest_tables new) (newest m)) (sym same.newest)
      (subst (λ (b : Beside). ShowsDatabase (newest_view (files_of old)) b.newest (newest m)) (sym beside) shown.stored)

  -- ---- one writer

  -- one that writes may go on
  pub lone_still : (c : Connections D g) (m : Machine) (shown : RepresentsRunning c m) → is_writing shown.present ≡ true → another is_writing m c.connection ≡ false
  lone_still c m shown is = sole_is m.connections (c.connection - 1) shown.sole (ap is_writing shown.is ∙ is)

  pub moved : (old new : Connections D g) (m : Machine) (k : Connection) (shown : RepresentsRunning old m) → ShowTheSame (files_of old) (files_of new) → beside_in new ≡ beside_in old → IsLone m old.connection k
      → IsTransaction (files_of new) new.catalog m.history new.transaction k → RepresentsRunning new (with_connection m old.connection k)
  moved old new m k shown same beside lone is =
      let place = ap (λ (b : Beside). b.connection) beside in
      record {
        running = shown.running;
        sure = shown.sure;
        whole = ap (λ (b : Beside). b.failed) beside ∙ shown.whole;
        told = same.told;
        settled = still_settled (files_of old) (files_of new) same shown.settled;
        some = shown.some;
        stored = stored_beside old new m shown same beside;
        sixteen = set_length m.connections (old.connection - 1) k ∙ shown.sixteen;
        numbered = ap is_connection place ∙ shown.numbered;
        present = k;
        is = ap (λ n. connection (with_connection m old.connection k) n) place ∙ ap (λ (x : Option Connection). unwrap_or x Idle) (get_set m.connections (old.connection - 1) k (in_range old.connection m shown.sixteen shown.numbered));
        transaction = is;
        parked = subst (AreParked (files_of new) m.history new.parked.items) (set_over place) (parked_beside old new m shown same beside);
        sole = lone_set m old.connection k shown.sole lone;
      }
    where
      set_over : new.connection ≡ old.connection → slice_set m.connections (new.connection - 1) Idle ≡ slice_set (slice_set m.connections (old.connection - 1) k) (new.connection - 1) Idle
      set_over place = sym (ap (λ n. slice_set (slice_set m.connections (old.connection - 1) k) (n - 1) Idle) place ∙ set_twice m.connections (old.connection - 1) k Idle ∙ ap (λ n. slice_set m.connections (n - 1) Idle) (sym place))

  -- the machine is shown still where what the present connection is stays
  pub stays : (old new : Connections D g) (m : Machine) (shown : RepresentsRunning old m) → ShowTheSame (files_of old) (files_of new) → beside_in new ≡ beside_in old
      → IsTransaction (files_of new) new.catalog m.history new.transaction shown.present → RepresentsRunning new m
  stays old new m shown same beside is =
      let place = ap (λ (b : Beside). b.connection) beside in
      record {
        running = shown.running;
        sure = shown.sure;
        whole = ap (λ (b : Beside). b.failed) beside ∙ shown.whole;
        told = same.told;
        settled = still_settled (files_of old) (files_of new) same shown.settled;
        some = shown.some;
        stored = stored_beside old new m shown same beside;
        sixteen = shown.sixteen;
        numbered = ap is_connection place ∙ shown.numbered;
        present = shown.present;
        is = ap (connection m) place ∙ shown.is;
        transaction = is;
        parked = parked_beside old new m shown same beside;
        sole = shown.sole;
      }

  -- where the files alone were read
  pub still_shown : (old new : Connections D g) (m : Machine) → RepresentsRunning old m → ShowTheSame (files_of old) (files_of new) → beside_in new ≡ beside_in old → new.catalog ≡ old.catalog → new.transaction ≡ old.transaction → RepresentsRunning new m
  still_shown old new m shown same beside catalog now = stays old new m shown same beside
      (subst (λ (t : Transaction). IsTransaction (files_of new) new.catalog m.history t shown.present) (sym now)
      (subst (λ (c : SavedCatalogs). IsTransaction (files_of new) c m.history old.transaction shown.present) (sym catalog)
      (still_transaction (files_of old) (files_of new) old.catalog m.history old.transaction shown.present same shown.transaction)))

  -- ---- ROLLBACK

  pub rollback_refused : (c : Connections D g) → is_idle c.transaction ≡ true → StepsOn c statement.Rollback (Refused NoTransaction) c
  rollback_refused c idle m shown =
      let k = idle_first (files_of c) c.catalog m c.transaction shown.present shown.transaction idle in
      let is = rollback_outcome m c.connection Idle (shown.is ∙ k) in
      record {
        next = m;
        step = by_outcome m c.connection statement.Rollback shown.running shown.numbered (RefusedBy (NoTransaction ∷ [])) (Refused NoTransaction) m is (NoTransaction, (0, omega arith, refl), refl, refl);
        shown = inr shown;
        crash = as_shown c m (inr shown);
        renewed = λ more. not_longer m.history more;
      }

  pub rolled_back : (old new : Connections D g) → is_idle old.transaction ≡ false → IsGivenUp old new → StepsOn old statement.Rollback (Rows []) new
  rolled_back old new busy gone m shown =
      let k = busy_first (files_of old) old.catalog m old.transaction shown.present shown.transaction busy in
      let is = rollback_outcome m old.connection (InTransactionOf k.began k.points k.phase) (shown.is ∙ k.is) in
      record {
        next = with_connection m old.connection Idle;
        step = by_outcome m old.connection statement.Rollback shown.running shown.numbered (Gives [] (with_connection m old.connection Idle)) (Rows []) (with_connection m old.connection Idle) is (refl, refl);
        shown = inr (moved old new m Idle shown (subst (ShowTheSame (files_of old)) (sym gone.files) (the_same (files_of old) shown.told)) gone.beside (inl refl) (idle_now gone));
        crash = crash_keeps old new m (with_connection m old.connection Idle) shown (subst (ShowTheSame (files_of old)) (sym gone.files) (the_same (files_of old) shown.told));
        renewed = λ more. not_longer m.history more;
      }
    where
      idle_now : IsGivenUp old new → IsTransaction (files_of new) new.catalog m.history new.transaction Idle
      idle_now gone = subst (λ (t : Transaction). IsTransaction (files_of new) new.catalog m.history t Idle) (sym gone.idle) (refl, gone.all, gone.savepoints)

  -- ---- BEGIN

  pub begin_refused : (c : Connections D g) (mode : BeginMode) → is_idle c.transaction ≡ false → StepsOn c (statement.Begin mode) (Refused InTransaction) c
  begin_refused c mode busy m shown =
      let k = busy_first (files_of c) c.catalog m c.transaction shown.present shown.transaction busy in
      let is = begin_outcome mode m c.connection (InTransactionOf k.began k.points k.phase) (shown.is ∙ k.is) in
      record {
        next = m;
        step = by_outcome m c.connection (statement.Begin mode) shown.running shown.numbered (RefusedBy (InTransaction ∷ [])) (Refused InTransaction) m is (InTransaction, (0, omega arith, refl), refl, refl);
        shown = inr shown;
        crash = as_shown c m (inr shown);
        renewed = λ more. not_longer m.history more;
      }

  -- what changes where a transaction begins
  pub record Begins (old new : Connections D g) (t : Transaction) : Type 0 where
    pub files : files_of new ≡ files_of old
    pub beside : beside_in new ≡ beside_in old
    pub catalog : new.catalog ≡ old.catalog
    pub now : new.transaction ≡ t

  pub begun_deferred : (old new : Connections D g) → is_idle old.transaction ≡ true → Begins old new transaction.Begun → StepsOn old (statement.Begin begins.Deferred) (Rows []) new
  begun_deferred old new idle begun m shown =
      let k = idle_first (files_of old) old.catalog m old.transaction shown.present shown.transaction idle in
      let is = begin_outcome begins.Deferred m old.connection Idle (shown.is ∙ k) in
      let was = none_idle old.transaction shown.present shown.transaction idle in
      let next = with_connection m old.connection (InTransactionOf false [] NoSnapshot) in
      record {
        next = next;
        step = by_outcome m old.connection (statement.Begin begins.Deferred) shown.running shown.numbered (Gives [] next) (Rows []) next is (refl, refl);
        shown = inr (moved old new m (InTransactionOf false [] NoSnapshot) shown (subst (ShowTheSame (files_of old)) (sym begun.files) (the_same (files_of old) shown.told)) begun.beside (inl refl)
            (subst (λ (t : Transaction). IsTransaction (files_of new) new.catalog m.history t (InTransactionOf false [] NoSnapshot)) (sym begun.now)
            (begins_reading new.catalog (subst IsUnchanged (sym begun.catalog) was.0) (subst HasNoSavepoints (sym begun.catalog) was.1))));
        crash = crash_keeps old new m next shown (subst (ShowTheSame (files_of old)) (sym begun.files) (the_same (files_of old) shown.told));
        renewed = λ more. not_longer m.history more;
      }
    where
      none_idle : (t : Transaction) (j : Connection) → IsTransaction (files_of old) old.catalog m.history t j → is_idle t ≡ true → IsUnchanged old.catalog × HasNoSavepoints old.catalog
      none_idle transaction.Idle j is idle = (is.1, is.2)
      none_idle transaction.Begun j is idle = absurd (false≢true idle)
      none_idle (transaction.Reading s) j is idle = absurd (false≢true idle)
      none_idle (transaction.Writing w) j is idle = absurd (false≢true idle)
