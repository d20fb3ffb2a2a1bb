-- Statements that write, and COMMIT, are steps of the machine.
use Rattle.std.proofs.Common.{◌≡◌, ◌⊎◌, inl, inr, refl, sym, ap, subst, ◌∙◌, ℕ, List, [], length, true, false}
use Rattle.std.proofs.lemmas.List.{length-map}
use Rattle.std.proofs.lemmas.Bool.{false≢true}
use Rattle.std.specs.Prelude.{◌++◌, ⊤, Result, Ok, Err, IfErr, replicate, reverse}
use Rattle.disk.specs.declared.device.Disk.{Ghosts}
use Rattle.sqlval.specs.Refusals as refusal
use Rattle.sqlval.specs.Refusals.{refusal_of}
use Rattle.sqlval.specs.declared.fault.Fault.{Fault}
use Rattle.sqlval.specs.declared.fault.Fault.TheVariants as fault
use Rattle.sql_syntax.specs.declared.statement.Statement.{Statement}
use Rattle.wal.specs.declared.log.Log.{Log}
use Rattle.wal.specs.declared.log.Snapshot.{Snapshot}
use Rattle.catalog.specs.Database.{Database}
use Rattle.session.specs.SavedTables.{HasNoSavepoints, IsUnchanged, Savepoints, committed_in, current_in, savepoints_in}
use Rattle.session.specs.Saving.{in_transaction, states_of}
use Rattle.session.specs.declared.savepoints.SavedCatalogs.{SavedCatalogs}
use Rattle.pager.specs.Views.{View, newest_view, view_of}
use Rattle.pager.specs.declared.writer.Writer.{Writer}
use Rattle.session.specs.Endings.{as_answered, once_answered}
use Rattle.session.specs.TooLong.{CannotStore, StepOrTooLong, database_of}
use Rattle.session.specs.ConnectionState.{files_of, has_failed_in}
use Rattle.session.specs.Machine.{Machine, Connection, Idle, InTransactionOf, NoSnapshot, Reads, SavepointState, Writes, Reply, Rows, Refused, connection, is_writing, last_place, newest}
use Rattle.session.specs.Outcomes.{Outcome, answered, left_by, outcome}
use Rattle.executor.specs.Works.{Work, Makes, IsRefused, Binds, Reaches, change_made}
use Rattle.session.specs.Steps.{Allowed, after_commit, fails}
use Rattle.session.specs.Stored.{ShowsDatabase}
use Rattle.session.specs.Representation.{Beside, IsSnapshotOf, IsWritingIn, MayWrite, RepresentsRunning, IsTransaction, OnlyReads, ShowTheSame, StepsOn, StepsTo, beside_in, done_reply, has_no_snapshot, is_idle, is_reading, with_transaction}
use Rattle.session.specs.Applying.{CommitsChanges, EndsAlone, IsApplied, IsCommitCause, IsDropped, IsNotApplied, KeepsCommitted, Applies, CanApply, listing_of}
use Rattle.executor_programs.specs.Making.{IsRefusedStatement}
use Rattle.session.specs.Changing.{ChangesPages, KeepsListed}
use Rattle.executor_programs.specs.Writes.{written}
use Rattle.session.specs.Writers.{IsWriter}
use Rattle.session.specs.declared.transactions.Connections.{Connections}
use Rattle.session.specs.declared.seats.Transaction.{Transaction}
use Rattle.session.specs.declared.seats.Transaction.TheVariants as transaction
use Rattle.executor_programs.specs.declared.changes.Write.{Write}
use Rattle.session.proofs.Beginning.{StartsWriting, free_of, newest_listed, none_where_idle, writer_begins, writer_stores}
use Rattle.session.proofs.CheckpointSteps.{copied_after, renewed_after, then_steps}
use Rattle.session.proofs.CommitSteps.{committed_shown}
use Rattle.session.proofs.CommitCrashes.{commit_crashes, doubt_left, doubt_crashes, doubted}
use Rattle.session.proofs.Settled.{crash_keeps, not_longer, still_settled}
use Rattle.session.proofs.ReadingPhases.{ReadsNewest, other_reading, reads_newest}
use Rattle.session.proofs.Showing.{lone_still, moved, stays, still_saved, still_shown, still_stored, still_transaction, still_writer}
use Rattle.session.proofs.Stepping.{by_outcome}
use Rattle.session.proofs.Marked.{moved_on, over_on, went_back}
use Rattle.session.proofs.MarksAtBegin.{at_begin, marks_at_begin, shows_begin, states_at_begin, tables_at_begin}
use Rattle.pager.specs.Marks.{Changes, IsOverTheSame, marks_of, now_of}
use Rattle.session.proofs.Applying.{Begun, IsFinish, IsErrorCause, alone, finish_alone, finish_in, refused_step, worked_gives, working, working_on, write_outcome_of, writes_alone, writes_reading}
use Rattle.catalog.specs.Listed.{Listed}

-- ---- commits

-- a commit of a statement of its own
alone_commits : (m : Machine) (n : ℕ) (made : Database) (w : Work) → Reaches w made → Allowed m n (alone m w) (Rows []) (after_commit m n made)
alone_commits m n made (Makes db) is = (refl, inl (ap (after_commit m n) (sym is)))
alone_commits m n made (IsRefused rs) is = absurd is
alone_commits m n made (Binds over ch w) is = inr (is.0, alone_commits m n made w is.1)

alone_commits_failed : (m : Machine) (n : ℕ) (made : Database) (w : Work) → Reaches w made → Allowed m n (alone m w) (Rows []) (fails (after_commit m n made))
alone_commits_failed m n made (Makes db) is = (refl, inr (ap (λ (d : Database). fails (after_commit m n d)) (sym is)))
alone_commits_failed m n made (IsRefused rs) is = absurd is
alone_commits_failed m n made (Binds over ch w) is = inr (is.0, alone_commits_failed m n made w is.1)

alone_doubts : (m : Machine) (n : ℕ) (made : Database) (w : Work) → Reaches w made → Allowed m n (alone m w) (Refused refusal.Io) (doubted m made)
alone_doubts m n made (Makes db) is = (refl, inr (ap (doubted m) (sym is)))
alone_doubts m n made (IsRefused rs) is = absurd is
alone_doubts m n made (Binds over ch w) is = inr (is.0, alone_doubts m n made w is.1)

idle_now : (t : Transaction) → is_idle t ≡ true → t ≡ transaction.Idle
idle_now transaction.Idle is = refl
idle_now transaction.Begun is = absurd (false≢true is)
idle_now (transaction.Reading r) is = absurd (false≢true is)
idle_now (transaction.Writing v) is = absurd (false≢true is)

-- why a change was refused, as a step says it
why_of : (s : Statement) (db : Database) (f : Fault) → IsRefusedStatement s db f → IsErrorCause (CannotStore s db) (change_made s db) f
why_of s db f (inl out) = inl out
why_of s db f (inr (inl why)) = inr (inl why)
why_of s db f (inr (inr is)) = inr (inr (f, refl, is))

abbrev pub begun_in : (catalog : SavedCatalogs) → List SavepointState → Begun
begun_in catalog states = record { by_savepoint = (savepoints_in catalog).began; points = states }

module _ {D : Type 0} {g : Ghosts D} where
  -- ---- what stays

  pub show_on : (a b c : Log D g) → ShowTheSame a b → ShowTheSame b c → ShowTheSame a c
  show_on a b c first second = record { told = second.told; known = second.known ∙ first.known; newest = second.newest ∙ first.newest; at = λ s. second.at s ∙ first.at s; db_file = second.db_file ∙ first.db_file; log_file = second.log_file ∙ first.log_file }

  pub other_catalog : (files : Log D g) (a b : SavedCatalogs) (m : Machine) (t : Transaction) (k : Connection) → committed_in b ≡ committed_in a → current_in b ≡ current_in a → savepoints_in b ≡ savepoints_in a → IsTransaction files a m.history t k → IsTransaction files b m.history t k
  other_catalog files a b m transaction.Idle k same tables savepoints is = (is.0, tables ∙ is.1 ∙ sym same, savepoints ∙ is.2)
  other_catalog files a b m transaction.Begun k same tables savepoints is = other_reading a b NoSnapshot k same tables savepoints is
  other_catalog files a b m (transaction.Reading s) k same tables savepoints is =
      (is.0, other_reading a b (Reads is.0) k same tables savepoints is.1, subst (λ (ts : Listed). IsSnapshotOf files ts m.history is.0 s) (sym same) is.2)
  other_catalog files a b m (transaction.Writing w) k same tables savepoints is = record {
    db = is.db;
    points = is.points;
    is = is.is ∙ ap (λ (s : Savepoints). InTransactionOf s.began (states_of is.points) (Writes (last_place m) is.db)) (sym savepoints);
    may = is.may;
    stored = subst (λ (ts : Listed). ShowsDatabase (view_of files w) ts is.db) (sym tables) is.stored;
    saved = record { tables = ap (λ (s : Savepoints). s.points) savepoints ∙ is.saved.tables; hold = is.saved.hold };
    marks = is.marks;
    base = subst (λ (ts : Listed). ShowsDatabase (newest_view files) ts (newest m)) (sym same) is.base;
  }

  -- ---- a change

  keeps : (old new : Connections D g) → beside_in new ≡ beside_in old → new.transaction ≡ old.transaction → KeepsListed (listing_of old) (listing_of new) → KeepsCommitted old new
  keeps old new beside same kept = record { files = kept.files; beside = beside; transaction = same; tables = kept.tables; savepoints = kept.savepoints }

  -- what a change of the files and the catalog comes to for the connections that have them
  pub applied : (s : Statement) (old : Connections D g) (w : Writer) (db : Database) (r : Result ⊤ Fault) (new : Connections D g) (left : Writer) → beside_in new ≡ beside_in old → new.transaction ≡ old.transaction
      → ChangesPages s (listing_of old) w db r (listing_of new) left → Applies s old w db r new left
  applied s old w db (Ok done) new left beside same has = record { kept = keeps old new beside same has.kept; made = has.made; reaches = has.reaches; applies = has.applies }
  applied s old w db (Err f) new left beside same has = record { kept = keeps old new beside same has.kept; tables = has.tables; why = has.why }

  -- ---- refusals

  refused : (old new : Connections D g) (m : Machine) (w : Write) (finish : Work → Outcome) → RepresentsRunning old m → ShowTheSame (files_of old) (files_of new) → beside_in new ≡ beside_in old → RepresentsRunning new m → (ends : IsFinish m old.connection finish) (db : Database)
      → database_of m (connection m old.connection) ≡ db → outcome m old.connection (written w) ≡ finish (change_made (written w) db) → (f : Fault) → IsErrorCause (CannotStore (written w) db) (change_made (written w) db) f → StepsTo old m (written w) (Refused (refusal_of f)) new
  refused old new m w finish before same beside behind ends db sees is f why = record {
    next = m;
    step = subst (λ (b : Beside). StepOrTooLong m old.connection (written w) (Refused (answered (refusal_of f))) (left_by m b.connection (refusal_of f))) (sym beside)
        (refused_step m old.connection (written w) before.running before.numbered finish ends (change_made (written w) db) is db sees f why);
    shown = inr behind;
    crash = crash_keeps old new m m before same;
    renewed = λ more. not_longer m.history more;
  }

  -- ---- a statement that begins to write

  -- what a statement comes to that works on the newest commit
  pub record Opening (old : Connections D g) (m : Machine) (x : Write) (finish : Work → Outcome) : Type 0 where
    pub ends : IsFinish m old.connection finish
    pub comes : outcome m old.connection (written x) ≡ finish (change_made (written x) (newest m))
    pub all : IsUnchanged old.catalog
    pub base : ShowsDatabase (newest_view (files_of old)) (committed_in old.catalog) (newest m)
    pub database : database_of m (connection m old.connection) ≡ newest m

  pub opens_alone : (old : Connections D g) (m : Machine) (shown : RepresentsRunning old m) (x : Write) (t : Transaction) → MayWrite old → old.transaction ≡ t → is_idle t ≡ true → IsTransaction (files_of old) old.catalog m.history t shown.present → Opening old m x (alone m)
  opens_alone old m shown x transaction.Idle may is idle first = record {
    ends = finish_alone m old.connection;
    comes = write_outcome_of x m old.connection Idle (shown.is ∙ first.0) ∙ writes_alone m old.connection (free_of old m shown may.free) (change_made (written x));
    all = first.1;
    base = newest_listed old m shown (may.newest (ap has_no_snapshot is));
    database = ap (database_of m) (shown.is ∙ first.0);
  }
  opens_alone old m shown x transaction.Begun may is idle first = absurd (false≢true idle)
  opens_alone old m shown x (transaction.Reading s) may is idle first = absurd (false≢true idle)
  opens_alone old m shown x (transaction.Writing w) may is idle first = absurd (false≢true idle)

  opens_in : (old : Connections D g) (m : Machine) (shown : RepresentsRunning old m) (x : Write) → MayWrite old → (r : ReadsNewest (files_of old) old.catalog m old.connection old.transaction shown.present)
      → Opening old m x (working (begun_in old.catalog (states_of r.first.points)) m old.connection)
  opens_in old m shown x may r =
      let b = begun_in old.catalog (states_of r.first.points) in
      let k = in_transaction old.catalog r.first.points r.phase in
      record {
        ends = finish_in b m old.connection;
        comes = write_outcome_of x m old.connection k (shown.is ∙ r.first.is) ∙ writes_reading m old.connection (free_of old m shown may.free) b r.phase r.is (change_made (written x));
        all = r.first.all;
        base = r.base;
        database = ap (database_of m) (shown.is ∙ r.first.is) ∙ r.sees b.by_savepoint b.points;
      }

  reads_on : (old : Connections D g) (m : Machine) (shown : RepresentsRunning old m) → is_reading old.transaction ≡ true → MayWrite old → ReadsNewest (files_of old) old.catalog m old.connection old.transaction shown.present
  reads_on old m shown reads may = reads_newest (files_of old) old.catalog m old.connection old.transaction shown.present reads may.fresh (λ none. newest_listed old m shown (may.newest none)) shown.transaction

  pub opens_reading : (old : Connections D g) (m : Machine) (shown : RepresentsRunning old m) (x : Write) → is_reading old.transaction ≡ true → MayWrite old → (finish : Work → Outcome) × Opening old m x finish
  opens_reading old m shown x reads may = (_, opens_in old m shown x may (reads_on old m shown reads may))

  -- where page 1 isn't read, when out of memory or by a disk
  pub not_begun : (old new : Connections D g) (x : Write) (f : Fault) → OnlyReads old new → ((m : Machine) → RepresentsRunning old m → (f ≡ fault.Memory) ⊎ (f ≡ fault.Io))
      → ((m : Machine) → RepresentsRunning old m → (finish : Work → Outcome) × Opening old m x finish) → StepsOn old (written x) (Refused (refusal_of f)) new
  not_begun old new x f reads why opens m shown =
      let finish = (opens m shown).0 in
      let opened = (opens m shown).1 in
      refused old new m x finish shown (reads.files shown.told) reads.beside (still_shown old new m shown (reads.files shown.told) reads.beside reads.catalog reads.transaction) opened.ends (newest m) opened.database opened.comes f (short (why m shown))
    where
      short : (f ≡ fault.Memory) ⊎ (f ≡ fault.Io) → IsErrorCause (CannotStore (written x) (newest m)) (change_made (written x) (newest m)) f
      short out = inl (inl out)

  abbrev pub Started : Connections D g → Connections D g → Writer → Snapshot → Type 0
  Started old mid w s = StartsWriting old (with_transaction mid (transaction.Writing w)) w s

  begun_works : (old mid : Connections D g) (m : Machine) (shown : RepresentsRunning old m) (w : Writer) (s : Snapshot) → Started old mid w s → ShowsDatabase (newest_view (files_of old)) (current_in old.catalog) (newest m) → CanApply mid w (newest m)
  begun_works old mid m shown w s start base = record {
    told = start.files.told;
    settled = still_settled (files_of old) (files_of mid) start.files shown.settled;
    writer = writer_begins old (with_transaction mid (transaction.Writing w)) w s start shown.stored.served;
    stored = subst (λ (c : SavedCatalogs). ShowsDatabase (view_of (files_of mid) w) (current_in c) (newest m)) (sym start.catalog)
        (writer_stores old (with_transaction mid (transaction.Writing w)) w s (current_in old.catalog) (newest m) start base);
  }

  listed_on : (c : Connections D g) (m : Machine) → IsUnchanged c.catalog → ShowsDatabase (newest_view (files_of c)) (committed_in c.catalog) (newest m) → ShowsDatabase (newest_view (files_of c)) (current_in c.catalog) (newest m)
  listed_on c m all base = subst (λ (ts : Listed). ShowsDatabase (newest_view (files_of c)) ts (newest m)) (sym all) base

  -- a writer that has begun sees the pages of the newest commit
  -- where the write after it is refused
  pub begun_refused : (old mid after : Connections D g) (w : Writer) (s : Snapshot) (x : Write) (f : Fault) → mid.transaction ≡ old.transaction
      → ((m : Machine) → RepresentsRunning old m → Started old mid w s) → ((db : Database) → CanApply mid w db → IsNotApplied (written x) mid db after f)
      → ((m : Machine) → RepresentsRunning old m → (finish : Work → Outcome) × Opening old m x finish) → StepsOn old (written x) (Refused (refusal_of f)) after
  begun_refused old mid after w s x f beside starts applies opens m shown =
      refused old after m x (opens m shown).0 shown same (has.kept.beside ∙ start.beside) still opened.ends (newest m) opened.database opened.comes f
      (why_of (written x) (newest m) f has.why)
    where
      opened : Opening old m x (opens m shown).0
      opened = (opens m shown).1

      start : Started old mid w s
      start = starts m shown

      has : IsNotApplied (written x) mid (newest m) after f
      has = applies (newest m) (begun_works old mid m shown w s start (listed_on old m opened.all opened.base))

      same : ShowTheSame (files_of old) (files_of after)
      same = show_on (files_of old) (files_of mid) (files_of after) start.files has.kept.files

      committed : committed_in after.catalog ≡ committed_in old.catalog
      committed = has.kept.tables ∙ ap committed_in start.catalog

      tables : current_in after.catalog ≡ current_in old.catalog
      tables = has.tables ∙ ap current_in start.catalog

      still : RepresentsRunning after m
      still = stays old after m shown same (has.kept.beside ∙ start.beside)
          (subst (λ (t : Transaction). IsTransaction (files_of after) after.catalog m.history t shown.present) (sym (has.kept.transaction ∙ beside))
          (other_catalog (files_of after) old.catalog after.catalog m old.transaction shown.present committed tables (has.kept.savepoints ∙ ap savepoints_in start.catalog)
          (still_transaction (files_of old) (files_of after) old.catalog m.history old.transaction shown.present same shown.transaction)))

  -- a writer whose marks are set, one for each savepoint
  pub record IsMarkedFrom (old : Connections D g) (begun marked : Writer) : Type 0 where
    pub now : now_of marked ≡ now_of begun
    pub marks : marks_of marked ≡ marks_of begun ++ replicate (length (savepoints_in old.catalog).points) (now_of begun)
    pub stands : IsOverTheSame begun marked

  -- the first write of a transaction
  pub begun_writes : (old mid after : Connections D g) (w marked left : Writer) (s : Snapshot) (x : Write) → is_reading old.transaction ≡ true → MayWrite old
      → ((m : Machine) → RepresentsRunning old m → Started old mid w s) → IsMarkedFrom old w marked → ((db : Database) → CanApply mid marked db → IsApplied (written x) mid db after left)
      → marks_of left ≡ marks_of marked → IsOverTheSame marked left
      → StepsOn old (written x) (Rows []) (with_transaction after (transaction.Writing left))
  begun_writes old mid after w marked left s x reads may starts sets applies marks stands m shown = record {
    next = working_on b m old.connection has.made;
    step = by_outcome m old.connection (written x) shown.running shown.numbered (working b m old.connection (change_made (written x) (newest m))) (Rows []) (working_on b m old.connection has.made) opened.comes (worked_gives b m old.connection has.made (change_made (written x) (newest m)) has.reaches);
    shown = inr (moved old (with_transaction after (transaction.Writing left)) m (InTransactionOf b.by_savepoint b.points (Writes (last_place m) has.made)) shown
        same (has.kept.beside ∙ start.beside) (inr (free_of old m shown may.free))
        (record {
          db = has.made;
          points = at_begin (now_of w) r.first.points;
          is = ap (λ (k : Savepoints). InTransactionOf k.began b.points (Writes (last_place m) has.made)) (sym kept_points)
              ∙ ap (λ (ss : List SavepointState). InTransactionOf (savepoints_in after.catalog).began (reverse ss) (Writes (last_place m) has.made)) (states_at_begin (now_of w) r.first.points);
          may = has.applies.writer;
          stored = has.applies.stored;
          saved = record {
            tables = ap (λ (k : Savepoints). k.points) kept_points ∙ r.first.saved.tables ∙ tables_at_begin (now_of w) r.first.points;
            hold = shows_begin (files_of after) (committed_in old.catalog) (newest m) (now_of w) left back r.first.points r.first.saved.hold;
          };
          marks = marks ∙ sets.marks ∙ ap (λ (cs : List Changes). cs ++ replicate (length (savepoints_in old.catalog).points) (now_of w)) start.begun.marks
              ∙ marks_at_begin (now_of w) r.first.points (length (savepoints_in old.catalog).points) (ap length r.first.saved.tables ∙ length-map r.first.points (λ p. p.tables));
          base = subst (λ (v : View). ShowsDatabase v (committed_in after.catalog) (newest m)) (sym same.newest)
              (subst (λ (ts : Listed). ShowsDatabase (newest_view (files_of old)) ts (newest m)) (sym (has.kept.tables ∙ ap committed_in start.catalog)) opened.base);
        }));
    crash = crash_keeps old after m (working_on b m old.connection has.made) shown same;
    renewed = λ more. not_longer m.history more;
  }
    where
      r : ReadsNewest (files_of old) old.catalog m old.connection old.transaction shown.present
      r = reads_on old m shown reads may

      b : Begun
      b = begun_in old.catalog (states_of r.first.points)

      opened : Opening old m x (working b m old.connection)
      opened = opens_in old m shown x may r

      start : Started old mid w s
      start = starts m shown

      works : CanApply mid w (newest m)
      works = begun_works old mid m shown w s start (listed_on old m opened.all opened.base)

      has : IsApplied (written x) mid (newest m) after left
      has = applies (newest m) (moved_on mid w marked (newest m) sets.now sets.stands works)

      same : ShowTheSame (files_of old) (files_of after)
      same = show_on (files_of old) (files_of mid) (files_of after) start.files has.kept.files

      kept_points : savepoints_in after.catalog ≡ savepoints_in old.catalog
      kept_points = has.kept.savepoints ∙ ap savepoints_in start.catalog

      back : (u : Writer) → now_of u ≡ now_of w → IsOverTheSame left u → IsWriter (files_of after) u × ShowsDatabase (view_of (files_of after) u) (committed_in old.catalog) (newest m)
      back u now over =
          let on = moved_on mid w u (newest m) now (over_on w left u (over_on w marked left sets.stands stands) over) works in (
            still_writer (files_of mid) (files_of after) u has.kept.files on.writer,
            subst (λ (ts : Listed). ShowsDatabase (view_of (files_of after) u) ts (newest m)) (ap current_in start.catalog ∙ opened.all)
                (still_stored (files_of mid) (files_of after) u (current_in mid.catalog) (newest m) has.kept.files on.stored),
          )

  -- ---- commits

  -- where its commit is refused, what it made is gone
  pub dropped : (old after : Connections D g) (kept : SavedCatalogs) (w left : Writer) (db : Database) (f : Fault) → committed_in kept ≡ committed_in after.catalog → current_in kept ≡ committed_in after.catalog
      → HasNoSavepoints kept → CommitsChanges old w db (Err f) after left → EndsAlone old w db (Err f) (record after { catalog = kept })
  dropped old after kept w left db f committed tables gone (inl io) = inl (record { io = io.io; failed = io.failed; held = io.held; db_left = io.db_left; log_left = io.log_left })
  dropped old after kept w left db f committed tables gone (inr none) = inr (record {
    why = none.why;
    files = none.kept.files;
    beside = none.kept.beside;
    transaction = none.kept.transaction;
    committed = committed ∙ none.kept.tables;
    tables = tables ∙ none.kept.tables;
    savepoints = gone;
  })

  -- a statement of its own, after its work
  pub ended_alone : (old mid after new : Connections D g) (w left : Writer) (s : Snapshot) (x : Write) (result : Result ⊤ Fault) → is_idle old.transaction ≡ true → MayWrite old → mid.transaction ≡ old.transaction
      → ((m : Machine) → RepresentsRunning old m → Started old mid w s) → ((db : Database) → CanApply mid w db → IsApplied (written x) mid db after left)
      → ((db was : Database) → has_failed_in after ≡ false → CanApply after left db → ShowsDatabase (newest_view (files_of after)) (committed_in after.catalog) was → EndsAlone after left db result new) → StepsOn old (written x) (done_reply result) new
  ended_alone old mid after new w left s x result idle may beside starts applies ends m shown = by_result result (ends has.made (newest m) (ap (λ (b : Beside). b.failed) left_beside ∙ shown.whole) has.applies newest_stored)
    where
      opened : Opening old m x (alone m)
      opened = opens_alone old m shown x old.transaction may refl idle shown.transaction

      start : Started old mid w s
      start = starts m shown

      has : IsApplied (written x) mid (newest m) after left
      has = applies (newest m) (begun_works old mid m shown w s start (listed_on old m opened.all opened.base))

      left_beside : beside_in after ≡ beside_in old
      left_beside = has.kept.beside ∙ start.beside

      is_alone : after.transaction ≡ transaction.Idle
      is_alone = has.kept.transaction ∙ beside ∙ idle_now old.transaction idle

      worked : ShowTheSame (files_of old) (files_of after)
      worked = show_on (files_of old) (files_of mid) (files_of after) start.files has.kept.files

      committed_same : committed_in after.catalog ≡ committed_in old.catalog
      committed_same = has.kept.tables ∙ ap committed_in start.catalog

      newest_stored : ShowsDatabase (newest_view (files_of after)) (committed_in after.catalog) (newest m)
      newest_stored = subst (λ (v : View). ShowsDatabase v (committed_in after.catalog) (newest m)) (sym worked.newest)
          (subst (λ (ts : Listed). ShowsDatabase (newest_view (files_of old)) ts (newest m)) (sym committed_same) opened.base)

      none_before : HasNoSavepoints old.catalog
      none_before = (none_where_idle old m old.transaction shown.present shown.transaction idle).1

      same_gone : (f : Fault) → IsDropped after left new f → ShowTheSame (files_of old) (files_of new)
      same_gone f gone = show_on (files_of old) (files_of after) (files_of new) worked gone.files

      dropped_shown : (f : Fault) → IsDropped after left new f → RepresentsRunning new m
      dropped_shown f gone =
          let same = same_gone f gone in
          let committed : committed_in new.catalog ≡ committed_in old.catalog = gone.committed ∙ committed_same in
          let whole : current_in new.catalog ≡ current_in old.catalog = gone.tables ∙ committed_same ∙ sym opened.all in
          stays old new m shown same (gone.beside ∙ left_beside)
          (subst (λ (t : Transaction). IsTransaction (files_of new) new.catalog m.history t shown.present) (sym (gone.transaction ∙ has.kept.transaction ∙ beside))
          (other_catalog (files_of new) old.catalog new.catalog m old.transaction shown.present committed whole (gone.savepoints ∙ sym none_before)
          (still_transaction (files_of old) (files_of new) old.catalog m.history old.transaction shown.present same shown.transaction)))

      short : (f : Fault) → IsCommitCause (files_of after) left f → IsErrorCause (CannotStore (written x) (newest m)) (change_made (written x) (newest m)) f
      short f (inl memory) = inl (inl (inl memory))
      short f (inr full) = inl (inr full.0)

      by_result : (r : Result ⊤ Fault) → EndsAlone after left has.made r new → StepsTo old m (written x) (done_reply r) new
      by_result (Ok done) ended =
          let next = after_commit m old.connection has.made in
          let committed = ended.0 in
          then_steps old committed new m next (written x) (copied_after committed new next (committed_shown old after committed m shown has.made worked left_beside ended.1 (ended.1.transaction ∙ is_alone) (free_of old m shown may.free)) (ended.1.transaction ∙ is_alone) ended.3)
          (commit_crashes old after committed m has.made shown worked newest_stored ended.2) (renewed_after old after committed new worked left_beside ended.1.renewed ended.3)
          (by_outcome m old.connection (written x) shown.running shown.numbered (alone m (change_made (written x) (newest m))) (Rows []) next opened.comes (alone_commits m old.connection has.made (change_made (written x) (newest m)) has.reaches))
          (by_outcome m old.connection (written x) shown.running shown.numbered (alone m (change_made (written x) (newest m))) (Rows []) (fails next) opened.comes (alone_commits_failed m old.connection has.made (change_made (written x) (newest m)) has.reaches))
      by_result (Err f) (inl io) = record {
        next = doubted m has.made;
        step = subst (λ (e : Fault). StepOrTooLong m old.connection (written x) (as_answered (Refused (refusal_of e))) (once_answered (doubted m has.made) new.connection (Refused (refusal_of e)))) (sym io.io)
            (by_outcome m old.connection (written x) shown.running shown.numbered (alone m (change_made (written x) (newest m))) (Refused refusal.Io) (doubted m has.made) opened.comes (alone_doubts m old.connection has.made (change_made (written x) (newest m)) has.reaches));
        shown = inl (io.failed, refl, doubt_left old after new m has.made shown worked newest_stored io.held f io);
        crash = doubt_crashes old after new m has.made shown worked newest_stored io.held;
        renewed = λ more. not_longer m.history more;
      }
      by_result (Err f) (inr gone) = refused old new m x (alone m) shown (same_gone f gone) (gone.beside ∙ left_beside) (dropped_shown f gone) opened.ends (newest m) opened.database opened.comes f (short f gone.why)

  -- ---- a write of a transaction that writes

  pub wrote_on : (mid after : Connections D g) (writer left : Writer) (w : Write) (result : Result ⊤ Fault)
      → ((db : Database) → CanApply mid writer db → Applies (written w) mid writer db result after left) → IfErr result (λ f. now_of left ≡ now_of writer) → marks_of left ≡ marks_of writer → IsOverTheSame writer left
      → StepsOn (with_transaction mid (transaction.Writing writer)) (written w) (done_reply result) (with_transaction after (transaction.Writing left))
  wrote_on mid after writer left w result applies back marks over m shown = by_result result (applies t.db here) back
    where
      old : Connections D g
      old = with_transaction mid (transaction.Writing writer)

      t : IsWritingIn (files_of mid) mid.catalog m.history writer shown.present
      t = shown.transaction

      b : Begun
      b = begun_in mid.catalog (states_of t.points)

      here : CanApply mid writer t.db
      here = record { told = shown.told; settled = shown.settled; writer = t.may; stored = t.stored }

      comes : outcome m old.connection (written w) ≡ working b m old.connection (change_made (written w) t.db)
      comes = write_outcome_of w m old.connection (in_transaction mid.catalog t.points (Writes (last_place m) t.db)) (shown.is ∙ t.is)

      -- the writer has the savepoints that it had
      goes_on : (k : Connection) (db : Database) → k ≡ in_transaction mid.catalog t.points (Writes (last_place m) db) → KeepsCommitted mid after → CanApply after left db → IsWritingIn (files_of after) after.catalog m.history left k
      goes_on k db is kept on = record {
        db = db;
        points = t.points;
        is = is ∙ ap (λ (s : Savepoints). InTransactionOf s.began (states_of t.points) (Writes (last_place m) db)) (sym kept.savepoints);
        may = on.writer;
        stored = on.stored;
        saved = record {
          tables = ap (λ (s : Savepoints). s.points) kept.savepoints ∙ t.saved.tables;
          hold = (still_saved (files_of mid) (files_of after) mid.catalog (newest m) writer left t.points kept.files (λ u on. over_on writer left u over on) t.saved).hold;
        };
        marks = marks ∙ t.marks;
        base = subst (λ (v : View). ShowsDatabase v (committed_in after.catalog) (newest m)) (sym kept.files.newest)
            (subst (λ (ts : Listed). ShowsDatabase (newest_view (files_of mid)) ts (newest m)) (sym kept.tables) t.base);
      }

      by_result : (r : Result ⊤ Fault) → Applies (written w) mid writer t.db r after left → IfErr r (λ f. now_of left ≡ now_of writer) → StepsTo old m (written w) (done_reply r) (with_transaction after (transaction.Writing left))
      by_result (Ok done) has now = record {
        next = working_on b m old.connection has.made;
        step = by_outcome m old.connection (written w) shown.running shown.numbered (working b m old.connection (change_made (written w) t.db)) (Rows []) (working_on b m old.connection has.made) comes (worked_gives b m old.connection has.made (change_made (written w) t.db) has.reaches);
        shown = inr (moved old (with_transaction after (transaction.Writing left)) m (in_transaction mid.catalog t.points (Writes (last_place m) has.made)) shown has.kept.files has.kept.beside
            (inr (lone_still old m shown (ap is_writing t.is))) (goes_on (in_transaction mid.catalog t.points (Writes (last_place m) has.made)) has.made refl has.kept has.applies));
        crash = crash_keeps old (with_transaction after (transaction.Writing left)) m (working_on b m old.connection has.made) shown has.kept.files;
        renewed = λ more. not_longer m.history more;
      }
      by_result (Err f) has now =
          let still = went_back (written w) mid after t.db writer left f now over here has in
          refused old (with_transaction after (transaction.Writing left)) m w (working b m old.connection) shown has.kept.files has.kept.beside
          (stays old (with_transaction after (transaction.Writing left)) m shown has.kept.files has.kept.beside (goes_on shown.present t.db t.is has.kept still))
          (finish_in b m old.connection) t.db (ap (database_of m) (shown.is ∙ t.is)) comes f
          (why_of (written w) t.db f has.why)

  -- a step of the connections with the transaction that they have
  pub with_own : (c new : Connections D g) (t : Transaction) (s : Statement) (reply : Reply) → c.transaction ≡ t → StepsOn (with_transaction c t) s reply new → StepsOn c s reply new
  with_own c new t s reply is steps = subst (λ (x : Transaction). StepsOn (with_transaction c x) s reply new) (sym is) steps

pub reading_else : (t : Transaction) → (t ≡ transaction.Idle → ⊥) → ((w : Writer) → t ≡ transaction.Writing w → ⊥) → is_reading t ≡ true
reading_else transaction.Idle idle writing = absurd (idle refl)
reading_else transaction.Begun idle writing = refl
reading_else (transaction.Reading s) idle writing = refl
reading_else (transaction.Writing w) idle writing = absurd (writing w refl)
