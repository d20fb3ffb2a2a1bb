-- What a commit of a writer's pages leaves of the database that they hold.
use Rattle.std.proofs.Common.{◌≡◌, ◌⊎◌, ◌<◌, ◌≤◌, inl, inr, refl, sym, ap, subst, ◌∙◌, ℕ, length, Bool, true, false, arith}
use Rattle.std.specs.Prelude.{Err, if◌then◌else◌}
use Rattle.std.proofs.lemmas.Bool.{false≢true}
use Rattle.disk.specs.File.{IsSynced}
use Rattle.disk.specs.declared.device.Disk.{Ghosts}
use Rattle.sqlval.specs.declared.fault.Fault.{Fault}
use Rattle.sqlval.specs.declared.fault.Fault.TheVariants as fault
use Rattle.wal.specs.Committed.{frames_under}
use Rattle.wal.specs.LogState.{LogState, db_of, header_of, state_of, log_of, seen_by, size_of}
use Rattle.wal.specs.Anew.{base_of, begins_anew}
use Rattle.wal.specs.Refusals.{IsWithin}
use Rattle.wal.specs.Restarts.{restarted}
use Rattle.wal.specs.declared.log.Log.{Log}
use Rattle.catalog.specs.Database.{Database}
use Rattle.session.specs.SavedTables.{committed_in, current_in, savepoints_in}
use Rattle.session.specs.declared.savepoints.SavedCatalogs.{SavedCatalogs}
use Rattle.pager.specs.Commits.{CommitsPages, IsCommittedOver, IsRefusedCommit, LeavesCommit, MayCommit}
use Rattle.pager.specs.Limits.{pages_of}
use Rattle.pager.specs.Pruning.{AreNew}
use Rattle.pager.specs.Views.{Tells, View, after, changes_of, newest_view, view_at, view_of}
use Rattle.pager.specs.Writers.{snapshot_of}
use Rattle.pager.proofs.Backing.{back_sound}
use Rattle.pager.specs.declared.writer.Writer.{Writer}
use Rattle.session.specs.ConnectionState.{files_of, has_failed_in, is_io}
use Rattle.session.specs.Representation.{Beside, ShowTheSame, beside_in, is_alone}
use Rattle.session.specs.Writers.{IsNewest, IsWriter}
use Rattle.session.specs.Stored.{ShowsDatabase}
use Rattle.session.specs.Applying.{BeginsAnewBeside, CommitsChanges, CommitsDatabase, HoldsEither, IsAfterCommit, IsCommitCause, IsUncommitted, CanApply}
use Rattle.session.specs.declared.transactions.Connections.{Connections}
use Rattle.session.proofs.FirstPages.{first_of, first_shown, shows_headed}
use Rattle.session.proofs.Settled.{db_left, either_throughout, found_over, log_left, still_settled}
use Rattle.session.proofs.Showing.{still_writer}
use Rattle.catalog.specs.Listed.{Listed}

-- what is within the limits of a log, is so where it is begun anew
within_base : (known : LogState) (may_restart : Bool) (count size : ℕ) → IsWithin known count size → IsWithin (base_of known may_restart) count size
within_base known may_restart count size is = by_anew (begins_anew known may_restart)
  where
    by_anew : (b : Bool) → IsWithin (if b then restarted known else known) count size
    by_anew true = record { few = omega (arith, is.few); served = is.served }
    by_anew false = is

module _ {D : Type 0} {g : Ghosts D} where
  -- a writer that works on a database may commit it
  pub may_commit : (c : Connections D g) (w : Writer) (db : Database) (applies : CanApply c w db) → MayCommit (files_of c) w (first_of (view_of (files_of c) w)) applies.stored.stored.header
  may_commit c w db applies = record {
    tells = applies.told;
    whole = applies.writer.sound.consistent;
    newest = applies.writer.newest.seen;
    page_size = applies.writer.page_size;
    reaches = λ number past high none. applies.writer.sound.reaches number (omega (arith, past, applies.writer.newest.sized)) high none;
    first = (first_shown (view_of (files_of c) w) (current_in c.catalog) db applies.stored).has;
    header_is = applies.stored.stored.header_is;
  }

  -- a view that the commit leaves holds the database
  stores_over : (old : Log D g) (w : Writer) (tables : Listed) (db : Database) (held : ShowsDatabase (view_of old w) tables db) (view : View) → view.page_size ≡ (newest_view old).page_size
      → IsCommittedOver old w (first_of (view_of old w)) held.stored.header view → ShowsDatabase view tables db
  stores_over old w tables db held view sized is =
      shows_headed (view_of old w) view sized is.size is.others is.first is.next is.has_first is.headed tables db held is.next_is.page_size is.next_is.freelist_trunk is.next_is.freelist_count

  some_pages : (old : Log D g) (w : Writer) (tables : Listed) (db : Database) → ShowsDatabase (view_of old w) tables db → 1 ≤ pages_of w
  some_pages old w tables db held = (first_shown (view_of old w) tables db held).last

  pub has_committed : (old new : Connections D g) (w : Writer) (db : Database) (applies : CanApply old w db) → CommitsPages (files_of old) (is_alone old) w (first_of (view_of (files_of old) w)) applies.stored.stored.header (files_of new)
      → db_of (files_of new) ≡ db_of (files_of old) → (is_alone old ≡ false → (state_of (files_of old)).frames < (state_of (files_of new)).frames) → BeginsAnewBeside old new → IsAfterCommit old (files_of new) new
      → CommitsDatabase old db new
  has_committed old new w db applies is db_same more anew next = record {
    told = is.tells;
    settled = record {
      db_synced = subst (λ (d : D). IsSynced (g.file d)) (sym db_same) applies.settled.db_synced;
      log_synced = is.synced;
      commits = is.settled;
      found = found_over (files_of old) w (first_of (view_of (files_of old) w)) applies.stored.stored.header (newest_view (files_of new)) applies.settled.found is.db_is is.page_size_is is.left is.sized is.few (some_pages (files_of old) w (current_in old.catalog) db applies.stored);
    };
    failed = next.failed;
    connection = next.connection;
    parked = next.parked;
    transaction = next.transaction;
    all = next.all;
    savepoints = next.savepoints;
    renewed = anew;
    older = λ others. record { more = more others; at = is.stay (ap (λ (b : Bool). begins_anew (state_of (files_of old)) b) others) };
    stored = subst (λ (ts : Listed). ShowsDatabase (newest_view (files_of new)) ts db) (sym next.newest) (stores_over (files_of old) w (current_in old.catalog) db applies.stored (newest_view (files_of new)) is.page_size_is is.left);
  }

  -- what a crash leaves of it
  pub commit_holds : (old new : Connections D g) (w : Writer) (db : Database) (applies : CanApply old w db) → db_of (files_of new) ≡ db_of (files_of old)
      → (log_of (files_of new) ≡ log_of (files_of old)) ⊎ LeavesCommit (files_of old) w (first_of (view_of (files_of old) w)) applies.stored.stored.header (files_of new) → HoldsEither old db new
  commit_holds old new w db applies db_same crash was stored =
      either_throughout (files_of old) (files_of new) w (first_of (view_of (files_of old) w)) applies.stored.stored.header applies.settled db_same (some_pages (files_of old) w (current_in old.catalog) db applies.stored)
      (committed_in old.catalog) (current_in old.catalog) was db stored (stores_over (files_of old) w (current_in old.catalog) db applies.stored) crash

  -- ---- a refused commit

  -- files that are what they were show what they showed
  pub same_files : (old new : Log D g) → Tells old → db_of new ≡ db_of old → log_of new ≡ log_of old → state_of new ≡ state_of old → ShowTheSame old new
  same_files old new told db log known = record {
    told = record { db = ap g.tells db ∙ told.db; log = ap g.tells log ∙ told.log; whole = ap (λ (k : LogState). k.has_failed) known ∙ told.whole };
    known = known;
    newest = λ i. record { db = (g.file (db i)).content; frames = frames_under (header_of (known i)) (g.file (log i)).content (known i).frames; page_size = (known i).page_size; size = (known i).size };
    at = λ s i. record { db = (g.file (db i)).content; frames = frames_under (header_of (known i)) (g.file (log i)).content (seen_by s); page_size = (known i).page_size; size = size_of s };
    db_file = ap g.file db;
    log_file = ap g.file log;
  }

  module _ (old new : Connections D g) (w left : Writer) (db : Database) (f : Fault) (applies : CanApply old w db) (is : IsRefusedCommit (files_of old) (is_alone old) w (first_of (view_of (files_of old) w)) applies.stored.stored.header (files_of new) left f) where
    -- its writer may commit later
    writer_left : IsWriter (files_of old) left
    writer_left = record {
      newest = subst (IsNewest (files_of old)) (sym is.snapshot) applies.writer.newest;
      sound = back_sound w left is.now (record { page_size = is.page_size; snapshot = is.snapshot }) applies.writer.sound;
      page_size = is.page_size ∙ applies.writer.page_size;
    }

    -- and sees the same database
    stores_left : ShowsDatabase (view_of (files_of old) left) (current_in old.catalog) db
    stores_left =
        shows_headed (view_of (files_of old) w) (view_of (files_of old) left) refl is.size (λ number bytes other low high. is.others number bytes other) is.first applies.stored.stored.header is.has_first is.headed (current_in old.catalog) db applies.stored refl refl refl

    works_left : ShowTheSame (files_of old) (files_of new) → new.catalog ≡ old.catalog → CanApply new left db
    works_left same catalog = record {
      told = same.told;
      settled = still_settled (files_of old) (files_of new) same applies.settled;
      writer = still_writer (files_of old) (files_of new) left same writer_left;
      stored = subst (λ (c : SavedCatalogs). ShowsDatabase (view_of (files_of new) left) (current_in c) db) (sym catalog)
          (subst (λ (v : View). ShowsDatabase (after v (changes_of left) (pages_of left)) (current_in old.catalog) db) (sym (same.at (snapshot_of left))) stores_left);
    }

    uncommitted : IsCommitCause (files_of old) w f → (f ≡ fault.Io → ⊥) → beside_in new ≡ beside_in old → new.catalog ≡ old.catalog → new.transaction ≡ old.transaction → IsUncommitted old w db new left f
    uncommitted why other beside catalog transaction =
        let files = is.files other in
        let same = same_files (files_of old) (files_of new) applies.told files.0 files.1 files.2 in
        record {
          why = why;
          kept = record { files = same; beside = beside; transaction = transaction; tables = ap committed_in catalog; savepoints = ap savepoints_in catalog };
          tables = ap current_in catalog;
          applies = works_left same catalog;
          marks = is.marks;
          stands = record { page_size = is.page_size; snapshot = is.snapshot };
        }

    pub commit_refused : AreNew (view_at (files_of old) (snapshot_of w)) (changes_of w) (changes_of w) → db_of (files_of new) ≡ db_of (files_of old)
        → (log_of (files_of new) ≡ log_of (files_of old)) ⊎ LeavesCommit (files_of old) w (first_of (view_of (files_of old) w)) applies.stored.stored.header (files_of new) → has_failed_in old ≡ false → beside_in new ≡ record (beside_in old) { failed = is_io f } → new.catalog ≡ old.catalog → new.transaction ≡ old.transaction → CommitsChanges old w db (Err f) new left
    commit_refused own db_same crash whole beside catalog transaction = by_why is.why
      where
        still_failed : (b : Bool) → b ≡ has_failed_in old → record (beside_in old) { failed = b } ≡ beside_in old
        still_failed b same = ap (λ (x : Bool). record (beside_in old) { failed = x }) same

        by_why : (f ≡ fault.Memory) ⊎ ((f ≡ fault.Io) ⊎ ((f ≡ fault.Full) × (IsWithin (base_of (state_of (files_of old)) (is_alone old)) (length (changes_of w)) (pages_of w) → ⊥))) → CommitsChanges old w db (Err f) new left
        by_why (inl memory) = inr (uncommitted (inl memory) (λ io. false≢true (ap is_io (sym memory ∙ io))) (beside ∙ still_failed (is_io f) (ap is_io memory ∙ sym whole)) catalog transaction)
        by_why (inr (inl io)) = inl (record {
          io = io;
          failed = ap (λ (b : Beside). b.failed) beside ∙ ap is_io io;
          held = commit_holds old new w db applies db_same crash;
          db_left = db_left (files_of old) (files_of new) applies.settled db_same;
          log_left = log_left (files_of old) (files_of new) w (first_of (view_of (files_of old) w)) applies.stored.stored.header applies.settled crash;
        })
        by_why (inr (inr full)) = inr (uncommitted (inr (full.0, record { pages = changes_of w; are = own; past = λ within. full.1 (within_base (state_of (files_of old)) (is_alone old) (length (changes_of w)) (pages_of w) within) })) (λ io. false≢true (ap is_io (sym full.0 ∙ io))) (beside ∙ still_failed (is_io f) (ap is_io full.0 ∙ sym whole)) catalog transaction)
