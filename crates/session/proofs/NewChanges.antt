-- The commit of those of a writer's pages that its snapshot doesn't show, after these were read.
use Rattle.std.proofs.Common.{◌≡◌, ◌⊎◌, inl, inr, refl, sym, ap, subst, ◌∙◌, ℕ, ◌<◌, ◌≤◌, Bool, List, [], ◌∷◌, length, false, arith}
use Rattle.std.specs.Prelude.{⊤, IfErr, IsErrAnd, IsTrue, OnOk, Result, Ok, Err, if◌then◌else◌}
use Rattle.sqlval.specs.Faults.{IsOutside}
use Rattle.sqlval.specs.declared.fault.Fault.{Fault}
use Rattle.disk.specs.declared.device.Disk.{Ghosts}
use Rattle.disk.proofs.Current.{synced_left}
use Rattle.pages.specs.Map.{PageMap}
use Rattle.wal.specs.Anew.{IsStateCommitted, base_of, begins_anew}
use Rattle.wal.specs.Commits.{grown}
use Rattle.wal.specs.LogState.{LogState, db_of, log_of, state_of}
use Rattle.wal.specs.declared.pages.PageImage.{PageImage}
use Rattle.wal.specs.Refusals.{IsWithin}
use Rattle.wal.specs.Restarts.{next_header, restarted}
use Rattle.wal.specs.Sizes.{IsSizeWithinLimits}
use Rattle.wal.specs.declared.log.Log.{Log}
use Rattle.wal.specs.declared.log.Snapshot.{Snapshot}
use Rattle.catalog.specs.Database.{Database}
use Rattle.session.specs.SavedTables.{committed_in, current_in, savepoints_in}
use Rattle.db_header.specs.declared.fields.Header.{Header}
use Rattle.pager.specs.Commits.{CommitsPages, IsRefusedCommit, LeavesCommit, MayCommit}
use Rattle.pager.specs.Limits.{pages_of}
use Rattle.pager.specs.Maps.{pages_in}
use Rattle.pager.specs.Pruning.{AreAllThere, AreNew, IsPruned}
use Rattle.pager.specs.Views.{View, ViewHas, after, changes_of, newest_view, view_at, view_of}
use Rattle.pager.specs.Writers.{BeginAtPageOne, seen, snapshot_of}
use Rattle.pager.specs.declared.writer.Writer.{Writer}
use Rattle.pager.proofs.Mapping.{maps_alike}
use Rattle.pager.proofs.NewPages.{new_twice}
use Rattle.db_pages.specs.Stored.{Stores}
use Rattle.session.specs.ConnectionState.{files_of, has_failed_in, is_io}
use Rattle.session.specs.Applying.{CanApply, CommitsChanges, CommitsDatabase, HoldsEither, IsAfterCommit, IsAfterRefusal, IsCommitCause, IsInDoubt, IsPast, IsUncommitted, WritesChanges}
use Rattle.session.specs.Representation.{Beside, ShowTheSame, beside_in, is_alone}
use Rattle.session.specs.Writers.{IsNewest, IsWriter}
use Rattle.session.specs.Stored.{ShowsDatabase}
use Rattle.session.specs.declared.transactions.Connections.{Connections}
use Rattle.session.proofs.Committing.{commit_holds, commit_refused, has_committed, may_commit}
use Rattle.session.proofs.FirstPages.{all_there, first_of}
use Rattle.session.proofs.SeenPages.{at_newest}
use Rattle.session.proofs.Settled.{held_from, settled_leaves, still_settled}
use Rattle.session.proofs.Showing.{still_writer}
use Rattle.session.proofs.Writing.{show_on}
use Rattle.catalog.specs.Listed.{Listed}

module _ {D : Type 0} {g : Ghosts D} where
  -- a writer's snapshot shows a database, where the newest view does
  pub newest_there : (files : Log D g) (w : Writer) (tables : Listed) (was : Database) → IsWriter files w → ShowsDatabase (newest_view files) tables was → AreAllThere (view_at files (snapshot_of w))
  newest_there files w tables was writer stored = all_there (view_at files (snapshot_of w)) tables was (subst (λ (v : View). ShowsDatabase v tables was) (sym (at_newest files (snapshot_of w) writer.newest)) stored)

  -- ---- files that were read before

  -- the connections with these files
  abbrev pub with_files : Connections D g → Log D g → Connections D g
  with_files c files = record c { log = files }

  module _ (old : Connections D g) (mid : Log D g) (w : Writer) (db was : Database) (whole : has_failed_in old ≡ false) (applies : CanApply old w db) (stored : ShowsDatabase (newest_view (files_of old)) (committed_in old.catalog) was)
      (same : ShowTheSame (files_of old) mid) where
    -- the writer's pages hold the database still
    pub still_applies : (next : Connections D g) → ShowTheSame (files_of old) (files_of next) → current_in next.catalog ≡ current_in old.catalog → CanApply next w db
    still_applies next shows tables = record {
      told = shows.told;
      settled = still_settled (files_of old) (files_of next) shows applies.settled;
      writer = still_writer (files_of old) (files_of next) w shows applies.writer;
      stored = subst (λ (ts : Listed). ShowsDatabase (view_of (files_of next) w) ts db) (sym tables)
          (subst (λ (v : View). ShowsDatabase (after v (changes_of w) (pages_of w)) (current_in old.catalog) db) (sym (shows.at (snapshot_of w))) applies.stored);
    }

    pub mid_applies : CanApply (with_files old mid) w db
    mid_applies = still_applies (with_files old mid) same refl

    -- a refusal after which the files are as they were
    pub left_so : (next : Connections D g) (f : Fault) → IsCommitCause (files_of old) w f → ShowTheSame (files_of old) (files_of next) → beside_in next ≡ beside_in old → next.transaction ≡ old.transaction
        → committed_in next.catalog ≡ committed_in old.catalog → savepoints_in next.catalog ≡ savepoints_in old.catalog → current_in next.catalog ≡ current_in old.catalog → IsUncommitted old w db next w f
    left_so next f why shows beside transaction committed points current = record {
      why = why;
      kept = record { files = shows; beside = beside; transaction = transaction; tables = committed; savepoints = points };
      tables = current;
      applies = still_applies next shows current;
      marks = refl;
      stands = record { page_size = refl; snapshot = refl };
    }

    -- where reading them was refused
    pub not_read : (next : Connections D g) (f : Fault) → IsOutside f → IsAfterRefusal old mid f next → CommitsChanges old w db (Err f) next w
    not_read next f (inl memory) is = inr (left_so next f (inl memory) (subst (ShowTheSame (files_of old)) (sym is.files_are) same) (is.beside ∙ ap (λ (b : Bool). record (beside_in old) { failed = b }) (ap is_io memory ∙ sym whole)) is.transaction (ap committed_in is.catalog) (ap savepoints_in is.catalog) (ap current_in is.catalog))
    not_read next f (inr io) is =
        let shows : ShowTheSame (files_of old) (files_of next) = subst (ShowTheSame (files_of old)) (sym is.files_are) same in
        let settled = still_settled (files_of old) (files_of next) shows applies.settled in
        inl (record {
          io = io;
          failed = ap (λ (b : Beside). b.failed) is.beside ∙ ap is_io io;
          held = λ first shown. ([], (settled_leaves (λ d. (d ≡ first) ⊎ (d ≡ db)) (files_of old) (committed_in old.catalog) first (inl refl) applies.settled shown, shows.db_file, shows.log_file));
          db_left = synced_left (g.file (db_of (files_of next))) settled.db_synced;
          log_left = synced_left (g.file (log_of (files_of next))) settled.log_synced;
        })

    held_over : (next : Connections D g) → HoldsEither (with_files old mid) db next → HoldsEither old db next
    held_over next held first shown = held_from (λ d. (d ≡ first) ⊎ (d ≡ db)) (files_of old) mid (files_of next) same
        (held first (subst (λ (v : View). ShowsDatabase v (committed_in old.catalog) first) (sym same.newest) shown))

    committed_over : (next : Connections D g) → CommitsDatabase (with_files old mid) db next → CommitsDatabase old db next
    committed_over next is = record {
      told = is.told;
      settled = is.settled;
      failed = is.failed;
      connection = is.connection;
      parked = is.parked;
      transaction = is.transaction;
      all = is.all;
      savepoints = is.savepoints;
      stored = is.stored;
      older = λ others. (let kept = is.older others in
          record {
            more = omega (arith, kept.more, ap (λ (k : LogState). k.frames) same.known);
            at = λ s within. kept.at s (omega (arith, within, ap (λ (k : LogState). k.frames) same.known)) ∙ same.at s;
          });
      renewed = λ anew. is.renewed (subst (λ (k : LogState). IsTrue (begins_anew k (is_alone old))) (sym same.known) anew) ∙ ap (λ (k : LogState). next_header k.header) same.known;
    }

    doubt_over : (next : Connections D g) (f : Fault) → IsInDoubt (with_files old mid) db next f → IsInDoubt old db next f
    doubt_over next f is = record { io = is.io; failed = is.failed; held = held_over next is.held; db_left = is.db_left; log_left = is.log_left }

    -- what is past the limits then was so before
    past_over : (v : Writer) → snapshot_of v ≡ snapshot_of w → pages_of v ≡ pages_of w
        → ((pages : List _) → AreNew (view_at (files_of old) (snapshot_of w)) (changes_of v) pages → AreNew (view_at (files_of old) (snapshot_of w)) (changes_of w) pages)
        → IsPast mid v → IsPast (files_of old) w
    past_over v snapshot size on past = record {
      pages = past.pages;
      are = on past.pages (subst (λ (x : View). AreNew x (changes_of v) past.pages) (same.at (snapshot_of w)) (subst (λ (s : Snapshot). AreNew (view_at mid s) (changes_of v) past.pages) snapshot past.are));
      past = λ within. past.past (subst (λ (k : LogState). IsWithin k (length past.pages) (pages_of v)) (sym same.known) (subst (λ (n : ℕ). IsWithin (state_of (files_of old)) (length past.pages) n) (sym size) within));
    }

    cause_over : (v : Writer) (f : Fault) → (IsPast mid v → IsPast (files_of old) w) → IsCommitCause mid v f → IsCommitCause (files_of old) w f
    cause_over v f on (inl memory) = inl memory
    cause_over v f on (inr full) = inr (full.0, on full.1)

    -- the commit of the writer itself
    pub written_over : (result : Result ⊤ Fault) (next : Connections D g) (left : Writer) → CommitsChanges (with_files old mid) w db result next left → CommitsChanges old w db result next left
    written_over (Ok done) next left is = (committed_over next is.0, held_over next is.1)
    written_over (Err f) next left (inl doubt) = inl (doubt_over next f doubt)
    written_over (Err f) next left (inr none) = inr (record {
      why = cause_over w f (past_over w refl refl (λ pages are. are)) none.why;
      kept = record { files = show_on (files_of old) mid (files_of next) same none.kept.files; beside = none.kept.beside; transaction = none.kept.transaction; tables = none.kept.tables; savepoints = none.kept.savepoints };
      tables = none.tables;
      applies = none.applies;
      marks = none.marks;
      stands = none.stands;
    })

    -- ---- a writer that has the new ones alone

    module _ (pruned : Writer) (is : IsPruned (view_at (files_of old) (snapshot_of w)) w pruned) where
      pruned_sees : (number : ℕ) (bytes : List ℕ) → ViewHas (view_of mid pruned) number bytes → ViewHas (view_of mid w) number bytes
      pruned_sees number bytes has =
          subst (λ (v : View). ViewHas (seen v w) number bytes) (sym (same.at (snapshot_of w)))
          ((is.sees number bytes).0 (subst (λ (v : View). ViewHas (seen v pruned) number bytes) (same.at (snapshot_of w)) (subst (λ (s : Snapshot). ViewHas (seen (view_at mid s) pruned) number bytes) is.snapshot has)))

      sees_pruned : (number : ℕ) (bytes : List ℕ) → ViewHas (view_of mid w) number bytes → ViewHas (view_of mid pruned) number bytes
      sees_pruned number bytes has =
          subst (λ (s : Snapshot). ViewHas (seen (view_at mid s) pruned) number bytes) (sym is.snapshot)
          (subst (λ (v : View). ViewHas (seen v pruned) number bytes) (sym (same.at (snapshot_of w)))
          ((is.sees number bytes).1 (subst (λ (v : View). ViewHas (seen v w) number bytes) (same.at (snapshot_of w)) has)))

      same_map : pages_in (view_of mid pruned) ≡ pages_in (view_of mid w)
      same_map = maps_alike (view_of mid pruned) (view_of mid w) is.size (λ number bytes. (pruned_sees number bytes, sees_pruned number bytes))

      pub pruned_applies : CanApply (with_files old mid) pruned db
      pruned_applies =
          let all = mid_applies in
          record {
            told = all.told;
            settled = all.settled;
            writer = record {
              newest = subst (IsNewest mid) (sym is.snapshot) all.writer.newest;
              sound = is.sound;
              page_size = is.page_size ∙ all.writer.page_size;
            };
            stored = record {
              stored = subst (λ (map : PageMap). Stores map (view_of mid w).page_size (current_in old.catalog) db) (sym same_map) all.stored.stored;
              served = subst (IsSizeWithinLimits (view_of mid w).page_size) (sym is.size) all.stored.served;
            };
          }

      -- its commit is the writer's; after a refusal that one is as it was
      pub pruned_over : (result : Result ⊤ Fault) (next : Connections D g) (left : Writer) → CommitsChanges (with_files old mid) pruned db result next left → CommitsChanges old w db result next w
      pruned_over (Ok done) next left has = (committed_over next has.0, held_over next has.1)
      pruned_over (Err f) next left (inl doubt) = inl (doubt_over next f doubt)
      pruned_over (Err f) next left (inr none) = inr (left_so next f
          (cause_over pruned f (past_over pruned is.snapshot is.size (λ pages are. new_twice (view_at (files_of old) (snapshot_of w)) (changes_of w) (changes_of pruned) pages is.changes are)) none.why)
          (show_on (files_of old) mid (files_of next) same none.kept.files) none.kept.beside none.kept.transaction none.kept.tables none.kept.savepoints none.tables)

    -- ---- what the call has come to

    -- the pages weren't read
    pub unread : (result : Result ⊤ Fault) (f : Fault) → IsErrAnd result (λ e. e ≡ f) → IsOutside f → WritesChanges old w db result mid w
    unread (Ok done) f is out = absurd is
    unread (Err e) f is out = λ next after. not_read next e (subst IsOutside (sym is) out) after

    -- a writer over the files that were read was committed
    module _ (v : Writer) (applies_now : CanApply (with_files old mid) v db) (own : AreNew (view_at mid (snapshot_of v)) (changes_of v) (changes_of v)) where
      abbrev pub page : List ℕ
      page = first_of (view_of mid v)

      abbrev pub header : Header
      header = applies_now.stored.stored.header

      pub may : MayCommit mid v page header
      may = may_commit (with_files old mid) v db applies_now

      -- a commit has a frame for each page, and page 1 is among them
      some_changes : (ps : List PageImage) → BeginAtPageOne ps → 1 ≤ length ps
      some_changes [] first = absurd first
      some_changes (p ∷ ps) first = omega arith

      more_frames : (new : Log D g) → state_of new ≡ grown (base_of (state_of mid) (is_alone old)) (length (changes_of v)) (pages_of v) → is_alone old ≡ false → (state_of mid).frames < (state_of new).frames
      more_frames new known others =
          let grows : state_of new ≡ grown (state_of mid) (length (changes_of v)) (pages_of v) =
          known ∙ ap (λ (b : Bool). grown (base_of (state_of mid) b) (length (changes_of v)) (pages_of v)) others in
          omega (arith, some_changes (changes_of v) applies_now.writer.sound.consistent.first, ap (λ (k : LogState). k.frames) grows)

      -- it begins the log anew where no other connection sees a snapshot and all frames are copied
      begins_log : (new : Log D g) → state_of new ≡ grown (base_of (state_of mid) (is_alone old)) (length (changes_of v)) (pages_of v) → IsTrue (begins_anew (state_of mid) (is_alone old)) → (state_of new).header ≡ next_header (state_of mid).header
      begins_log new known anew =
          ap (λ (k : LogState). k.header) known
          ∙ ap (λ (b : Bool). (if b then restarted (state_of mid) else state_of mid).header) anew

      on_mid : {files : Log D g} (next : Connections D g) → IsAfterCommit old files next → IsAfterCommit (with_files old mid) (files_of next) next
      on_mid next after = record {
        files_are = refl;
        failed = after.failed;
        connection = after.connection;
        parked = after.parked;
        transaction = after.transaction;
        newest = after.newest;
        all = after.all;
        savepoints = after.savepoints;
      }

      pub ends : (result : Result ⊤ Fault) (new : Log D g) (left last : Writer) → OnOk result (CommitsPages mid (is_alone old) v page header new) → IfErr result (IsRefusedCommit mid (is_alone old) v page header new left) → db_of new ≡ db_of mid
          → IsStateCommitted (is_alone old) result (state_of mid) (length (changes_of v)) (pages_of v) (state_of new) → (log_of new ≡ log_of mid) ⊎ LeavesCommit mid v page header new
          → ((r : Result ⊤ Fault) (next : Connections D g) → CommitsChanges (with_files old mid) v db r next left → CommitsChanges old w db r next last) → WritesChanges old w db result new last
      ends (Ok done) new left last commits refused db_same known crash over = λ next after.
          let made : CommitsPages mid (is_alone old) v page header (files_of next) = subst (CommitsPages mid (is_alone old) v page header) (sym after.files_are) commits in
          let same_db : db_of (files_of next) ≡ db_of mid = ap db_of after.files_are ∙ db_same in
          over (Ok done) next (
            has_committed (with_files old mid) next v db applies_now made same_db (λ others. more_frames (files_of next) (ap state_of after.files_are ∙ known) others) (λ anew. begins_log (files_of next) (ap state_of after.files_are ∙ known) anew) (on_mid next after),
            commit_holds (with_files old mid) next v db applies_now same_db (subst (λ (l : Log D g). (log_of l ≡ log_of mid) ⊎ LeavesCommit mid v page header l) (sym after.files_are) crash),
          )
      ends (Err f) new left last commits refused db_same known crash over = λ next after.
          over (Err f) next (commit_refused (with_files old mid) next v left db f applies_now (subst (λ (l : Log D g). IsRefusedCommit mid (is_alone old) v page header l left f) (sym after.files_are) refused) own (ap db_of after.files_are ∙ db_same)
          (subst (λ (l : Log D g). (log_of l ≡ log_of mid) ⊎ LeavesCommit mid v page header l) (sym after.files_are) crash) whole after.beside after.catalog after.transaction)
