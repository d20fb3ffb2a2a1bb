-- What a crash leaves of files that are settled, and of what a commit makes of them.
use Rattle.std.proofs.Common.{◌≡◌, ◌⊎◌, ◌<◌, ◌≤◌, inl, inr, refl, sym, ap, subst, ◌∙◌, ℕ, List, [], ◌∷◌, length, map, arith}
use Rattle.std.specs.Prelude.{Option, Some, MatchOption, ⊤, None}
use Rattle.disk.proofs.Current.{synced_left}
use Rattle.disk.specs.File.{File, IsContentLeft, IsLeft, IsRun, IsSynced, OnDb, OnLog, Phase, Version, versions, whole}
use Rattle.disk.proofs.Left.{left_synced}
use Rattle.disk.proofs.Moments.{alone, always_end, always_weaker, run_weaker}
use Rattle.disk.specs.declared.device.Disk.{Ghosts}
use Rattle.db_header.specs.Header.{IsHeader, counted_of}
use Rattle.db_header.specs.declared.fields.Header.{Header}
use Rattle.wal.specs.Committed.{HasCommits}
use Rattle.wal.specs.LogState.{db_of, state_of, log_of}
use Rattle.wal.specs.Sizes.{IsViewSize}
use Rattle.wal_frame.specs.Written.{Framed}
use Rattle.wal.specs.Alone.{StandsAlone}
use Rattle.wal.specs.Anew.{LeavesAmong}
use Rattle.wal.specs.declared.log.Log.{Log}
use Rattle.catalog.specs.Database.{Database}
use Rattle.pager.specs.Commits.{IsBase, IsCommittedOver, LeavesCommit}
use Rattle.pager.specs.Limits.{pages_of}
use Rattle.pager.specs.Views.{View, newest_view}
use Rattle.pager.specs.declared.writer.Writer.{Writer}
use Rattle.session.specs.Holding.{Hold, HoldThroughout, IsFound, IsSettled, LeaveHeld}
use Rattle.session.proofs.FilesAlone.{found_alone, shown_alone}
use Rattle.session.proofs.Standing.{held_if_stored}
use Rattle.session.specs.ConnectionState.{files_of}
use Rattle.session.specs.Machine.{Machine, newest}
use Rattle.session.specs.Representation.{RepresentsRunning, ShowTheSame, Represents, newest_tables}
use Rattle.session.specs.Crashes.{MayShow}
use Rattle.session.specs.Stored.{ShowsDatabase}
use Rattle.session.specs.declared.transactions.Connections.{Connections}
use Rattle.catalog.specs.Listed.{Listed}

-- a history isn't longer than itself
pub not_longer : {P : Type 0} (history : List Database) → length history < length history → P
not_longer history more = absurd (omega (arith, more))

-- of a synced file a crash leaves the content
synced_is : (file : File) → IsSynced file → (c : List ℕ) → IsLeft (versions file) c → c ≡ file.content
synced_is file synced c left = left_synced (whole file.content) c (subst (λ (vs : List Version). IsLeft vs c) (alone file synced) left)

counts_so : (counted : Option ℕ) (pages size : ℕ) → counted ≡ Some pages → pages ≡ size → MatchOption counted (⊤) (λ count. count ≡ size)
counts_so None pages size is same = tt
counts_so (Some count) pages size is same = cc

-- what a run may leave at its end
run_end : (Good : List Version → List Version → Type 0) (phases : List Phase) (db log new_db new_log : File) → IsRun Good phases db log new_db new_log → Good (versions new_db) (versions new_log)
run_end Good [] db log new_db new_log run =
    subst (λ (d : File). Good (versions d) (versions new_log)) (sym run.1) (subst (λ (l : File). Good (versions db) (versions l)) (sym run.2) run.0)
run_end Good (OnDb d ∷ phases) db log new_db new_log run = run_end Good phases d log new_db new_log run.1
run_end Good (OnLog l ∷ phases) db log new_db new_log run = run_end Good phases db l new_db new_log run.1

-- what holds a database that may be shown, holds one that may be shown in a weaker sense
pub weaker : (May More : Database → Type 0) → ((d : Database) → May d → More d) → (dbs logs : List Version) → LeaveHeld May dbs logs → LeaveHeld More dbs logs
weaker May More f dbs logs held d l left_db left_log chance = (let h = held d l left_db left_log chance in (h.0, f h.0 h.1, h.2))

module _ {D : Type 0} {g : Ghosts D} where
  -- ---- settled files

  -- a crash leaves the newest database
  pub settled_leaves : (May : Database → Type 0) (files : Log D g) (tables : Listed) (db : Database) → May db → IsSettled files → ShowsDatabase (newest_view files) tables db
      → LeaveHeld May (versions (g.file (db_of files))) (versions (g.file (log_of files)))
  settled_leaves May files tables db may settled stored d l left_db left_log chance = (
    db,
    may,
    held_if_stored d l db (record {
      view = newest_view files;
      db_is = sym (synced_is (g.file (db_of files)) settled.db_synced d left_db);
      commits = subst (λ (c : List ℕ). HasCommits (state_of files).page_size c (newest_view files).frames) (sym (synced_is (g.file (log_of files)) settled.log_synced l left_log)) settled.commits;
      found = settled.found;
      tables = tables;
      stored = stored;
    }),
  )

  -- files that were read at most are settled still
  pub still_settled : (old new : Log D g) → ShowTheSame old new → IsSettled old → IsSettled new
  still_settled old new same is = record {
    db_synced = subst IsSynced (sym same.db_file) is.db_synced;
    log_synced = subst IsSynced (sym same.log_file) is.log_synced;
    commits = subst (λ (f : File). HasCommits (state_of new).page_size f.content (newest_view new).frames) (sym same.log_file)
        (subst (λ (v : View). HasCommits v.page_size (g.file (log_of old)).content v.frames) (sym same.newest) is.commits);
    found = subst IsFound (sym same.newest) is.found;
  }

  -- nothing but the newest database is left where the files were read at most
  pub crash_keeps : (old new : Connections D g) (m next : Machine) → RepresentsRunning old m → ShowTheSame (files_of old) (files_of new) → HoldThroughout (MayShow m next) (files_of old) (files_of new)
  crash_keeps old new m next shown same =
      ([], (settled_leaves (MayShow m next) (files_of old) (newest_tables old) (newest m) (inl refl) shown.settled shown.stored, same.db_file, same.log_file))

  pub left_shown : (c : Connections D g) (m : Machine) → Represents c m → LeaveHeld (MayShow m m) (versions (g.file (db_of (files_of c)))) (versions (g.file (log_of (files_of c))))
  left_shown c m (inl failed) = failed.2.held
  left_shown c m (inr shown) = settled_leaves (MayShow m m) (files_of c) (newest_tables c) (newest m) (inl refl) shown.settled shown.stored

  pub as_shown : (c : Connections D g) (m : Machine) → Represents c m → HoldThroughout (MayShow m m) (files_of c) (files_of c)
  as_shown c m shows = ([], (left_shown c m shows, refl, refl))

  -- ---- runs

  pub held_weaker : (May More : Database → Type 0) → ((d : Database) → May d → More d) → (old new : Log D g) → HoldThroughout May old new → HoldThroughout More old new
  held_weaker May More f old new run =
      (run.0, run_weaker (LeaveHeld More) (LeaveHeld May) (weaker May More f) run.0 (g.file (db_of old)) (g.file (log_of old)) (g.file (db_of new)) (g.file (log_of new)) run.1)

  -- from files that were read at most before
  pub held_from : (May : Database → Type 0) (old mid new : Log D g) → ShowTheSame old mid → HoldThroughout May mid new → HoldThroughout May old new
  held_from May old mid new same run = (
    run.0,
    subst (λ (d : File). IsRun (LeaveHeld May) run.0 d (g.file (log_of old)) (g.file (db_of new)) (g.file (log_of new))) same.db_file
        (subst (λ (l : File). IsRun (LeaveHeld May) run.0 (g.file (db_of mid)) l (g.file (db_of new)) (g.file (log_of new))) same.log_file run.1),
  )

  pub held_end : (May : Database → Type 0) (old new : Log D g) → HoldThroughout May old new → LeaveHeld May (versions (g.file (db_of new))) (versions (g.file (log_of new)))
  held_end May old new run = run_end (LeaveHeld May) run.0 (g.file (db_of old)) (g.file (log_of old)) (g.file (db_of new)) (g.file (log_of new)) run.1

  -- ---- commits

  -- opening finds a view that a commit leaves
  pub found_over : (old : Log D g) (w : Writer) (page : List ℕ) (header : Header) (view : View) → IsFound (newest_view old) → view.db ≡ (newest_view old).db → view.page_size ≡ (newest_view old).page_size
      → IsCommittedOver old w page header view → ((counted : Option ℕ) (len : ℕ) → IsViewSize (map (λ f. f.head) view.frames) counted len view.page_size view.size) → length view.frames ≤ 1000000 → 1 ≤ pages_of w → IsFound view
  found_over old w page header view found db_is size_is is sized few some = record {
    head = found.head;
    head_is = subst (λ (b : List ℕ). IsHeader b found.head) (sym db_is) found.head_is;
    head_size = found.head_size ∙ sym size_is;
    sized = sized (counted_of found.head) (length view.db);
    few = few;
    page = is.first;
    first = record { first = omega arith; last = omega (arith, some, is.size); has = is.has_first };
    header = is.next;
    header_is = is.headed.header_is;
    counted = counts_so (counted_of is.next) (pages_of w) view.size is.next_is.counts (sym is.size);
  }

  module _ (old new : Log D g) (w : Writer) (page : List ℕ) (header : Header) (settled : IsSettled old) (db_same : db_of new ≡ db_of old) (some : 1 ≤ pages_of w) (before behind : Listed) (was db : Database)
      (stored : ShowsDatabase (newest_view old) before was) (stores : (view : View) → view.page_size ≡ (newest_view old).page_size → IsCommittedOver old w page header view → ShowsDatabase view behind db) where
    -- where the log's frames are copied, the database file alone holds the same
    abbrev alone_view : View
    alone_view = record (newest_view old) { frames = [] }

    alone_held : (alone : StandsAlone (newest_view old).db (newest_view old).page_size (newest_view old).frames (newest_view old).size) (d l : List ℕ) → d ≡ (g.file (db_of old)).content
        → HasCommits (state_of old).page_size l [] → Hold d l was
    alone_held alone d l same none = held_if_stored d l was (record {
      view = alone_view;
      db_is = sym same;
      commits = none;
      found = found_alone (newest_view old) before was settled.found stored alone;
      tables = before;
      stored = shown_alone (newest_view old) before was stored alone;
    })

    abbrev Either : Database → Type 0
    Either d = (d ≡ was) ⊎ (d ≡ db)

    either_held : (leaves : LeavesCommit old w page header new) (logs : List Version) → LeavesAmong (state_of old).page_size (newest_view old).frames leaves.base leaves.view.frames logs → LeaveHeld Either (versions (g.file (db_of old))) logs
    either_held leaves logs among d l left_db left_log chance = elim (among l left_log chance) [
      | inl these ↦ (was, inl refl, kept these)
      | inr (inl based) ↦ (was, inl refl, on_base leaves.base_is based)
      | inr (inr those) ↦ (
        db,
        inr refl,
        held_if_stored d l db (record {
          view = leaves.view;
          db_is = leaves.db_is ∙ sym same;
          commits = subst (λ (n : ℕ). HasCommits n l leaves.view.frames) (sym leaves.page_size_is) those;
          found = found_over old w page header leaves.view settled.found leaves.db_is leaves.page_size_is leaves.is leaves.sized leaves.few some;
          tables = behind;
          stored = stores leaves.view leaves.page_size_is leaves.is;
        }),
      )
    ]
      where
        same : d ≡ (g.file (db_of old)).content
        same = synced_is (g.file (db_of old)) settled.db_synced d left_db

        kept : HasCommits (state_of old).page_size l (newest_view old).frames → Hold d l was
        kept these = held_if_stored d l was (record { view = newest_view old; db_is = sym same; commits = these; found = settled.found; tables = before; stored = stored })

        on_base : IsBase old leaves.base → HasCommits (state_of old).page_size l leaves.base → Hold d l was
        on_base (inl is) based = kept (subst (λ (fs : List Framed). HasCommits (state_of old).page_size l fs) is based)
        on_base (inr is) based = alone_held is.1 d l same (subst (λ (fs : List Framed). HasCommits (state_of old).page_size l fs) is.0 based)

    -- at each moment of a commit a crash leaves the database from before it, or the one after it
    pub either_throughout : (log_of new ≡ log_of old) ⊎ LeavesCommit old w page header new → HoldThroughout Either old new
    either_throughout (inl same) = ([], (settled_leaves Either old before was (inl refl) settled stored, ap g.file db_same, ap g.file same))
    either_throughout (inr leaves) =
        let good : List Version → Type 0 = LeaveHeld Either (versions (g.file (db_of old))) in
        let run = always_weaker (g.file (log_of old)) (g.file (log_of new)) good (LeavesAmong (state_of old).page_size (newest_view old).frames leaves.base leaves.view.frames) (either_held leaves) leaves.crash in
        (OnLog (g.file (log_of new)) ∷ [], (run, (always_end (g.file (log_of old)) (g.file (log_of new)) good run, ap g.file db_same, refl)))

  -- the contents themselves are what a crash may leave then
  pub db_left : (old new : Log D g) → IsSettled old → db_of new ≡ db_of old → IsContentLeft (g.file (db_of new))
  db_left old new settled same = subst (λ (d : D). IsContentLeft (g.file d)) (sym same) (synced_left (g.file (db_of old)) settled.db_synced)

  pub log_left : (old new : Log D g) (w : Writer) (page : List ℕ) (header : Header) → IsSettled old → (log_of new ≡ log_of old) ⊎ LeavesCommit old w page header new → IsContentLeft (g.file (log_of new))
  log_left old new w page header settled (inl same) = subst (λ (d : D). IsContentLeft (g.file d)) (sym same) (synced_left (g.file (log_of old)) settled.log_synced)
  log_left old new w page header settled (inr leaves) = leaves.content
