-- What files hold after the log's frames were copied into the database file.
use Rattle.std.proofs.Common.{◌≡◌, ◌⊎◌, ◌≤◌, ◌*◌, ◌∙◌, inl, inr, ℕ, List, [], ◌∷◌, Bool, true, false, length, map, take, refl, sym, ap, subst, arith}
use Rattle.std.specs.Prelude.{⊤, ◌||◌, Option, Some, None, MatchOption, unwrap_or}
use Rattle.std.specs.List.{AllByRecursion, list_any}
use Rattle.std.proofs.lemmas.Bool.{false≢true}
use Rattle.disk.specs.declared.device.Disk.{Ghosts}
use Rattle.disk.specs.File.{Version}
use Rattle.disk.proofs.Moments.{run_weaker}
use Rattle.sqlval.specs.PageSizes.{IsPageSize}
use Rattle.db_header.specs.Header.{IsHeader, counted_of}
use Rattle.db_header.specs.declared.fields.Header.{Header}
use Rattle.db_header.proofs.Fronts.{header_moves}
use Rattle.wal_frame.specs.declared.frame.FrameHeader.{FrameHeader}
use Rattle.wal_frame.specs.Written.{Framed}
use Rattle.catalog.specs.Database.{Database}
use Rattle.wal.specs.LogState.{db_of, log_of, seen_by, size_of, state_of}
use Rattle.wal.specs.Sizes.{IsViewSize}
use Rattle.wal.specs.declared.log.Log.{Log}
use Rattle.wal.specs.declared.log.Snapshot.{Snapshot}
use Rattle.pager.specs.Marks.{Changes}
use Rattle.pager.specs.Views.{Tells, View, ViewHas, newest_view, view_at, view_of}
use Rattle.pager.specs.Writers.{snapshot_of}
use Rattle.pager.specs.declared.writer.Writer.{Writer}
use Rattle.pager.proofs.Mapping.{maps_shown}
use Rattle.wal_checkpoint.specs.Shown.{Checkpoints, LeaveShown, MayCopy, Meanwhile, ShowsNewest, ShowsSame, view_over}
use Rattle.session.specs.Holding.{HoldThroughout, IsFound, IsSettled, LeaveHeld}
use Rattle.session.specs.Machine.{Connection}
use Rattle.session.specs.Representation.{AreParked, IsSnapshotOf, IsTransaction, committed_at, newest_in}
use Rattle.session.specs.SavedTables.{committed_in, current_in}
use Rattle.session.specs.Saving.{IsMarked, SavedAs}
use Rattle.session.specs.Seats.{IsLeast, IsSeen, SeesAtLeast, holds_snapshot, sees_snapshot, snapshot_in}
use Rattle.session.specs.Stored.{ShowsDatabase}
use Rattle.session.specs.Writers.{IsNewest, IsWriter}
use Rattle.session.specs.declared.savepoints.SavedCatalogs.{SavedCatalogs}
use Rattle.session.specs.declared.seats.Seat.{Seat}
use Rattle.session.specs.declared.seats.Transaction.{Transaction}
use Rattle.session.specs.declared.seats.Transaction.TheVariants as transaction
use Rattle.session.proofs.FilesAlone.{first_bytes}
use Rattle.session.proofs.FirstPages.{all_there, first_of, first_shown}
use Rattle.session.proofs.SameViews.{same_seen, same_shown}
use Rattle.session.proofs.SeenPages.{at_newest, one_page}
use Rattle.session.proofs.Standing.{held_if_stored}
use Rattle.session.proofs.StandingViews.{one_header}
use Rattle.catalog.specs.Listed.{Listed}

-- the size that a header counts, or that the file has
size_of_file : (counted : Option ℕ) (size len page_size : ℕ) → MatchOption counted (⊤) (λ count. count ≡ size) → len ≡ size * page_size → IsViewSize [] counted len page_size size
size_of_file (Some count) size len page_size is long = sym is
size_of_file None size len page_size is long = sym long

-- where there are frames, the size is theirs whatever the file is
size_of_frames : (heads : List FrameHeader) (counted other : Option ℕ) (len long page_size size : ℕ) → (heads ≡ [] → (counted ≡ other) × (len ≡ long)) → IsViewSize heads other long page_size size → IsViewSize heads counted len page_size size
size_of_frames [] counted other len long page_size size same is =
    subst (λ (n : ℕ). IsViewSize [] counted n page_size size) (sym (same refl).1) (subst (λ (c : Option ℕ). IsViewSize [] c long page_size size) (sym (same refl).0) is)
size_of_frames (h ∷ hs) counted other len long page_size size same is = is

none_of : (frames : List Framed) → map (λ (f : Framed). f.head) frames ≡ [] → frames ≡ []
none_of [] is = refl
none_of (f ∷ fs) is = absurd cc

-- a page's front, as the header of a file
pub record HasHeaderAt (bytes : List ℕ) (page_size : ℕ) : Type 0 where
  pub header : Header
  pub is : IsHeader bytes header
  pub sized : header.page_size ≡ page_size

-- page 1 of a view that shows a database has its header
pub header_shown : (view : View) (tables : Listed) (db : Database) → ShowsDatabase view tables db → (page : List ℕ) → ViewHas view 1 page → HasHeaderAt page view.page_size
header_shown view tables db shown page has = record {
  header = shown.stored.header;
  is = subst (λ (b : List ℕ). IsHeader b shown.stored.header) (one_page view 1 (first_of view) page (first_shown view tables db shown).has has) shown.stored.header_is;
  sized = shown.stored.sized;
}

none_first : (p q : Bool) → (p || q) ≡ false → (p ≡ false) × (q ≡ false)
none_first true q none = absurd (false≢true (sym none))
none_first false q none = (refl, none)

some_is : (a b : Snapshot) → Some a ≡ Some b → a ≡ b
some_is a b is = cc

-- no seat has it where none sees a snapshot
pub none_seen : (ss : List Seat) (s : Snapshot) → list_any holds_snapshot ss ≡ false → IsSeen ss s → ⊥
none_seen [] s none is = is
none_seen (x ∷ ss) s none (inl here) = by_transaction x.transaction (none_first (holds_snapshot x) (list_any holds_snapshot ss) none).0 here
  where
    by_transaction : (t : Transaction) → sees_snapshot t ≡ false → snapshot_in t ≡ Some s → ⊥
    by_transaction transaction.Idle not is = absurd cc
    by_transaction transaction.Begun not is = absurd cc
    by_transaction (transaction.Reading own) not is = false≢true (sym not)
    by_transaction (transaction.Writing w) not is = false≢true (sym not)
none_seen (x ∷ ss) s none (inr rest) = none_seen ss s (none_first (holds_snapshot x) (list_any holds_snapshot ss) none).1 rest

module _ {D : Type 0} {g : Ghosts D} where
  module _ (files : Log D g) (target : Snapshot) (tables : Listed) (database : Database) (found : IsFound (newest_view files)) (stored : ShowsDatabase (newest_view files) tables database)
      (headed : (page : List ℕ) → ViewHas (view_at files target) 1 page → HasHeaderAt page (newest_view files).page_size) where
    -- page 1's header is that by which the newest view is found
    first_header : found.header ≡ stored.stored.header
    first_header = one_header found.page _ found.header stored.stored.header (sym (maps_shown (newest_view files) 1 found.page found.first)) found.header_is stored.stored.header_is

    module _ (db : List ℕ) (frames : List Framed) (shows : ShowsNewest files target db frames) where
      abbrev now : View
      now = view_over files db frames

      head_by : (take 100 db ≡ take 100 (newest_view files).db) ⊎ ((page : List ℕ) × ViewHas (view_at files target) 1 page × (take 100 db ≡ take 100 page)) → HasHeaderAt db (newest_view files).page_size
      head_by (inl same) = record { header = found.head; is = header_moves (newest_view files).db db found.head (sym same) found.head_is; sized = found.head_size }
      head_by (inr page) = (let h = headed page.0 page.1 in record { header = h.header; is = header_moves page.0 db h.header (sym page.2) h.is; sized = h.sized })

      first_now : ViewHas now 1 found.page
      first_now = shows.same.pages 1 found.page found.first.first found.first.last found.first.has

      -- where no frames count, the file begins with page 1
      in_file : frames ≡ [] → HasHeaderAt db (newest_view files).page_size
      in_file none = by_frames (subst (λ (fs : List Framed). ViewHas (view_over files db fs) 1 found.page) none first_now)
        where
          by_frames : ViewHas (view_over files db []) 1 found.page → HasHeaderAt db (newest_view files).page_size
          by_frames (inl newest) = absurd (omega (arith, newest.1.within))
          by_frames (inr filed) = record {
            header = found.header;
            is = header_moves found.page db found.header (first_bytes db (newest_view files).page_size found.page (subst IsPageSize stored.stored.sized stored.stored.header_is.served) filed.1) found.header_is;
            sized = ap (λ (h : Header). h.page_size) first_header ∙ stored.stored.sized;
          }

      found_with : (head : HasHeaderAt db (newest_view files).page_size) → IsViewSize (map (λ f. f.head) frames) (counted_of head.header) (length db) (newest_view files).page_size (newest_view files).size → length frames ≤ 1000000 → IsFound now
      found_with head sized few = record {
        head = head.header;
        head_is = head.is;
        head_size = head.sized;
        sized = sized;
        few = few;
        page = found.page;
        first = record { first = found.first.first; last = found.first.last; has = first_now };
        header = found.header;
        header_is = found.header_is;
        counted = found.counted;
      }

      in_file_is : (none : frames ≡ []) → (in_file none).header ≡ found.header
      in_file_is none = one_header db db (in_file none).header found.header refl (in_file none).is (by_is (in_file none))
        where
          by_is : HasHeaderAt db (newest_view files).page_size → IsHeader db found.header
          by_is h = filed (subst (λ (fs : List Framed). ViewHas (view_over files db fs) 1 found.page) none first_now)
            where
              filed : ViewHas (view_over files db []) 1 found.page → IsHeader db found.header
              filed (inl newest) = absurd (omega (arith, newest.1.within))
              filed (inr is) = header_moves found.page db found.header (first_bytes db (newest_view files).page_size found.page (subst IsPageSize stored.stored.sized stored.stored.header_is.served) is.1) found.header_is

      found_by : ((frames ≡ (newest_view files).frames) × (frames ≡ [] → db ≡ (newest_view files).db)) ⊎ (frames ≡ []) × (length db ≡ (newest_view files).size * (newest_view files).page_size) → IsFound now
      found_by (inr none) =
          let head = in_file none.0 in
          found_with head
          (subst (λ (fs : List Framed). IsViewSize (map (λ f. f.head) fs) (counted_of head.header) (length db) (newest_view files).page_size (newest_view files).size) (sym none.0)
          (size_of_file (counted_of head.header) (newest_view files).size (length db) (newest_view files).page_size
          (subst (λ (h : Header). MatchOption (counted_of h) (⊤) (λ count. count ≡ (newest_view files).size)) (sym (in_file_is none.0)) found.counted) none.1))
          (omega (arith, ap length none.0))
      found_by (inl same) =
          let head = head_by shows.front in
          found_with head
          (size_of_frames (map (λ f. f.head) frames) (counted_of head.header) (counted_of found.head) (length db) (length (newest_view files).db) (newest_view files).page_size (newest_view files).size
          (λ none. (let is = same.1 (none_of frames none) in
          (ap counted_of (one_header db (newest_view files).db head.header found.head is head.is found.head_is), ap length is)))
          (subst (λ (fs : List Framed). IsViewSize (map (λ f. f.head) fs) (counted_of found.head) (length (newest_view files).db) (newest_view files).page_size (newest_view files).size) (sym same.0) found.sized))
          (omega (arith, found.few, ap length same.0))

      pub found_now : IsFound now
      found_now = found_by shows.frames_are

      pub stored_now : ShowsDatabase now tables database
      stored_now = same_shown (newest_view files) now tables database shows.same stored

    -- so what a crash leaves holds the database
    pub held_where_shown : (May : Database → Type 0) → May database → (dbs logs : List Version) → LeaveShown files target dbs logs → LeaveHeld May dbs logs
    held_where_shown May may dbs logs leaves db log left_db left_log chance =
        let is = leaves db log left_db left_log in (
          database,
          may,
          held_if_stored db log database (record {
            view = view_over files db is.0;
            db_is = refl;
            commits = is.1;
            found = found_now db is.0 is.2;
            tables = tables;
            stored = stored_now db is.0 is.2;
          }),
        )

    pub throughout_shown : (May : Database → Type 0) → May database → (new : Log D g) → Meanwhile files target new → HoldThroughout May files new
    throughout_shown May may new meanwhile = (
      meanwhile.shown.0,
      run_weaker (LeaveHeld May) (LeaveShown files target) (held_where_shown May may) meanwhile.shown.0 (g.file (db_of files)) (g.file (log_of files)) (g.file (db_of new)) (g.file (log_of new)) meanwhile.shown.1,
    )

    module _ (may_restart : Bool) (new : Log D g) (is : Checkpoints files target may_restart new) where
      pub newest_same : view_over files (newest_view new).db (newest_view new).frames ≡ newest_view new
      newest_same = λ i. record { db = (newest_view new).db; frames = (newest_view new).frames; page_size = sym is.page_size i; size = sym is.size i }

      pub settled_now : IsSettled new
      settled_now = record {
        db_synced = is.db_synced;
        log_synced = is.log_synced;
        commits = is.commits;
        found = subst IsFound newest_same (found_now (newest_view new).db (newest_view new).frames is.shows);
      }

      pub newest_now : ShowsDatabase (newest_view new) tables database
      newest_now = subst (λ (v : View). ShowsDatabase v tables database) newest_same (stored_now (newest_view new).db (newest_view new).frames is.shows)

  -- ---- other connections

  -- whoever sees at least the frames of a snapshot sees what he saw
  pub record KeepsSights (old new : Log D g) (target : Snapshot) : Type 0 where
    pub frames : (state_of new).frames ≡ (state_of old).frames
    pub size : (state_of new).size ≡ (state_of old).size
    pub page_size : (state_of new).page_size ≡ (state_of old).page_size
    pub within : seen_by target ≤ (state_of old).frames
    pub newest : (tables : Listed) (db : Database) → ShowsDatabase (newest_view old) tables db → ShowsDatabase (newest_view new) tables db
    pub at : (snapshot : Snapshot) → seen_by target ≤ seen_by snapshot → seen_by snapshot ≤ (state_of old).frames
        → (seen_by snapshot ≡ (state_of old).frames → size_of snapshot ≡ (state_of old).size) → ShowsSame (view_at old snapshot) (view_at new snapshot)

  module _ (old new : Log D g) (target : Snapshot) (keeps : KeepsSights old new target) where
    moved_newest : (s : Snapshot) → IsNewest old s → IsNewest new s
    moved_newest s is = record { seen = is.seen ∙ sym keeps.frames; sized = is.sized ∙ sym keeps.size }

    moved_writer : (w : Writer) → IsWriter old w → IsWriter new w
    moved_writer w is = record { newest = moved_newest (snapshot_of w) is.newest; sound = is.sound; page_size = is.page_size ∙ sym keeps.page_size }

    moved_stored : (w : Writer) (tables : Listed) (db : Database) → IsWriter old w → ShowsDatabase (view_of old w) tables db → ShowsDatabase (view_of new w) tables db
    moved_stored w tables db is stored =
        let at = keeps.at (snapshot_of w) (omega (arith, keeps.within, is.newest.seen)) (omega (arith, is.newest.seen)) (λ all. is.newest.sized) in
        same_shown (view_of old w) (view_of new w) tables db (same_seen (view_at old (snapshot_of w)) (view_at new (snapshot_of w)) w at is.sound refl) stored

    moved_marked : (newest : Database) (w : Writer) (points : List (SavedAs Changes)) → AllByRecursion (IsMarked old newest w) points → AllByRecursion (IsMarked new newest w) points
    moved_marked newest w [] all = tt
    moved_marked newest w (p ∷ points) all = (
      record {
        named = all.0.named;
        back = λ u now over. (let back = all.0.back u now over in (moved_writer u back.0, moved_stored u p.tables.tables (unwrap_or p.state.working newest) back.0 back.1));
      },
      moved_marked newest w points all.1,
    )

    moved_snapshot : (tables : Listed) (history : List Database) (i : ℕ) (s : Snapshot) → seen_by target ≤ seen_by s → IsSnapshotOf old tables history i s → IsSnapshotOf new tables history i s
    moved_snapshot tables history i s least is = record {
      shows = same_shown (view_at old s) (view_at new s) tables (committed_at history i) at is.shows;
      age = elim is.age [
        | inl last ↦ inl (last.0, moved_newest s last.1)
        | inr before ↦ inr (before.0, omega (arith, before.1, keeps.frames))
      ];
    }
      where
        at : ShowsSame (view_at old s) (view_at new s)
        at = elim is.age [
          | inl last ↦ keeps.at s least (omega (arith, last.1.seen)) (λ all. last.1.sized)
          | inr before ↦ keeps.at s least (omega (arith, before.1)) (λ all. absurd (omega (arith, before.1, all)))
        ]

    moved_transaction : (catalog : SavedCatalogs) (history : List Database) (t : Transaction) (k : Connection) → MatchOption (snapshot_in t) (⊤) (λ s. seen_by target ≤ seen_by s)
        → IsTransaction old catalog history t k → IsTransaction new catalog history t k
    moved_transaction catalog history transaction.Idle k least is = is
    moved_transaction catalog history transaction.Begun k least is = is
    moved_transaction catalog history (transaction.Reading s) k least is = (is.0, is.1, moved_snapshot (committed_in catalog) history is.0 s least is.2)
    moved_transaction catalog history (transaction.Writing w) k least is = record {
      db = is.db;
      points = is.points;
      is = is.is;
      may = moved_writer w is.may;
      stored = moved_stored w (current_in catalog) is.db is.may is.stored;
      saved = record { tables = is.saved.tables; hold = moved_marked (newest_in history) w is.points is.saved.hold };
      marks = is.marks;
      base = keeps.newest (committed_in catalog) (newest_in history) is.base;
    }

    pub moved_parked : (history : List Database) (ss : List Seat) (ks : List Connection) → AllByRecursion (SeesAtLeast target) ss → AreParked old history ss ks → AreParked new history ss ks
    moved_parked history [] [] least are = tt
    moved_parked history [] (k ∷ ks) least are = absurd are
    moved_parked history (s ∷ ss) [] least are = absurd are
    moved_parked history (s ∷ ss) (k ∷ ks) least are = (moved_transaction s.catalog history s.transaction k least.0 are.0, moved_parked history ss ks least.1 are.1)

  pub alone_transaction : (old new : Log D g) (catalog : SavedCatalogs) (history : List Database) (t : Transaction) (k : Connection) → sees_snapshot t ≡ false → IsTransaction old catalog history t k → IsTransaction new catalog history t k
  alone_transaction old new catalog history transaction.Idle k none is = is
  alone_transaction old new catalog history transaction.Begun k none is = is
  alone_transaction old new catalog history (transaction.Reading s) k none is = absurd (false≢true (sym none))
  alone_transaction old new catalog history (transaction.Writing w) k none is = absurd (false≢true (sym none))

  -- connections without snapshots see no files
  pub alone_parked : (old new : Log D g) (history : List Database) (ss : List Seat) (ks : List Connection) → list_any holds_snapshot ss ≡ false → AreParked old history ss ks → AreParked new history ss ks
  alone_parked old new history [] [] none are = tt
  alone_parked old new history [] (k ∷ ks) none are = absurd are
  alone_parked old new history (s ∷ ss) [] none are = absurd are
  alone_parked old new history (s ∷ ss) (k ∷ ks) none are =
      let first = none_first (holds_snapshot s) (list_any holds_snapshot ss) none in
      (alone_transaction old new s.catalog history s.transaction k first.0 are.0, alone_parked old new history ss ks first.1 are.1)

  -- ---- the snapshot up to which frames are copied

  -- it shows a database, and is the newest where it sees all frames
  pub record IsSight (files : Log D g) (s : Snapshot) : Type 0 where
    pub tables : Listed
    pub db : Database
    pub shows : ShowsDatabase (view_at files s) tables db
    pub within : seen_by s ≤ (state_of files).frames
    pub sized : seen_by s ≡ (state_of files).frames → size_of s ≡ (state_of files).size

  newest_sight : (files : Log D g) (s : Snapshot) (tables : Listed) (db : Database) → IsNewest files s → ShowsDatabase (newest_view files) tables db → IsSight files s
  newest_sight files s tables db is shows = record {
    tables = tables;
    db = db;
    shows = subst (λ (v : View). ShowsDatabase v tables db) (sym (at_newest files s is)) shows;
    within = omega (arith, is.seen);
    sized = λ all. is.sized;
  }

  sight_of : (files : Log D g) (catalog : SavedCatalogs) (history : List Database) (t : Transaction) (k : Connection) (s : Snapshot) → snapshot_in t ≡ Some s → IsTransaction files catalog history t k → IsSight files s
  sight_of files catalog history transaction.Idle k s is are = absurd cc
  sight_of files catalog history transaction.Begun k s is are = absurd cc
  sight_of files catalog history (transaction.Reading own) k s is are = subst (IsSight files) (some_is own s is) (record {
    tables = committed_in catalog;
    db = committed_at history are.0;
    shows = are.2.shows;
    within = elim are.2.age [
      | inl last ↦ omega (arith, last.1.seen)
      | inr before ↦ omega (arith, before.1)
    ];
    sized = λ all. elim are.2.age [
      | inl last ↦ last.1.sized
      | inr before ↦ absurd (omega (arith, before.1, all))
    ];
  })
  sight_of files catalog history (transaction.Writing w) k s is are =
      subst (IsSight files) (some_is (snapshot_of w) s is) (newest_sight files (snapshot_of w) (committed_in catalog) (newest_in history) are.may.newest are.base)

  seen_sight : (files : Log D g) (history : List Database) (ss : List Seat) (ks : List Connection) (s : Snapshot) → IsSeen ss s → AreParked files history ss ks → IsSight files s
  seen_sight files history [] ks s is are = absurd is
  seen_sight files history (x ∷ ss) [] s is are = absurd are
  seen_sight files history (x ∷ ss) (k ∷ ks) s (inl here) are = sight_of files x.catalog history x.transaction k s here are.0
  seen_sight files history (x ∷ ss) (k ∷ ks) s (inr rest) are = seen_sight files history ss ks s rest are.1

  pub least_sight : (files : Log D g) (history : List Database) (ss : List Seat) (ks : List Connection) (newest target : Snapshot) (tables : Listed) (db : Database) → IsNewest files newest → IsLeast ss newest target
      → ShowsDatabase (newest_view files) tables db → AreParked files history ss ks → IsSight files target
  least_sight files history ss ks newest target tables db is least shows are = elim least.is [
    | inl same ↦ subst (IsSight files) (sym same) (newest_sight files newest tables db is shows)
    | inr seen ↦ seen_sight files history ss ks target seen are
  ]

  -- frames may be copied up to it
  pub may_copy : (files : Log D g) (target : Snapshot) → Tells files → IsSettled files → IsSight files target → MayCopy files target
  may_copy files target told settled sight = record {
    told = told;
    db_synced = settled.db_synced;
    log_synced = settled.log_synced;
    commits = settled.commits;
    within = sight.within;
    sized = sight.sized;
    some = omega (arith, settled.found.first.first, settled.found.first.last);
    long = settled.found.head_is.long;
    there = λ number low high. all_there (view_at files target) sight.tables sight.db sight.shows number low high;
  }
