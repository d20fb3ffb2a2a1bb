-- Files that hold a database are opened as holding it.
use Rattle.sqlval.specs.PageSizes.{IsPageSize}
use Rattle.std.proofs.Common.{◌≤◌, ◌≡◌, ◌⊎◌, ◌++◌, inl, inr, refl, sym, ap, subst, ◌∙◌, ℕ, zero, suc, Bool, List, [], ◌∷◌, length, map, arith}
use Rattle.std.specs.Prelude.{⊤, Option, Some, None, Result, Ok, Err, IfErr, IfOk, IsTrue, IsErrAnd, MatchOption}
use Rattle.disk.specs.declared.device.Disk.{Ghosts}
use Rattle.disk.specs.File.{IsSynced}
use Rattle.sqlval.specs.declared.fault.Fault.{Fault}
use Rattle.sqlval.specs.declared.fault.Fault.TheVariants.{Memory, Io}
use Rattle.db_header.specs.Header.{IsHeader, counted_of}
use Rattle.db_header.specs.declared.fields.Header.{Header}
use Rattle.wal_frame.specs.Accepted.{head_at, heads_to}
use Rattle.wal_frame.specs.Log.{header_in}
use Rattle.wal_frame.specs.Written.{Framed}
use Rattle.wal_frame.specs.declared.frame.FrameHeader.{FrameHeader}
use Rattle.wal_frame.specs.declared.log_header.LogHeader.{LogHeader}
use Rattle.wal_frame.specs.declared.log_header.Salts.{Salts}
use Rattle.wal.specs.Committed.{AreCommitted, HasCommits, framed_at, framed_to, frames_under}
use Rattle.wal.specs.Commits.{IsCut, commits_of}
use Rattle.wal.specs.LogState.{LogState, db_of, header_of, state_of, log_of}
use Rattle.wal.specs.Sizes.{IsViewSize}
use Rattle.wal.specs.Opened.{CanOpen, IsStateOf, IsOpened}
use Rattle.wal.specs.Refusals.{IsOpenRefusal}
use Rattle.wal.specs.View.{heads}
use Rattle.wal.specs.declared.log.Log.{Log}
use Rattle.wal.proofs.FrameLists.{framed_len}
use Rattle.wal.proofs.Openable.{committed_one, one_size, some_size}
use Rattle.catalog.specs.Database.{Database}
use Rattle.catalog.specs.Listed.{listed_in, Listed}
use Rattle.catalog.specs.declared.tables.Catalog.{Catalog}
use Rattle.pager.specs.Views.{Tells, View, newest_view}
use Rattle.session.specs.Holding.{StoreFiles, IsFound, IsSettled}
use Rattle.session.specs.Machine.{fresh}
use Rattle.session.specs.Representation.{RepresentsRunning, ShowTheSame, Represents}
use Rattle.session.specs.Stored.{ShowsDatabase}
use Rattle.session.specs.declared.transactions.Connections.{Connections}
use Rattle.session.proofs.Settled.{still_settled}
use Rattle.db_pages.specs.Standing.{StoredOnce}
use Rattle.db_pages.specs.Stored.{Stores}
use Rattle.engine.specs.Opening.{StartsWith}
use Rattle.session.specs.Seats.{AreFresh, catalog_in}
use Rattle.session.specs.declared.seats.Seats.{Seats}
use Rattle.sqlval.specs.Faults.{IsOrOutside, IsOutside}
use Rattle.engine.proofs.Refusing.{open_why}
use Rattle.db_load.specs.Loading.{FindsDatabase}
use Rattle.pages.specs.Map.{page_at}
use Rattle.pager.specs.Maps.{pages_in}
use Rattle.pager.proofs.Mapping.{count_to}
use Rattle.wal.specs.Sizes.{IsSizeWithinLimits}
use Rattle.session.proofs.FirstPages.{first_there}

-- ---- a log's committed frames

length_under : (header : Option LogHeader) (log : List ℕ) (page_size n : ℕ) → AreCommitted log page_size header n → length (frames_under header log n) ≡ n
length_under None log page_size n are = sym are
length_under (Some h) log page_size n are = framed_len h log n

commits_under : (header : Option LogHeader) (log : List ℕ) (page_size n : ℕ) → header_in log ≡ Ok header → AreCommitted log page_size header n → HasCommits page_size log (frames_under header log n)
commits_under header log page_size n is are =
    let count = sym (length_under header log page_size n are) in
    record { header = header; header_is = is; committed = subst (AreCommitted log page_size header) count are; frames_are = ap (frames_under header log) count }

pub one_count : (header : Option LogHeader) (log : List ℕ) (a b m n : ℕ) → AreCommitted log a header m → AreCommitted log b header n → m ≡ n
one_count None log a b m n one other = one ∙ sym other
one_count (Some h) log a b m n one other = committed_one h log m n one.1 other.1

abbrev heads_in : List Framed → List FrameHeader
heads_in fs = map (λ (f : Framed). f.head) fs

heads_more : (fs : List Framed) (f : Framed) → heads_in (fs ++ f ∷ []) ≡ heads_in fs ++ f.head ∷ []
heads_more [] f = refl
heads_more (e ∷ fs) f = ap (λ (hs : List FrameHeader). e.head ∷ hs) (heads_more fs f)

heads_framed : (h : LogHeader) (log : List ℕ) (n : ℕ) → heads_in (framed_to h log n) ≡ heads_to h log n
heads_framed h log zero = refl
heads_framed h log (suc n) = heads_more (framed_to h log n) (framed_at h log n) ∙ ap (λ (hs : List FrameHeader). hs ++ head_at h log n ∷ []) (heads_framed h log n)

heads_are : (header : Option LogHeader) (log : List ℕ) (n : ℕ) → heads_in (frames_under header log n) ≡ heads log header n
heads_are None log n = refl
heads_are (Some h) log n = heads_framed h log n

few_frames : (header : Option LogHeader) (log : List ℕ) (n : ℕ) → length (frames_under header log n) ≤ n
few_frames None log n = omega arith
few_frames (Some h) log n = (let long = framed_len h log n in omega (arith, long))

-- ---- contents that hold a database

abbrev pub held_as : (db log new_db new_log : List ℕ) (database : Database) → new_db ≡ db → new_log ≡ log → StoreFiles db log database → StoreFiles new_db new_log database
held_as db log new_db new_log database same_db same_log held = record {
  view = held.view;
  db_is = held.db_is ∙ sym same_db;
  commits = subst (λ (l : List ℕ). HasCommits held.view.page_size l held.view.frames) (sym same_log) held.commits;
  found = held.found;
  tables = held.tables;
  stored = held.stored;
}

pub head_of : (db log : List ℕ) (database : Database) (held : StoreFiles db log database) → IsHeader db held.found.head
head_of db log database held = subst (λ (d : List ℕ). IsHeader d held.found.head) held.db_is held.found.head_is

-- its size is that of the frames' heads
held_size : (db log : List ℕ) (database : Database) (held : StoreFiles db log database)
    → IsViewSize (heads log held.commits.header (length held.view.frames)) (counted_of held.found.head) (length db) held.view.page_size held.view.size
held_size db log database held =
    let same = ap heads_in held.commits.frames_are ∙ heads_are held.commits.header log (length held.view.frames) in
    subst (λ (hs : List FrameHeader). IsViewSize hs (counted_of held.found.head) (length db) held.view.page_size held.view.size) same
    (subst (λ (d : List ℕ). IsViewSize (heads_in held.view.frames) (counted_of held.found.head) (length d) held.view.page_size held.view.size) held.db_is held.found.sized)

pub can_open : (db log : List ℕ) (database : Database) (head : Header) (held : StoreFiles db log database) → head ≡ held.found.head → CanOpen head.page_size (counted_of head) db log
can_open db log database head held is =
    subst (λ (h : Header). CanOpen h.page_size (counted_of h) db log) (sym is)
    (subst (λ (n : ℕ). CanOpen n (counted_of held.found.head) db log) (sym held.found.head_size) (record {
      page_size_is = subst IsPageSize held.found.head_size held.found.head_is.served;
      header = held.commits.header;
      header_is = held.commits.header_is;
      frames = length held.view.frames;
      frames_are = held.commits.committed;
      few = held.found.few;
      size = held.view.size;
      size_is = held_size db log database held;
      served = held.stored.served;
    }))

ok_is : {A E : Type 0} (a b : A) → ◌≡◌ {A = Result A E} (Ok a) (Ok b) → a ≡ b
ok_is a b h = cc

abbrev known_view : List ℕ → List ℕ → LogState → View
known_view db log known = record { db = db; frames = frames_under (header_of known) log known.frames; page_size = known.page_size; size = known.size }

-- what is known of them is the view that they hold
pub known_held : (db log : List ℕ) (database : Database) (known : LogState) (counted : Option ℕ) (held : StoreFiles db log database) → known.page_size ≡ held.view.page_size → counted ≡ counted_of held.found.head
    → IsStateOf counted db log known → known_view db log known ≡ held.view
known_held db log database known counted held sized counts is =
    λ i. record { db = sym held.db_is i; frames = frames i; page_size = sized i; size = size i }
  where
    header : header_of known ≡ held.commits.header
    header = ok_is (header_of known) held.commits.header (sym is.header_is ∙ held.commits.header_is)

    count : known.frames ≡ length held.view.frames
    count = one_count held.commits.header log known.page_size held.view.page_size known.frames (length held.view.frames) (subst (λ (h : Option LogHeader). AreCommitted log known.page_size h known.frames) header is.frames_are) held.commits.committed

    frames : frames_under (header_of known) log known.frames ≡ held.view.frames
    frames = (λ i. frames_under (header i) log (count i)) ∙ sym held.commits.frames_are

    was : IsViewSize (heads log held.commits.header (length held.view.frames)) (counted_of held.found.head) (length db) held.view.page_size known.size
    was = subst (λ (n : ℕ). IsViewSize (heads log held.commits.header (length held.view.frames)) (counted_of held.found.head) (length db) n known.size) sized
        (subst (λ (o : Option ℕ). IsViewSize (heads log held.commits.header (length held.view.frames)) o (length db) known.page_size known.size) counts
        (subst (λ (n : ℕ). IsViewSize (heads log held.commits.header n) counted (length db) known.page_size known.size) count
        (subst (λ (h : Option LogHeader). IsViewSize (heads log h known.frames) counted (length db) known.page_size known.size) header is.size_is)))

    size : known.size ≡ held.view.size
    size =
        let some = some_size held.view.page_size (subst IsPageSize held.found.head_size held.found.head_is.served) in
        one_size (heads log held.commits.header (length held.view.frames)) (counted_of held.found.head) (length db) held.view.page_size known.size held.view.size some was (held_size db log database held)

abbrev seen_of : List ℕ → List Framed → LogState → View
seen_of db frames known = record { db = db; frames = frames; page_size = known.page_size; size = known.size }

-- ---- seats

pub short_at_most : (result : Result Seats Fault) → IfErr result (λ f. f ≡ Memory) → IfErr result IsOutside
short_at_most (Ok seats) short = tt
short_at_most (Err f) short = inl short

pub seats_find : (Finds : Catalog → Type 0) (catalog : Catalog) (result : Result Seats Fault) → IfOk result (λ seats. catalog_in seats ≡ catalog) → Finds catalog → IfOk result (λ seats. Finds (catalog_in seats))
seats_find Finds catalog (Ok seats) is finds = subst Finds (sym is) finds
seats_find Finds catalog (Err f) is finds = tt

-- what was found is the one database that the view shows
found_shown : StoredOnce → (view : View) (catalog : Catalog) (tables : Listed) (database : Database) → FindsDatabase (pages_in view) view.page_size catalog → ShowsDatabase view tables database → ShowsDatabase view (listed_in catalog) database
found_shown once view catalog tables database found shown = record {
  stored = subst (Stores (pages_in view) view.page_size (listed_in catalog)) (once (pages_in view) view.page_size (listed_in catalog) tables found.database database found.stored shown.stored) found.stored;
  served = shown.served;
}

module _ {D : Type 0} {g : Ghosts D} where
  -- ---- what was opened

  pub opened_settled : (files : Log D g) (counted : Option ℕ) (view : View) → newest_view files ≡ view → IsFound view → IsSynced (g.file (db_of files)) → IsSynced (g.file (log_of files))
      → IsStateOf counted (g.file (db_of files)).content (g.file (log_of files)).content (state_of files) → IsSettled files
  opened_settled files counted view same found db_synced log_synced known = record {
    db_synced = db_synced;
    log_synced = log_synced;
    commits = commits_under (header_of (state_of files)) (g.file (log_of files)).content (state_of files).page_size (state_of files).frames known.header_is known.frames_are;
    found = subst IsFound (sym same) found;
  }

  -- ---- a log that was cut

  cut_same : (old new : Log D g) → state_of new ≡ state_of old → db_of new ≡ db_of old → IsCut (state_of old) (g.file (log_of old)) (g.file (log_of new)) → newest_view new ≡ newest_view old
  cut_same old new known db cut =
      let frames : commits_of (state_of new) (g.file (log_of new)).content ≡ commits_of (state_of old) (g.file (log_of old)).content =
      ap (λ (k : LogState). commits_of k (g.file (log_of new)).content) known ∙ cut.frames in
      λ i. seen_of (g.file (db i)).content (frames i) (known i)

  cut_settled : (old new : Log D g) → state_of new ≡ state_of old → db_of new ≡ db_of old → IsCut (state_of old) (g.file (log_of old)) (g.file (log_of new)) → IsSettled old → IsSettled new
  cut_settled old new known db cut settled = record {
    db_synced = subst (λ (d : D). IsSynced (g.file d)) (sym db) settled.db_synced;
    log_synced = cut.synced;
    commits = subst (λ (k : LogState). HasCommits k.page_size (g.file (log_of new)).content (commits_of k (g.file (log_of new)).content)) (sym known)
        (commits_under (header_of (state_of old)) (g.file (log_of new)).content (state_of old).page_size (state_of old).frames cut.header_is cut.committed);
    found = subst IsFound (sym (cut_same old new known db cut)) settled.found;
  }

  -- files that were read at most, and whose log was cut then, start with what was found
  pub starts : StoredOnce → (tables : Listed) (database : Database) (old mid new : Log D g) (seats : Seats) → ShowTheSame old mid → IsSettled old → ShowsDatabase (newest_view old) tables database
      → state_of new ≡ state_of mid → db_of new ≡ db_of mid → g.tells (log_of new) ≡ g.tells (log_of mid) → IsCut (state_of mid) (g.file (log_of mid)) (g.file (log_of new))
      → AreFresh seats → FindsDatabase (pages_in (newest_view old)) (newest_view old).page_size (catalog_in seats) → StartsWith database new seats
  starts once tables database old mid new seats same settled stored known db tells cut fresh found = record {
    fresh = fresh;
    told = record { db = subst (λ (d : D). IsTrue (g.tells d)) (sym db) same.told.db; log = tells ∙ same.told.log; whole = ap (λ (k : LogState). k.has_failed) known ∙ same.told.whole };
    settled = cut_settled mid new known db cut (still_settled old mid same settled);
    stored = subst (λ (v : View). ShowsDatabase v (listed_in (catalog_in seats)) database) (sym (cut_same mid new known db cut ∙ same.newest))
        (found_shown once (newest_view old) (catalog_in seats) tables database found stored);
  }

  pub not_started : (database : Database) (files : Log D g) (result : Result Seats Fault) (fault : Fault) → IsErrAnd result (λ e. e ≡ fault) → IsOutside fault → IsOrOutside (StartsWith database files) result
  not_started database files (Ok seats) fault is why = absurd is
  not_started database files (Err e) fault is why = subst IsOutside (sym is) why

  -- the files tell what they hold, and it is this
  pub record IsHeld (tables : Listed) (database : Database) (files : Log D g) : Type 0 where
    pub told : Tells files
    pub settled : IsSettled files
    pub stored : ShowsDatabase (newest_view files) tables database

  -- so they were opened
  pub opened_held : (salts : Salts) (files : Log D g) (database : Database) (head : Header) (counted : Option ℕ) (held : StoreFiles (g.file (db_of files)).content (g.file (log_of files)).content database) → head ≡ held.found.head → counted ≡ counted_of head
      → IsOpened head.page_size salts (state_of files) → IsStateOf counted (g.file (db_of files)).content (g.file (log_of files)).content (state_of files)
      → IsSynced (g.file (db_of files)) → IsSynced (g.file (log_of files)) → IsTrue (g.tells (db_of files)) → IsTrue (g.tells (log_of files)) → IsHeld held.tables database files
  opened_held salts files database head counted held is counts opened known db_synced log_synced told_db told_log =
      let sized = opened.page_size_is ∙ ap (λ (h : Header). h.page_size) is ∙ held.found.head_size in
      let same : newest_view files ≡ held.view = known_held (g.file (db_of files)).content (g.file (log_of files)).content database (state_of files) counted held sized (counts ∙ ap counted_of is) known in
      record {
        told = record { db = told_db; log = told_log; whole = opened.whole };
        settled = opened_settled files counted held.view same held.found db_synced log_synced known;
        stored = subst (λ (v : View). ShowsDatabase v held.tables database) (sym same) held.stored;
      }

  -- ---- what was found

  -- the view that was found is one that opening finds
  pub found_view : (files : Log D g) (head : Header) (counted : Option ℕ) (catalog : Catalog) (found : FindsDatabase (pages_in (newest_view files)) (newest_view files).page_size catalog) → IsHeader (g.file (db_of files)).content head → counted ≡ counted_of head
      → (state_of files).page_size ≡ head.page_size → IsStateOf counted (g.file (db_of files)).content (g.file (log_of files)).content (state_of files) → IsFound (newest_view files)
  found_view files head counted catalog found is counts sized known = record {
    head = head;
    head_is = is;
    head_size = sym sized;
    sized = subst (λ (hs : List FrameHeader). IsViewSize hs (counted_of head) (length (g.file (db_of files)).content) (state_of files).page_size (state_of files).size)
        (sym (heads_are (header_of (state_of files)) (g.file (log_of files)).content (state_of files).frames))
        (subst (λ (o : Option ℕ). IsViewSize (heads (g.file (log_of files)).content (header_of (state_of files)) (state_of files).frames) o (length (g.file (db_of files)).content) (state_of files).page_size (state_of files).size) counts known.size_is);
    few = (let few = few_frames (header_of (state_of files)) (g.file (log_of files)).content (state_of files).frames in omega (arith, few, known.few));
    page = page_at (pages_in (newest_view files)) 1;
    first = first_there (newest_view files) (listed_in catalog) found.database found.stored;
    header = found.counted.header;
    header_is = found.counted.header_is;
    counted = subst (λ (n : ℕ). MatchOption (counted_of found.counted.header) (⊤) (λ count. count ≡ n)) (count_to (newest_view files) (newest_view files).size) found.counted.counted;
  }

  -- so the contents hold the database
  pub found_held : (files : Log D g) (counted : Option ℕ) (catalog : Catalog) (found : FindsDatabase (pages_in (newest_view files)) (newest_view files).page_size catalog) → IsSizeWithinLimits (newest_view files).page_size (newest_view files).size → IsFound (newest_view files)
      → IsStateOf counted (g.file (db_of files)).content (g.file (log_of files)).content (state_of files) → StoreFiles (g.file (db_of files)).content (g.file (log_of files)).content found.database
  found_held files counted catalog found served view known = record {
    view = newest_view files;
    db_is = refl;
    commits = commits_under (header_of (state_of files)) (g.file (log_of files)).content (state_of files).page_size (state_of files).frames known.header_is known.frames_are;
    found = view;
    tables = listed_in catalog;
    stored = record { stored = found.stored; served = served };
  }

  -- what was started shows the database
  pub starts_shown : (connections : Connections D g) (database : Database) (files : Log D g) (seats : Seats) → StartsWith database files seats
      → ((db : Database) → Tells files → IsSettled files → AreFresh seats → ShowsDatabase (newest_view files) (listed_in (catalog_in seats)) db → RepresentsRunning connections (fresh db)) → Represents connections (fresh database)
  starts_shown connections database files seats start shown = inr (shown database start.told start.settled start.fresh start.stored)

-- contents that can be opened are refused when out of memory, or where a call fails
pub not_opened : (has_called : Type 0) (page_size : ℕ) (counted : Option ℕ) (db log : List ℕ) (told_db told_log : Bool) (fault : Fault)
    → IsOpenRefusal has_called (IsTrue told_db → IsTrue told_log → CanOpen page_size counted db log → ⊥) fault → IsTrue told_db → IsTrue told_log → CanOpen page_size counted db log → (fault ≡ Memory) ⊎ (fault ≡ Io)
not_opened has_called page_size counted db log told_db told_log fault refusal db_is log_is can =
    elim (open_why has_called (IsTrue told_db → IsTrue told_log → CanOpen page_size counted db log → ⊥) fault refusal) [
      | inl memory ↦ inl memory
      | inr other ↦ elim other [
        | inl io ↦ inr io
        | inr cannot ↦ absurd (cannot db_is log_is can)
      ]
    ]
