-- A database file of the older kind is loaded as it is once it is in WAL mode.
use Rattle.std.proofs.Common.{◌≡◌, ◌<◌, ◌≤◌, ◌%◌, ◌==◌, inl, inr, true, refl, sym, ap, subst, ◌∙◌, ℕ, Bool, List, [], ◌∷◌, ◌++◌, length, map, take, drop, arith, length-append}
use Rattle.std.proofs.lemmas.Bool.{and_from, eq-eqb, le-leb}
use Rattle.std.proofs.lemmas.List.{length-drop, length-take, length-take-le, take-append-le, take-take}
use Rattle.std.proofs.lemmas.Slice.Eq.{bytes_eq-Decides}
use Rattle.std.specs.Str.{bytes_eq}
use Rattle.std.proofs.Math.Nat.{mul-mod_left}
use Rattle.std.specs.Prelude.{⊤, ◌&&◌, IfErr, IsErrAnd, IsTrue, MatchOption, Option, Some, None, Result, Ok, Err, nat_le}
use Rattle.disk.specs.Calls.{Rose}
use Rattle.disk.specs.File.{File}
use Rattle.sqlval.specs.PageSizes.{IsPageSize}
use Rattle.sqlval.specs.Faults.{IsOutside}
use Rattle.sqlval.specs.declared.fault.Fault.{Fault}
use Rattle.sqlval.specs.declared.fault.Fault.TheVariants.{Io}
use Rattle.sqlval.proofs.PageSizeLemmas.{by_size}
use Rattle.pages.specs.Calls.{Causes, HasRisen}
use Rattle.engine.specs.Converting.{CountsCalls}
use Rattle.catalog.specs.Database.{Database}
use Rattle.catalog.specs.Listed.{listed_in}
use Rattle.catalog.specs.declared.tables.Catalog.{Catalog}
use Rattle.db_header.specs.Header.{IsHeader, counted_of, magic, part}
use Rattle.db_header.specs.Reading.{has_text}
use Rattle.db_header.specs.declared.fields.Header.{Header}
use Rattle.db_header.proofs.Fronts.{header_moves}
use Rattle.db_load.specs.Loading.{FindsDatabase}
use Rattle.db_pages.specs.Stored.{IsCounted, Stores}
use Rattle.pages.specs.Map.{page_at}
use Rattle.pager.specs.Maps.{pages_in}
use Rattle.pager.specs.Sights.{is_told, told_bytes, told_file}
use Rattle.pager.specs.Views.{View}
use Rattle.pager.proofs.Mapping.{count_to, maps_shown}
use Rattle.pager.proofs.Sighting.{told_is}
use Rattle.pager_older.specs.Older.{as_wal, file_view, tells_file, under_file, view_under_file}
use Rattle.pager_older.proofs.VersionLemmas.{as_long}
use Rattle.session.specs.Holding.{StoreFiles}
use Rattle.session.proofs.FirstPages.{first_there}
use Rattle.wal_frame.specs.declared.log_header.LogHeader.{LogHeader}
use Rattle.wal_frame.specs.Written.{Framed}
use Rattle.wal.specs.Committed.{AreCommitted}
use Rattle.wal.specs.Sizes.{IsSizeWithinLimits, IsViewSize}
use Rattle.wal.proofs.Openable.{one_size}

-- ---- its pages, as calls

module _ {D : Type 0} (tells : D → Bool) (file : D → File) (disk : D) (len size count a b : ℕ) (told : IsTrue (tells disk)) where
  pub view_told : view_under_file (under_file tells file disk len size count a b) ≡ file_view (file disk).content size count
  view_told = ap (λ (bytes : List ℕ). file_view bytes size count) (ap told_bytes (told_is tells file disk told))

  pub file_tells : len ≡ length (file disk).content → 512 ≤ size → IsTrue (tells_file (under_file tells file disk len size count a b))
  file_tells measured large =
      let is = told_is tells file disk told in
      let same : (length (told_bytes (told_file tells file disk)) == len) ≡ true = eq-eqb _ _ (ap length (ap told_bytes is) ∙ sym measured) in
      and_from (is_told (told_file tells file disk)) ((length (told_bytes (told_file tells file disk)) == len) && nat_le 512 size) (ap is_told is)
      (and_from (length (told_bytes (told_file tells file disk)) == len) (nat_le 512 size) same (le-leb 512 size large))

  pub map_told : pages_in (view_under_file (under_file tells file disk len size count a b)) ≡ pages_in (file_view (file disk).content size count)
  map_told = ap pages_in view_told

  pub pages_counted : count ≡ length (pages_in (view_under_file (under_file tells file disk len size count a b)))
  pages_counted = sym (count_to (view_under_file (under_file tells file disk len size count a b)) count)

-- ---- the counts of failed calls

grown : (old new : ℕ) → HasRisen (old, 0) (new, 0) → Rose old new
grown old new (inl db) = db
grown old new (inr (inl less)) = absurd (omega (arith, less))
grown old new (inr (inr top)) = absurd (omega (arith, top.0))

pub counts_calls : {T : Type 0} (result : Result T Fault) (old new : ℕ) → Causes result (old, 0) (new, 0) ⊥ → CountsCalls result old new
counts_calls (Ok x) old new causes = record { counts = causes.db; io = tt }
counts_calls (Err e) old new causes = record { counts = causes.db; io = λ io. grown old new (causes.why.io io) }

-- ---- how many there are

pub not_whole : (counted : Option ℕ) (len size count : ℕ) → None ≡ counted → (len % size ≡ 0 → ⊥) → IsViewSize [] counted len size count → ⊥
not_whole None len size count none part is = part (ap (λ (n : ℕ). n % size) (sym is) ∙ mul-mod_left count size)
not_whole (Some n) len size count none part is = cc

pub one_within : (counted : Option ℕ) (len size a b : ℕ) → 0 < size → IsViewSize [] counted len size a → IsViewSize [] counted len size b → IsSizeWithinLimits size b → IsSizeWithinLimits size a
one_within counted len size a b some is_a is_b within = subst (IsSizeWithinLimits size) (one_size [] counted len size b a some is_b is_a) within

-- ---- its length

pub wal_long : (bytes : List ℕ) → 100 ≤ length (as_wal bytes) → 20 ≤ length bytes
wal_long bytes long =
    let whole : 100 ≤ length ((take 18 bytes ++ (2 ∷ 2 ∷ [])) ++ drop 20 bytes) = long in
    omega (arith, whole, length-append (take 18 bytes ++ (2 ∷ 2 ∷ [])) (drop 20 bytes), length-append (take 18 bytes) (2 ∷ 2 ∷ []), length-take 18 bytes, length-drop 20 bytes)

pub page_large : (n : ℕ) → IsPageSize n → 512 ≤ n
page_large = by_size (λ (n : ℕ). 512 ≤ n) (omega arith) (omega arith) (omega arith) (omega arith) (omega arith) (omega arith) (omega arith) (omega arith)

-- ---- its name

first_sixteen : (bytes : List ℕ) → 20 ≤ length bytes → part 0 16 (as_wal bytes) ≡ part 0 16 bytes
first_sixteen bytes long =
    take-append-le 16 (take 18 bytes ++ (2 ∷ 2 ∷ [])) (drop 20 bytes) (omega (arith, length-append (take 18 bytes) (2 ∷ 2 ∷ []), length-take-le 18 bytes (omega (arith, long))))
    ∙ take-append-le 16 (take 18 bytes) (2 ∷ 2 ∷ []) (omega (arith, length-take-le 18 bytes (omega (arith, long)))) ∙ take-take 16 18 bytes (omega arith)

-- what begins as a database in WAL mode begins as one of the older kind
pub wal_named : (bytes : List ℕ) → 20 ≤ length bytes → (header : Header) → IsHeader (as_wal bytes) header → has_text bytes ≡ true
unfolding has_text
wal_named bytes long header is =
    let hundred : 100 ≤ length bytes = omega (arith, is.long, as_long bytes long) in
    let text = sym (first_sixteen bytes long) ∙ is.text in
    and_from (nat_le 100 (length bytes)) (bytes_eq (part 0 16 bytes) magic) (le-leb 100 (length bytes) hundred) ((bytes_eq-Decides (part 0 16 bytes) magic).1 text)

-- ---- what was loaded is held

module _ (bytes front : List ℕ) (front_is : front ≡ take 100 (as_wal bytes)) where
  front_same : take 100 front ≡ take 100 (as_wal bytes)
  front_same = ap (take 100) front_is ∙ take-take 100 100 (as_wal bytes) (omega arith)

  pub header_there : (header : Header) → IsHeader front header → IsHeader (as_wal bytes) header
  header_there header is = header_moves front (as_wal bytes) header front_same is

  pub header_front : (header : Header) → IsHeader (as_wal bytes) header → IsHeader front header
  header_front header is = header_moves (as_wal bytes) front header (sym front_same) is

module _ (bytes : List ℕ) (long : 20 ≤ length bytes) (header : Header) (is : IsHeader (as_wal bytes) header) (count : ℕ)
    (counted : IsViewSize [] (counted_of header) (length bytes) header.page_size count) (served : IsSizeWithinLimits header.page_size count) where
  abbrev shown : View
  shown = file_view bytes header.page_size count

  sized : IsViewSize [] (counted_of header) (length (as_wal bytes)) header.page_size count
  sized = subst (λ (n : ℕ). IsViewSize [] (counted_of header) n header.page_size count) (sym (as_long bytes long)) counted

  -- pages that store a database make it the file's
  pub loaded_alone : (catalog : Catalog) (found : FindsDatabase (pages_in shown) header.page_size catalog) → StoreFiles (as_wal bytes) [] found.database
  loaded_alone catalog found = record {
    view = shown;
    db_is = refl;
    commits = record { header = None; header_is = refl; committed = refl; frames_are = refl };
    found = record {
      head = header;
      head_is = is;
      head_size = refl;
      sized = sized;
      few = omega arith;
      page = page_at (pages_in shown) 1;
      first = first_there shown (listed_in catalog) found.database found.stored;
      header = found.counted.header;
      header_is = found.counted.header_is;
      counted = subst (λ (n : ℕ). MatchOption (counted_of found.counted.header) (⊤) (λ size. size ≡ n)) (count_to shown count) found.counted.counted;
    };
    tables = listed_in catalog;
    stored = record { stored = found.stored; served = served };
  }

-- ---- what is held is loaded

ok_is : {A E : Type 0} (a b : A) → ◌≡◌ {A = Result A E} (Ok a) (Ok b) → a ≡ b
ok_is a b h = cc

no_frames : (page_size : ℕ) (frames : List Framed) (header : Option LogHeader) → None ≡ header → AreCommitted [] page_size header (length frames) → frames ≡ []
no_frames page_size [] header none are = refl
no_frames page_size (f ∷ fs) header none are = absurd (let counted : length (f ∷ fs) ≡ 0 = subst (λ (h : Option LogHeader). AreCommitted [] page_size h (length (f ∷ fs))) (sym none) are in omega (arith, counted))

module _ (bytes : List ℕ) (long : 20 ≤ length bytes) (database : Database) (held : StoreFiles (as_wal bytes) [] database) where
  -- a log without a byte has no frame
  frames_none : held.view.frames ≡ []
  frames_none = no_frames held.view.page_size held.view.frames held.commits.header (ok_is None held.commits.header held.commits.header_is) held.commits.committed

  pub held_header : IsHeader (as_wal bytes) held.found.head
  held_header = subst (λ (b : List ℕ). IsHeader b held.found.head) held.db_is held.found.head_is

  pub held_count : IsViewSize [] (counted_of held.found.head) (length bytes) held.found.head.page_size held.view.size
  held_count =
      let of_frames = subst (λ (fs : List Framed). IsViewSize (map (λ (f : Framed). f.head) fs) (counted_of held.found.head) (length held.view.db) held.view.page_size held.view.size) frames_none held.found.sized in
      let of_bytes = subst (λ (n : ℕ). IsViewSize [] (counted_of held.found.head) n held.view.page_size held.view.size) (ap length held.db_is ∙ as_long bytes long) of_frames in
      subst (λ (n : ℕ). IsViewSize [] (counted_of held.found.head) (length bytes) n held.view.size) (sym held.found.head_size) of_bytes

  pub held_served : IsSizeWithinLimits held.found.head.page_size held.view.size
  held_served = subst (λ (n : ℕ). IsSizeWithinLimits n held.view.size) (sym held.found.head_size) held.stored.served

  -- the view is that of the file
  pub held_view : held.view ≡ file_view bytes held.found.head.page_size held.view.size
  held_view = λ i. record { db = held.db_is i; frames = frames_none i; page_size = sym held.found.head_size i; size = held.view.size }

  pub held_pages : Stores (pages_in (file_view bytes held.found.head.page_size held.view.size)) held.found.head.page_size held.tables database
  held_pages =
      subst (λ (n : ℕ). Stores (pages_in (file_view bytes held.found.head.page_size held.view.size)) n held.tables database) (sym held.found.head_size)
      (subst (λ (v : View). Stores (pages_in v) held.view.page_size held.tables database) held_view held.stored.stored)

  counted_view : IsCounted (pages_in held.view)
  counted_view = record {
    header = held.found.header;
    header_is = subst (λ (b : List ℕ). IsHeader b held.found.header) (sym (maps_shown held.view 1 held.found.page held.found.first)) held.found.header_is;
    counted = subst (λ (n : ℕ). MatchOption (counted_of held.found.header) (⊤) (λ size. size ≡ n)) (sym (count_to held.view held.view.size)) held.found.counted;
  }

  pub held_counted : IsCounted (pages_in (file_view bytes held.found.head.page_size held.view.size))
  held_counted = subst (λ (v : View). IsCounted (pages_in v)) held_view counted_view

pub held_long : (bytes : List ℕ) (database : Database) → StoreFiles (as_wal bytes) [] database → 20 ≤ length bytes
held_long bytes database held = wal_long bytes (subst (λ (b : List ℕ). IsHeader b held.found.head) held.db_is held.found.head_is).long

-- ---- a header that was read, and a count of pages

pub read_is : (a b : Header) → ◌≡◌ {A = Result Header Fault} (Ok a) (Ok b) → a ≡ b
read_is a b e = cc

pub not_read : (fault : Fault) (b : Header) → ◌≡◌ {A = Result Header Fault} (Err fault) (Ok b) → ⊥
not_read fault b e = cc

pub count_is : (a b : ℕ) → ◌≡◌ {A = Result ℕ Fault} (Ok a) (Ok b) → a ≡ b
count_is a b e = cc

pub not_counted : (fault : Fault) (b : ℕ) → ◌≡◌ {A = Result ℕ Fault} (Err fault) (Ok b) → ⊥
not_counted fault b e = cc

module _ (bytes : List ℕ) (database : Database) (held : StoreFiles (as_wal bytes) [] database) (header : Header) (same : header ≡ held.found.head) where
  abbrev held_size : ℕ
  held_size = held.view.size

  pub counted_here : (len : ℕ) → len ≡ length bytes → IsViewSize [] (counted_of header) len header.page_size held_size
  counted_here len is =
      subst (λ (h : Header). IsViewSize [] (counted_of h) len h.page_size held_size) (sym same)
      (subst (λ (n : ℕ). IsViewSize [] (counted_of held.found.head) n held.found.head.page_size held_size) (sym is) (held_count bytes (held_long bytes database held) database held))

  pub served_here : IsSizeWithinLimits header.page_size held_size
  served_here = subst (λ (h : Header). IsSizeWithinLimits h.page_size held_size) (sym same) (held_served bytes (held_long bytes database held) database held)

  pub pages_here : (count : ℕ) → count ≡ held_size → Stores (pages_in (file_view bytes header.page_size count)) header.page_size held.tables database
  pages_here count is =
      subst (λ (h : Header). Stores (pages_in (file_view bytes h.page_size count)) h.page_size held.tables database) (sym same)
      (subst (λ (n : ℕ). Stores (pages_in (file_view bytes held.found.head.page_size n)) held.found.head.page_size held.tables database) (sym is) (held_pages bytes (held_long bytes database held) database held))

  pub counts_here : (count : ℕ) → count ≡ held_size → IsCounted (pages_in (file_view bytes header.page_size count))
  counts_here count is =
      subst (λ (h : Header). IsCounted (pages_in (file_view bytes h.page_size count))) (sym same)
      (subst (λ (n : ℕ). IsCounted (pages_in (file_view bytes held.found.head.page_size n))) (sym is) (held_counted bytes (held_long bytes database held) database held))

-- ---- refusals that are handed on

pub outside_on : {T : Type 0} (result : Result T Fault) (fault : Fault) → IsErrAnd result (λ e. e ≡ fault) → IsOutside fault → IfErr result IsOutside
outside_on (Ok x) fault is why = tt
outside_on (Err e) fault is why = subst IsOutside (sym is) why

pub calm_calls : {T : Type 0} (result : Result T Fault) (fault : Fault) (old : ℕ) → IsErrAnd result (λ e. e ≡ fault) → (fault ≡ Io → ⊥) → CountsCalls result old old
calm_calls (Ok x) fault old is calm = absurd is
calm_calls (Err e) fault old is calm = record { counts = omega arith; io = λ io. absurd (calm (sym is ∙ io)) }
