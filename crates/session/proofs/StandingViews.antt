-- The pages of a view that opening finds are those that the two files make.
use Rattle.std.proofs.Common.{◌≡◌, ◌∙◌, refl, sym, ap, subst, ◌≤◌, ◌-◌, ℕ, zero, suc, List, [], ◌∷◌, ◌++◌, length, map, get_or, arith}
use Rattle.std.specs.Prelude.{Option, Some, None, Result, Ok}
use Rattle.std.proofs.lemmas.List.{ext_get_or, map-append}
use Rattle.sqlval.specs.PageSizes.{IsPageSize}
use Rattle.sqlval.specs.declared.fault.Fault.{Fault}
use Rattle.db_header.proofs.HeaderLemmas.{header_again}
use Rattle.db_header.specs.Header.{IsHeader, counted_of}
use Rattle.db_header.specs.Reading.{header_at}
use Rattle.db_header.specs.declared.fields.Header.{Header}
use Rattle.pages.specs.Map.{PageMap, page_at}
use Rattle.wal_frame.specs.Accepted.{heads_to, head_at}
use Rattle.wal_frame.specs.Written.{Framed}
use Rattle.wal_frame.specs.declared.frame.FrameHeader.{FrameHeader}
use Rattle.wal_frame.specs.declared.log_header.LogHeader.{LogHeader}
use Rattle.wal.specs.Committed.{AreCommitted, HasCommits, framed_at, framed_to, frames_under}
use Rattle.wal.specs.Sizes.{IsViewSize}
use Rattle.wal.specs.View.{IsFilesView, IsPage, IsPageIn, heads}
use Rattle.wal.proofs.Changes.{page_one}
use Rattle.wal.proofs.Openable.{committed_one, one_size, some_size}
use Rattle.wal.proofs.Views.{page_from, page_in}
use Rattle.pager.specs.Maps.{pages_in}
use Rattle.pager.specs.Views.{View, ViewHas}
use Rattle.pager.proofs.Mapping.{count_to, maps_shown}
use Rattle.session.specs.Holding.{IsFound}

-- ---- what the log says

heads_framed : (h : LogHeader) (log : List ℕ) (n : ℕ) → map (λ f. f.head) (framed_to h log n) ≡ heads_to h log n
heads_framed h log zero = refl
heads_framed h log (suc n) =
    map-append (λ (f : Framed). f.head) (framed_to h log n) (framed_at h log n ∷ [])
    ∙ ap (λ (hs : List FrameHeader). hs ++ head_at h log n ∷ []) (heads_framed h log n)

heads_under : (header : Option LogHeader) (log : List ℕ) (n : ℕ) → map (λ f. f.head) (frames_under header log n) ≡ heads log header n
heads_under None log n = refl
heads_under (Some h) log n = heads_framed h log n

-- so many frames of a log are committed
one_count : (header : Option LogHeader) (log : List ℕ) (a b m n : ℕ) → AreCommitted log a header m → AreCommitted log b header n → m ≡ n
one_count None log a b m n one other = one ∙ sym other
one_count (Some h) log a b m n one other = committed_one h log m n one.1 other.1

ok_is : {A E : Type 0} (a b : A) → ◌≡◌ {A = Result A E} (Ok a) (Ok b) → a ≡ b
ok_is a b h = cc

abbrev read_as : Header → Result Header Fault
read_as h = Ok h

header_is_one : (a b : Header) → read_as a ≡ read_as b → a ≡ b
header_is_one a b e = cc

-- a page begins with one header
pub one_header : (page other : List ℕ) (a b : Header) → page ≡ other → IsHeader page a → IsHeader other b → a ≡ b
one_header page other a b same is_a is_b = header_is_one a b (sym (header_again page a is_a) ∙ ap header_at same ∙ header_again other b is_b)

one_before : (i : ℕ) → suc i - 1 ≡ i
one_before i = omega arith

-- ---- the view

-- each page of the view is one that its readers can get
abbrev pub ShowsEach : View → Type 0
ShowsEach view = (number : ℕ) → 1 ≤ number → number ≤ view.size → (bytes : List ℕ) × ViewHas view number bytes

module _ (log : List ℕ) (view : View) (commits : HasCommits view.page_size log view.frames) (found : IsFound view) (shows : ShowsEach view) where
  -- the map's pages are those that readers get
  pub shown : (number : ℕ) → 1 ≤ number → number ≤ view.size → ViewHas view number (page_at (pages_in view) number)
  shown number first last =
      let there = shows number first last in
      subst (ViewHas view number) (sym (maps_shown view number there.0 (record { first = first; last = last; has = there.1 }))) there.1

  heads_are : map (λ f. f.head) view.frames ≡ heads log commits.header (length view.frames)
  heads_are = ap (map (λ (f : Framed). f.head)) commits.frames_are ∙ heads_under commits.header log (length view.frames)

  sized : IsViewSize (heads log commits.header (length view.frames)) (counted_of found.head) (length view.db) view.page_size view.size
  sized = subst (λ (hs : List FrameHeader). IsViewSize hs (counted_of found.head) (length view.db) view.page_size view.size) heads_are found.sized

  pub from_files : (number : ℕ) → 1 ≤ number → number ≤ view.size → IsPage view.db log view.page_size commits.header (length view.frames) number (page_at (pages_in view) number)
  from_files number first last =
      page_from view.db log view.page_size commits.header (length view.frames) number (page_at (pages_in view) number)
      (subst (λ (fs : List Framed). IsPageIn view.db view.page_size fs number (page_at (pages_in view) number)) commits.frames_are (shown number first last))

  -- these pages are the files' view
  view_of_size : IsFilesView view.page_size (counted_of found.head) view.db log (pages_in view)
  view_of_size = record {
    header = commits.header;
    frames = length view.frames;
    header_is = commits.header_is;
    frames_are = commits.committed;
    view = record {
      size = subst (IsViewSize (heads log commits.header (length view.frames)) (counted_of found.head) (length view.db) view.page_size) (sym (count_to view view.size)) sized;
      each = λ number first last. from_files number first (omega (arith, last, count_to view view.size));
    };
  }

  pub files_make : IsFilesView found.head.page_size (counted_of found.head) view.db log (pages_in view)
  files_make = subst (λ (n : ℕ). IsFilesView n (counted_of found.head) view.db log (pages_in view)) (sym found.head_size) view_of_size

  -- ---- no others are

  module _ (page_size : ℕ) (pages : PageMap) (files : IsFilesView page_size (counted_of found.head) view.db log pages) where
    one_log : files.header ≡ commits.header
    one_log = ok_is files.header commits.header (sym files.header_is ∙ commits.header_is)

    one_length : files.frames ≡ length view.frames
    one_length = one_count commits.header log page_size view.page_size files.frames (length view.frames)
        (subst (λ (h : Option LogHeader). AreCommitted log page_size h files.frames) one_log files.frames_are) commits.committed

    pub few_frames : files.frames ≤ 1000000
    few_frames = subst (λ (n : ℕ). n ≤ 1000000) (sym one_length) found.few

  module _ (pages : PageMap) (files : IsFilesView view.page_size (counted_of found.head) view.db log pages) where
    one_frames : frames_under files.header log files.frames ≡ view.frames
    one_frames = (λ i. frames_under (one_log view.page_size pages files i) log (one_length view.page_size pages files i)) ∙ sym commits.frames_are

    one_heads : heads log files.header files.frames ≡ heads log commits.header (length view.frames)
    one_heads = λ i. heads log (one_log view.page_size pages files i) (one_length view.page_size pages files i)

    same_size : length pages ≡ view.size
    same_size =
        let some = some_size view.page_size (subst IsPageSize found.head_size found.head_is.served) in
        one_size (heads log commits.header (length view.frames)) (counted_of found.head) (length view.db) view.page_size (length pages) view.size some
        (subst (λ (hs : List FrameHeader). IsViewSize hs (counted_of found.head) (length view.db) view.page_size (length pages)) one_heads files.view.size) sized

    same_page : (number : ℕ) → 1 ≤ number → number ≤ view.size → page_at pages number ≡ page_at (pages_in view) number
    same_page number first last = page_one view.db view.page_size view.frames number (page_at pages number) (page_at (pages_in view) number)
        (subst (λ (fs : List Framed). IsPageIn view.db view.page_size fs number (page_at pages number)) one_frames
        (page_in view.db log view.page_size files.header files.frames number (page_at pages number) (files.view.each number first (omega (arith, last, same_size)))))
        (shown number first last)

    same_pages : pages ≡ pages_in view
    same_pages = ext_get_or [] pages (pages_in view) (same_size ∙ sym (count_to view view.size)) (λ i lt.
        ap (λ (k : ℕ). get_or pages k []) (sym (one_before i)) ∙ same_page (suc i) (omega arith) (omega (arith, lt, same_size)) ∙ ap (λ (k : ℕ). get_or (pages_in view) k []) (one_before i))

  -- a header and pages that the files make are those of the view
  pub only_these : (header : Header) (pages : PageMap) → IsHeader view.db header → IsFilesView header.page_size (counted_of header) view.db log pages → pages ≡ pages_in view
  only_these header pages is files = same_pages pages
      (subst (λ (n : ℕ). IsFilesView n (counted_of found.head) view.db log pages) found.head_size
      (subst (λ (h : Header). IsFilesView h.page_size (counted_of h) view.db log pages) (one_header view.db view.db header found.head refl is found.head_is) files))
