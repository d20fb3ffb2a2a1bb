-- What files stand for, a view stores.
use Rattle.std.proofs.Common.{◌≡◌, ◌∙◌, ◌≤◌, refl, sym, ap, subst, ℕ, zero, suc, List, [], ◌∷◌, ◌++◌, length, map, Option, Some, None, Ok}
use Rattle.db_header.specs.Header.{counted_of}
use Rattle.wal_frame.specs.Accepted.{head_at, heads_to}
use Rattle.wal_frame.specs.Log.{header_in}
use Rattle.wal_frame.specs.Written.{Framed}
use Rattle.wal_frame.specs.declared.frame.FrameHeader.{FrameHeader}
use Rattle.wal_frame.specs.declared.log_header.LogHeader.{LogHeader}
use Rattle.wal.specs.Committed.{AreCommitted, HasCommits, framed_at, framed_to, frames_under}
use Rattle.wal.specs.Sizes.{IsViewSize}
use Rattle.wal.specs.View.{heads}
use Rattle.wal.proofs.FrameLists.{framed_len}
use Rattle.wal.proofs.Views.{page_in}
use Rattle.pages.specs.Map.{PageMap, page_at, Has}
use Rattle.tree_table.proofs.LeafTrees.{root_there}
use Rattle.catalog.specs.Database.{Database}
use Rattle.db_files.specs.Files.{FilesStandFor}
use Rattle.pager.specs.Views.{View, ViewHas}
use Rattle.db_pages.specs.Language.{language}
use Rattle.db_pages.specs.Stored.{Stores}
use Rattle.session.specs.Holding.{IsFound, StoreFiles}
use Rattle.session.specs.Meaning.{HeldFilesAreStored}
use Rattle.catalog.proofs.Found.{finds_listed}
use Rattle.query_bind.proofs.TriggerNames.{knows}
use Rattle.db_pages.proofs.StoredPages.{stored_if_standing}
use Rattle.session.proofs.StandingViews.{ShowsEach, only_these}
use Rattle.catalog.specs.Listed.{Listed}

-- ---- the log's committed frames

length_under : (header : Option LogHeader) (log : List ℕ) (page_size n : ℕ) → AreCommitted log page_size header n → length (frames_under header log n) ≡ n
length_under None log page_size n are = sym are
length_under (Some h) log page_size n are = framed_len h log n

commits_under : (header : Option LogHeader) (log : List ℕ) (page_size n : ℕ) → header_in log ≡ Ok header → AreCommitted log page_size header n → HasCommits page_size log (frames_under header log n)
commits_under header log page_size n is are =
    let count = sym (length_under header log page_size n are) in
    record { header = header; header_is = is; committed = subst (AreCommitted log page_size header) count are; frames_are = ap (frames_under header log) count }

abbrev heads_in : List Framed → List FrameHeader
heads_in fs = map (λ (f : Framed). f.head) fs

heads_more : (fs : List Framed) (f : Framed) → heads_in (fs ++ f ∷ []) ≡ heads_in fs ++ f.head ∷ []
heads_more [] f = refl
heads_more (e ∷ fs) f = ap (λ (hs : List FrameHeader). e.head ∷ hs) (heads_more fs f)

heads_framed : (h : LogHeader) (log : List ℕ) (n : ℕ) → heads_in (framed_to h log n) ≡ heads_to h log n
heads_framed h log zero = refl
heads_framed h log (suc n) = heads_more (framed_to h log n) (framed_at h log n) ∙ ap (λ (hs : List FrameHeader). hs ++ head_at h log n ∷ []) (heads_framed h log n)

heads_are : (header : Option LogHeader) (log : List ℕ) (n : ℕ) → heads_in (frames_under header log n) ≡ heads log header n
heads_are None log n = refl
heads_are (Some h) log n = heads_framed h log n

-- ---- the view and what it stores

module _ (db log : List ℕ) (database : Database) (stand : FilesStandFor language db log database) where
  abbrev size : ℕ
  size = stand.header.page_size

  -- the newest view of the two files
  abbrev newest : View
  newest = record { db = db; frames = frames_under stand.view.header log stand.view.frames; page_size = stand.header.page_size; size = length stand.pages }

  shows : (number : ℕ) → 1 ≤ number → number ≤ length stand.pages → ViewHas newest number (page_at stand.pages number)
  shows number first last = page_in db log size stand.view.header stand.view.frames number (page_at stand.pages number) (stand.view.view.each number first last)

  shows_each : ShowsEach newest
  shows_each number first last = (page_at stand.pages number, shows number first last)

  first_has : Has stand.pages 1
  first_has = root_there stand.pages size 1 stand.stands.schema.entries stand.stands.schema_used stand.stands.schema.tree

  commits : HasCommits size log (frames_under stand.view.header log stand.view.frames)
  commits = commits_under stand.view.header log size stand.view.frames stand.view.header_is stand.view.frames_are

  found : IsFound newest
  found = record {
    head = stand.header;
    head_is = stand.header_is;
    head_size = refl;
    sized = subst (λ (hs : List FrameHeader). IsViewSize hs (counted_of stand.header) (length db) size (length stand.pages)) (sym (heads_are stand.view.header log stand.view.frames)) stand.view.view.size;
    few = subst (λ (n : ℕ). n ≤ 1000000) (sym (length_under stand.view.header log size stand.view.frames stand.view.frames_are)) stand.few;
    page = page_at stand.pages 1;
    first = record { first = first_has.first; last = first_has.last; has = shows 1 first_has.first first_has.last };
    header = stand.stands.header;
    header_is = stand.stands.headed.header_is;
    counted = stand.stands.headed.counted;
  }

  stored : (tables : Listed) × Stores stand.pages size tables database
  stored = stored_if_standing (knows finds_listed) stand.pages size database stand.stands

  pub store_files : StoreFiles db log database
  store_files = record {
    view = newest;
    db_is = refl;
    commits = commits;
    found = found;
    tables = stored.0;
    stored = record {
      stored = subst (λ (map : PageMap). Stores map size stored.0 database) (only_these log newest commits found shows_each stand.header stand.pages stand.header_is stand.view) stored.1;
      served = stand.served;
    };
  }

pub stored_if_held : HeldFilesAreStored
stored_if_held db log database held = store_files db log database held
