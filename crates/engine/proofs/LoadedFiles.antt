-- What is loaded of the newest snapshot's pages is loaded of the two files.
use Rattle.std.proofs.Common.{◌≡◌, ◌∙◌, sym, ap, subst, ℕ, List, length, arith}
use Rattle.std.specs.Prelude.{⊤, IfOk, IsTrue, MatchOption, Result}
use Rattle.disk.specs.declared.device.Disk.{Ghosts}
use Rattle.sqlval.specs.declared.fault.Fault.{Fault}
use Rattle.db_header.specs.Header.{IsHeader, counted_of}
use Rattle.catalog.specs.Database.{Database}
use Rattle.catalog.specs.declared.tables.Catalog.{Catalog}
use Rattle.wal.specs.LogState.{db_of, log_of, size_of, state_of}
use Rattle.wal.specs.declared.log.Log.{Log}
use Rattle.wal.specs.declared.log.Snapshot.{Snapshot}
use Rattle.pager.specs.Maps.{pages_in}
use Rattle.pager.specs.Sights.{UnderReader, tells_reader, under_reader, view_under}
use Rattle.pager.specs.Views.{Tells, View, newest_view}
use Rattle.pager.proofs.Mapping.{count_to, maps_shown}
use Rattle.pager.proofs.Sighting.{view_told}
use Rattle.db_pages.specs.Stored.{IsCounted, Stores}
use Rattle.session.specs.Holding.{IsFound}
use Rattle.session.specs.Writers.{IsNewest}
use Rattle.session.specs.Stored.{ShowsDatabase}
use Rattle.session.proofs.KeptFiles.{keeps_told, known_kept, snapshot_told}
use Rattle.session.proofs.SeenPages.{at_newest}
use Rattle.db_load.specs.Loading.{FindsDatabase}
use Rattle.engine.specs.Opening.{KeepsFiles}
use Rattle.catalog.specs.Listed.{Listed}

module _ {D : Type 0} {g : Ghosts D} where
  pub keeps_files : (old new : Log D g) (s t : Snapshot) (a b c d : ℕ) → under_reader new t c d ≡ under_reader old s a b → KeepsFiles old new
  keeps_files old new s t a b c d kept = record {
    known = known_kept old new s t a b c d kept;
    db = keeps_told g.tells g.file (db_of old) (db_of new) (ap (λ (under : UnderReader). under.db) kept);
    log = keeps_told g.tells g.file (log_of old) (log_of new) (ap (λ (under : UnderReader). under.log) kept);
  }

  module _ (files : Log D g) (s : Snapshot) (a b : ℕ) (told : Tells files) (newest : IsNewest files s) where
    -- the snapshot's pages are those of the newest view
    same_view : view_under (under_reader files s a b) ≡ newest_view files
    same_view = view_told files s a b told ∙ at_newest files s newest

    pub newest_told : IsTrue (tells_reader (under_reader files s a b))
    newest_told = snapshot_told files s a b told (omega (arith, newest.seen))

    pub counts_pages : (size : ℕ) → size ≡ size_of s → size ≡ length (pages_in (view_under (under_reader files s a b)))
    counts_pages size is = is ∙ sym (count_to (view_under (under_reader files s a b)) (size_of s))

    pub stored_under : (tables : Listed) (db : Database) → ShowsDatabase (newest_view files) tables db → Stores (pages_in (view_under (under_reader files s a b))) (state_of files).page_size tables db
    stored_under tables db shown = subst (λ (v : View). Stores (pages_in v) (state_of files).page_size tables db) (sym same_view) shown.stored

    counted_newest : IsFound (newest_view files) → IsCounted (pages_in (newest_view files))
    counted_newest found = record {
      header = found.header;
      header_is = subst (λ (bytes : List ℕ). IsHeader bytes found.header) (sym (maps_shown (newest_view files) 1 found.page found.first)) found.header_is;
      counted = subst (λ (n : ℕ). MatchOption (counted_of found.header) (⊤) (λ count. count ≡ n)) (sym (count_to (newest_view files) (newest_view files).size)) found.counted;
    }

    pub counted_under : IsFound (newest_view files) → IsCounted (pages_in (view_under (under_reader files s a b)))
    counted_under found = subst (λ (v : View). IsCounted (pages_in v)) (sym same_view) (counted_newest found)

    pub finds_newest : (result : Result Catalog Fault) → IfOk result (FindsDatabase (pages_in (view_under (under_reader files s a b))) (state_of files).page_size)
        → IfOk result (FindsDatabase (pages_in (newest_view files)) (newest_view files).page_size)
    finds_newest result found = subst (λ (v : View). IfOk result (FindsDatabase (pages_in v) (state_of files).page_size)) same_view found
