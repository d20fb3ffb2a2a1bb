-- What a view stores is what the two files stand for.
use Rattle.std.proofs.Common.{◌≡◌, ◌≤◌, sym, subst, ℕ, List, length, arith}
use Rattle.sqlval.specs.PageSizes.{IsPageSize}
use Rattle.db_header.specs.Header.{IsHeader, counted_of}
use Rattle.std.specs.Prelude.{⊤, MatchOption}
use Rattle.wal.specs.Committed.{HasCommits}
use Rattle.wal.specs.Sizes.{IsSizeWithinLimits}
use Rattle.wal.proofs.Openable.{some_size}
use Rattle.catalog.specs.Database.{Database}
use Rattle.pages.specs.Map.{Has, page_at}
use Rattle.pager.specs.Maps.{pages_in}
use Rattle.pager.specs.Views.{View}
use Rattle.pager.proofs.Mapping.{count_to, maps_shown, shows_mapped}
use Rattle.db_files.specs.Stands.{StandsFor}
use Rattle.db_pages.specs.Language.{language}
use Rattle.db_pages.specs.Stored.{IsCounted}
use Rattle.session.specs.Holding.{Hold, IsFound, StoreFiles}
use Rattle.session.specs.Stored.{ShowsDatabase}
use Rattle.catalog.proofs.Found.{finds_listed}
use Rattle.query_bind.proofs.TriggerNames.{knows}
use Rattle.db_pages.proofs.Standing.{stand_if_stored}
use Rattle.session.proofs.StandingViews.{ShowsEach, few_frames, files_make}
use Rattle.catalog.specs.Listed.{Listed}

module _ (log : List ℕ) (view : View) (commits : HasCommits view.page_size log view.frames) (found : IsFound view) (tables : Listed) (database : Database) (shown : ShowsDatabase view tables database) where
  some_bytes : 1 ≤ view.page_size
  some_bytes = some_size view.page_size (subst IsPageSize found.head_size found.head_is.served)

  -- each page is one that readers can get
  shows_each : ShowsEach view
  shows_each number first last =
      let has : Has (pages_in view) number = record { first = first; last = omega (arith, last, count_to view view.size) } in
      let there = shows_mapped view number some_bytes (record { has = has; whole = shown.stored.shared.whole number has }) in
      (page_at (pages_in view) number, there.has)

  is_counted : IsCounted (pages_in view)
  is_counted = record {
    header = found.header;
    header_is = subst (λ (b : List ℕ). IsHeader b found.header) (sym (maps_shown view 1 found.page found.first)) found.header_is;
    counted = subst (λ (n : ℕ). MatchOption (counted_of found.header) (⊤) (λ count. count ≡ n)) (sym (count_to view view.size)) found.counted;
  }

  within_limits : (page_size : ℕ) → page_size ≡ view.page_size → IsSizeWithinLimits page_size (length (pages_in view))
  within_limits page_size is = subst (λ (n : ℕ). IsSizeWithinLimits page_size n) (sym (count_to view view.size)) (subst (λ (n : ℕ). IsSizeWithinLimits n view.size) (sym is) shown.served)

  view_held : Hold view.db log database
  view_held = record {
    header = found.head;
    header_is = found.head_is;
    pages = pages_in view;
    view = files_make log view commits found shows_each;
    few = few_frames log view commits found shows_each found.head.page_size (pages_in view) (files_make log view commits found shows_each);
    served = within_limits found.head.page_size found.head_size;
    stands = subst (λ (n : ℕ). StandsFor language n (pages_in view) database) (sym found.head_size)
        (stand_if_stored (knows finds_listed) (pages_in view) view.page_size tables database shown.stored is_counted);
  }

-- The files hold the database that a view of them stores.
pub held_if_stored : (db log : List ℕ) (database : Database) → StoreFiles db log database → Hold db log database
held_if_stored db log database files =
    subst (λ (bytes : List ℕ). Hold bytes log database) files.db_is (view_held log files.view files.commits files.found files.tables database files.stored)
