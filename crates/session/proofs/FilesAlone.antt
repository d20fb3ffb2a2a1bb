-- A database file that stands for itself holds what the newest view holds.
use Rattle.std.proofs.Common.{◌≡◌, ◌≤◌, ◌*◌, ◌∙◌, ℕ, List, [], length, take, drop, refl, sym, ap, subst, arith}
use Rattle.std.specs.Prelude.{⊤, Option, Some, None, MatchOption}
use Rattle.std.proofs.Math.Nat.{zero-mul}
use Rattle.std.proofs.lemmas.List.{take-take}
use Rattle.sqlval.specs.PageSizes.{IsPageSize}
use Rattle.sqlval.proofs.PageSizeLemmas.{by_size}
use Rattle.db_header.specs.Header.{counted_of}
use Rattle.db_header.specs.declared.fields.Header.{Header}
use Rattle.db_header.proofs.Fronts.{header_moves}
use Rattle.catalog.specs.Database.{Database}
use Rattle.pages.specs.Map.{PageMap}
use Rattle.wal.specs.Alone.{StandsAlone}
use Rattle.wal.specs.Sizes.{IsViewSize}
use Rattle.wal.specs.View.{IsInFile}
use Rattle.pager.specs.Maps.{pages_in}
use Rattle.pager.specs.Views.{View}
use Rattle.pager.proofs.Mapping.{maps_shown, maps_within}
use Rattle.pager.proofs.Standing.{alone_back, alone_forth}
use Rattle.db_pages.specs.Stored.{Stores}
use Rattle.session.specs.Holding.{IsFound}
use Rattle.session.specs.Stored.{ShowsDatabase}
use Rattle.session.proofs.StandingViews.{one_header}
use Rattle.catalog.specs.Listed.{Listed}

pub large : (n : ℕ) → IsPageSize n → 100 ≤ n
large = by_size (λ (n : ℕ). 100 ≤ n) (omega arith) (omega arith) (omega arith) (omega arith) (omega arith) (omega arith) (omega arith) (omega arith)

-- a file that has page 1 begins with it
pub first_bytes : (db : List ℕ) (page_size : ℕ) (page : List ℕ) → IsPageSize page_size → IsInFile db page_size 1 page → take 100 page ≡ take 100 db
first_bytes db page_size page size is =
    ap (take 100) (is.bytes_are ∙ ap (λ (n : ℕ). take page_size (drop n db)) (zero-mul page_size)) ∙ take-take 100 page_size db (large page_size size)

module _ (view : View) (tables : Listed) (db : Database) where
  abbrev alone_view : View
  alone_view = record view { frames = [] }

  same_map : StandsAlone view.db view.page_size view.frames view.size → pages_in view ≡ pages_in alone_view
  same_map alone = maps_within view alone_view refl (λ number bytes low high. (
    (λ has. alone_back view.db view.page_size view.frames view.size alone number low high bytes has),
    (λ has. alone_forth view.db view.page_size view.frames view.size alone number low high bytes has),
  ))

  pub shown_alone : ShowsDatabase view tables db → StandsAlone view.db view.page_size view.frames view.size → ShowsDatabase alone_view tables db
  shown_alone shown alone = record {
    stored = subst (λ (map : PageMap). Stores map view.page_size tables db) (same_map alone) shown.stored;
    served = shown.served;
  }

  -- the size that the file's header counts, or that the file has
  size_alone : (counted : Option ℕ) → MatchOption counted (⊤) (λ count. count ≡ view.size) → length view.db ≡ view.size * view.page_size → IsViewSize [] counted (length view.db) view.page_size view.size
  size_alone (Some count) is long = sym is
  size_alone None is long = sym long

  pub found_alone : IsFound view → ShowsDatabase view tables db → StandsAlone view.db view.page_size view.frames view.size → IsFound alone_view
  found_alone found shown alone = record {
    head = found.header;
    head_is = header_moves found.page view.db found.header front found.header_is;
    head_size = ap (λ (h : Header). h.page_size) same_header ∙ shown.stored.sized;
    sized = size_alone (counted_of found.header) found.counted alone.long;
    few = omega arith;
    page = found.page;
    first = record { first = found.first.first; last = found.first.last; has = alone_back view.db view.page_size view.frames view.size alone 1 found.first.first found.first.last found.page found.first.has };
    header = found.header;
    header_is = found.header_is;
    counted = found.counted;
  }
    where
      in_file : IsInFile view.db view.page_size 1 found.page
      in_file = alone.pages 1 found.page found.first.first found.first.last found.first.has

      same_header : found.header ≡ shown.stored.header
      same_header = one_header found.page _ found.header shown.stored.header (sym (maps_shown view 1 found.page found.first)) found.header_is shown.stored.header_is

      front : take 100 found.page ≡ take 100 view.db
      front = first_bytes view.db view.page_size found.page (subst IsPageSize shown.stored.sized shown.stored.header_is.served) in_file
