-- Which database is seen in the pages of two files.
use Rattle.wal.specs.Sizes.{IsSizeWithinLimits}
use Rattle.catalog.specs.Database.{Database}
use Rattle.pager.specs.Maps.{pages_in}
use Rattle.pager.specs.Views.{View}
use Rattle.db_pages.specs.Stored.{Stores}
use Rattle.catalog.specs.Listed.{Listed}

-- The view's pages hold the database of these tables, and are no more than there may be.
pub record ShowsDatabase (view : View) (tables : Listed) (db : Database) : Type 0 where
  pub stored : Stores (pages_in view) view.page_size tables db
  pub served : IsSizeWithinLimits view.page_size view.size
