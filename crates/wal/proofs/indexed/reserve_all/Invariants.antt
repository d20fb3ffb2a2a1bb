use Rattle.wal_index.specs.Index.{SameFrames}
use Rattle.wal.specs.Indexed.{HasRooms}
use Rattle.wal.specs.Pages.{numbers_of}
use Rattle.wal.proofs.indexed.reserve_all.Given as goal

abbrev pub invariant-pages : goal.invariant-pages
invariant-pages l = record {
  same : SameFrames l.fn.index l.index;
  rooms : HasRooms 0 l.page-index (numbers_of l.pages) l.index;
}
