use Rattle.std.proofs.Common.{◌+◌, length}
use Rattle.wal.specs.Indexed.{IsIndexTo, EachFrame, IsOldOrNew, HasEach, HasRooms, KeepsFrames}
use Rattle.wal.specs.Pages.{numbers_of}
use Rattle.wal.proofs.indexed.add_all.Given as goal

abbrev pub invariant-pages : goal.invariant-pages
invariant-pages l = record {
  indexed : IsIndexTo (l.mark + l.i) l.index;
  frames : EachFrame (IsOldOrNew l.mark l.pages l.i l.fn.index) l.index;
  added : HasEach l.mark (numbers_of l.pages) l.i l.index;
  kept : KeepsFrames l.fn.index l.index;
  rooms : HasRooms l.i (length (numbers_of l.pages)) (numbers_of l.pages) l.index;
}
