use Rattle.wal.specs.Indexed.{IsIndexTo, EachFrame, IsOfHead, HasEach, pages_said}
use Rattle.wal.proofs.indexed.index_of.Given as goal

abbrev pub invariant-frames : goal.invariant-frames
invariant-frames l = record {
  indexed : IsIndexTo l.i l.index;
  pages : EachFrame (IsOfHead l.frames) l.index;
  all : HasEach 0 (pages_said l.frames) l.i l.index;
}
