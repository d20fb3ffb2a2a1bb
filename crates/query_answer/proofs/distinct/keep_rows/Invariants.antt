-- the rows that are read at the places so far stand in front, and those at the others where they stood
use Rattle.std.proofs.Common.{◌≡◌, length, drop, map}
use Rattle.std.specs.Prelude.{slice_get}
use Rattle.query_answer.specs.Numbers.{AreRisingPlaces}
use Rattle.query_answer.proofs.Places.{read_at}
use Rattle.query_answer.proofs.distinct.keep_rows.Given as goal

abbrev pub invariant-places : goal.invariant-places
invariant-places l = record {
  long : length l.rows.items ≡ length l.fn.rows.items;
  rising : AreRisingPlaces l.index (length l.rows.items) (drop l.index l.places);
  same : read_at l.rows.items l.index l.places ≡ map (slice_get l.fn.rows.items) l.places;
}
