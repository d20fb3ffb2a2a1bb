-- the rows in front are those of the batch so far
use Rattle.std.proofs.Common.{◌≡◌, map, take}
use Rattle.row_scan.specs.Sources.{as_shown, places_shown}
use Rattle.row_scan.proofs.sources.batch_rows.Given as goal

abbrev pub invariant-written : goal.invariant-written
invariant-written l = take l.place l.items.items ≡ map (as_shown (places_shown l.shown) l.own) (take l.place l.batch)
