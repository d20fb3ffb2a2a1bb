-- what is left of the batch decides
use Rattle.std.proofs.Common.{◌≡◌, drop}
use Rattle.row_scan.specs.Answers.{left}
use Rattle.row_scan.specs.Sources.{places_shown, shown_at}
use Rattle.row_scan.proofs.sources.add_source_rows.Given as goal

abbrev pub invariant-rows : goal.invariant-rows
invariant-rows l = left (shown_at (places_shown l.shown) l.own) (drop l.index l.batch) l.rows ≡ left (shown_at (places_shown l.shown) l.own) l.batch l.initial.rows
