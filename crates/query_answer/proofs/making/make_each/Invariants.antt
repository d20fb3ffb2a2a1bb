-- what is left of the rows decides, whatever was made before them
use Rattle.std.proofs.Common.{◌≡◌, List, drop}
use Rattle.query_answer.specs.Nesting.{Found, filtered_by, onto}
use Rattle.query_answer.specs.Parts.{of_rows, rows_made}
use Rattle.query_answer.proofs.making.make_each.Given as goal

abbrev pub invariant-rows : goal.invariant-rows
invariant-rows l =
    (before : List Found) → l.initial.made ≡ rows_made before → (now : List Found) × (l.made ≡ rows_made now)
    × (onto now (of_rows (filtered_by l.loops.filter.now l.loops.reading.now) l.condition (drop l.index l.rows)) ≡ onto before (of_rows (filtered_by l.loops.filter.now l.loops.reading.now) l.condition l.rows))
