-- what is left of the rows decides, whatever was kept before them
use Rattle.std.proofs.Common.{◌≡◌, List, drop}
use Rattle.query_answer.specs.Nesting.{Found, filtered_by, onto}
use Rattle.query_answer.specs.Parts.{HaveKeys, kept_of, of_rows}
use Rattle.query_answer.proofs.parts.give_each.Given as goal

abbrev pub invariant-rows : goal.invariant-rows
invariant-rows l =
    (before : List Found) → HaveKeys l.loops.reading.now before → l.initial.found ≡ kept_of l.loops.reading.now before
    → (now : List Found) × HaveKeys l.loops.reading.now now × (l.found ≡ kept_of l.loops.reading.now now)
    × (onto now (of_rows (filtered_by l.loops.filter.now l.loops.reading.now) l.condition (drop l.index l.rows)) ≡ onto before (of_rows (filtered_by l.loops.filter.now l.loops.reading.now) l.condition l.rows))
