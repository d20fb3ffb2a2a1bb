-- what was read so far, and how much may come
use Rattle.std.proofs.Common.{◌≡◌, Ok}
use Rattle.query_answer.specs.Parts.{part_of}
use Rattle.row_scan.specs.Sources.{places_shown}
use Rattle.row_scan.proofs.TreeAnswers.{places_from}
use Rattle.executor.proofs.StreamedRows.{HasStreamed}
use Rattle.executor.proofs.reading.streamed_rows.Given as goal

abbrev pub invariant-leaves : goal.invariant-leaves
invariant-leaves g l =
    HasStreamed g.P.Pages.below g.P.Pages.tells g.P.Pages.limits g.P.Pages.map g.P.Pages.count g.P.Pages.failures (λ rows. part_of l.reading rows ≡ Ok l.found) l.fn.pages l.pages l.fn.table (places_shown l.fn.shown) l.cursor.root l.cursor.next

abbrev pub decreases-leaves : goal.decreases-leaves
decreases-leaves g l = places_from l.cursor.next
