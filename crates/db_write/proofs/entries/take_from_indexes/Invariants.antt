-- what is left decides
use Rattle.std.proofs.Common.{length, map}
use Rattle.query_terms.specs.Rows.{row_at}
use Rattle.catalog.specs.Rows.{as_row}
use Rattle.db_write.specs.Turning.{TakesFromIndexes}
use Rattle.db_write.proofs.Looping.{IsOn}
use Rattle.db_write.proofs.entries.take_from_indexes.Given as goal

abbrev pub invariant-indexes : goal.invariant-indexes
invariant-indexes g l =
    IsOn g.P.Pages.below g.P.Pages.tells g.P.Pages.limits g.P.Pages.map g.P.Pages.failures (λ old new size indexes result. TakesFromIndexes old new size indexes (map (λ place. as_row (row_at l.rows place)) l.places) result)
    l.fn.pages l.pages l.indexes l.left

abbrev pub decreases-indexes : goal.decreases-indexes
decreases-indexes g l = length l.left
