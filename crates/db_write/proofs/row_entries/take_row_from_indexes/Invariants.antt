-- what is left decides
use Rattle.std.proofs.Common.{length, [], ◌∷◌}
use Rattle.index_entries.specs.Keeping.{row_in}
use Rattle.db_write.specs.Turning.{TakesFromIndexes}
use Rattle.db_write.proofs.Looping.{IsOn}
use Rattle.db_write.proofs.row_entries.take_row_from_indexes.Given as goal

abbrev pub invariant-indexes : goal.invariant-indexes
invariant-indexes g l =
    IsOn g.P.Pages.below g.P.Pages.tells g.P.Pages.limits g.P.Pages.map g.P.Pages.failures (λ old new size indexes result. TakesFromIndexes old new size indexes (row_in l.row ∷ []) result)
    l.fn.pages l.pages l.indexes l.left

abbrev pub decreases-indexes : goal.decreases-indexes
decreases-indexes g l = length l.left
