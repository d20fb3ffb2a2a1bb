-- what is left decides
use Rattle.std.proofs.Common.{length, map}
use Rattle.index_entries.specs.Keeping.{row_in}
use Rattle.db_write.specs.Turning.{ReplacesInIndexes}
use Rattle.db_write.proofs.Looping.{IsOn}
use Rattle.db_write.proofs.entries.replace_in_indexes.Given as goal

abbrev pub invariant-indexes : goal.invariant-indexes
invariant-indexes g l =
    IsOn g.P.Pages.below g.P.Pages.tells g.P.Pages.limits g.P.Pages.map g.P.Pages.failures (λ old new size indexes result. ReplacesInIndexes old new size indexes (map row_in l.gone) (map row_in l.come) result)
    l.fn.pages l.pages l.indexes l.left

abbrev pub decreases-indexes : goal.decreases-indexes
decreases-indexes g l = length l.left
