-- what is left decides
use Rattle.std.proofs.Common.{length}
use Rattle.db_write.specs.Turning.{ClearsIndexes}
use Rattle.db_write.proofs.Looping.{IsOn}
use Rattle.db_write.proofs.entries.clear_indexes.Given as goal

abbrev pub invariant-indexes : goal.invariant-indexes
invariant-indexes g l =
    IsOn g.P.Pages.below g.P.Pages.tells g.P.Pages.limits g.P.Pages.map g.P.Pages.failures ClearsIndexes
    l.fn.pages l.pages l.indexes l.left

abbrev pub decreases-indexes : goal.decreases-indexes
decreases-indexes g l = length l.left
