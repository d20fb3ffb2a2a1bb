-- what is left of the sources decides
use Rattle.std.proofs.Common.{length}
use Rattle.catalog.specs.Listed.{listed_in}
use Rattle.executor_programs.proofs.LoadedEach.{HasLoaded}
use Rattle.executor_programs.proofs.querying.load_each.Given as goal

abbrev pub invariant-sources : goal.invariant-sources
invariant-sources g l =
    HasLoaded g.P.Pages.below g.P.Pages.tells g.P.Pages.limits g.P.Pages.map g.P.Pages.count g.P.Pages.failures l.fn.pages l.pages (listed_in l.catalog) l.sources l.left l.fn.lists.items l.lists.items

abbrev pub decreases-sources : goal.decreases-sources
decreases-sources g l = length l.left
