-- A view's query has room for one view less. What is left of the sources decides.
use Rattle.std.proofs.Common.{◌+◌, ◌*◌, length}
use Rattle.catalog.specs.Listed.{listed_in}
use Rattle.executor.proofs.LoadedSources.{HasLoaded}
use Rattle.executor.proofs.reading.+rows_within.Given as goal

abbrev pub decreases-view_rows : goal.decreases-view_rows
decreases-view_rows g l = l.room * 8 + 1

abbrev pub decreases-answered_rows : goal.decreases-answered_rows
decreases-answered_rows g l = l.room * 8 + 6

abbrev pub decreases-rows_of_source : goal.decreases-rows_of_source
decreases-rows_of_source g l = l.room * 8 + 2

abbrev pub decreases-load_sources : goal.decreases-load_sources
decreases-load_sources g l = l.room * 8 + 3

abbrev pub decreases-loaded_rows : goal.decreases-loaded_rows
decreases-loaded_rows g l = l.room * 8 + 4

abbrev pub decreases-rows_within : goal.decreases-rows_within
decreases-rows_within g l = l.room * 8 + 5

abbrev pub invariant-load_sources-sources : goal.invariant-load_sources-sources
invariant-load_sources-sources g l =
    HasLoaded g.P.Pages.below g.P.Pages.tells g.P.Pages.limits g.P.Pages.map g.P.Pages.count g.P.Pages.failures l.fn.pages l.pages (listed_in l.catalog) l.room l.reading l.origins l.left l.sources.items

abbrev pub decreases-load_sources-sources : goal.decreases-load_sources-sources
decreases-load_sources-sources g l = length l.left
