-- what the tables that are left decide
use Rattle.std.proofs.Common.{length}
use Rattle.catalog.specs.Listed.{shared}
use Rattle.tree_page.specs.Cells.{Pairwise}
use Rattle.tree_check.specs.Exact.{Checks}
use Rattle.tree_check.proofs.Running.{HasChecked}
use Rattle.db_load.specs.Uses.{HasTrees, pages_held}
use Rattle.db_load.proofs.tables.check_tables.Given as goal

abbrev pub invariant-tables : goal.invariant-tables
invariant-tables g l =
    HasChecked g.P.Pages.below g.P.Pages.tells g.P.Pages.limits g.P.Pages.map g.P.Pages.count g.P.Pages.failures l.fn.pages l.pages l.fn.marks.items l.marks.items
    (λ map size old new result. Checks (Pairwise (HasTrees map size) (shared l.tables)) pages_held old new result)
    (λ map size old new result. Checks (Pairwise (HasTrees map size) (shared l.rest)) pages_held old new result)

abbrev pub decreases-tables : goal.decreases-tables
decreases-tables g l = length l.rest
