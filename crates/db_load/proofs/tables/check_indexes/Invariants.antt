-- what the indexes that are left decide
use Rattle.std.proofs.Common.{List, length}
use Rattle.tree_page.specs.Cells.{Pairwise}
use Rattle.db_layout.specs.Layout.{used_by}
use Rattle.catalog.specs.Listed.{shape_of}
use Rattle.row_scan.specs.Rows.{TableRow}
use Rattle.row_scan.specs.Trees.{HasRows}
use Rattle.tree_check.specs.Exact.{Checks}
use Rattle.tree_check.proofs.Running.{HasChecked}
use Rattle.db_load.specs.Uses.{HasEntries}
use Rattle.db_load.proofs.tables.check_indexes.Given as goal

abbrev pub invariant-indexes : goal.invariant-indexes
invariant-indexes g l =
    HasChecked g.P.Pages.below g.P.Pages.tells g.P.Pages.limits g.P.Pages.map g.P.Pages.count g.P.Pages.failures l.fn.pages l.pages l.fn.marks.items l.marks.items
    (λ map size old new result. (rows : List TableRow) → HasRows map size l.table.root (shape_of l.table) rows → Checks (Pairwise (HasEntries map size rows) l.indexes) used_by old new result)
    (λ map size old new result. (rows : List TableRow) → HasRows map size l.table.root (shape_of l.table) rows → Checks (Pairwise (HasEntries map size rows) l.rest) used_by old new result)

abbrev pub decreases-indexes : goal.decreases-indexes
decreases-indexes g l = length l.rest
