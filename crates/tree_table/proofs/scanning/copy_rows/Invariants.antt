use Rattle.std.proofs.Common.{◌-◌}
use Rattle.tree_table.proofs.Batches.{HasCopied}
use Rattle.tree_table.proofs.scanning.copy_rows.Given as goal

abbrev pub invariant-rows : goal.invariant-rows
invariant-rows g l =
    HasCopied g.P.Pages.below g.P.Pages.tells g.P.Pages.limits g.P.Pages.map g.P.Pages.count g.P.Pages.failures g.P.Pages.held l.fn.pages l.pages l.leaf l.place l.at l.rows.items l.bytes.items

abbrev pub decreases-rows : goal.decreases-rows
decreases-rows g l = l.len - l.at
