use Rattle.freelist.specs.Freelist.{IsFreelist, pages_of}
use Rattle.tree_check.specs.Exact.{Checks}
use Rattle.tree_check.proofs.Running.{HasChecked}
use Rattle.tree_check.proofs.lists.check_trunks.Given as goal

abbrev pub invariant-trunks : goal.invariant-trunks
invariant-trunks g l =
    HasChecked g.P.Pages.below g.P.Pages.tells g.P.Pages.limits g.P.Pages.map g.P.Pages.count g.P.Pages.failures l.fn.pages l.pages l.fn.marks.items l.marks.items
    (λ map size old new result. Checks (IsFreelist map size l.fn.first l.fn.count) pages_of old new result) (λ map size old new result. Checks (IsFreelist map size l.trunk l.left) pages_of old new result)

abbrev pub decreases-trunks : goal.decreases-trunks
decreases-trunks g l = l.left
