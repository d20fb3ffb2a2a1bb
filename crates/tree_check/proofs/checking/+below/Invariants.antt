use Rattle.std.proofs.Common.{◌+◌, ◌*◌, length}
use Rattle.tree_check.specs.Exact.{Checks}
use Rattle.tree_check.specs.Subtrees.{AreSubtrees, keys_in, pages_beside}
use Rattle.tree_check.proofs.Running.{HasChecked}
use Rattle.tree_check.proofs.checking.+below.Given as goal

abbrev pub decreases-check_below : goal.decreases-check_below
decreases-check_below g l = l.depth * 2

abbrev pub decreases-check_kids : goal.decreases-check_kids
decreases-check_kids g l = l.depth * 2 + 1

abbrev pub invariant-check_kids-kids : goal.invariant-check_kids-kids
invariant-check_kids-kids g l =
    HasChecked g.P.Pages.below g.P.Pages.tells g.P.Pages.limits g.P.Pages.map g.P.Pages.count g.P.Pages.failures l.fn.pages l.pages l.fn.marks.items l.marks.items
    (λ map size old new result. Checks (AreSubtrees map size (keys_in l.kids) l.last l.depth l.fn.low l.fn.high) (pages_beside l.depth) old new result)
    (λ map size old new result. Checks (AreSubtrees map size (keys_in l.rest) l.last l.depth l.above l.fn.high) (pages_beside l.depth) old new result)

abbrev pub decreases-check_kids-kids : goal.decreases-check_kids-kids
decreases-check_kids-kids g l = length l.rest
