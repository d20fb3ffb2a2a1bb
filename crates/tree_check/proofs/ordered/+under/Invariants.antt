use Rattle.std.proofs.Common.{◌≡◌, ◌+◌, ◌*◌, ℕ, List, length, drop}
use Rattle.pages.specs.Counting.{start_of}
use Rattle.tree_page.specs.Node.{Local, Between, IsNode}
use Rattle.tree_check.proofs.OrderedTrees.{ChecksAlong}
use Rattle.tree_check.proofs.Going.{HasChecked}
use Rattle.tree_check.proofs.Turns.{marks_kept}
use Rattle.tree_check.proofs.ordered.+under.Given as goal

abbrev pub decreases-check_under : goal.decreases-check_under
decreases-check_under g l = l.depth * 2

abbrev pub decreases-check_along : goal.decreases-check_along
decreases-check_along g l = l.depth * 2 + 1

abbrev pub invariant-check_along-cells : goal.invariant-check_along-cells
invariant-check_along-cells g l =
    HasChecked g.P.Pages.below g.P.Pages.tells g.P.Pages.limits g.P.Pages.map g.P.Pages.count g.P.Pages.failures marks_kept l.fn.pages l.pages (l.fn.marks.items, l.fn.last) (l.marks.items, l.last)
    (λ map size old new result. (said : List (ℕ × Local)) (end : ℕ) → IsNode l.bytes (start_of l.page) (Between said end) → length l.bytes ≡ size → ChecksAlong map size said end l.depth l.columns old.1 new.1 old.0 new.0 result)
    (λ map size old new result. (said : List (ℕ × Local)) (end : ℕ) → IsNode l.bytes (start_of l.page) (Between said end) → length l.bytes ≡ size → ChecksAlong map size (drop l.index said) end l.depth l.columns old.1 new.1 old.0 new.0 result)
