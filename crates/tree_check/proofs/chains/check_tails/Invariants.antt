use Rattle.std.proofs.Common.{length}
use Rattle.std.specs.List.{flat_map}
use Rattle.tree_page.specs.Cells.{Pairwise}
use Rattle.tree_check.specs.Exact.{Checks}
use Rattle.tree_check.specs.Tails.{IsTailOn}
use Rattle.tree_check.proofs.Running.{HasChecked}
use Rattle.tree_check.proofs.chains.check_tails.Given as goal

abbrev pub invariant-tails : goal.invariant-tails
invariant-tails g l =
    HasChecked g.P.Pages.below g.P.Pages.tells g.P.Pages.limits g.P.Pages.map g.P.Pages.count g.P.Pages.failures l.fn.pages l.pages l.fn.marks.items l.marks.items
    (λ map size old new result. Checks (Pairwise (IsTailOn map size) l.tails) (flat_map (λ chain. chain.pages)) old new result)
    (λ map size old new result. Checks (Pairwise (IsTailOn map size) l.rest) (flat_map (λ chain. chain.pages)) old new result)

abbrev pub decreases-tails : goal.decreases-tails
decreases-tails g l = length l.rest
