use Rattle.tree_check.specs.Exact.{Checks}
use Rattle.tree_check.specs.Tails.{IsChainFrom, IsTailOn}
use Rattle.tree_check.proofs.Running.{HasChecked}
use Rattle.tree_check.proofs.chains.check_chain.Given as goal

abbrev pub invariant-links : goal.invariant-links
invariant-links g l =
    HasChecked g.P.Pages.below g.P.Pages.tells g.P.Pages.limits g.P.Pages.map g.P.Pages.count g.P.Pages.failures l.fn.pages l.pages l.fn.marks.items l.marks.items
    (λ map size old new result. Checks (IsTailOn map size l.fn.tail) (λ chain. chain.pages) old new result)
    (λ map size old new result. Checks (IsChainFrom map size l.page l.left) (λ chain. chain.pages) old new result)

abbrev pub decreases-links : goal.decreases-links
decreases-links g l = l.left
