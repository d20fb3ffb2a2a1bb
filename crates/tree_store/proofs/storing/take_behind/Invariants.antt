use Rattle.std.proofs.Common.{ℕ, ◌-◌, length, Vec, Global}
use Rattle.tree_store.proofs.TakenPages.{HasTaken}
use Rattle.tree_store.proofs.storing.take_behind.Given as goal

abbrev pub invariant-numbers : goal.invariant-numbers
invariant-numbers g l =
    HasTaken g.P.Pages.below g.P.Pages.tells g.P.Pages.limits g.P.Pages.map g.P.Pages.failures (Vec ℕ Global) (λ numbers. numbers.items) l.fn.pages l.pages l.count l.olds l.numbers.items

abbrev pub decreases-numbers : goal.decreases-numbers
decreases-numbers g l = l.count - length l.numbers.items
