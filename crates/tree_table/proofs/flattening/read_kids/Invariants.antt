use Rattle.std.proofs.Common.{length, map}
use Rattle.tree_table.proofs.KidCells.{HasReadKids}
use Rattle.tree_table.proofs.flattening.read_kids.Given as goal

abbrev pub invariant-kids : goal.invariant-kids
invariant-kids g l =
    HasReadKids g.P.Pages.below g.P.Pages.tells g.P.Pages.limits g.P.Pages.map g.P.Pages.count g.P.Pages.failures l.fn.pages l.pages (map (λ cell. cell.items) l.cells) (map (λ cell. cell.items) l.initial.out.items)
    (map (λ cell. cell.items) l.left) (map (λ cell. cell.items) l.out.items)

abbrev pub decreases-kids : goal.decreases-kids
decreases-kids g l = length l.left
