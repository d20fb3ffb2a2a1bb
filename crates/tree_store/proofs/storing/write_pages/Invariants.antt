use Rattle.std.proofs.Common.{length, map}
use Rattle.tree_store.proofs.WrittenPages.{HasWritten}
use Rattle.tree_store.proofs.storing.write_pages.Given as goal

abbrev pub invariant-pieces : goal.invariant-pieces
invariant-pieces g l =
    HasWritten g.P.Pages.below g.P.Pages.tells g.P.Pages.limits g.P.Pages.map g.P.Pages.failures l.fn.pages l.pages l.last l.packed.last.items l.fronts l.left
    (map (λ piece. piece.page.items) l.packed.pieces.items) (map (λ piece. piece.page.items) l.rest)

abbrev pub decreases-pieces : goal.decreases-pieces
decreases-pieces g l = length l.rest
