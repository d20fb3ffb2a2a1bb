-- the places that are left decide
use Rattle.std.proofs.Common.{ℕ, List, length, map}
use Rattle.query_terms.specs.Rows.{row_at}
use Rattle.db_write.specs.OneRow.{TurnsFrom}
use Rattle.db_write.proofs.Looping.{IsOn}
use Rattle.db_write.proofs.updating.turn_from.Given as goal

abbrev pub invariant-places : goal.invariant-places
invariant-places g l =
    IsOn {A = List ℕ} g.P.Pages.below g.P.Pages.tells g.P.Pages.limits g.P.Pages.map g.P.Pages.failures
    (λ old new size left result. TurnsFrom old new size l.table l.sets (map (row_at l.rows) left) result)
    l.fn.pages l.pages l.places l.left

abbrev pub decreases-places : goal.decreases-places
decreases-places g l = length l.left
