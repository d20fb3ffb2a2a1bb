-- the rows given that are left, and the last rowid, decide
use Rattle.std.proofs.Common.{ℤ, List, Option, length, map}
use Rattle.sqlval.specs.declared.value.Value.{Value}
use Rattle.db_write.specs.OneRow.{InsertsFrom}
use Rattle.db_write.proofs.Looping.{IsOn}
use Rattle.db_write.proofs.inserting.insert_from.Given as goal

abbrev pub invariant-rows : goal.invariant-rows
invariant-rows g l =
    IsOn {A = List (List Value) × Option ℤ} g.P.Pages.below g.P.Pages.tells g.P.Pages.limits g.P.Pages.map g.P.Pages.failures
    (λ old new size left result. InsertsFrom old new size l.table l.places left.0 left.1 result)
    l.fn.pages l.pages (map (λ row. row.items) l.rows, l.fn.last) (map (λ row. row.items) l.left, l.before)

abbrev pub decreases-rows : goal.decreases-rows
decreases-rows g l = length l.left
