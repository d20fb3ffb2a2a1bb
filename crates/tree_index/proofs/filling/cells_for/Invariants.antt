use Rattle.std.proofs.Common.{map, take}
use Rattle.tree_index.proofs.Fillings.{IsMaking}
use Rattle.tree_index.proofs.filling.cells_for.Given as goal

abbrev pub invariant-entries : goal.invariant-entries
invariant-entries g l = IsMaking g.P.Pages.below g.P.Pages.tells g.P.Pages.limits g.P.Pages.map g.P.Pages.failures l.fn.pages l.pages (take l.entry-index l.fn.entries) (map (λ cell. cell.items) l.cells.items)
