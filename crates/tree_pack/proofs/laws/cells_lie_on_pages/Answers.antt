use Rattle.tree_pack.proofs.Rooms.{cells_fit}
use Rattle.tree_pack.proofs.laws.cells_lie_on_pages.Goals as goal

pub returns : goal.returns
returns c = cells_fit
