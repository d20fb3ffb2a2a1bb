use Rattle.std.proofs.Common.{◌≡◌, ◌++◌, ℕ, List, map, length}
use Rattle.tree_store.specs.Storing.{cells_of}
use Rattle.tree_page.specs.Cells.{Pairwise}
use Rattle.tree_page.specs.Node.{Local, IsBetweenCell}
use Rattle.tree_index.proofs.flattening.numbers_of.Given as goal

abbrev pub invariant-cells : goal.invariant-cells
invariant-cells l = (size : ℕ) (kids : List (ℕ × Local)) → Pairwise (IsBetweenCell size) (cells_of l.fan) kids
    → (rest : List (ℕ × Local)) × Pairwise (IsBetweenCell size) (map (λ cell. cell.items) l.left) rest
    × (l.numbers.items ++ map (λ kid. kid.0) rest ≡ map (λ kid. kid.0) kids)

abbrev pub decreases-cells : goal.decreases-cells
decreases-cells l = length l.left
