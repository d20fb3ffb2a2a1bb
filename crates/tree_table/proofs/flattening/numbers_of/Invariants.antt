use Rattle.std.proofs.Common.{◌≡◌, ◌++◌, ℕ, ℤ, List, map, length}
use Rattle.tree_store.specs.Storing.{cells_of}
use Rattle.tree_page.specs.Cells.{Pairwise}
use Rattle.tree_page.specs.Node.{IsKeyCell}
use Rattle.tree_table.proofs.flattening.numbers_of.Given as goal

abbrev pub invariant-cells : goal.invariant-cells
invariant-cells l = (kids : List (ℕ × ℤ)) → Pairwise IsKeyCell (cells_of l.fan) kids
    → (rest : List (ℕ × ℤ)) × Pairwise IsKeyCell (map (λ cell. cell.items) l.left) rest × (l.numbers.items ++ map (λ kid. kid.0) rest ≡ map (λ kid. kid.0) kids)

abbrev pub decreases-cells : goal.decreases-cells
decreases-cells l = length l.left
