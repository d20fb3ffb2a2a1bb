use Rattle.std.proofs.Common.{◌≡◌, ◌≤◌, ◌++◌, length, map, drop}
use Rattle.tree_pack.specs.Spreading.{pages_of, dividing, PartsFit}
use Rattle.tree_pack.proofs.spreading.write_parts.Given as goal

abbrev pub invariant-parts : goal.invariant-parts
invariant-parts l = record {
  within : l.start ≤ length l.cells;
  fit : PartsFit l.kind l.page_size l.left (drop l.start (map (λ cell. cell.now) l.cells));
  pages : map (λ piece. piece.page.items) l.pieces.items ++ pages_of l.kind l.page_size l.right l.left (drop l.start (map (λ cell. cell.now) l.cells)) ≡ pages_of l.kind l.page_size l.right l.counts (map (λ cell. cell.now) l.cells);
  dividers : map (λ piece. piece.divider.items) l.pieces.items ++ dividing l.kind l.left (drop l.start (map (λ cell. cell.now) l.cells)) ≡ dividing l.kind l.counts (map (λ cell. cell.now) l.cells);
}

abbrev pub decreases-parts : goal.decreases-parts
decreases-parts l = length l.left
