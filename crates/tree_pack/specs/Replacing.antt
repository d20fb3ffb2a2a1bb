-- Cells of a page of a tree in the places of others that are as long (Database File Format, "B-tree Pages").
use Rattle.std.specs.Prelude.{◌≡◌, ◌≤◌, ◌<◌, ◌+◌, ◌*◌, ◌^◌, ℕ, List, [], ◌++◌, length, take, drop, slice_index_or}
use Rattle.tree_page.specs.Cells.{Span}
use Rattle.tree_page.specs.Node.{Node, IsNode, right_of}
use Rattle.tree_pack.specs.declared.replacing.CellPlace.{CellPlace}

-- a page's bytes, with these over those from an offset on
abbrev pub written_over : ℕ → List ℕ → List ℕ → List ℕ
written_over at bytes page = take at page ++ (bytes ++ drop (at + length bytes) page)

abbrev pub no_span : Span
no_span = record { from = 0; to = 0 }

-- the page has a cell at this place, which lies there, and its pointer, and so many cells
pub record IsCellAt (page : List ℕ) (start : ℕ) (node : Node) (is : IsNode page start node) (place : ℕ) (found : CellPlace) : Type 0 where
  pub there : place < length is.cells
  pub long : found.at + length (slice_index_or is.cells place []) ≡ found.end
  pub offset : (slice_index_or is.page_is.spans place no_span).from ≡ found.at
  pub first_is : found.first ≡ start + 8 + length (right_of node)
  pub pointer_is : found.pointer ≡ start + 8 + length (right_of node) + 2 * place
  pub last_is : found.last ≡ start + 8 + length (right_of node) + 2 * length is.cells
  pub count_is : found.count ≡ length is.cells

-- The pointers stand behind a header that begins there, on a page of so many bytes, and the cell's own is one of them. The cell begins where a
-- pointer can say, and doesn't end before it begins.
pub record IsPlaceOn (start size : ℕ) (found : CellPlace) : Type 0 where
  pub behind : start + 8 ≤ found.first
  pub upto : found.first ≤ found.pointer
  pub before : found.pointer + 2 ≤ found.last
  pub within : found.last ≤ size
  pub few : found.count < 2 ^ 16
  pub near : found.at < 2 ^ 16
  pub proper : found.at ≤ found.end
