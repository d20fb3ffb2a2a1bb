-- The bytes of a page that are free, or become so when a cell goes (Database File Format, "B-tree Pages", on freeblocks).
use Rattle.std.specs.Prelude.{◌≡◌, ◌⊎◌, ◌≤◌, ◌<◌, ◌+◌, ◌*◌, ℕ, List, [], ◌∷◌, length, max, nat_lt, if◌then◌else◌, slice_index_or, Option, Some, None, IfSome}
use Rattle.std.specs.List.{AllByRecursion}
use Rattle.tree_page.specs.Bytes.{two_bytes}
use Rattle.tree_page.specs.Cells.{Span}
use Rattle.tree_page.specs.Node.{Node, IsNode, right_of}
use Rattle.tree_pack.specs.Replacing.{no_span, written_over}
use Rattle.tree_pack.specs.declared.freeing.Freed.{Freed}
use Rattle.tree_pack.specs.declared.freeing.FreeblockHead.{FreeblockHead}
use Rattle.tree_pack.specs.declared.freeing.Pointers.{Pointers}
use Rattle.tree_pack.specs.declared.replacing.CellPlace.{CellPlace}

-- the first bytes of a freeblock, which stand after the pointers on the page
pub record IsHeadOn (end : ℕ) (page : List ℕ) (head : FreeblockHead) : Type 0 where
  pub four : length head.bytes ≡ 4
  pub after : end ≤ head.at
  pub within : head.at + 4 ≤ length page

-- the page with the first bytes of a freeblock, if there is one
abbrev pub with_head : Option FreeblockHead → List ℕ → List ℕ
with_head None page = page
with_head (Some head) page = written_over head.at head.bytes page

-- ---- bytes of no cell

-- none of these has one of the bytes from one offset up to another
abbrev pub AreClear : ℕ → ℕ → List Span → Type 0
AreClear at end spans = AllByRecursion (λ span. (span.to ≤ at) ⊎ (end ≤ span.from)) spans

-- the pointers of the page's cells begin and end there
pub record ArePointers {page : List ℕ} {start : ℕ} {node : Node} (is : IsNode page start node) (pointers : Pointers) : Type 0 where
  pub first_is : pointers.first ≡ start + 8 + length (right_of node)
  pub last_is : pointers.last ≡ pointers.first + 2 * length is.cells

-- ---- a cell that goes

-- these are the first bytes of the freeblock that the cell becomes
pub record IsOwn (cell : CellPlace) (head : FreeblockHead) : Type 0 where
  pub four : length head.bytes ≡ 4
  pub at_is : head.at ≡ cell.at
  pub room : cell.at + 4 ≤ cell.end

-- The freeblock is the cell's own, and the one before it stands behind the pointers and before the cell.
pub record IsFreed (cell : CellPlace) (freed : Freed) : Type 0 where
  pub block : IfSome freed.block (IsOwn cell)
  pub before : IfSome freed.before (λ head. (length head.bytes ≡ 4) × (cell.last ≤ head.at) × (head.at + 4 ≤ cell.at))

-- no cell of the page has one of the first bytes of the freeblock before
abbrev pub IsBeforeClear : {page : List ℕ} {start : ℕ} {node : Node} → IsNode page start node → Freed → Type 0
IsBeforeClear is freed = IfSome freed.before (λ head. AreClear head.at (head.at + 4) is.page_is.spans)

-- ---- how that is found out

-- the freeblock is the cell's own, and the one before it begins there
pub record IsFreedBehind (cell : CellPlace) (at : ℕ) (freed : Freed) : Type 0 where
  pub block : IfSome freed.block (IsOwn cell)
  pub before : IfSome freed.before (λ head. (length head.bytes ≡ 4) × (head.at ≡ at))

-- some cell has bytes, begins at this offset, and ends before another
pub record EndsBefore {page : List ℕ} {start : ℕ} {node : Node} (is : IsNode page start node) (from at : ℕ) : Type 0 where
  pub place : ℕ
  pub there : place < length is.cells
  pub from_is : (slice_index_or is.page_is.spans place no_span).from ≡ from
  pub some : from < (slice_index_or is.page_is.spans place no_span).to
  pub ends : (slice_index_or is.page_is.spans place no_span).to ≤ at

-- a number below a limit, or else 0
abbrev pub counted : ℕ → ℕ → ℕ
counted limit number = if nat_lt number limit then number else 0

-- the greatest of this number and of the pointers in these bytes that are below a limit
abbrev pub greatest_in : ℕ → ℕ → List ℕ → ℕ
greatest_in limit most [] = most
greatest_in limit most (high ∷ []) = most
greatest_in limit most (high ∷ low ∷ pointers) = greatest_in limit (max (counted limit (two_bytes high low)) most) pointers
