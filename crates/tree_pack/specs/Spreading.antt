-- The pages of parts, as they are written.
use Rattle.std.specs.Prelude.{◌≤◌, ◌<◌, ◌+◌, ◌-◌, ℕ, List, [], ◌∷◌, length, map, take, drop, Option, Some, None}
use Rattle.std.specs.List.{AllByRecursion}
use Rattle.record.specs.Varint.{varint_at}
use Rattle.tree_page.specs.declared.items.Kind.{Kind}
use Rattle.tree_page.specs.declared.items.Kind.TheVariants.{TableLeaf, TableInterior, IndexLeaf, IndexInterior}
use Rattle.tree_pack.specs.Parts.{total}
use Rattle.tree_pack.specs.Lists.{parts_of}
use Rattle.tree_pack.specs.Rows.{LieWithin}
use Rattle.tree_pack.specs.Building.{cell_room, right_room, page_of}
use Rattle.tree_pack.specs.Packing.{up_of}

-- the first cell, or no bytes if there is none
abbrev pub first_cell : List (List ℕ) → List ℕ
first_cell [] = []
first_cell (cell ∷ cells) = cell

-- The pages of the parts by `page`, from the last child's bytes and the cells: the first `child` bytes of a cell that goes up
-- are the last child of the page before it.
abbrev pub cut_pages : (up child : ℕ) → (List ℕ → List (List ℕ) → List ℕ) → List ℕ → List ℕ → List (List ℕ) → List (List ℕ)
cut_pages up child page right [] cells = page right cells ∷ []
cut_pages up child page right (count ∷ counts) cells =
    page (take child (first_cell (drop count cells))) (take count cells)
    ∷ cut_pages up child page right counts (drop (count + up) cells)

-- the pages of the parts of this kind, with nothing before their headers
abbrev pub pages_of : Kind → ℕ → List ℕ → List ℕ → List (List ℕ) → List (List ℕ)
pages_of kind page_size right counts cells =
    cut_pages (up_of kind) (right_room kind) (λ right part. page_of [] page_size kind right part) right counts cells

-- what stands before the rest
abbrev pub before_rest : List ℕ → Option (ℕ × List ℕ) → List ℕ
before_rest bytes None = []
before_rest bytes (Some found) = take (length bytes - length found.1) bytes

-- the varint at the front of what is left
abbrev pub next_varint : Option (ℕ × List ℕ) → List ℕ
next_varint None = []
next_varint (Some found) = before_rest found.1 (varint_at found.1)

-- the second varint of a cell: of a row, its rowid
abbrev pub row_key : List ℕ → List ℕ
row_key cell = next_varint (varint_at cell)

-- that of the last cell, or these bytes if there is none
abbrev pub last_key_or : List ℕ → List (List ℕ) → List ℕ
last_key_or none [] = none
last_key_or none (cell ∷ cells) = last_key_or (row_key cell) cells

-- the rowid in the last of these cells of rows
abbrev pub last_key : List (List ℕ) → List ℕ
last_key cells = last_key_or [] cells

-- what divides a part from what stands after it: the last rowid, or the next cell without the number of its child
abbrev pub divider_of : Kind → List (List ℕ) → List (List ℕ) → List ℕ
divider_of TableLeaf part after = last_key part
divider_of TableInterior part after = drop 4 (first_cell after)
divider_of IndexLeaf part after = first_cell after
divider_of IndexInterior part after = drop 4 (first_cell after)

-- what divides the parts
abbrev pub dividing : Kind → List ℕ → List (List ℕ) → List (List ℕ)
dividing kind [] cells = []
dividing kind (count ∷ counts) cells =
    divider_of kind (take count cells) (drop count cells) ∷ dividing kind counts (drop (count + up_of kind) cells)

-- the cells, each of which has a byte, fit a page of their own in each part
pub record PartsFit (kind : Kind) (page_size : ℕ) (counts : List ℕ) (cells : List (List ℕ)) : Type 0 where
  pub within : LieWithin (up_of kind) counts (length cells)
  pub some : AllByRecursion (λ cell. 0 < length cell) cells
  pub fit : AllByRecursion (λ part. total (map cell_room part) ≤ page_size - 8 - right_room kind) (parts_of (up_of kind) counts cells)
