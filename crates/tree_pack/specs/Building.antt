-- A page of a tree as it is written: the cells from the page's end downwards, in order (Database File Format, "B-tree
-- Pages").
use Rattle.std.specs.Prelude.{◌≤◌, ◌<◌, ◌+◌, ◌-◌, ◌*◌, ◌%◌, ◌^◌, ℕ, List, [], ◌∷◌, ◌++◌, length, map, replicate, reverse, Option, Some, None}
use Rattle.std.specs.List.{AllByRecursion, flat_map}
use Rattle.std.specs.Int.{w16, w32, to_be_bytes}
use Rattle.tree_page.specs.Cells.{Span, pointer, page_header}
use Rattle.tree_page.specs.Reading.{type_of}
use Rattle.tree_page.specs.declared.items.Kind.{Kind}
use Rattle.tree_page.specs.declared.items.Kind.TheVariants.{TableLeaf, TableInterior, IndexLeaf, IndexInterior}
use Rattle.tree_pack.specs.Parts.{total}

-- the room that a cell takes on a page, with its pointer
abbrev pub cell_room : List ℕ → ℕ
cell_room cell = length cell + 2

-- the room between the header and the pointers: that of the last child's number, on an interior page
abbrev pub right_room : Kind → ℕ
right_room TableLeaf = 0
right_room TableInterior = 4
right_room IndexLeaf = 0
right_room IndexInterior = 4

-- The cells fit a page whose header begins at `start`, where `right` bytes stand between the header and the pointers. Each has a
-- byte, so that it begins at 65535 at most, which a pointer's two bytes hold.
pub record Fits (page_size start right : ℕ) (cells : List (List ℕ)) : Type 0 where
  pub addressed : page_size ≤ 2 ^ 16
  pub some : AllByRecursion (λ cell. 0 < length cell) cells
  pub room : start + 8 + right + total (map cell_room cells) ≤ page_size

-- the last child's number, where there is one
abbrev pub right_bytes : Option ℕ → List ℕ
right_bytes None = []
right_bytes (Some child) = to_be_bytes w32 child

-- where the cells lie that end at an offset and below each other
abbrev pub spans_below : ℕ → List (List ℕ) → List Span
spans_below end [] = []
spans_below end (cell ∷ cells) = record { from = end - length cell; to = end } ∷ spans_below (end - length cell) cells

-- where the last cell begins
abbrev pub content_of : ℕ → List (List ℕ) → ℕ
content_of page_size cells = page_size - total (map length cells)

-- the start of the cells as it is written: 0 means 65536
abbrev pub content_bytes : ℕ → List ℕ
content_bytes content = to_be_bytes w16 (content % 65536)

-- The page after what stands before its header: the header with no freeblock and no fragments, the last child, the pointers,
-- zeros, and the cells, the last one first.
abbrev pub after_front : ℕ → ℕ → Kind → List ℕ → List (List ℕ) → List ℕ
after_front start page_size kind right cells =
    page_header (type_of kind) (0 ∷ 0 ∷ []) (length cells) (content_bytes (content_of page_size cells)) 0
    ++ (right ++ (flat_map pointer (spans_below page_size cells)
    ++ (replicate (content_of page_size cells - (start + 8 + length right + 2 * length cells)) 0 ++ flat_map (λ cell. cell) (reverse cells))))

-- the page that is written
unfoldable pub page_of : List ℕ → ℕ → Kind → List ℕ → List (List ℕ) → List ℕ
page_of front page_size kind right cells = front ++ after_front (length front) page_size kind right cells
