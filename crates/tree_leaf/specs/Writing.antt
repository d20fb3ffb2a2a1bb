-- A table leaf as it is written: the cells from the page's end downwards, in order (Database File Format, "B-tree Pages").
use Rattle.std.specs.Prelude.{◌≤◌, ◌+◌, ◌-◌, ◌*◌, ◌%◌, ◌^◌, ℕ, List, [], ◌∷◌, ◌++◌, length, FitsSigned, replicate, reverse, Option, Some, None, sum_by, Bool, nat_le, nat_lt, if◌then◌else◌}
use Rattle.std.specs.List.{AllByRecursion, flat_map}
use Rattle.std.specs.Int.{w16, w64, to_be_bytes, cast_unsigned}
use Rattle.record.specs.Varint.{varint}
use Rattle.tree_leaf.specs.Leaf.{Entry, leaf_header}
use Rattle.tree_page.specs.Cells.{Span, pointer}

-- whether a payload of so many bytes lies whole on a page of a table leaf
unfoldable pub is_whole : ℕ → ℕ → Bool
is_whole page_size payload = nat_le (payload + 35) page_size

-- the row's number has 64 bits
abbrev pub IsNumbered : Entry → Type 0
IsNumbered entry = FitsSigned w64 entry.rowid

-- the shortest spelling of a cell
unfoldable pub cell_text : Entry → List ℕ
cell_text entry = varint (length entry.payload) ++ (varint (cast_unsigned w64 entry.rowid) ++ entry.payload)

-- how many bytes a cell takes
unfoldable pub cell_size : Entry → ℕ
cell_size entry = length (varint (length entry.payload)) + length (varint (cast_unsigned w64 entry.rowid)) + length entry.payload

-- The rows fit a table leaf whose header begins at `start`: each payload is whole, and the header, the pointers and the
-- cells have room.
pub record Fits (page_size : ℕ) (start : ℕ) (entries : List Entry) : Type 0 where
  pub addressed : page_size ≤ 2 ^ 16
  pub whole : AllByRecursion (λ entry. length entry.payload + 35 ≤ page_size) entries
  pub room : start + 8 + 2 * length entries + sum_by cell_size entries ≤ page_size

-- where the last cell begins, with so much room and the cell before it beginning at `content`
abbrev pub content_below : ℕ → ℕ → ℕ → List Entry → Option ℕ
content_below page_size room content [] = Some content
content_below page_size room content (entry ∷ entries) =
    if is_whole page_size (length entry.payload)
    then (if nat_lt room (cell_size entry + 2) then None else content_below page_size (room - (cell_size entry + 2)) (content - cell_size entry) entries)
    else None

-- the same on an empty page
unfoldable pub content_of : ℕ → ℕ → List Entry → Option ℕ
content_of page_size start entries =
    if nat_lt (2 ^ 16) page_size then None
    else (if nat_lt page_size 8 then None
    else (if nat_lt (page_size - 8) start then None else content_below page_size (page_size - 8 - start) page_size entries))

-- where the cells lie that end at an offset and below each other
abbrev pub spans_below : ℕ → List Entry → List Span
spans_below end [] = []
spans_below end (entry ∷ entries) = record { from = end - cell_size entry; to = end } ∷ spans_below (end - cell_size entry) entries

-- the start of the cells as it is written: 0 means 65536
abbrev pub content_bytes : ℕ → List ℕ
content_bytes content = to_be_bytes w16 (content % 65536)

-- the bytes of a table leaf after so many bytes
abbrev pub node_of : ℕ → ℕ → ℕ → List Entry → List ℕ
node_of start page_size content entries =
    leaf_header (0 ∷ 0 ∷ []) (length entries) (content_bytes content) 0
    ++ (flat_map pointer (spans_below page_size entries)
    ++ (replicate (content - (start + 8 + 2 * length entries)) 0 ++ flat_map cell_text (reverse entries)))

-- the page that is written, after what stands before its header
unfoldable pub leaf_of : List ℕ → ℕ → List Entry → List ℕ
leaf_of front page_size entries = front ++ node_of (length front) page_size (page_size - sum_by cell_size entries) entries
