-- One more cell on a page of a tree (Database File Format, "B-tree Pages").
use Rattle.std.specs.Prelude.{◌≡◌, ◌≤◌, ◌<◌, ◌+◌, ◌-◌, ◌*◌, ◌^◌, ℕ, List, [], ◌∷◌, ◌++◌, length, take, drop, min, IfOk, IfSome, Option, Result}
use Rattle.std.specs.Global.{Vec}
use Rattle.std.specs.Int.{w16, to_be_bytes}
use Rattle.std.specs.List.{AllByRecursion, insert}
use Rattle.sqlval.specs.declared.fault.Fault.{Fault}
use Rattle.tree_page.specs.declared.items.Kind.{Kind}
use Rattle.tree_page.specs.declared.items.Kind.TheVariants.{TableLeaf, TableInterior, IndexLeaf, IndexInterior}
use Rattle.tree_page.specs.Bytes.{two_bytes}
use Rattle.tree_page.specs.Node.{Node, IsNode, Say, code_of, right_of}
use Rattle.tree_pack.specs.Freeing.{IsHeadOn, with_head}
use Rattle.tree_pack.specs.Replacing.{written_over}
use Rattle.tree_pack.specs.declared.placing.CellRoom.{CellRoom}

-- What stands before the page's header is what it was, and the page is as long as it was and says this with these cells.
pub record IsPlaced (page : List ℕ) (start : ℕ) (cells : List (List ℕ)) (node : Node) (new : List ℕ) : Type 0 where
  pub is : IsNode new start node
  pub cells_are : is.cells ≡ cells
  pub long : length new ≡ length page
  pub front : take start new ≡ take start page

-- Where a page says a node, and its cells with this one more say another of the same type and with the same last child, a page that is
-- answered says that one, with these cells.
abbrev pub Places : List ℕ → ℕ → ℕ → List ℕ → Result (Option (Vec ℕ)) Fault → Type 0
Places page start place cell result = (old new : Node) (is : IsNode page start old) → length page ≤ 2 ^ 16 → start ≤ 100 → place ≤ length is.cells
    → code_of new ≡ code_of old → right_of new ≡ right_of old → Say (length page) (insert is.cells place cell) new
    → IfOk result (λ answer. IfSome answer (λ written. IsPlaced page start (insert is.cells place cell) new written.items))

-- ---- the room on a page

-- how many bytes the last child's number takes
abbrev pub right_width : Kind → ℕ
right_width TableLeaf = 0
right_width TableInterior = 4
right_width IndexLeaf = 0
right_width IndexInterior = 4

-- the least of this number and the pointers in these bytes
abbrev pub least_in : ℕ → List ℕ → ℕ
least_in most [] = most
least_in most (high ∷ []) = most
least_in most (high ∷ low ∷ pointers) = least_in (min most (two_bytes high low)) pointers

-- Between so many pointers, with one more, and this offset there is room for so many bytes.
pub record HasRoom (page : List ℕ) (start size pointers count low : ℕ) : Type 0 where
  pub after : start + 8 ≤ pointers
  pub room : pointers + 2 * count + 2 + size ≤ low
  pub within : low ≤ length page
  pub near : low ≤ 2 ^ 16
  pub few : count + 1 < 2 ^ 16

-- The page has so many cells, with their pointers from here on, and each begins at or after this offset.
pub record Lies (page : List ℕ) (start : ℕ) (node : Node) (is : IsNode page start node) (pointers count low : ℕ) : Type 0 where
  pub pointers_are : pointers ≡ start + 8 + length (right_of node)
  pub count_is : count ≡ length is.cells
  pub behind : AllByRecursion (λ span. low ≤ span.from) is.page_is.spans

-- The page with a cell before this offset, its pointer at this place among the pointers, and so many cells counted.
abbrev pub placed_of : List ℕ → ℕ → ℕ → ℕ → ℕ → List ℕ → List ℕ
placed_of page start middle count low cell =
    let pointer = to_be_bytes w16 (low - length cell) in
    take (start + 3) page
    ++ (to_be_bytes w16 count
    ++ (pointer
    ++ (take (middle - (start + 7)) (drop (start + 7) page)
    ++ (pointer ++ (take (low - length cell - 2 - middle) (drop middle page) ++ (cell ++ drop low page))))))

-- ---- the same page, written in its place

-- On a page there is room for so many bytes, and for a pointer before those that come after it; the freeblock that is written anew stands there too,
-- after the pointers.
pub record IsRoomOn (page : List ℕ) (start size : ℕ) (room : CellRoom) : Type 0 where
  pub after : start + 8 ≤ room.pointer
  pub upto : room.pointer ≤ room.end
  pub between : room.end + 2 ≤ room.at
  pub within : room.at + size ≤ length page
  pub seven : length room.header ≡ 7
  pub chain : IfSome room.head (IsHeadOn (room.end + 2) page)

-- The page with the cell, its pointer before those after it, the header with this cell, and the freeblock that is written anew.
abbrev pub placed_at : CellRoom → ℕ → List ℕ → List ℕ → List ℕ
placed_at room start cell page =
    let pointers = to_be_bytes w16 room.at ++ take (room.end - room.pointer) (drop room.pointer page) in
    with_head room.head (written_over (start + 1) room.header (written_over room.pointer pointers (written_over room.at cell page)))

-- Where a page says a node, and its cells with this one more say another of the same type and with the same last child, the page with the cell
-- in this room says that one.
abbrev pub PlacesAt : List ℕ → ℕ → ℕ → List ℕ → Option CellRoom → Type 0
PlacesAt page start place cell found = (old new : Node) (is : IsNode page start old) → length page ≤ 2 ^ 16 → start ≤ 100 → place ≤ length is.cells
    → code_of new ≡ code_of old → right_of new ≡ right_of old → Say (length page) (insert is.cells place cell) new
    → IfSome found (λ room. IsPlaced page start (insert is.cells place cell) new (placed_at room start cell page))
