-- The cells of a node on as many pages as they need.
use Rattle.std.specs.Prelude.{◌≡◌, ◌≤◌, ◌<◌, ◌+◌, ◌-◌, ◌*◌, ◌^◌, ℕ, ℤ, pos, Bool, List, [], ◌∷◌, ◌++◌, length, map}
use Rattle.std.specs.List.{AllByRecursion}
use Rattle.std.specs.Int.{w64, cast_signed}
use Rattle.record.specs.Varint.{IsVarint}
use Rattle.tree_page.specs.Cells.{Pairwise}
use Rattle.tree_page.specs.Node.{Local, Node, Rows, Keys, Entries, Between, IsEntryCell, code_of, right_of, Say, IsNode}
use Rattle.tree_page.specs.Reading.{type_of}
use Rattle.tree_page.specs.declared.items.Kind.{Kind}
use Rattle.tree_page.specs.declared.items.Kind.TheVariants.{TableLeaf, TableInterior, IndexLeaf, IndexInterior}
use Rattle.tree_pack.specs.declared.spreading.Packed.{Packed}
use Rattle.tree_pack.specs.Parts.{IsCut}
use Rattle.tree_pack.specs.Lists.{parts_of, pieces, row_parts, entry_parts, side_parts, all_sides}
use Rattle.tree_pack.specs.Building.{cell_room, right_room}
use Rattle.tree_pack.specs.Rows.{last_number}

-- how many cells go to the page above between two pages: none for rows
abbrev pub up_of : Kind → ℕ
up_of TableLeaf = 0
up_of TableInterior = 1
up_of IndexLeaf = 1
up_of IndexInterior = 1

-- The cell fits a page of this kind, together with as large ones that go up.
abbrev pub IsSmall : Kind → ℕ → List ℕ → Type 0
IsSmall kind page_size cell = (up_of kind + 1) * cell_room cell ≤ page_size - 8 - right_room kind

-- What stands before the header, at most half of the page, leaves room for it, and each cell has a byte and is small.
pub record CanPack (page_size start : ℕ) (kind : Kind) (cells : List (List ℕ)) : Type 0 where
  pub addressed : page_size ≤ 2 ^ 16
  pub header : 2 * start + 8 + right_room kind ≤ page_size
  pub some : AllByRecursion (λ cell. 0 < length cell) cells
  pub small : AllByRecursion (IsSmall kind page_size) cells

-- the cells of a page of this kind and size, with the last child of an interior page, say this
pub record AreOf (kind : Kind) (page_size : ℕ) (right : List ℕ) (cells : List (List ℕ)) (node : Node) : Type 0 where
  pub kind_is : type_of kind ≡ code_of node
  pub right_is : right_of node ≡ right
  pub say : Say page_size cells node

-- what each page says, by the counts of the cells of all pages but the last
abbrev pub nodes_of : List ℕ → Node → List Node
nodes_of counts (Rows rows) = map (λ part. Rows part) (parts_of 0 counts rows)
nodes_of counts (Keys kids last) =
    map (λ side. Keys side.0 side.1) (all_sides (side_parts counts (kids, last)).0 (side_parts counts (kids, last)).1)
nodes_of counts (Entries entries) = map (λ part. Entries part) (pieces (entry_parts counts entries).0 (entry_parts counts entries).1)
nodes_of counts (Between kids last) =
    map (λ side. Between side.0 side.1) (all_sides (side_parts counts (kids, last)).0 (side_parts counts (kids, last)).1)

-- the bytes of all pages
abbrev pub images : Packed → List (List ℕ)
images packed = map (λ piece. piece.page.items) packed.pieces.items ++ packed.last.items ∷ []

-- where the header of each page begins: a page alone keeps what stands before its header
abbrev pub start_of : List ℕ → List ℕ → ℕ
start_of front [] = length front
start_of front (count ∷ counts) = 0

-- what the page above has between its children: keys on a table's, entries on an index's
pub data Dividers : Type 0 where
  OfKeys : List ℤ → Dividers
  OfEntries : List Local → Dividers

-- what divides the pages, by the counts of the cells of all pages but the last: the last rowid of each part of rows, or what goes up
abbrev pub dividers_of : List ℕ → Node → Dividers
dividers_of counts (Rows rows) = OfKeys (map (λ part. part.1) (row_parts (last_number (pos 0)) counts rows).0)
dividers_of counts (Keys kids last) = OfKeys (map (λ part. part.1) (side_parts counts (kids, last)).0)
dividers_of counts (Entries entries) = OfEntries (map (λ part. part.1) (entry_parts counts entries).0)
dividers_of counts (Between kids last) = OfEntries (map (λ part. part.1) (side_parts counts (kids, last)).0)

-- a key as it stands in a cell, after the child's number
pub record IsKey (bytes : List ℕ) (key : ℤ) : Type 0 where
  pub number : ℕ
  pub key_is : IsVarint bytes number
  pub signed : key ≡ cast_signed w64 number

-- these are the ends of cells, after the child's number, that say these dividers
abbrev pub Divide : ℕ → List (List ℕ) → Dividers → Type 0
Divide usable ends (OfKeys keys) = Pairwise IsKey ends keys
Divide usable ends (OfEntries entries) = Pairwise (IsEntryCell usable) ends entries

-- the ends of the cells that divide the pages
abbrev pub divider_bytes : Packed → List (List ℕ)
divider_bytes packed = map (λ piece. piece.divider.items) packed.pieces.items

-- The node is packed: its cells are cut by their room, and each page says its part of the node.
pub record Packs (kind : Kind) (page_size : ℕ) (front : List ℕ) (rises : Bool) (cells : List (List ℕ)) (node : Node) (packed : Packed) : Type 0 where
  pub counts : List ℕ
  pub cut : IsCut (up_of kind) (page_size - length front - 8 - right_room kind) rises (map cell_room cells) counts
  pub say : Pairwise (λ image part. IsNode image (start_of front counts) part) (images packed) (nodes_of counts node)
  pub sized : AllByRecursion (λ image. length image ≡ page_size) (images packed)
  pub front_is : counts ≡ [] → (rest : List ℕ) × (packed.last.items ≡ front ++ rest)
  pub divide : Divide page_size (divider_bytes packed) (dividers_of counts node)
