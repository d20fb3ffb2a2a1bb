-- What a page of a tree says (Database File Format, "B-tree Pages").
use Rattle.std.specs.Prelude.{◌≡◌, ◌<◌, ◌^◌, ℕ, ℤ, List, [], ◌++◌, length}
use Rattle.std.specs.Int.{w32, w64, to_be_bytes, cast_signed}
use Rattle.record.specs.Varint.{IsVarint}
use Rattle.tree_page.specs.Cells.{Pairwise, IsTreePage}
use Rattle.tree_page.specs.Payload.{table_most, index_most, held_size}

-- What a cell has of a payload: how long the whole payload is, and the bytes that lie in the cell, with the number of the first
-- overflow page, where there is one.
pub record Local : Type 0 where
  pub size : ℕ
  pub bytes : List ℕ

-- What a page says: rows by rowid (a table's leaf); children with keys between them, and the last child (a table's interior
-- page); entries (an index's leaf); or children with entries between them, and the last child (an index's interior page).
pub data Node : Type 0 where
  Rows : List (ℤ × Local) → Node
  Keys : List (ℕ × ℤ) → ℕ → Node
  Entries : List Local → Node
  Between : List (ℕ × Local) → ℕ → Node

-- ---- cells

-- The cell of a row: the payload's length, the rowid in two's complement of 64 bits, and what the cell has of the payload
-- (table leaf cells).
pub record IsRowCell (usable : ℕ) (cell : List ℕ) (row : ℤ × Local) : Type 0 where
  pub size : List ℕ
  pub rowid : List ℕ
  pub number : ℕ
  pub parts : cell ≡ size ++ (rowid ++ row.1.bytes)
  pub size_is : IsVarint size row.1.size
  pub rowid_is : IsVarint rowid number
  pub signed : row.0 ≡ cast_signed w64 number
  pub held : length row.1.bytes ≡ held_size usable (table_most usable) row.1.size

-- The cell of a child: its page's number, and the key (table interior cells).
pub record IsKeyCell (cell : List ℕ) (kid : ℕ × ℤ) : Type 0 where
  pub key : List ℕ
  pub number : ℕ
  pub parts : cell ≡ to_be_bytes w32 kid.0 ++ key
  pub near : kid.0 < 2 ^ 32
  pub key_is : IsVarint key number
  pub signed : kid.1 ≡ cast_signed w64 number

-- The cell of an entry: the payload's length, and what the cell has of the payload (index leaf cells).
pub record IsEntryCell (usable : ℕ) (cell : List ℕ) (entry : Local) : Type 0 where
  pub size : List ℕ
  pub parts : cell ≡ size ++ entry.bytes
  pub size_is : IsVarint size entry.size
  pub held : length entry.bytes ≡ held_size usable (index_most usable) entry.size

-- The cell of an entry between two children: the number of the child on its left, then the entry's own cell (index interior
-- cells).
pub record IsBetweenCell (usable : ℕ) (cell : List ℕ) (kid : ℕ × Local) : Type 0 where
  pub rest : List ℕ
  pub parts : cell ≡ to_be_bytes w32 kid.0 ++ rest
  pub near : kid.0 < 2 ^ 32
  pub entry : IsEntryCell usable rest kid.1

-- ---- pages

-- the type of a page that says this
abbrev pub code_of : Node → ℕ
code_of (Rows rows) = 13
code_of (Keys kids last) = 5
code_of (Entries entries) = 10
code_of (Between kids last) = 2

-- the bytes between the header and the pointers: the last child's number on an interior page
abbrev pub right_of : Node → List ℕ
right_of (Rows rows) = []
right_of (Keys kids last) = to_be_bytes w32 last
right_of (Entries entries) = []
right_of (Between kids last) = to_be_bytes w32 last

-- these cells say this, on a page of so many bytes
abbrev pub Say : ℕ → List (List ℕ) → Node → Type 0
Say usable cells (Rows rows) = Pairwise (IsRowCell usable) cells rows
Say usable cells (Keys kids last) = Pairwise IsKeyCell cells kids × (last < 2 ^ 32)
Say usable cells (Entries entries) = Pairwise (IsEntryCell usable) cells entries
Say usable cells (Between kids last) = Pairwise (IsBetweenCell usable) cells kids × (last < 2 ^ 32)

-- the page whose header begins at `start` says this
pub record IsNode (page : List ℕ) (start : ℕ) (node : Node) : Type 0 where
  pub cells : List (List ℕ)
  pub page_is : IsTreePage (code_of node) page start (right_of node) cells
  pub say : Say (length page) cells node
