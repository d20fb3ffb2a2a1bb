-- What pages are a table's tree of which rows (Database File Format, "B-tree Pages").
use Rattle.std.specs.Prelude.{◌≡◌, ◌<◌, ℕ, zero, suc, ℤ, ◌<ℤ◌, ◌≤ℤ◌, List, [], ◌∷◌, length, map}
use Rattle.std.specs.List.{flat_map}
use Rattle.tree_leaf.specs.Leaf.{Entry}
use Rattle.pages.specs.Map.{PageMap}
use Rattle.pages.specs.Counting.{IsOnce}
use Rattle.tree_page.specs.Cells.{Pairwise}
use Rattle.tree_page.specs.Node.{Local, Rows, Keys}
use Rattle.tree_page.specs.Payload.{table_most}
use Rattle.tree_overflow.specs.Chains.{IsPayload}
use Rattle.tree_store.specs.Saying.{Says}
use Rattle.tree_store.specs.Sides.{Branch, Each, Parted, children, each_of, nothing}

-- ---- rows

-- a row of a leaf, and the overflow pages of its payload
pub record Held : Type 0 where
  pub row : Entry
  pub pages : List ℕ

-- What a leaf says of a row: its rowid, how long its payload is, and how the payload begins; it goes on over the overflow pages.
pub record IsHeldAs (map : PageMap) (usable : ℕ) (said : ℤ × Local) (held : Held) : Type 0 where
  pub rowid : said.0 ≡ held.row.rowid
  pub size : said.1.size ≡ length held.row.payload
  pub payload : IsPayload map usable (table_most usable) said.1.bytes held.row.payload held.pages

-- ---- trees

-- a leaf page
pub record Leaf : Type 0 where
  pub page : ℕ
  pub rows : List Held

-- a tree with so many interior pages above each leaf
abbrev pub Tree : ℕ → Type 0
Tree zero = Leaf
Tree (suc depth) = Branch (Tree depth) ℤ

-- the page at the top
abbrev pub top : (depth : ℕ) → Tree depth → ℕ
top zero t = t.page
top (suc depth) t = t.page

-- the rows from left to right
abbrev pub rows_of : (depth : ℕ) → Tree depth → List Entry
rows_of zero t = map (λ held. held.row) t.rows
rows_of (suc depth) t = each_of (rows_of depth) nothing t.kids t.last

-- the pages of the tree, and those of its payloads
abbrev pub pages_of : (depth : ℕ) → Tree depth → List ℕ
pages_of zero t = t.page ∷ flat_map (λ held. held.pages) t.rows
pages_of (suc depth) t = t.page ∷ each_of (pages_of depth) nothing t.kids t.last

-- ---- their order

-- the rowids rise, above `low` and up to `high`
abbrev pub Rises : ℤ → List Held → ℤ → Type 0
Rises low [] high = low ≤ℤ high
Rises low (held ∷ rows) high = (low <ℤ held.row.rowid) × Rises held.row.rowid rows high

-- The rowids rise from leaf to leaf; those left of a key are at most the key, and those right of it greater
-- (Database File Format, "B-tree Pages").
abbrev pub IsSorted : (depth : ℕ) → ℤ → Tree depth → ℤ → Type 0
IsSorted zero low t high = Rises low t.rows high
IsSorted (suc depth) low t high = Parted (IsSorted depth) low t.kids t.last high

-- ---- their pages

-- a leaf's page has these rows
pub record IsLeaf (map : PageMap) (usable : ℕ) (leaf : Leaf) : Type 0 where
  pub said : List (ℤ × Local)
  pub says : Says map leaf.page (Rows said)
  pub rows : Pairwise (IsHeldAs map usable) said leaf.rows

-- each page of the tree has its part
abbrev pub Lies : PageMap → ℕ → (depth : ℕ) → Tree depth → Type 0
Lies map usable zero t = IsLeaf map usable t
Lies map usable (suc depth) t = Says map t.page (Keys (children (top depth) t.kids) (top depth t.last)) × Each (Lies map usable depth) t.kids t.last

-- The pages hold a table's tree under this root: its rows by rising rowid, and the pages that it uses, overflow pages among
-- them, each once. All leaves are equally deep, and a way from the root to a leaf has at most 20 pages.
pub record IsTableTree (map : PageMap) (usable root : ℕ) (rows : List Entry) (used : List ℕ) : Type 0 where
  pub depth : ℕ
  pub tree : Tree depth
  pub low : ℤ
  pub high : ℤ
  pub shallow : depth < 20
  pub root_is : top depth tree ≡ root
  pub lies : Lies map usable depth tree
  pub sorted : IsSorted depth low tree high
  pub rows_are : rows_of depth tree ≡ rows
  pub used_are : pages_of depth tree ≡ used
  pub once : IsOnce used
