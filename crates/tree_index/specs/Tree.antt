-- What pages are an index's tree of which entries (Database File Format, "B-tree Pages").
use Rattle.std.specs.Prelude.{◌≡◌, ◌<◌, ℕ, zero, suc, List, [], ◌∷◌, length, map}
use Rattle.std.specs.List.{flat_map}
use Rattle.record.specs.Record.{IsRecord}
use Rattle.sqlval.specs.declared.collation.Collation.{Collation}
use Rattle.pages.specs.Map.{PageMap}
use Rattle.pages.specs.Counting.{IsOnce}
use Rattle.tree_page.specs.Cells.{Pairwise}
use Rattle.tree_page.specs.Node.{Local, Entries, Between}
use Rattle.tree_page.specs.Payload.{index_most}
use Rattle.tree_overflow.specs.Chains.{IsPayload}
use Rattle.tree_store.specs.Saying.{Says}
use Rattle.tree_store.specs.Sides.{Branch, Each, children, each_of}
use Rattle.tree_index.specs.Entries.{Entry, AreEntries}

-- ---- entries

-- an entry with its record's bytes, and the overflow pages of these
pub record Held : Type 0 where
  pub entry : Entry
  pub payload : List ℕ
  pub pages : List ℕ

-- What a page says of an entry: how long its record is, and how the record begins; it goes on over the overflow pages.
pub record IsHeldAs (map : PageMap) (usable : ℕ) (said : Local) (held : Held) : Type 0 where
  pub size : said.size ≡ length held.payload
  pub payload : IsPayload map usable (index_most usable) said.bytes held.payload held.pages
  pub record_is : IsRecord held.payload held.entry

-- what a page says of a child and of the entry after it
abbrev pub IsKidAs : PageMap → ℕ → ℕ × Local → ℕ × Held → Type 0
IsKidAs map usable said kid = (said.0 ≡ kid.0) × IsHeldAs map usable said.1 kid.1

-- ---- trees

-- a leaf page
pub record Leaf : Type 0 where
  pub page : ℕ
  pub entries : List Held

-- a tree with so many interior pages above each leaf
abbrev pub Tree : ℕ → Type 0
Tree zero = Leaf
Tree (suc depth) = Branch (Tree depth) Held

-- the page at the top
abbrev pub top : (depth : ℕ) → Tree depth → ℕ
top zero t = t.page
top (suc depth) t = t.page

-- the entries from left to right
abbrev pub entries_of : (depth : ℕ) → Tree depth → List Entry
entries_of zero t = map (λ held. held.entry) t.entries
entries_of (suc depth) t = each_of (entries_of depth) (λ held. held.entry ∷ []) t.kids t.last

-- the pages of the tree, and those of its payloads
abbrev pub pages_of : (depth : ℕ) → Tree depth → List ℕ
pages_of zero t = t.page ∷ flat_map (λ held. held.pages) t.entries
pages_of (suc depth) t = t.page ∷ each_of (pages_of depth) (λ held. held.pages) t.kids t.last

-- ---- their pages

-- a leaf's page has these entries
pub record IsLeaf (map : PageMap) (usable : ℕ) (leaf : Leaf) : Type 0 where
  pub said : List Local
  pub says : Says map leaf.page (Entries said)
  pub entries : Pairwise (IsHeldAs map usable) said leaf.entries

-- an interior page has these children, and entries between them
pub record IsInterior (map : PageMap) (usable number : ℕ) (kids : List (ℕ × Held)) (last : ℕ) : Type 0 where
  pub said : List (ℕ × Local)
  pub says : Says map number (Between said last)
  pub children : Pairwise (IsKidAs map usable) said kids

-- each page of the tree has its part
abbrev pub Lies : PageMap → ℕ → (depth : ℕ) → Tree depth → Type 0
Lies map usable zero t = IsLeaf map usable t
Lies map usable (suc depth) t = IsInterior map usable t.page (children (top depth) t.kids) (top depth t.last) × Each (Lies map usable depth) t.kids t.last

-- The pages hold an index's tree under this root: its entries in rising order under the columns' collations, and the pages
-- that it uses, overflow pages among them, each once. All leaves are equally deep, and a way from the root to a leaf has at
-- most 20 pages.
pub record IsIndexTree (map : PageMap) (usable root : ℕ) (columns : List Collation) (entries : List Entry) (used : List ℕ) : Type 0 where
  pub depth : ℕ
  pub tree : Tree depth
  pub shallow : depth < 20
  pub root_is : top depth tree ≡ root
  pub lies : Lies map usable depth tree
  pub entries_are : entries_of depth tree ≡ entries
  pub sorted : AreEntries columns entries
  pub used_are : pages_of depth tree ≡ used
  pub once : IsOnce used
