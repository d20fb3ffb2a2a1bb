-- Subtrees of an index's tree under a page.
use Rattle.std.specs.Prelude.{◌≡◌, ℕ, List, [], ◌∷◌, map, Result, Ok, Err}
use Rattle.std.specs.List.{flat_map}
use Rattle.sqlval.specs.declared.fault.Fault.{Fault}
use Rattle.sqlval.specs.Faults.{IsOutside}
use Rattle.pages.specs.Map.{PageMap, page_at}
use Rattle.pages.specs.Counting.{start_of}
use Rattle.tree_page.specs.Cells.{Pairwise}
use Rattle.tree_page.specs.Node.{Local, Node, IsNode, code_of}
use Rattle.tree_page.specs.Reading.{type_of}
use Rattle.tree_page.specs.declared.items.Kind.{Kind}
use Rattle.tree_store.specs.Saying.{Says}
use Rattle.tree_store.specs.Sides.{Side, Each, children, each_of}
use Rattle.tree_index.specs.Entries.{Entry}
use Rattle.tree_index.specs.Tree.{Held, IsKidAs, Tree, top, entries_of, pages_of, Lies}

-- The tree lies under this page.
pub record IsIndexSubtree (map : PageMap) (size page depth : ℕ) (t : Tree depth) : Type 0 where
  pub top_is : top depth t ≡ page
  pub lies : Lies map size depth t

-- The trees lie under these pages, with the entries between them that a page says.
pub record AreIndexSubtrees (map : PageMap) (size : ℕ) (said : List (ℕ × Local)) (last depth : ℕ) (side : Side (Tree depth) Held) : Type 0 where
  pub kids_are : Pairwise (IsKidAs map size) said (children (top depth) side.0)
  pub last_is : top depth side.1 ≡ last
  pub lies : Each (Lies map size depth) side.0 side.1

-- the overflow pages of an entry, and of entries
abbrev pub chain_of : Held → List ℕ
chain_of held = held.pages

abbrev pub chains_of : List Held → List ℕ
chains_of = flat_map chain_of

-- one entry, and entries
abbrev pub entry_in : Held → List Entry
entry_in held = held.entry ∷ []

abbrev pub entries_in : List Held → List Entry
entries_in = map (λ held. held.entry)

-- the pages and the entries of trees that stand side by side
abbrev pub pages_along : (depth : ℕ) → Side (Tree depth) Held → List ℕ
pages_along depth side = each_of (pages_of depth) chain_of side.0 side.1

abbrev pub entries_along : (depth : ℕ) → Side (Tree depth) Held → List Entry
entries_along depth side = each_of (entries_of depth) entry_in side.0 side.1

-- The bytes say something of this kind.
pub record SaysKind (bytes : List ℕ) (start : ℕ) (kind : Kind) : Type 0 where
  pub node : Node
  pub node_is : IsNode bytes start node
  pub code : type_of kind ≡ code_of node

-- where the call answered, these are the page's bytes, which say something of this kind; where they do, memory was short, or a disk's call
-- failed
abbrev pub ReadsKind : {X : Type 0} → (X → List ℕ) → PageMap → ℕ → Kind → Result X Fault → Type 0
ReadsKind view map page kind (Ok x) = (view x ≡ page_at map page) × SaysKind (page_at map page) (start_of page) kind
ReadsKind view map page kind (Err fault) = (node : Node) → Says map page node → type_of kind ≡ code_of node → IsOutside fault
