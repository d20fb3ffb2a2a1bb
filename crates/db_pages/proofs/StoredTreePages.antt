-- The pages that a tree or the freelist uses are pages of the file.
use Rattle.std.proofs.Common.{ℕ, zero, suc, ℤ, ◌-◌, ◌≤◌, List, [], ◌∷◌, ◌++◌, drop, subst}
use Rattle.std.specs.List.{AllByRecursion, flat_map}
use Rattle.tree_leaf.specs.Leaf.{Entry}
use Rattle.pages.specs.Counting.{occurs}
use Rattle.pages.specs.Map.{PageMap, Has}
use Rattle.tree_page.specs.Cells.{Pairwise}
use Rattle.tree_page.specs.Node.{Local}
use Rattle.sqlval.specs.declared.collation.Collation.{Collation}
use Rattle.tree_overflow.specs.Chains.{IsChain}
use Rattle.freelist.specs.Freelist.{AreTrunks, Trunk}
use Rattle.freelist.specs.Freelist as freelist
use Rattle.tree_store.specs.Sides.{Each, children, each_of, nothing}
use Rattle.tree_store.proofs.MovedPages.{in_all}
use Rattle.db_layout.specs.Layout.{Content, HoldsUnder, IsTree, OfEntries, OfRows, Owner}
use Rattle.db_layout.proofs.Sharing.{owner_uses_root}
use Rattle.tree_index.specs.Entries.{Entry as IndexEntry}
use Rattle.tree_index.specs.Tree as index
use Rattle.tree_table.specs.Tree.{Held, IsHeldAs, IsTableTree, Lies, Tree, pages_of}

-- these pages are there
abbrev AreThere : PageMap → List ℕ → Type 0
AreThere pages used = AllByRecursion (Has pages) used

both_there : (pages : PageMap) (xs ys : List ℕ) → AreThere pages xs → AreThere pages ys → AreThere pages (xs ++ ys)
both_there pages [] ys h k = k
both_there pages (x ∷ xs) ys h k = (h.0, both_there pages xs ys h.1 k)

-- ---- trees

chain_there : (pages : PageMap) (size : ℕ) (bytes chain : List ℕ) → IsChain pages size bytes chain → AreThere pages chain
chain_there pages size bytes [] is = tt
chain_there pages size bytes (page ∷ chain) is = (is.0.has, chain_there pages size (drop (size - 4) bytes) chain is.1)

held_there : (pages : PageMap) (size : ℕ) (said : List (ℤ × Local)) (rows : List Held) → Pairwise (IsHeldAs pages size) said rows → AreThere pages (flat_map (λ held. held.pages) rows)
held_there pages size [] [] each = tt
held_there pages size [] (row ∷ rows) each = absurd each
held_there pages size (item ∷ said) [] each = absurd each
held_there pages size (item ∷ said) (row ∷ rows) each =
    both_there pages row.pages (flat_map (λ (held : Held). held.pages) rows) (chain_there pages size _ row.pages each.0.payload.chain) (held_there pages size said rows each.1)

each_there : {T : Type 0} (pages : PageMap) (P : T → Type 0) (used : T → List ℕ) → ((t : T) → P t → AreThere pages (used t)) → (kids : List (T × ℤ)) (last : T) → Each P kids last
    → AreThere pages (each_of used nothing kids last)
each_there pages P used there [] last each = there last each
each_there pages P used there (kid ∷ kids) last each =
    both_there pages (used kid.0) (each_of used nothing kids last) (there kid.0 each.0) (each_there pages P used there kids last each.1)

lies_there : (pages : PageMap) (size depth : ℕ) (t : Tree depth) → Lies pages size depth t → AreThere pages (pages_of depth t)
lies_there pages size zero t lies = (lies.says.has, held_there pages size lies.said t.rows lies.rows)
lies_there pages size (suc depth) t lies =
    (lies.0.has, each_there pages (Lies pages size depth) (pages_of depth) (λ kid its. lies_there pages size depth kid its) t.kids t.last lies.1)

-- a page that a table's tree uses
pub tree_there : (pages : PageMap) (size root : ℕ) (rows : List Entry) (used : List ℕ) (n : ℕ) → IsTableTree pages size root rows used → 1 ≤ occurs n used → Has pages n
tree_there pages size root rows used n tree some =
    in_all (Has pages) n used (subst (AreThere pages) tree.used_are (lies_there pages size tree.depth tree.tree tree.lies)) some

-- ---- trees of indexes

entries_there : (pages : PageMap) (size : ℕ) (said : List Local) (entries : List index.Held) → Pairwise (index.IsHeldAs pages size) said entries → AreThere pages (flat_map (λ held. held.pages) entries)
entries_there pages size [] [] each = tt
entries_there pages size [] (entry ∷ entries) each = absurd each
entries_there pages size (item ∷ said) [] each = absurd each
entries_there pages size (item ∷ said) (entry ∷ entries) each =
    both_there pages entry.pages (flat_map (λ (held : index.Held). held.pages) entries) (chain_there pages size _ entry.pages each.0.payload.chain) (entries_there pages size said entries each.1)

-- children, and the entries between them
sides_there : {T : Type 0} (pages : PageMap) (size : ℕ) (P : T → Type 0) (top_of : T → ℕ) (used : T → List ℕ) → ((t : T) → P t → AreThere pages (used t))
    → (said : List (ℕ × Local)) (kids : List (T × index.Held)) (last : T) → Pairwise (index.IsKidAs pages size) said (children top_of kids) → Each P kids last
    → AreThere pages (each_of used (λ held. held.pages) kids last)
sides_there pages size P top_of used there said [] last between each = there last each
sides_there pages size P top_of used there [] (kid ∷ kids) last between each = absurd between
sides_there pages size P top_of used there (item ∷ said) (kid ∷ kids) last between each =
    let rest = sides_there pages size P top_of used there said kids last between.1 each.1 in
    both_there pages (used kid.0) (kid.1.pages ++ each_of used (λ held. held.pages) kids last) (there kid.0 each.0)
    (both_there pages kid.1.pages (each_of used (λ held. held.pages) kids last) (chain_there pages size _ kid.1.pages between.0.1.payload.chain) rest)

index_lies_there : (pages : PageMap) (size depth : ℕ) (t : index.Tree depth) → index.Lies pages size depth t → AreThere pages (index.pages_of depth t)
index_lies_there pages size zero t lies = (lies.says.has, entries_there pages size lies.said t.entries lies.entries)
index_lies_there pages size (suc depth) t lies = (
  lies.0.says.has,
  sides_there pages size (index.Lies pages size depth) (index.top depth) (index.pages_of depth) (λ kid its. index_lies_there pages size depth kid its)
      lies.0.said t.kids t.last lies.0.children lies.1,
)

-- a page that an index's tree uses
pub index_there : (pages : PageMap) (size root : ℕ) (columns : List Collation) (entries : List IndexEntry) (used : List ℕ) (n : ℕ) → index.IsIndexTree pages size root columns entries used → 1 ≤ occurs n used
    → Has pages n
index_there pages size root columns entries used n tree some =
    in_all (Has pages) n used (subst (AreThere pages) tree.used_are (index_lies_there pages size tree.depth tree.tree tree.lies)) some

-- a page that a tree uses
pub owner_there : (pages : PageMap) (size : ℕ) (owner : Owner) (n : ℕ) → IsTree pages size owner → 1 ≤ occurs n owner.used → Has pages n
owner_there pages size owner n tree some = by_content owner.content tree
  where
    by_content : (content : Content) → HoldsUnder pages size owner.root owner.used content → Has pages n
    by_content (OfRows rows) tree = tree_there pages size owner.root rows owner.used n tree some
    by_content (OfEntries columns entries) tree = index_there pages size owner.root columns entries owner.used n tree some

-- the page of its root
pub root_used : (pages : PageMap) (size : ℕ) (owner : Owner) → IsTree pages size owner → 1 ≤ occurs owner.root owner.used
root_used pages size owner tree = owner_uses_root pages size owner.root owner.used owner.content tree

pub owner_root_there : (pages : PageMap) (size : ℕ) (owner : Owner) → IsTree pages size owner → Has pages owner.root
owner_root_there pages size owner tree = owner_there pages size owner owner.root tree (root_used pages size owner tree)

-- ---- the freelist

trunks_there : (pages : PageMap) (size : ℕ) (trunks : List Trunk) → AreTrunks pages size trunks → AreThere pages (freelist.pages_of trunks)
trunks_there pages size [] are = tt
trunks_there pages size (t ∷ trunks) are = (are.0.has, both_there pages t.leaves (freelist.pages_of trunks) are.0.leaves (trunks_there pages size trunks are.1))

-- a page that the freelist tells
pub free_there : (pages : PageMap) (size : ℕ) (trunks : List Trunk) (n : ℕ) → AreTrunks pages size trunks → 1 ≤ occurs n (freelist.pages_of trunks) → Has pages n
free_there pages size trunks n are some = in_all (Has pages) n (freelist.pages_of trunks) (trunks_there pages size trunks are) some
