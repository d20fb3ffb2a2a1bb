-- Page 0 is none of a tree and none of the freelist.
use Rattle.std.proofs.Common.{◌≡◌, ◌≤◌, ◌-◌, ◌++◌, ℕ, zero, suc, ℤ, List, [], ◌∷◌, refl, subst, arith, drop}
use Rattle.std.proofs.lemmas.Grind.{common_steps}
use Rattle.std.specs.List.{AllByRecursion, flat_map}
use Rattle.tree_leaf.specs.Leaf.{Entry}
use Rattle.pages.specs.Counting.{occurs}
use Rattle.pages.specs.Map.{PageMap, Has}
use Rattle.freelist.specs.Freelist as freelist
use Rattle.freelist.specs.Freelist.{Trunk, AreTrunks, IsFreelist, first_of}
use Rattle.tree_page.specs.Cells.{Pairwise}
use Rattle.tree_page.specs.Node.{Local}
use Rattle.tree_overflow.specs.Chains.{IsChain}
use Rattle.tree_store.specs.Sides.{Each, children, each_of, nothing}
use Rattle.tree_table.specs.Tree.{Held, IsHeldAs, IsTableTree, Lies, Tree, pages_of}
use Rattle.sqlval.specs.declared.collation.Collation.{Collation}
use Rattle.tree_index.specs.Entries.{Entry as IndexEntry}
use Rattle.tree_index.specs.Tree as index
use Rattle.db_layout.specs.Layout.{Content, HoldsUnder, IsTree, OfEntries, OfRows, Owner, used_by}
use Rattle.catalog.specs.Listed.{Listed}
use Rattle.catalog.specs.declared.tables.Table.{Table}
use Rattle.tree_check.proofs.Parting.{occurs_append}
use Rattle.db_load.specs.Uses.{AreUses, HasTrees, Uses, pages_held, pages_used}
use Rattle.db_load.proofs.TableChecks.{both_held}
use Rattle.db_header.specs.declared.fields.Header.{Header}

none_first : (x : ℕ) (xs : List ℕ) → 1 ≤ x → occurs 0 xs ≡ 0 → occurs 0 (x ∷ xs) ≡ 0
none_first x xs some rest = grind (arith, common_steps)

none_both : (xs ys : List ℕ) → occurs 0 xs ≡ 0 → occurs 0 ys ≡ 0 → occurs 0 (xs ++ ys) ≡ 0
none_both xs ys a b = (let h = occurs_append 0 xs ys in omega (arith, h, a, b))

-- ---- a tree

none_of_chain : (map : PageMap) (usable : ℕ) (bytes pages : List ℕ) → IsChain map usable bytes pages → occurs 0 pages ≡ 0
none_of_chain map usable bytes [] chain = refl
none_of_chain map usable bytes (page ∷ pages) chain = none_first page pages chain.0.has.first (none_of_chain map usable (drop (usable - 4) bytes) pages chain.1)

none_of_rows : (map : PageMap) (size : ℕ) (said : List (ℤ × Local)) (rows : List Held) → Pairwise (IsHeldAs map size) said rows → occurs 0 (flat_map (λ held. held.pages) rows) ≡ 0
none_of_rows map size [] [] all = refl
none_of_rows map size [] (row ∷ rows) all = absurd all
none_of_rows map size (item ∷ said) [] all = absurd all
none_of_rows map size (item ∷ said) (row ∷ rows) all =
    none_both row.pages (flat_map (λ (held : Held). held.pages) rows) (none_of_chain map size _ row.pages all.0.payload.chain) (none_of_rows map size said rows all.1)

none_of_each : {T K : Type 0} (P : T → Type 0) (pages : T → List ℕ) → ((t : T) → P t → occurs 0 (pages t) ≡ 0) → (kids : List (T × K)) (last : T) → Each P kids last → occurs 0 (each_of pages nothing kids last) ≡ 0
none_of_each P pages none [] last all = none last all
none_of_each P pages none (kid ∷ kids) last all = none_both (pages kid.0) (each_of pages nothing kids last) (none kid.0 all.0) (none_of_each P pages none kids last all.1)

none_of_tree : (map : PageMap) (size depth : ℕ) (t : Tree depth) → Lies map size depth t → occurs 0 (pages_of depth t) ≡ 0
none_of_tree map size zero t lies = none_first t.page (flat_map (λ (held : Held). held.pages) t.rows) lies.says.has.first (none_of_rows map size lies.said t.rows lies.rows)
none_of_tree map size (suc depth) t lies =
    none_first t.page (each_of (pages_of depth) nothing t.kids t.last) lies.0.has.first (none_of_each (Lies map size depth) (pages_of depth) (none_of_tree map size depth) t.kids t.last lies.1)

none_of_table : (map : PageMap) (size root : ℕ) (rows : List Entry) (used : List ℕ) → IsTableTree map size root rows used → occurs 0 used ≡ 0
none_of_table map size root rows used tree = subst (λ (pages : List ℕ). occurs 0 pages ≡ 0) tree.used_are (none_of_tree map size tree.depth tree.tree tree.lies)

-- ---- an index's tree

none_of_entries : (map : PageMap) (size : ℕ) (said : List Local) (entries : List index.Held) → Pairwise (index.IsHeldAs map size) said entries → occurs 0 (flat_map (λ held. held.pages) entries) ≡ 0
none_of_entries map size [] [] all = refl
none_of_entries map size [] (entry ∷ entries) all = absurd all
none_of_entries map size (item ∷ said) [] all = absurd all
none_of_entries map size (item ∷ said) (entry ∷ entries) all =
    none_both entry.pages (flat_map (λ (held : index.Held). held.pages) entries) (none_of_chain map size _ entry.pages all.0.payload.chain) (none_of_entries map size said entries all.1)

none_of_kids : {T : Type 0} (map : PageMap) (size : ℕ) (P : T → Type 0) (top : T → ℕ) (pages : T → List ℕ) → ((t : T) → P t → occurs 0 (pages t) ≡ 0)
    → (said : List (ℕ × Local)) (kids : List (T × index.Held)) (last : T) → Pairwise (index.IsKidAs map size) said (children top kids) → Each P kids last
    → occurs 0 (each_of pages (λ (held : index.Held). held.pages) kids last) ≡ 0
none_of_kids map size P top pages none said [] last keys all = none last all
none_of_kids map size P top pages none [] (kid ∷ kids) last keys all = absurd keys
none_of_kids map size P top pages none (item ∷ said) (kid ∷ kids) last keys all =
    none_both (pages kid.0) (kid.1.pages ++ each_of pages (λ (held : index.Held). held.pages) kids last) (none kid.0 all.0)
    (none_both kid.1.pages (each_of pages (λ (held : index.Held). held.pages) kids last) (none_of_chain map size _ kid.1.pages keys.0.1.payload.chain) (none_of_kids map size P top pages none said kids last keys.1 all.1))

none_of_index_tree : (map : PageMap) (size depth : ℕ) (t : index.Tree depth) → index.Lies map size depth t → occurs 0 (index.pages_of depth t) ≡ 0
none_of_index_tree map size zero t lies = none_first t.page (flat_map (λ (held : index.Held). held.pages) t.entries) lies.says.has.first (none_of_entries map size lies.said t.entries lies.entries)
none_of_index_tree map size (suc depth) t lies =
    none_first t.page (each_of (index.pages_of depth) (λ (held : index.Held). held.pages) t.kids t.last) lies.0.says.has.first
    (none_of_kids map size (index.Lies map size depth) (index.top depth) (index.pages_of depth) (none_of_index_tree map size depth) lies.0.said t.kids t.last lies.0.children lies.1)

none_of_index : (map : PageMap) (size root : ℕ) (columns : List Collation) (entries : List IndexEntry) (used : List ℕ) → index.IsIndexTree map size root columns entries used → occurs 0 used ≡ 0
none_of_index map size root columns entries used tree = subst (λ (pages : List ℕ). occurs 0 pages ≡ 0) tree.used_are (none_of_index_tree map size tree.depth tree.tree tree.lies)

-- any tree
none_of_content : (map : PageMap) (size root : ℕ) (used : List ℕ) (content : Content) → HoldsUnder map size root used content → occurs 0 used ≡ 0
none_of_content map size root used (OfRows rows) tree = none_of_table map size root rows used tree
none_of_content map size root used (OfEntries columns entries) tree = none_of_index map size root columns entries used tree

none_of_trees : (map : PageMap) (size : ℕ) (owners : List Owner) → AllByRecursion (IsTree map size) owners → occurs 0 (used_by owners) ≡ 0
none_of_trees map size [] all = refl
none_of_trees map size (owner ∷ owners) all =
    none_both owner.used (used_by owners) (none_of_content map size owner.root owner.used owner.content all.0) (none_of_trees map size owners all.1)

-- ---- the freelist

none_of_leaves : (map : PageMap) (leaves : List ℕ) → AllByRecursion (Has map) leaves → occurs 0 leaves ≡ 0
none_of_leaves map [] all = refl
none_of_leaves map (leaf ∷ leaves) all = none_first leaf leaves all.0.first (none_of_leaves map leaves all.1)

none_of_trunks : (map : PageMap) (size : ℕ) (trunks : List Trunk) → AreTrunks map size trunks → occurs 0 (freelist.pages_of trunks) ≡ 0
none_of_trunks map size [] all = refl
none_of_trunks map size (trunk ∷ trunks) all =
    none_first trunk.page (trunk.leaves ++ freelist.pages_of trunks) all.0.has.first
    (none_both trunk.leaves (freelist.pages_of trunks) (none_of_leaves map trunk.leaves all.0.leaves) (none_of_trunks map size trunks all.1))

-- ---- all of them

none_of_held : (map : PageMap) (size : ℕ) (tables : List Table) (held : List (List Owner)) → Pairwise (HasTrees map size) tables held → occurs 0 (pages_held held) ≡ 0
none_of_held map size [] [] all = refl
none_of_held map size [] (trees ∷ held) all = absurd all
none_of_held map size (t ∷ tables) [] all = absurd all
none_of_held map size (t ∷ tables) (trees ∷ held) all =
    let both = both_held trees held 0 in
    let first = none_of_trees map size trees all.0.lie in
    let rest = none_of_held map size tables held all.1 in omega (arith, both, first, rest)

pub none_of_uses : (map : PageMap) (size : ℕ) (header : Header) (l : Listed) (uses : Uses) → AreUses map size header l uses → occurs 0 (pages_used uses) ≡ 0
none_of_uses map size header l uses are =
    none_both uses.schema_used (pages_held uses.held ++ freelist.pages_of uses.trunks) (none_of_table map size 1 uses.schema uses.schema_used are.tree)
    (none_both (pages_held uses.held) (freelist.pages_of uses.trunks) (none_of_held map size l.tables uses.held are.each) (none_of_trunks map size uses.trunks are.listed.trunks_are))
