-- A tree among others gives way to another, goes or comes.
use Rattle.std.proofs.Common.{◌≡◌, refl, sym, subst, ℕ, List, [], ◌∷◌, ◌++◌, append_assoc, arith}
use Rattle.std.proofs.lemmas.Grind.{common_steps}
use Rattle.std.proofs.lemmas.List.{append-nil}
use Rattle.sqlval.specs.PageSizes.{IsPageSize}
use Rattle.tree_leaf.specs.Leaf.{Entry as TableEntry}
use Rattle.pages.specs.Counting.{Moves, fresh}
use Rattle.pages.specs.Map.{PageMap}
use Rattle.freelist.specs.Calls.{HasFree, KeepsHeader}
use Rattle.tree_table.specs.Calls as tables
use Rattle.tree_index.specs.Calls as indexes
use Rattle.db_layout.specs.Layout.{AreShared, IsTree, OfEntries, OfRows, Owner, used_by}
use Rattle.db_layout.proofs.Sharing.{index_trees_stand, replaces_trees, trees_stand}
use Rattle.catalog.specs.declared.tables.Index.{Index}
use Rattle.row_scan.specs.Rows.{TableRow}
use Rattle.index_entries.specs.Entries.{collations, entries_of_rows}
use Rattle.db_layout.specs.Trees.{IsEntriesTree, columns_of}

-- the tree of rows, and that of an index's entries
abbrev pub rows_tree : ℕ → List TableEntry → List ℕ → Owner
rows_tree root entries used = record { root = root; content = OfRows entries; used = used }

abbrev pub entries_tree : List TableRow → Index → List ℕ → Owner
entries_tree rows index used = record { root = index.root; content = OfEntries (collations (columns_of index)) (entries_of_rows (columns_of index) rows); used = used }

pub same_entries_tree : (rows : List TableRow) (index : Index) (owner : Owner) (is : IsEntriesTree rows index owner) → owner ≡ entries_tree rows index owner.used
same_entries_tree rows index owner is = λ i. record { root = is.root_is i; content = is.content_is i; used = owner.used }

pub is_entries_tree : (rows : List TableRow) (index : Index) (used : List ℕ) → IsEntriesTree rows index (entries_tree rows index used)
is_entries_tree rows index used = record { root_is = refl; content_is = refl }

-- ---- what calls keep

no_fresh : (a n : ℕ) → fresh a a n ≡ 0
no_fresh a n = grind (arith, common_steps)

pub keeps_all : (pages : PageMap) → KeepsHeader pages pages
keeps_all pages header is = (header.freelist_trunk, header.freelist_count, is)

pub keeps_then : (a b c : PageMap) → KeepsHeader a b → KeepsHeader b c → KeepsHeader a c
keeps_then a b c first then header is = (let now = first header is in then (record header { freelist_trunk = now.0; freelist_count = now.1 }) now.2)

-- ---- one tree

module _ (old new : PageMap) (size : ℕ) (schema : Owner) (before after : List Owner) (free now_free : List ℕ) where
  pub one_replaced : (this next : Owner) → AreShared old size (schema ∷ before ++ (this ∷ after)) free → Moves old new this.used free next.used now_free → IsTree new size next → HasFree new size now_free
      → AreShared new size (schema ∷ before ++ (next ∷ after)) now_free
  one_replaced this next shared moves tree has =
      replaces_trees old new size (schema ∷ before) (this ∷ []) (next ∷ []) after free now_free shared
      (subst (λ (ps : List ℕ). Moves old new ps free (used_by (next ∷ [])) now_free) (sym (append-nil this.used))
      (subst (λ (ps : List ℕ). Moves old new this.used free ps now_free) (sym (append-nil next.used)) moves))
      (tree, tt) has

  pub one_gone : (this : Owner) → AreShared old size (schema ∷ before ++ (this ∷ after)) free → Moves old new this.used free [] now_free → HasFree new size now_free
      → AreShared new size (schema ∷ before ++ after) now_free
  one_gone this shared moves has =
      replaces_trees old new size (schema ∷ before) (this ∷ []) [] after free now_free shared (subst (λ (ps : List ℕ). Moves old new ps free [] now_free) (sym (append-nil this.used)) moves) tt has

  pub one_come : (next : Owner) → AreShared old size (schema ∷ before ++ after) free → Moves old new [] free next.used now_free → IsTree new size next → HasFree new size now_free
      → AreShared new size (schema ∷ before ++ (next ∷ after)) now_free
  one_come next shared moves tree has =
      replaces_trees old new size (schema ∷ before) [] (next ∷ []) after free now_free shared (subst (λ (ps : List ℕ). Moves old new [] free ps now_free) (sym (append-nil next.used)) moves) (tree, tt) has

module _ (map : PageMap) (size : ℕ) (schema : Owner) (before after : List Owner) (free : List ℕ) (is_root : schema.root ≡ 1) (sized : IsPageSize size) where
  pub entries_stand : (rows : List TableRow) (index : Index) (owner : Owner) → IsEntriesTree rows index owner → AreShared map size (schema ∷ before ++ (owner ∷ after)) free
      → indexes.Stands map size index.root (collations (columns_of index)) (entries_of_rows (columns_of index) rows) owner.used free
  entries_stand rows index owner is shared =
      index_trees_stand map size schema before after index.root (collations (columns_of index)) (entries_of_rows (columns_of index) rows) owner.used free
      (subst (λ (o : Owner). AreShared map size (schema ∷ before ++ (o ∷ after)) free) (same_entries_tree rows index owner is) shared) is_root sized

  pub rows_stand : (root : ℕ) (entries : List TableEntry) (used : List ℕ) → AreShared map size (schema ∷ before ++ (rows_tree root entries used ∷ after)) free → tables.Stands map size root entries used free
  rows_stand root entries used shared =
      trees_stand map size schema (before ++ (rows_tree root entries used ∷ after)) (schema ∷ before) after root entries used free shared is_root refl sized

-- a tree in front of the others stands after those before them
pub regrouped : (before : List Owner) (tree : Owner) (mine after : List Owner) → (before ++ tree ∷ []) ++ (mine ++ after) ≡ before ++ ((tree ∷ mine) ++ after)
regrouped before tree mine after = append_assoc before (tree ∷ []) (mine ++ after)
