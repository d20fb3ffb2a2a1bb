-- The rows of each table's tree, by the page where it begins: no two trees begin at one page.
use Rattle.std.proofs.Common.{◌≡◌, ◌≤◌, ◌∙◌, ◌==◌, ◌&&◌, refl, sym, ap, subst, ℕ, zero, suc, Bool, true, false, cond, List, [], ◌∷◌, ◌++◌, length, map, arith}
use Rattle.std.specs.List.{AllByRecursion, list_all}
use Rattle.std.specs.Ordering.{int_cmp}
use Rattle.std.proofs.lemmas.Bool.Decides.{nat_tests}
use Rattle.std.proofs.lemmas.List.{length-map}
use Rattle.sqlval.specs.Conversion.{is_word}
use Rattle.sqlval.specs.Lists.{is_rising}
use Rattle.tree_leaf.specs.Leaf.{Entry}
use Rattle.pages.specs.Counting.{occurs}
use Rattle.pages.specs.Map.{PageMap}
use Rattle.tree_page.specs.Cells.{Pairwise}
use Rattle.tree_store.proofs.Staying.{occurs_here}
use Rattle.tree_table.specs.Tree as tree
use Rattle.tree_table.specs.Tree.{IsTableTree, Tree, top}
use Rattle.db_layout.specs.Layout.{HoldsUnder, IsTree, Owner, used_by}
use Rattle.db_layout.specs.Trees.{AreTreesOf}
use Rattle.catalog.specs.Listed.{as_column, own_column, shape_of, with_rows}
use Rattle.catalog.specs.Rows.{are_rows, holds_rowid, is_row, is_value}
use Rattle.catalog.specs.declared.tables.RowShape.{RowShape}
use Rattle.catalog.specs.declared.tables.Table.{Table}
use Rattle.row_scan.specs.Rows.{TableRow}
use Rattle.row_scan.specs.Trees.{AreFitRows}
use Rattle.tree_check.proofs.Parting.{occurs_append}
use Rattle.db_pages.specs.Stored.{AreHeld, all_trees}
use Rattle.db_load.specs.Uses.{HasTrees, pages_held}
use Rattle.db_load.proofs.TableChecks.{both_held}

-- ---- rows that one table may hold are such as any whose rows have its shape may

-- the rows are those of one table as of another
same_fit : (t u : Table) (held rows : List TableRow) → shape_of t ≡ shape_of u → list_all (is_row (with_rows t held)) rows ≡ list_all (is_row (with_rows u held)) rows
same_fit t u held [] same = refl
same_fit t u held (row ∷ rows) same = ap (λ (b : Bool). b && list_all (is_row (with_rows t held)) rows) one ∙ ap (λ (b : Bool). is_row (with_rows u held) row && b) (same_fit t u held rows same)
  where
    wide : length (with_rows t held).columns ≡ length (with_rows u held).columns
    wide = length-map t.columns as_column ∙ (ap (λ (s : RowShape). s.width) same ∙ sym (length-map u.columns as_column))

    one : is_row (with_rows t held) row ≡ is_row (with_rows u held) row
    one =
        ap (λ (n : ℕ). is_word row.0 && length row.1 == n && list_all is_value row.1 && holds_rowid (own_column t) row) wide
        ∙ ap (λ (s : RowShape). is_word row.0 && length row.1 == length (with_rows u held).columns && list_all is_value row.1 && holds_rowid s.own row) same

pub fit_for_all : (t : Table) (rows : List TableRow) → are_rows (with_rows t rows) ≡ true → AreFitRows (shape_of t) rows
fit_for_all t rows fit u same = sym (ap (λ (b : Bool). is_rising int_cmp (map (λ r. r.0) rows) && b) (same_fit t u rows rows same)) ∙ fit

-- ---- where a table's tree begins

itself : (n : ℕ) → (n == n) ≡ true
itself n = grind (arith, nat_tests)

not_same : (n k : ℕ) → (n ≡ k → ⊥) → (n == k) ≡ false
not_same n k ne = grind (arith, nat_tests)

top_first : (depth : ℕ) (t : Tree depth) → 1 ≤ occurs (top depth t) (tree.pages_of depth t)
top_first zero t = occurs_here t.page _
top_first (suc depth) t = occurs_here t.page _

tree_root : (m : PageMap) (size root : ℕ) (rows : List Entry) (used : List ℕ) → IsTableTree m size root rows used → 1 ≤ occurs root used
tree_root m size root rows used it =
    subst (λ (pages : List ℕ). 1 ≤ occurs root pages) it.used_are (subst (λ (n : ℕ). 1 ≤ occurs n (tree.pages_of it.depth it.tree)) it.root_is (top_first it.depth it.tree))

uses_root : (m : PageMap) (size : ℕ) (t : Table) (trees : List Owner) → HasTrees m size t trees → 1 ≤ occurs t.root (used_by trees)
uses_root m size t [] it = absurd it.are
uses_root m size t (owner ∷ others) it =
    let tree : IsTableTree m size t.root it.are.0.entries owner.used =
    subst (λ root. IsTableTree m size root it.are.0.entries owner.used) it.are.0.root_is (subst (HoldsUnder m size owner.root owner.used) it.are.0.content_is it.lie.0) in
    let first = tree_root m size t.root it.are.0.entries owner.used tree in
    let both = occurs_append t.root owner.used (used_by others) in omega (arith, first, both)

-- ---- the rows by that page

-- the rows of the first of these tables that begins at the page
abbrev pub rows_in : (m : PageMap) (size : ℕ) (tables : List Table) (held : List (List Owner)) → Pairwise (HasTrees m size) tables held → ℕ → List TableRow
rows_in m size [] held each root = []
rows_in m size (t ∷ tables) [] each root = []
rows_in m size (t ∷ tables) (trees ∷ held) each root = cond (root == t.root) each.0.rows (rows_in m size tables held each.1 root)

-- a table's trees with these rows
having_rows : (m : PageMap) (size : ℕ) (rows_at : ℕ → List TableRow) (t : Table) (trees : List Owner) (is : HasTrees m size t trees) → rows_at t.root ≡ is.rows → AreHeld rows_at t trees
having_rows m size rows_at t trees is same = record {
  are = subst (λ (rows : List TableRow). AreTreesOf t rows trees) (sym same) is.are;
  fit = subst (λ (rows : List TableRow). are_rows (with_rows t rows) ≡ true) (sym same) (is.fit t refl);
}

-- no other tree begins at a page that is used elsewhere
apart_from : (m : PageMap) (size n : ℕ) (tables : List Table) (held : List (List Owner)) → Pairwise (HasTrees m size) tables held → occurs n (pages_held held) ≡ 0 → AllByRecursion (λ u. u.root ≡ n → ⊥) tables
apart_from m size n [] held each none = tt
apart_from m size n (t ∷ tables) [] each none = absurd each
apart_from m size n (t ∷ tables) (trees ∷ held) each none =
    let both = both_held trees held n in (
      λ is. (let some = subst (λ (root : ℕ). 1 ≤ occurs root (used_by trees)) is (uses_root m size t trees each.0) in omega (arith, some, both, none)),
      apart_from m size n tables held each.1 (omega (arith, both, none)),
    )

-- trees of tables that begin elsewhere
trees_with : (rows_at also : ℕ → List TableRow) (n : ℕ) (tables : List Table) (held : List (List Owner)) → ((root : ℕ) → (root ≡ n → ⊥) → also root ≡ rows_at root)
    → AllByRecursion (λ u. u.root ≡ n → ⊥) tables → Pairwise (AreHeld rows_at) tables held → Pairwise (AreHeld also) tables held
trees_with rows_at also n [] [] same apart each = tt
trees_with rows_at also n [] (trees ∷ held) same apart each = absurd each
trees_with rows_at also n (t ∷ tables) [] same apart each = absurd each
trees_with rows_at also n (t ∷ tables) (trees ∷ held) same apart each = (
  (let rows = same t.root apart.0 in
      record {
        are = subst (λ (them : List TableRow). AreTreesOf t them trees) (sym rows) each.0.are;
        fit = subst (λ (them : List TableRow). are_rows (with_rows t them) ≡ true) (sym rows) each.0.fit;
      }),
  trees_with rows_at also n tables held same apart.1 each.1,
)

-- the trees hold the rows that are found by their roots
pub trees_in : (m : PageMap) (size : ℕ) (tables : List Table) (held : List (List Owner)) (each : Pairwise (HasTrees m size) tables held) → ((n : ℕ) → occurs n (pages_held held) ≤ 1)
    → Pairwise (AreHeld (rows_in m size tables held each)) tables held
trees_in m size [] [] each once = tt
trees_in m size [] (trees ∷ held) each once = absurd each
trees_in m size (t ∷ tables) [] each once = absurd each
trees_in m size (t ∷ tables) (trees ∷ held) each once =
    let later = rows_in m size tables held each.1 in
    let some = uses_root m size t trees each.0 in (
      having_rows m size (rows_in m size (t ∷ tables) (trees ∷ held) each) t trees each.0 (ap (λ (b : Bool). cond b each.0.rows (later t.root)) (itself t.root)),
      trees_with later (rows_in m size (t ∷ tables) (trees ∷ held) each) t.root tables held (λ root differ. ap (λ (b : Bool). cond b each.0.rows (later root)) (not_same root t.root differ))
          (apart_from m size t.root tables held each.1 (let b = both_held trees held t.root in let o = once t.root in omega (arith, b, o, some)))
          (trees_in m size tables held each.1 (λ n. let b = both_held trees held n in let o = once n in omega (arith, b, o))),
    )

-- the pages hold them
all_append : {A : Type 0} (P : A → Type 0) (xs ys : List A) → AllByRecursion P xs → AllByRecursion P ys → AllByRecursion P (xs ++ ys)
all_append P [] ys all others = others
all_append P (x ∷ xs) ys all others = (all.0, all_append P xs ys all.1 others)

pub trees_lie : (m : PageMap) (size : ℕ) (tables : List Table) (held : List (List Owner)) → Pairwise (HasTrees m size) tables held → AllByRecursion (IsTree m size) (all_trees held)
trees_lie m size [] [] each = tt
trees_lie m size [] (trees ∷ held) each = absurd each
trees_lie m size (t ∷ tables) [] each = absurd each
trees_lie m size (t ∷ tables) (trees ∷ held) each = all_append (IsTree m size) trees (all_trees held) each.0.lie (trees_lie m size tables held each.1)

all_parts : {A : Type 0} (P : A → Type 0) (xs ys : List A) → AllByRecursion P (xs ++ ys) → AllByRecursion P xs × AllByRecursion P ys
all_parts P [] ys all = (tt, all)
all_parts P (x ∷ xs) ys all = let rest = all_parts P xs ys all.1 in ((all.0, rest.0), rest.1)

-- trees that hold the rows by their roots
pub trees_have : (m : PageMap) (size : ℕ) (rows_at : ℕ → List TableRow) (tables : List Table) (held : List (List Owner)) → Pairwise (AreHeld rows_at) tables held → AllByRecursion (IsTree m size) (all_trees held)
    → Pairwise (HasTrees m size) tables held
trees_have m size rows_at [] [] each lie = tt
trees_have m size rows_at [] (trees ∷ held) each lie = absurd each
trees_have m size rows_at (t ∷ tables) [] each lie = absurd each
trees_have m size rows_at (t ∷ tables) (trees ∷ held) each lie =
    let both = all_parts (IsTree m size) trees (all_trees held) lie in (
      record { rows = rows_at t.root; are = each.0.are; lie = both.0; fit = fit_for_all t (rows_at t.root) each.0.fit },
      trees_have m size rows_at tables held each.1 both.1,
    )
