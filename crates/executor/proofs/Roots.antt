-- The trees of two listed tables don't begin at one page.
use Rattle.std.proofs.Common.{◌≡◌, ◌≤◌, ◌+◌, ◌∙◌, ◌==◌, refl, sym, ap, subst, cond, ℕ, zero, suc, Bool, true, false, List, [], ◌∷◌, ◌++◌, length, map, Some, arith}
use Rattle.std.specs.List.{AllByRecursion, find}
use Rattle.std.proofs.lemmas.Bool.Decides.{nat_tests}
use Rattle.std.proofs.lemmas.Map.Lookups.{exact_bytes}
use Rattle.std.proofs.lemmas.Map.Text.{is_eq-slice_cmp}
use Rattle.std.proofs.lemmas.Map.Views.{tells_apart}
use Rattle.sqlval.specs.Names.{folded}
use Rattle.tree_leaf.specs.Leaf.{Entry}
use Rattle.pages.specs.Counting.{occurs, fresh}
use Rattle.pages.specs.Map.{PageMap}
use Rattle.pages.proofs.Moving.{occurs_append}
use Rattle.tree_page.specs.Cells.{Pairwise}
use Rattle.tree_table.specs.Tree.{IsTableTree, Tree, top, pages_of}
use Rattle.db_layout.specs.Layout.{AreShared, IsTree, Owner, used_by}
use Rattle.catalog.specs.Database.{Database, Name}
use Rattle.catalog.specs.Listed.{is_table, table_named, Listed}
use Rattle.catalog.specs.declared.tables.Table.{Table}
use Rattle.row_scan.specs.Rows.{TableRow}
use Rattle.db_layout.specs.Trees.{AreTreesOf, IsRowsTree}
use Rattle.db_pages.specs.Stored.{AreHeld, Stores, all_trees, schema_tree}
use Rattle.executor.proofs.Owners.{found_among, tree_of}

-- the page where each table's tree begins
abbrev pub roots_of : List Table → List ℕ
roots_of tables = map (λ t. t.root) tables

occurs_here : (n : ℕ) (xs : List ℕ) → 1 ≤ occurs n (n ∷ xs)
occurs_here n xs = grind (arith)

top_first : (depth : ℕ) (t : Tree depth) → 1 ≤ occurs (top depth t) (pages_of depth t)
top_first zero t = occurs_here t.page _
top_first (suc depth) t = occurs_here t.page _

pub uses_root : (pages : PageMap) (size root : ℕ) (rows : List Entry) (used : List ℕ) → IsTableTree pages size root rows used → 1 ≤ occurs root used
uses_root pages size root rows used tree =
    subst (λ (ps : List ℕ). 1 ≤ occurs root ps) tree.used_are
    (subst (λ (n : ℕ). 1 ≤ occurs n (pages_of tree.depth tree.tree)) tree.root_is (top_first tree.depth tree.tree))

owner_root : (pages : PageMap) (size : ℕ) (rows : List TableRow) (t : Table) (o : Owner) → IsRowsTree t rows o → IsTree pages size o → 1 ≤ occurs t.root o.used
owner_root pages size rows t o is tree = uses_root pages size t.root is.entries o.used (tree_of pages size rows t o is tree)

pub one_at : (n m : ℕ) → (if_same : Bool) → (m == n) ≡ if_same → (c : ℕ) → (n ≡ m → 1 ≤ c) → cond if_same 1 0 ≤ c
one_at n m true e c has = has (grind (arith, nat_tests))
one_at n m false e c has = omega arith

-- what holds of all holds of the first of them, and of the others
pub all_apart : {A : Type 0} (P : A → Type 0) (xs ys : List A) → AllByRecursion P (xs ++ ys) → AllByRecursion P xs × AllByRecursion P ys
all_apart P [] ys all = (tt, all)
all_apart P (x ∷ xs) ys all = let rest = all_apart P xs ys all.1 in ((all.0, rest.0), rest.1)

pub used_both : (n : ℕ) (xs ys : List Owner) → occurs n (used_by (xs ++ ys)) ≡ occurs n (used_by xs) + occurs n (used_by ys)
used_both n [] ys = omega arith
used_both n (x ∷ xs) ys = let rest = used_both n xs ys in let a = occurs_append n x.used (used_by (xs ++ ys)) in let b = occurs_append n x.used (used_by xs) in omega (arith, rest, a, b)

-- the table's root is used by one of its trees
group_root : (pages : PageMap) (size : ℕ) (rows : List TableRow) (t : Table) (trees : List Owner) → AreTreesOf t rows trees → AllByRecursion (IsTree pages size) trees → 1 ≤ occurs t.root (used_by trees)
group_root pages size rows t [] are trees = absurd are
group_root pages size rows t (o ∷ os) are trees =
    let own = owner_root pages size rows t o are.0 trees.0 in let sum = occurs_append t.root o.used (used_by os) in omega (arith, own, sum)

-- each root is used by its tree
pub roots_used : (pages : PageMap) (size : ℕ) (rows_at : ℕ → List TableRow) (n : ℕ) (tables : List Table) (held : List (List Owner)) → Pairwise (AreHeld rows_at) tables held
    → AllByRecursion (IsTree pages size) (all_trees held) → occurs n (roots_of tables) ≤ occurs n (used_by (all_trees held))
roots_used pages size rows_at n [] [] each trees = omega arith
roots_used pages size rows_at n [] (o ∷ held) each trees = absurd each
roots_used pages size rows_at n (t ∷ tables) [] each trees = absurd each
roots_used pages size rows_at n (t ∷ tables) (os ∷ held) each trees =
    let parts = all_apart (IsTree pages size) os (all_trees held) trees in
    let rest = roots_used pages size rows_at n tables held each.1 parts.1 in
    let sum = used_both n os (all_trees held) in
    let here : cond (t.root == n) 1 0 ≤ occurs n (used_by os) = one_at n t.root (t.root == n) refl (occurs n (used_by os))
    (λ same. subst (λ (k : ℕ). 1 ≤ occurs k (used_by os)) (sym same) (group_root pages size (rows_at t.root) t os each.0.are parts.0)) in
    omega (arith, rest, sum, here)

fresh_once : (a b n : ℕ) → fresh a b n ≤ 1
fresh_once a b n = grind (arith)

-- each root comes once
pub roots_once : (pages : PageMap) (size : ℕ) (rows_at : ℕ → List TableRow) (tables : List Table) (schema : Owner) (held : List (List Owner)) (free : List ℕ) → Pairwise (AreHeld rows_at) tables held
    → AreShared pages size (schema ∷ all_trees held) free → (n : ℕ) → occurs n (roots_of tables) ≤ 1
roots_once pages size rows_at tables schema held free each shared n =
    let used = roots_used pages size rows_at n tables held each shared.trees.1 in
    let sum = occurs_append n schema.used (used_by (all_trees held)) in
    let once = shared.once n in
    let one = fresh_once 0 (length pages) n in
    omega (arith, used, sum, once, one)

pub found_root : (p : Table → Bool) (tables : List Table) (t : Table) → find p tables ≡ Some t → 1 ≤ occurs t.root (roots_of tables)
found_root p tables t e = let a = found_among p tables t e in subst (λ (ts : List Table). 1 ≤ occurs t.root (roots_of ts)) (sym a.parts) (inside t.root a.front t a.back refl)
  where
    inside : (n : ℕ) (front : List Table) (t : Table) (back : List Table) → t.root ≡ n → 1 ≤ occurs n (roots_of (front ++ t ∷ back))
    inside n [] t back same = subst (λ (k : ℕ). 1 ≤ occurs k (t.root ∷ roots_of back)) same (occurs_here t.root (roots_of back))
    inside n (x ∷ front) t back same = let rest = inside n front t back same in omega (arith, rest)

some_one : {A : Type 0} (x y : A) → Some x ≡ Some y → x ≡ y
some_one x y e = cc

counted : (n m : ℕ) → m ≡ n → 1 ≤ cond {A = ℕ} (m == n) 1 0
counted n m e = grind (arith, nat_tests)

-- two that begin at one page are one
pub one_table : (p q : Table → Bool) (tables : List Table) (t u : Table) → find p tables ≡ Some t → find q tables ≡ Some u → u.root ≡ t.root → occurs t.root (roots_of tables) ≤ 1 → t ≡ u
one_table p q [] t u e f same once = absurd cc
one_table p q (x ∷ tables) t u e f same once = by_tests (p x) (q x) (one_table p q tables t u) (found_root p tables t) (found_root q tables u) e f
  where
    by_tests : (a b : Bool) → (find p tables ≡ Some t → find q tables ≡ Some u → u.root ≡ t.root → occurs t.root (roots_of tables) ≤ 1 → t ≡ u)
        → (find p tables ≡ Some t → 1 ≤ occurs t.root (roots_of tables)) → (find q tables ≡ Some u → 1 ≤ occurs u.root (roots_of tables))
        → cond a (Some x) (find p tables) ≡ Some t → cond b (Some x) (find q tables) ≡ Some u → t ≡ u
    by_tests true true rest hp hq e f = sym (some_one x t e) ∙ some_one x u f
    by_tests true false rest hp hq e f =
        let there : 1 ≤ occurs t.root (roots_of tables) = subst (λ (n : ℕ). 1 ≤ occurs n (roots_of tables)) same (hq f) in
        let here = counted t.root x.root (ap (λ (z : Table). z.root) (some_one x t e)) in
        absurd (omega (arith, once, there, here))
    by_tests false true rest hp hq e f =
        let there = hp e in
        let here = counted t.root x.root (ap (λ (z : Table). z.root) (some_one x u f) ∙ same) in
        absurd (omega (arith, once, there, here))
    by_tests false false rest hp hq e f = rest e f same (omega (arith, once))

pub named_so : (t : Table) (name : Name) → is_table name t ≡ true → folded t.name ≡ folded name
named_so t name is = tells_apart exact_bytes (folded t.name) (folded name) (is_eq-slice_cmp (folded t.name) (folded name) ∙ is)

found_is : {A : Type 0} (p : A → Bool) (xs : List A) (x : A) → find p xs ≡ Some x → p x ≡ true
found_is p [] x e = absurd cc
found_is p (y ∷ xs) x e = by_test (p y) refl (found_is p xs x) e
  where
    by_test : (b : Bool) → p y ≡ b → (find p xs ≡ Some x → p x ≡ true) → cond b (Some y) (find p xs) ≡ Some x → p x ≡ true
    by_test true is rest e = subst (λ z. p z ≡ true) (some_one y x e) is
    by_test false is rest e = rest e

-- so a root is that of one name
pub own_pages : (pages : PageMap) (size : ℕ) (l : Listed) (db : Database) (held : Stores pages size l db) (a b : Name) (s t : Table) → table_named a l.tables ≡ Some s → table_named b l.tables ≡ Some t
    → s.root ≡ t.root → folded a ≡ folded b
own_pages pages size l db held a b s t h k same =
    let is = one_table (is_table b) (is_table a) l.tables t s k h same (roots_once pages size held.rows_at l.tables (schema_tree held.schema held.schema_used) held.held held.free held.each held.shared t.root) in
    sym (named_so s a (found_is (is_table a) l.tables s h)) ∙ (ap (λ (z : Table). folded z.name) (sym is) ∙ named_so t b (found_is (is_table b) l.tables t k))
