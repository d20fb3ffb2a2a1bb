-- The trees of listed tables, among those that share a file's pages.
use Rattle.std.proofs.Common.{◌≡◌, ◌∙◌, refl, sym, append_assoc, ap, subst, cond, ℕ, Bool, true, false, List, [], ◌∷◌, ◌++◌, length, Some}
use Rattle.std.specs.List.{AllByRecursion, find}
use Rattle.pages.specs.Map.{PageMap}
use Rattle.tree_page.specs.Cells.{Pairwise}
use Rattle.tree_table.specs.Tree.{IsTableTree}
use Rattle.db_layout.specs.Layout.{HoldsUnder, IsTree, Owner}
use Rattle.catalog.specs.Database.{Database, Name}
use Rattle.catalog.specs.Listed.{is_table, table_named, shape_of, Listed}
use Rattle.catalog.specs.declared.tables.Table.{Table}
use Rattle.row_scan.specs.Rows.{TableRow}
use Rattle.row_scan.specs.Trees.{HasRows}
use Rattle.db_layout.specs.Trees.{AreTreesOf, IsRowsTree}
use Rattle.db_pages.specs.Stored.{AreHeld, Stores, all_trees}

-- an item of a list, with those before and after it
pub record IsAmong {A : Type 0} (xs : List A) (x : A) : Type 0 where
  pub front : List A
  pub back : List A
  pub parts : xs ≡ front ++ x ∷ back

pub found_among : {A : Type 0} (p : A → Bool) (xs : List A) (x : A) → find p xs ≡ Some x → IsAmong xs x
found_among p [] x e = absurd cc
found_among p (y ∷ xs) x e = by_test (p y) (found_among p xs x) e
  where
    some_one : Some y ≡ Some x → y ≡ x
    some_one e = cc

    by_test : (b : Bool) → (find p xs ≡ Some x → IsAmong xs x) → cond b (Some y) (find p xs) ≡ Some x → IsAmong (y ∷ xs) x
    by_test true rest e = record { front = []; back = xs; parts = ap (λ z. z ∷ xs) (some_one e) }
    by_test false rest e = let r = rest e in record { front = y ∷ r.front; back = r.back; parts = ap (λ ys. y ∷ ys) r.parts }

-- of a list beside another, the parts around an item
pub record Splits {A B : Type 0} (P : A → B → Type 0) (front : List A) (x : A) (back : List A) (ys : List B) : Type 0 where
  pub before : List B
  pub at : B
  pub after : List B
  pub parts : ys ≡ before ++ at ∷ after
  pub fronts : Pairwise P front before
  pub is : P x at
  pub backs : Pairwise P back after

pub splits : {A B : Type 0} (P : A → B → Type 0) (front : List A) (x : A) (back : List A) (ys : List B) → Pairwise P (front ++ x ∷ back) ys → Splits P front x back ys
splits P [] x back [] each = absurd each
splits P [] x back (y ∷ ys) each = record { before = []; at = y; after = ys; parts = refl; fronts = tt; is = each.0; backs = each.1 }
splits P (a ∷ front) x back [] each = absurd each
splits P (a ∷ front) x back (y ∷ ys) each =
    let r = splits P front x back ys each.1 in
    record { before = y ∷ r.before; at = r.at; after = r.after; parts = ap (λ zs. y ∷ zs) r.parts; fronts = (each.0, r.fronts); is = r.is; backs = r.backs }

pub joins : {A B : Type 0} (P : A → B → Type 0) (front : List A) (before : List B) (xs : List A) (ys : List B) → Pairwise P front before → Pairwise P xs ys → Pairwise P (front ++ xs) (before ++ ys)
joins P [] [] xs ys fronts each = each
joins P [] (b ∷ before) xs ys fronts each = absurd fronts
joins P (a ∷ front) [] xs ys fronts each = absurd fronts
joins P (a ∷ front) (b ∷ before) xs ys fronts each = (fronts.0, joins P front before xs ys fronts.1 each)

-- what holds of each holds of one in the middle
pub one_of : {A : Type 0} (P : A → Type 0) (front : List A) (x : A) (back : List A) → AllByRecursion P (front ++ x ∷ back) → P x
one_of P [] x back each = each.0
one_of P (a ∷ front) x back each = one_of P front x back each.1

-- the trees of all of two lists of groups
pub trees_append : (xs ys : List (List Owner)) → all_trees (xs ++ ys) ≡ all_trees xs ++ all_trees ys
trees_append [] ys = refl
trees_append (x ∷ xs) ys = ap (λ zs. x ++ zs) (trees_append xs ys) ∙ sym (append_assoc x (all_trees xs) (all_trees ys))

-- the trees of one table among those of all
pub trees_around : (before : List (List Owner)) (at : List Owner) (after : List (List Owner)) → all_trees (before ++ at ∷ after) ≡ all_trees before ++ (at ++ all_trees after)
trees_around before at after = trees_append before (at ∷ after)

-- the trees of a table, with those before and after them
pub record HasTable (rows_at : ℕ → List TableRow) (tables : List Table) (held : List (List Owner)) (t : Table) : Type 0 where
  pub front : List Table
  pub back : List Table
  pub tables_are : tables ≡ front ++ t ∷ back
  pub split : Splits (AreHeld rows_at) front t back held

abbrev pub table_of_parts : (rows_at : ℕ → List TableRow) (tables : List Table) (held : List (List Owner)) (front : List Table) (t : Table) (back : List Table) → tables ≡ front ++ t ∷ back
    → Pairwise (AreHeld rows_at) tables held → HasTable rows_at tables held t
table_of_parts rows_at tables held front t back parts each = record {
  front = front;
  back = back;
  tables_are = parts;
  split = splits (AreHeld rows_at) front t back held (subst (λ ts. Pairwise (AreHeld rows_at) ts held) parts each);
}

-- the tree of its rows
pub record HasRowsTree (rows : List TableRow) (t : Table) (trees : List Owner) : Type 0 where
  pub first : Owner
  pub others : List Owner
  pub parts : trees ≡ first ∷ others
  pub is : IsRowsTree t rows first

pub rows_tree : (rows : List TableRow) (t : Table) (trees : List Owner) → AreTreesOf t rows trees → HasRowsTree rows t trees
rows_tree rows t [] are = absurd are
rows_tree rows t (first ∷ others) are = record { first = first; others = others; parts = refl; is = are.0 }

pub tree_of : (map : PageMap) (size : ℕ) (rows : List TableRow) (t : Table) (o : Owner) (is : IsRowsTree t rows o) → IsTree map size o → IsTableTree map size t.root is.entries o.used
tree_of map size rows t o is tree =
    subst (λ root. IsTableTree map size root is.entries o.used) is.root_is (subst (HoldsUnder map size o.root o.used) is.content_is tree)

-- a table's tree has its rows
pub has_rows : (map : PageMap) (size : ℕ) (l : Listed) (db : Database) (held : Stores map size l db) (name : Name) (t : Table) → table_named name l.tables ≡ Some t
    → HasRows map size t.root (shape_of t) (held.rows_at t.root)
has_rows map size l db held name t named =
    let among = found_among (is_table name) l.tables t named in
    let o = table_of_parts held.rows_at l.tables held.held among.front t among.back among.parts held.each in
    let tree = rows_tree (held.rows_at t.root) t o.split.at o.split.is.are in
    let around : all_trees held.held ≡ all_trees o.split.before ++ tree.first ∷ (tree.others ++ all_trees o.split.after) =
    ap all_trees o.split.parts ∙ (trees_around o.split.before o.split.at o.split.after ∙ ap (λ (xs : List Owner). all_trees o.split.before ++ (xs ++ all_trees o.split.after)) tree.parts) in
    record {
      entries = tree.is.entries;
      used = tree.first.used;
      tree = tree_of map size (held.rows_at t.root) t tree.first tree.is
          (one_of (IsTree map size) (all_trees o.split.before) tree.first (tree.others ++ all_trees o.split.after) (subst (AllByRecursion (IsTree map size)) around held.shared.trees.1));
      each = tree.is.each;
    }
