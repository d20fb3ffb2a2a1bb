-- The trees of a file's tables, whatever its schema table tells, and how they come out of a change.
use Rattle.std.proofs.Common.{◌≡◌, ◌≤◌, ◌+◌, refl, sym, ap, subst, ◌∙◌, ℕ, Bool, true, false, List, [], ◌∷◌, ◌++◌, length, ◌==◌, cond, Some, arith}
use Rattle.std.proofs.lemmas.Bool.Decides.{nat_tests}
use Rattle.std.specs.List.{AllByRecursion}
use Rattle.std.proofs.lemmas.List.{append-nil}
use Rattle.sqlval.specs.PageSizes.{IsPageSize}
use Rattle.db_header.specs.Header.{IsHeader}
use Rattle.db_header.specs.declared.fields.Header.{Header}
use Rattle.tree_leaf.specs.Leaf.{Entry}
use Rattle.pages.specs.Counting.{occurs, fresh, Moves}
use Rattle.pages.specs.Map.{PageMap, page_at}
use Rattle.pages.proofs.Moving.{occurs_append}
use Rattle.tree_page.specs.Cells.{Pairwise}
use Rattle.tree_table.specs.Calls.{BecomesRows, Stands}
use Rattle.tree_table.specs.Freeing.{IsNewTree}
use Rattle.db_layout.specs.Layout.{AreShared, OfRows, Owner, ReplacesTrees, TreesStand, used_by}
use Rattle.catalog.specs.Database.{Database, Name}
use Rattle.catalog.specs.Listed.{is_table, with_rows, table_named, Listed}
use Rattle.catalog.specs.Named.{IsOfListed}
use Rattle.catalog.specs.Rows.{are_rows}
use Rattle.catalog.specs.declared.tables.Index.{Index}
use Rattle.catalog.specs.declared.tables.Table.{Table}
use Rattle.row_scan.specs.Rows.{TableRow}
use Rattle.db_layout.specs.Trees.{AreAmong, AreTreesOf, HoldsNow, IsEntriesTree}
use Rattle.db_write.specs.Changing.{HoldsFitRows}
use Rattle.db_write.specs.Turning.{AreLeft}
use Rattle.db_pages.specs.Schema.{AreRowsOf, HasKeyIndexes, all_told}
use Rattle.db_pages.specs.Stored.{AreHeld, Stores, all_trees, schema_tree}
use Rattle.executor.specs.Holding.{HoldsListed, HoldsTrees}
use Rattle.executor.proofs.Owners.{HasTable, found_among, joins, table_of_parts, trees_append, trees_around}
use Rattle.executor.proofs.Roots.{roots_of, roots_once, roots_used}
use Rattle.executor.proofs.Targets.{AreFit}
use Rattle.executor.proofs.Telling.{as_rows, as_told, more_pages, once_told}

-- ---- rows by roots

itself : (n : ℕ) → (n == n) ≡ true
itself n = grind (arith, nat_tests)

apart : (n m : ℕ) → (n ≡ m → ⊥) → (n == m) ≡ false
apart n m ne = grind (arith, nat_tests)

-- these rows where the table begins, and elsewhere the same
abbrev pub rows_with : (ℕ → List TableRow) → ℕ → List TableRow → ℕ → List TableRow
rows_with rows_at at rows = λ root. cond (root == at) rows (rows_at root)

pub rows_here : (rows_at : ℕ → List TableRow) (at root : ℕ) (rows : List TableRow) → root ≡ at → rows_with rows_at at rows root ≡ rows
rows_here rows_at at root rows e = ap (λ (b : Bool). cond b rows (rows_at root)) (ap (λ n. n == at) e ∙ itself at)

pub rows_elsewhere : (rows_at : ℕ → List TableRow) (at root : ℕ) (rows : List TableRow) → (root ≡ at → ⊥) → rows_with rows_at at rows root ≡ rows_at root
rows_elsewhere rows_at at root rows e = ap (λ (b : Bool). cond b rows (rows_at root)) (apart root at e)

here_once : (n : ℕ) (xs : List ℕ) → 1 ≤ occurs n (n ∷ xs)
here_once n xs = grind (arith)

counted : (n : ℕ) (xs : List ℕ) → occurs n (n ∷ xs) ≡ 1 + occurs n xs
counted n xs = grind (arith, nat_tests)

at_most_one : (a b n : ℕ) → fresh a b n ≤ 1
at_most_one a b n = grind (arith)

-- trees of tables that begin elsewhere are what they were
pub kept_trees : (rows_at : ℕ → List TableRow) (at : ℕ) (rows : List TableRow) (tables : List Table) (held : List (List Owner)) → Pairwise (AreHeld rows_at) tables held → occurs at (roots_of tables) ≡ 0
    → Pairwise (AreHeld (rows_with rows_at at rows)) tables held
kept_trees rows_at at rows [] [] each none = tt
kept_trees rows_at at rows [] (o ∷ held) each none = absurd each
kept_trees rows_at at rows (t ∷ tables) [] each none = absurd each
kept_trees rows_at at rows (t ∷ tables) (os ∷ held) each none = (
  record {
    are = subst (λ (r : List TableRow). AreTreesOf t r os) (sym same) each.0.are;
    fit = subst (λ (r : List TableRow). are_rows (with_rows t r) ≡ true) (sym same) each.0.fit;
  },
  kept_trees rows_at at rows tables held each.1 (omega (arith, none)),
)
  where
    other : t.root ≡ at → ⊥
    other e = let one = subst (λ (n : ℕ). 1 ≤ occurs n (t.root ∷ roots_of tables)) e (here_once t.root (roots_of tables)) in absurd (omega (arith, one, none))

    same : rows_with rows_at at rows t.root ≡ rows_at t.root
    same = rows_elsewhere rows_at at t.root rows other

roots_append : (n : ℕ) (front back : List Table) → occurs n (roots_of (front ++ back)) ≡ occurs n (roots_of front) + occurs n (roots_of back)
roots_append n [] back = omega arith
roots_append n (t ∷ front) back = let rest = roots_append n front back in omega (arith, rest)

-- ---- the trees of a file

abbrev pub trees_held : (map : PageMap) (size : ℕ) (l : Listed) (db : Database) (stored : Stores map size l db) → HoldsTrees map size stored.rows_at l.tables stored.schema
trees_held map size l db stored = record {
  header = stored.header;
  header_is = stored.header_is;
  sized = stored.sized;
  schema_used = stored.schema_used;
  held = stored.held;
  free = stored.free;
  each = stored.each;
  shared = stored.shared;
}

abbrev pub listed_held : (map : PageMap) (size : ℕ) (l : Listed) (db : Database) (stored : Stores map size l db) → HoldsListed map size l db
listed_held map size l db stored =
    record { rows_at = stored.rows_at; of_listed = stored.of_listed; schema = stored.schema; tell = stored.tell; trees = trees_held map size l db stored }

-- with rows of the schema table that tell the tables, they are a database
pub stores_of : (map : PageMap) (size : ℕ) (rows_at : ℕ → List TableRow) (l : Listed) (schema : List Entry) (db : Database) → HoldsTrees map size rows_at l.tables schema
    → IsOfListed rows_at l db → AreRowsOf (length map) l schema → AllByRecursion HasKeyIndexes l.tables → AreFit l l.triggers → Stores map size l db
stores_of map size rows_at l schema db h of_listed tell keys targets = record {
  rows_at = rows_at;
  of_listed = of_listed;
  once = once_told (length map) l schema tell;
  keys = keys;
  targets = targets;
  header = h.header;
  header_is = h.header_is;
  sized = h.sized;
  schema = schema;
  schema_used = h.schema_used;
  tell = tell;
  held = h.held;
  free = h.free;
  each = h.each;
  shared = h.shared;
}

-- and so do these, where each key has its index and each trigger its table or view
abbrev pub stored_of : (map : PageMap) (size : ℕ) (l : Listed) (db : Database) → HoldsListed map size l db → AllByRecursion HasKeyIndexes l.tables → AreFit l l.triggers → Stores map size l db
stored_of map size l db held keys targets = stores_of map size held.rows_at l held.schema db held.trees held.of_listed held.tell keys targets

-- ---- changes

module _ (map : PageMap) (size : ℕ) (rows_at : ℕ → List TableRow) (tables : List Table) (schema : List Entry) (h : HoldsTrees map size rows_at tables schema) where
  abbrev pub schema_owner : Owner
  schema_owner = schema_tree schema h.schema_used

  pub page_size : IsPageSize size
  page_size = subst IsPageSize h.sized h.header_is.served

  pub schema_stands : TreesStand → Stands map size 1 schema h.schema_used h.free
  schema_stands stand = stand map size schema_owner (all_trees h.held) [] (all_trees h.held) 1 schema h.schema_used h.free h.shared refl refl page_size

  -- the schema table has other rows
  abbrev pub with_schema : ReplacesTrees → (new : PageMap) (rows : List Entry) → BecomesRows map new size 1 rows h.schema_used h.free → HoldsTrees new size rows_at tables rows
  with_schema law new rows now =
      let header = now.header h.header h.header_is in
      record {
        header = record h.header { freelist_trunk = header.0; freelist_count = header.1 };
        header_is = header.2;
        sized = h.sized;
        schema_used = now.now_used;
        held = h.held;
        free = now.now_free;
        each = h.each;
        shared = law map new size [] (schema_owner ∷ []) (schema_tree rows now.now_used ∷ []) (all_trees h.held) h.free now.now_free h.shared
            (subst (λ (ps : List ℕ). Moves map new ps h.free (used_by (schema_tree rows now.now_used ∷ [])) now.now_free) (sym (append-nil h.schema_used))
            (subst (λ (ps : List ℕ). Moves map new h.schema_used h.free ps now.now_free) (sym (append-nil now.now_used)) now.moves))
            (now.stands.tree, tt) now.stands.free_are.has;
      }

  -- ---- one table's trees

  module _ (t : Table) (o : HasTable rows_at tables h.held t) where
    abbrev pub before : List Owner
    before = all_trees o.split.before

    abbrev pub after : List Owner
    after = all_trees o.split.after

    around : all_trees h.held ≡ before ++ (o.split.at ++ after)
    around = ap all_trees o.split.parts ∙ trees_around o.split.before o.split.at o.split.after

    pub among : AreAmong map size schema_owner before t (rows_at t.root) after
    among = record {
      mine = o.split.at;
      are = o.split.is.are;
      free = h.free;
      shared = subst (λ (os : List Owner). AreShared map size (schema_owner ∷ os) h.free) around h.shared;
    }

    once : occurs t.root (roots_of (o.front ++ t ∷ o.back)) ≤ 1
    once = subst (λ (ts : List Table). occurs t.root (roots_of ts) ≤ 1) o.tables_are (roots_once map size rows_at tables schema_owner h.held h.free h.each h.shared t.root)

    pub none_before : occurs t.root (roots_of o.front) ≡ 0
    none_before = let sum = roots_append t.root o.front (t ∷ o.back) in let one = here_once t.root (roots_of o.back) in omega (arith, once, sum, one)

    pub none_after : occurs t.root (roots_of o.back) ≡ 0
    none_after = let sum = roots_append t.root o.front (t ∷ o.back) in let one = counted t.root (roots_of o.back) in omega (arith, once, sum, one)

    -- the table has other rows, or other indexes
    abbrev pub changed : (new : PageMap) (u : Table) (rows : List TableRow) → u.root ≡ t.root → are_rows (with_rows u rows) ≡ true → HoldsNow map new size schema_owner before u rows after
        → HoldsTrees new size (rows_with rows_at t.root rows) (o.front ++ u ∷ o.back) schema
    changed new u rows root fit now =
        let header = now.header h.header h.header_is in
        let mine = now.among.mine in
        record {
          header = record h.header { freelist_trunk = header.0; freelist_count = header.1 };
          header_is = header.2;
          sized = h.sized;
          schema_used = h.schema_used;
          held = o.split.before ++ mine ∷ o.split.after;
          free = now.among.free;
          each = joins (AreHeld (rows_with rows_at t.root rows)) o.front o.split.before (u ∷ o.back) (mine ∷ o.split.after)
              (kept_trees rows_at t.root rows o.front o.split.before o.split.fronts none_before)
              (is, kept_trees rows_at t.root rows o.back o.split.after o.split.backs none_after);
          shared = subst (λ (os : List Owner). AreShared new size (schema_owner ∷ os) now.among.free) (sym (trees_around o.split.before mine o.split.after)) now.among.shared;
        }
      where
        here : rows_with rows_at t.root rows u.root ≡ rows
        here = rows_here rows_at t.root u.root rows root

        is : AreHeld (rows_with rows_at t.root rows) u now.among.mine
        is = record {
          are = subst (λ (rs : List TableRow). AreTreesOf u rs now.among.mine) (sym here) now.among.are;
          fit = subst (λ (rs : List TableRow). are_rows (with_rows u rs) ≡ true) (sym here) fit;
        }

    -- the table's trees are given back
    abbrev pub dropped : (new : PageMap) → AreLeft map new size (schema_owner ∷ before ++ after) → HoldsTrees new size rows_at (o.front ++ o.back) schema
    dropped new left =
        let header = left.header h.header h.header_is in
        record {
          header = record h.header { freelist_trunk = header.0; freelist_count = header.1 };
          header_is = header.2;
          sized = h.sized;
          schema_used = h.schema_used;
          held = o.split.before ++ o.split.after;
          free = left.free;
          each = joins (AreHeld rows_at) o.front o.split.before o.back o.split.after o.split.fronts o.split.backs;
          shared = subst (λ (os : List Owner). AreShared new size (schema_owner ∷ os) left.free) (sym (trees_append o.split.before o.split.after)) left.shared;
        }

  -- ---- a table that is new

  module _ (law : ReplacesTrees) (new : PageMap) (root : ℕ) (tree : IsNewTree map new size h.free root) where
    abbrev pub made : Owner
    made = record { root = root; content = OfRows []; used = root ∷ [] }

    pub shared_with : AreShared new size (schema_owner ∷ made ∷ all_trees h.held) tree.now_free
    shared_with =
        law map new size (schema_owner ∷ []) [] (made ∷ []) (all_trees h.held) h.free tree.now_free h.shared tree.moves (tree.stands.tree, tt) tree.stands.free_are.has

    pub none_there : occurs root (roots_of tables) ≡ 0
    none_there =
        let roots = roots_used map size rows_at root tables h.held h.each h.shared.trees.1 in
        let once = shared_with.once root in
        let one = at_most_one 0 (length new) root in
        let sum = occurs_append root h.schema_used (used_by (made ∷ all_trees h.held)) in
        let here = occurs_append root made.used (used_by (all_trees h.held)) in
        let own : 1 ≤ occurs root made.used = here_once root [] in
        omega (arith, roots, once, one, sum, here, own)

    abbrev pub with_table : (t : Table) → t.root ≡ root → t.indexes ≡ [] → HoldsTrees new size (rows_with rows_at root []) (t ∷ tables) schema
    with_table t root_is bare =
        let header = tree.header h.header h.header_is in
        record {
          header = record h.header { freelist_trunk = header.0; freelist_count = header.1 };
          header_is = header.2;
          sized = h.sized;
          schema_used = h.schema_used;
          held = (made ∷ []) ∷ h.held;
          free = tree.now_free;
          each = (is, kept_trees rows_at root [] tables h.held h.each none_there);
          shared = shared_with;
        }
      where
        here : rows_with rows_at root [] t.root ≡ []
        here = rows_here rows_at root t.root [] root_is

        is : AreHeld (rows_with rows_at root []) t (made ∷ [])
        is = record {
          are = subst (λ (rs : List TableRow). AreTreesOf t rs (made ∷ [])) (sym here) (
            record { root_is = sym root_is; entries = []; content_is = refl; each = tt },
            subst (λ (is : List Index). Pairwise (IsEntriesTree []) is []) (sym bare) tt,
          );
          fit = subst (λ (rs : List TableRow). are_rows (with_rows t rs) ≡ true) (sym here) refl;
        }

-- ---- a listed table

pub held_table : (map : PageMap) (size : ℕ) (l : Listed) (db : Database) (stored : Stores map size l db) (name : Name) (t : Table) → table_named name l.tables ≡ Some t
    → HasTable stored.rows_at l.tables stored.held t
held_table map size l db stored name t named =
    let among = found_among (is_table name) l.tables t named in table_of_parts stored.rows_at l.tables stored.held among.front t among.back among.parts stored.each

-- the pages store the database whose table has other rows
pub stores_rows : (map new : PageMap) (size : ℕ) (l : Listed) (db made : Database) (stored : Stores map size l db) (t : Table) (rows : List TableRow) (o : HasTable stored.rows_at l.tables stored.held t)
    → HoldsFitRows map new size (schema_tree stored.schema stored.schema_used) (all_trees o.split.before) t rows (all_trees o.split.after) → IsOfListed (rows_with stored.rows_at t.root rows) l made
    → Stores new size l made
stores_rows map new size l db made stored t rows o now of_listed =
    stores_of new size (rows_with stored.rows_at t.root rows) l stored.schema made
    (subst (λ (ts : List Table). HoldsTrees new size (rows_with stored.rows_at t.root rows) ts stored.schema) (sym o.tables_are)
    (changed map size stored.rows_at l.tables stored.schema (trees_held map size l db stored) t o new t rows refl now.fit now.holds))
    of_listed
    (as_rows (length new) l (all_told l) stored.schema refl (more_pages (length map) (length new) now.holds.longer (all_told l) stored.schema (as_told (length map) l stored.schema stored.tell)))
    stored.keys stored.targets
