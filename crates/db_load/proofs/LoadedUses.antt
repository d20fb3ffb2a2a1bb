-- The uses of the pages, checked one after the other.
use Rattle.std.proofs.Common.{◌≡◌, ℕ, Bool, List, ◌++◌, length, sym, subst, arith, Ok, Err}
use Rattle.std.specs.Prelude.{Result, IsErrAnd}
use Rattle.sqlval.specs.declared.fault.Fault.{Fault}
use Rattle.sqlval.specs.Faults.{IsOutside}
use Rattle.db_header.specs.declared.fields.Header.{Header}
use Rattle.pages.specs.Map.{PageMap, AreWhole}
use Rattle.freelist.specs.Freelist.{pages_of}
use Rattle.tree_page.specs.Cells.{Pairwise}
use Rattle.catalog.specs.Listed.{Listed, listed_in, tables_of}
use Rattle.catalog.specs.declared.tables.Catalog.{Catalog}
use Rattle.db_pages.specs.Schema.{AreRowsOf}
use Rattle.tree_check.specs.Checks.{IsChecked, IsUnmarked, IsCheckedList, IsUnmarkedList, MarksTree, MarksList}
use Rattle.tree_check.specs.Exact.{Checks}
use Rattle.tree_check.specs.Marks.{Marks, AreUnmarked}
use Rattle.tree_check.proofs.Parting.{both_appended, occurs_append, marks_both, unmarked_first, unmarked_then}
use Rattle.db_load.specs.Reading.{LoadsTree, TellsTree}
use Rattle.db_load.specs.Uses.{AreUses, HasTrees, IsLoaded, LoadsUses, Uses, pages_held, pages_used}
use Rattle.db_load.proofs.AlikeTrees.{HaveSamePages, same_trees}

-- the pages of the tables' trees, and those of the freelist
abbrev others_in : Uses → List ℕ
others_in uses = pages_held uses.held ++ pages_of uses.trunks

pub uses_refused : (map : PageMap) (size : ℕ) (header : Header) (old new : List Bool) (fault : Fault) (result : Result Catalog Fault) → IsErrAnd result (λ e. e ≡ fault)
    → ((l : Listed) (uses : Uses) → AreUses map size header l uses → AreUnmarked old (pages_used uses) → IsOutside fault) → LoadsUses map size header old new result
uses_refused map size header old new fault (Ok catalog) is why = absurd is
uses_refused map size header old new fault (Err e) is why = λ l uses are free. subst IsOutside (sym is) (why l uses are free)

-- the rows of the schema table, in a database of so many pages
rows_in : (map : PageMap) (pages : ℕ) (l : Listed) (uses : Uses) → pages ≡ length map → AreRowsOf (length map) l uses.schema → AreRowsOf pages l uses.schema
rows_in map pages l uses sized tell = subst (λ (n : ℕ). AreRowsOf n l uses.schema) (sym sized) tell

module _ (map : PageMap) (size pages : ℕ) (header : Header) (whole : AreWhole size map) (sized : pages ≡ length map) (old mid : List Bool) where
  -- the tree of the schema table is refused
  pub schema_tree_refused : (new : List Bool) (fault : Fault) (result : Result Catalog Fault) → IsErrAnd result (λ e. e ≡ fault) → (IsUnmarked map size 1 old → IsOutside fault) → LoadsUses map size header old new result
  schema_tree_refused new fault result is only =
      uses_refused map size header old new fault result is
      (λ l uses are free. only (record { rows = uses.schema; used = uses.schema_used; tree = are.tree; apart = unmarked_first old (pages_used uses) uses.schema_used (others_in uses) (both_appended uses.schema_used (others_in uses)) free }))

  -- the tables aren't read
  pub schema_refused : (new : List Bool) (fault : Fault) (result : Result Catalog Fault) → IsErrAnd result (λ e. e ≡ fault) → LoadsTree map size pages (Err fault) → LoadsUses map size header old new result
  schema_refused new fault result is loads =
      uses_refused map size header old new fault result is
      (λ l uses are free. loads l uses.schema uses.schema_used whole are.tree (rows_in map pages l uses sized are.tell) are.once are.keys are.targets)

  module _ (catalog : Catalog) (same_tree : MarksTree map size 1 old mid) (loads : LoadsTree map size pages (Ok catalog)) where
    -- the trees of the catalog's tables, which are alike
    owned : (l : Listed) (uses : Uses) → AreUses map size header l uses → AreUnmarked old (pages_used uses) → HaveSamePages map size (tables_of catalog) uses.held
    owned l uses are free =
        same_trees map size l (listed_in catalog) uses.held (loads l uses.schema uses.schema_used whole are.tree (rows_in map pages l uses sized are.tell) are.once are.keys are.targets) are.each
        (λ n. let u = free n in let a = occurs_append n uses.schema_used (others_in uses) in let b = occurs_append n (pages_held uses.held) (pages_of uses.trunks) in omega (arith, u, a, b))

    tree_marked : (l : Listed) (uses : Uses) → AreUses map size header l uses → AreUnmarked old (pages_used uses) → Marks old mid uses.schema_used
    tree_marked l uses are free =
        same_tree uses.schema uses.schema_used are.tree (unmarked_first old (pages_used uses) uses.schema_used (others_in uses) (both_appended uses.schema_used (others_in uses)) free)

    others_free : (l : Listed) (uses : Uses) → AreUses map size header l uses → AreUnmarked old (pages_used uses) → AreUnmarked mid (others_in uses)
    others_free l uses are free =
        unmarked_then old mid (pages_used uses) uses.schema_used (others_in uses) (both_appended uses.schema_used (others_in uses)) (tree_marked l uses are free) free

    owners_free : (l : Listed) (uses : Uses) (are : AreUses map size header l uses) (free : AreUnmarked old (pages_used uses)) → AreUnmarked mid (pages_held (owned l uses are free).trees)
    owners_free l uses are free n =
        let first = unmarked_first mid (others_in uses) (pages_held uses.held) (pages_of uses.trunks) (both_appended (pages_held uses.held) (pages_of uses.trunks)) (others_free l uses are free) n in
        let often = (owned l uses are free).as_often n in omega (arith, first, often)

    -- the tables' trees are refused
    pub tables_refused : (then new : List Bool) (fault : Fault) (result : Result Catalog Fault) → IsErrAnd result (λ e. e ≡ fault)
        → Checks (Pairwise (HasTrees map size) (tables_of catalog)) pages_held mid then (Err fault) → LoadsUses map size header old new result
    tables_refused then new fault result is check =
        uses_refused map size header old new fault result is
        (λ l uses are free. check (owned l uses are free).trees (owned l uses are free).each (owners_free l uses are free))

    module _ (late : List Bool) (check : Checks (Pairwise (HasTrees map size) (tables_of catalog)) pages_held mid late (Ok tt)) where
      owners_marked : (l : Listed) (uses : Uses) → AreUses map size header l uses → AreUnmarked old (pages_used uses) → Marks mid late (pages_held uses.held)
      owners_marked l uses are free =
          let marked = check.1 (owned l uses are free).trees (owned l uses are free).each (owners_free l uses are free) in
          record { long = marked.long; marks = λ n. let m = marked.marks n in let often = (owned l uses are free).as_often n in omega (arith, m, often) }

      trunks_free : (l : Listed) (uses : Uses) → AreUses map size header l uses → AreUnmarked old (pages_used uses) → AreUnmarked late (pages_of uses.trunks)
      trunks_free l uses are free =
          unmarked_then mid late (others_in uses) (pages_held uses.held) (pages_of uses.trunks) (both_appended (pages_held uses.held) (pages_of uses.trunks)) (owners_marked l uses are free) (others_free l uses are free)

      -- the freelist is refused
      pub list_refused : (new : List Bool) (fault : Fault) (result : Result Catalog Fault) → IsErrAnd result (λ e. e ≡ fault)
          → (IsUnmarkedList map size header.freelist_trunk header.freelist_count late → IsOutside fault) → LoadsUses map size header old new result
      list_refused new fault result is only =
          uses_refused map size header old new fault result is
          (λ l uses are free. only (record { trunks = uses.trunks; listed = are.listed; apart = trunks_free l uses are free }))

      -- all pages are marked that are used
      pub uses_loaded : (new : List Bool) → IsChecked map size 1 old mid → TellsTree map size pages (Ok catalog) → IsCheckedList map size header.freelist_trunk header.freelist_count late new
          → MarksList map size header.freelist_trunk header.freelist_count late new → IsLoaded map size header old new catalog
      uses_loaded new tree tells list same_list =
          let told = tells tree.rows tree.used whole tree.tree in
          let marked : (some : List ℕ) (uses : Uses) → Marks old mid some → Marks mid late (pages_held uses.held) → Marks late new (pages_of uses.trunks) → Marks old new (some ++ others_in uses) = λ some uses a b c.
          marks_both old mid new (some ++ others_in uses) some (others_in uses) (both_appended some (others_in uses)) a
          (marks_both mid late new (others_in uses) (pages_held uses.held) (pages_of uses.trunks) (both_appended (pages_held uses.held) (pages_of uses.trunks)) b c) in
          let uses : Uses = record { schema = tree.rows; schema_used = tree.used; held = check.0.it; trunks = list.trunks } in
          record {
            marked = record {
              it = uses;
              is = record { tree = tree.tree; tell = subst (λ (n : ℕ). AreRowsOf n (listed_in catalog) tree.rows) sized told.0; once = told.1; keys = told.2; targets = told.3; each = check.0.is; listed = list.listed };
              marks = marked tree.used uses tree.marks check.0.marks list.marks;
            };
            same = λ l others are free.
                marked others.schema_used others (tree_marked l others are free) (owners_marked l others are free) (same_list others.trunks are.listed (trunks_free l others are free));
          }
