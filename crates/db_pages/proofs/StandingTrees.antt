-- The pages that store a database are whole, and each of them is used once: by the tree of a table or of an index, by that of the schema
-- table, or by the freelist.
use Rattle.std.proofs.Common.{◌≡◌, ◌∙◌, inl, inr, refl, sym, ap, subst, ◌<◌, ◌≤◌, ℕ, suc, List, [], ◌∷◌, ◌++◌, length, map, get_or, true, Ok, Result, Some, arith}
use Rattle.std.specs.Prelude.{Bool, MatchOption, false, ⊤, cond, flat_map}
use Rattle.std.proofs.lemmas.Grind.{common_steps}
use Rattle.std.specs.FinMap.Entries.{find}
use Rattle.std.specs.List.{AllByRecursion}
use Rattle.db_header.proofs.HeaderLemmas.{header_again}
use Rattle.db_header.specs.Header.{IsHeader, counted_of}
use Rattle.db_header.specs.declared.fields.Header.{Header}
use Rattle.freelist.specs.Freelist.{IsFreelist, pages_of}
use Rattle.tree_leaf.specs.Leaf.{Entry}
use Rattle.pages.proofs.Moving.{occurs_append}
use Rattle.pages.specs.Counting.{fresh, occurs}
use Rattle.pages.specs.Map.{AreWhole, PageMap, page_at}
use Rattle.sqlval.specs.declared.fault.Fault.{Fault}
use Rattle.tree_page.specs.Cells.{Pairwise}
use Rattle.tree_table.specs.Tree.{IsTableTree}
use Rattle.tree_index.specs.Tree.{IsIndexTree}
use Rattle.catalog.specs.Database.{ATable, AnIndex, AView, ATrigger, Database, Name, name_order, object}
use Rattle.catalog.specs.Listed.{Listed, is_table, as_index, as_view, shape_of, with_rows, table_named}
use Rattle.catalog.specs.Rows.{are_rows}
use Rattle.catalog.specs.declared.tables.Index.{Index}
use Rattle.catalog.specs.declared.tables.Table.{Table}
use Rattle.catalog.specs.declared.tables.Trigger.{Trigger}
use Rattle.catalog.specs.declared.tables.View.{View}
use Rattle.catalog.proofs.NamedDatabases.{folded_twice}
use Rattle.index_entries.specs.Entries.{collations, entries_of_rows}
use Rattle.row_scan.specs.Rows.{IsRow, TableRow}
use Rattle.db_files.specs.Contents.{HasTree, IsStoredRow, ListsEntries, ListsRows}
use Rattle.db_files.specs.Stands.{IsHeaded, IsShared}
use Rattle.db_layout.specs.Layout.{IsTree, HoldsUnder, OfRows, Owner, used_by}
use Rattle.db_layout.specs.Trees.{IsEntriesTree, IsRowsTree, columns_of}
use Rattle.db_pages.specs.Reordering.{AreReordered}
use Rattle.db_pages.specs.Schema.{IndexTold, TableTold, Tells, Told, TriggerTold, ViewTold, all_told, tables_told}
use Rattle.db_pages.specs.Stored.{AreHeld, IsCounted, Stores, all_trees}
use Rattle.db_pages.proofs.Reordering.{reordered_sym}
use Rattle.db_pages.proofs.ReorderedPairs.{pairs_both, reordered_count, reordered_pairs}
use Rattle.db_pages.proofs.StandingRows.{object_found, row_told, rows_told}
use Rattle.db_pages.proofs.ToldObjects.{IsKept, all_first, all_second}

-- ---- a page's header

abbrev read_as : Header → Result Header Fault
read_as h = Ok h

header_is_one : (a b : Header) → read_as a ≡ read_as b → a ≡ b
header_is_one a b e = cc

-- a page begins with one header
pub one_header : (page : List ℕ) (a b : Header) → IsHeader page a → IsHeader page b → a ≡ b
one_header page a b is_a is_b = header_is_one a b (sym (header_again page a is_a) ∙ header_again page b is_b)

-- ---- lists

-- what holds of the page at each place holds of all
all_of : (P : List ℕ → Type 0) (pages : PageMap) → ((i : ℕ) → i < length pages → P (get_or pages i [])) → AllByRecursion P pages
all_of P [] each = tt
all_of P (page ∷ pages) each = (each 0 (omega arith), all_of P pages (λ i lt. each (suc i) (omega (arith, lt))))

-- each page of whole pages is as long as they are
pub all_whole : (pages : PageMap) (size : ℕ) → AreWhole size pages → AllByRecursion (λ page. length page ≡ size) pages
all_whole pages size whole = all_of (λ page. length page ≡ size) pages (λ i lt. at_place i (whole (suc i) (record { first = omega arith; last = omega (arith, lt) })))
  where
    at_place : (i : ℕ) → length (page_at pages (suc i)) ≡ size → length (get_or pages i []) ≡ size
    at_place i is = ap (λ (k : ℕ). length (get_or pages k [])) (omega arith) ∙ is

-- rows of a table's shape are stored as its rows
stored_rows : (t : Table) (more rows : List TableRow) (entries : List Entry) → Pairwise (IsRow (shape_of t)) entries rows → Pairwise (IsStoredRow (with_rows t more)) entries rows
stored_rows t more [] [] each = tt
stored_rows t more (row ∷ rows) [] each = absurd each
stored_rows t more [] (entry ∷ entries) each = absurd each
stored_rows t more (row ∷ rows) (entry ∷ entries) each = (record { rowid = each.0.rowid; values = each.0.values }, stored_rows t more rows entries each.1)

-- the pages of each tree
abbrev pub useds_of : List Owner → List (List ℕ)
useds_of owners = map (λ o. o.used) owners

used_flat : (owners : List Owner) → flat_map (λ used. used) (useds_of owners) ≡ used_by owners
used_flat [] = refl
used_flat (o ∷ owners) = ap (λ (ns : List ℕ). o.used ++ ns) (used_flat owners)

fresh_there : (count n : ℕ) → 1 ≤ n → n ≤ count → fresh 0 count n ≡ 1
fresh_there count n first last = grind (arith, common_steps)

-- ---- the tree of what is told

-- what a view or a trigger has where a table has its tree: no page
abbrev pub no_tree : {A : Type 0} → A → Owner
no_tree x = record { root = 0; content = OfRows []; used = [] }

-- those of what has no tree
abbrev pub no_trees : Listed → List Owner
no_trees l = map no_tree l.views ++ map no_tree l.triggers

-- the trees of tables and of their indexes, and then what has none
abbrev pub trees_with : List (List Owner) → Listed → List Owner
trees_with held l = all_trees held ++ no_trees l

no_pages : (views : List View) (triggers : List Trigger) → used_by (map no_tree views ++ map no_tree triggers) ≡ []
no_pages [] [] = refl
no_pages [] (g ∷ triggers) = no_pages [] triggers
no_pages (v ∷ views) triggers = no_pages views triggers

-- views and triggers take no page
used_with : (owners : List Owner) (l : Listed) → used_by (owners ++ no_trees l) ≡ used_by owners
used_with [] l = no_pages l.views l.triggers
used_with (o ∷ owners) l = ap (λ (ns : List ℕ). o.used ++ ns) (used_with owners l)

module _ (pages : PageMap) (size : ℕ) (rows_at : ℕ → List TableRow) where
  -- the tree of a table's rows, or of an index's entries, is on the pages; a view or a trigger has none
  abbrev pub IsTreeTold : Told → Owner → Type 0
  IsTreeTold (TableTold t) owner = IsRowsTree t (rows_at t.root) owner × IsTree pages size owner
  IsTreeTold (IndexTold t i) owner = IsEntriesTree (rows_at t.root) i owner × IsTree pages size owner
  IsTreeTold (ViewTold v) owner = owner.used ≡ []
  IsTreeTold (TriggerTold g) owner = owner.used ≡ []

  index_trees : (t : Table) (is : List Index) (owners : List Owner) → Pairwise (IsEntriesTree (rows_at t.root)) is owners → AllByRecursion (IsTree pages size) owners
      → Pairwise IsTreeTold (map (λ (i : Index). IndexTold t i) is) owners
  index_trees t [] [] each trees = tt
  index_trees t [] (o ∷ owners) each trees = absurd each
  index_trees t (i ∷ is) [] each trees = absurd each
  index_trees t (i ∷ is) (o ∷ owners) each trees = ((each.0, trees.0), index_trees t is owners each.1 trees.1)

  -- of all tables and indexes, in their order
  tables_trees : (tables : List Table) (held : List (List Owner)) → Pairwise (AreHeld rows_at) tables held → AllByRecursion (IsTree pages size) (all_trees held)
      → Pairwise IsTreeTold (tables_told tables) (all_trees held)
  tables_trees [] [] each trees = tt
  tables_trees [] (os ∷ held) each trees = absurd each
  tables_trees (t ∷ tables) [] each trees = absurd each
  tables_trees (t ∷ tables) ([] ∷ held) each trees = absurd each.0.are
  tables_trees (t ∷ tables) ((o ∷ owners) ∷ held) each trees =
      let mine : Pairwise IsTreeTold (map (λ (i : Index). IndexTold t i) t.indexes) owners =
      index_trees t t.indexes owners each.0.are.1 (all_first (IsTree pages size) owners (all_trees held) trees.1) in (
        (each.0.are.0, trees.0),
        pairs_both IsTreeTold (map (λ (i : Index). IndexTold t i) t.indexes) (tables_told tables) owners (all_trees held) mine
            (tables_trees tables held each.1 (all_second (IsTree pages size) owners (all_trees held) trees.1)),
      )

  views_trees : (views : List View) → Pairwise IsTreeTold (map ViewTold views) (map no_tree views)
  views_trees [] = tt
  views_trees (v ∷ views) = (refl, views_trees views)

  triggers_trees : (triggers : List Trigger) → Pairwise IsTreeTold (map TriggerTold triggers) (map no_tree triggers)
  triggers_trees [] = tt
  triggers_trees (g ∷ triggers) = (refl, triggers_trees triggers)

  -- of all that is told
  trees_told : (l : Listed) (held : List (List Owner)) → Pairwise (AreHeld rows_at) l.tables held → AllByRecursion (IsTree pages size) (all_trees held)
      → Pairwise IsTreeTold (all_told l) (trees_with held l)
  trees_told l held each trees =
      pairs_both IsTreeTold (tables_told l.tables) (map ViewTold l.views ++ map TriggerTold l.triggers) (all_trees held) (no_trees l) (tables_trees l.tables held each trees)
      (pairs_both IsTreeTold (map ViewTold l.views) (map TriggerTold l.triggers) (map no_tree l.views) (map no_tree l.triggers) (views_trees l.views) (triggers_trees l.triggers))

-- the rows of a listed table are such as it may hold
pub found_fit : (rows_at : ℕ → List TableRow) (name : Name) (t : Table) (tables : List Table) (held : List (List Owner)) → Pairwise (AreHeld rows_at) tables held
    → table_named name tables ≡ Some t → are_rows (with_rows t (rows_at t.root)) ≡ true
found_fit rows_at name t [] held each found = absurd cc
found_fit rows_at name t (u ∷ tables) [] each found = absurd each
found_fit rows_at name t (u ∷ tables) (trees ∷ held) each found = by_test (found_fit rows_at name t tables held each.1) (is_table name u) found
  where
    the_same : Some u ≡ Some t → u ≡ t
    the_same h = cc

    by_test : (table_named name tables ≡ Some t → are_rows (with_rows t (rows_at t.root)) ≡ true) → (b : Bool) → cond b (Some u) (table_named name tables) ≡ Some t
        → are_rows (with_rows t (rows_at t.root)) ≡ true
    by_test rest true h = subst (λ (v : Table). are_rows (with_rows v (rows_at v.root)) ≡ true) (the_same h) each.0.fit
    by_test rest false h = rest h

-- ---- the parts of the file

module _ (pages : PageMap) (size : ℕ) (l : Listed) (db : Database) (stored : Stores pages size l db) where
  pub is_headed : IsCounted pages → IsHeaded size pages stored.header
  is_headed counted = record {
    header_is = stored.header_is;
    size_is = stored.sized;
    whole = all_whole pages size stored.shared.whole;
    counted = subst (λ (h : Header). MatchOption (counted_of h) (⊤) (λ count. count ≡ length pages))
        (one_header (page_at pages 1) counted.header stored.header counted.header_is stored.header_is) counted.counted;
  }

  -- the tree of a table lists its rows
  table_rows : (t : Table) (o : Owner) → IsRowsTree t (stored.rows_at t.root) o → IsTree pages size o → ListsRows pages size t.root (with_rows t (stored.rows_at t.root)) o.used
  table_rows t o is tree = record {
    entries = is.entries;
    tree = subst (λ (root : ℕ). IsTableTree pages size root is.entries o.used) is.root_is (subst (HoldsUnder pages size o.root o.used) is.content_is tree);
    rows = stored_rows t (stored.rows_at t.root) (stored.rows_at t.root) is.entries is.each;
  }

  -- the tree of an index lists the entries of its table's rows
  index_entries : (t : Table) (i : Index) (o : Owner) → IsEntriesTree (stored.rows_at t.root) i o → IsTree pages size o → object db t.name ≡ Some (ATable (with_rows t (stored.rows_at t.root)))
      → ListsEntries pages size i.root db (as_index t i) o.used
  index_entries t i o is tree on = record {
    t = with_rows t (stored.rows_at t.root);
    on = ap (λ (n : Name). find name_order n db) (folded_twice t.name) ∙ on;
    tree = subst (λ (root : ℕ). IsIndexTree pages size root (collations (columns_of i)) (entries_of_rows (columns_of i) (stored.rows_at t.root)) o.used) is.root_is
        (subst (HoldsUnder pages size o.root o.used) is.content_is tree);
  }

  told_tree : (one : Told) (row : Entry) (o : Owner) (tells : Tells (length pages) one row) → IsKept stored.rows_at db one → IsTreeTold pages size stored.rows_at one o
      → HasTree pages size db (row_told (length pages) one row tells) o.used
  told_tree (TableTold t) row o tells kept tree = record {
    is = ATable (with_rows t (stored.rows_at t.root));
    found = object_found stored.rows_at db (length pages) (TableTold t) row tells kept;
    lists = table_rows t o tree.0 tree.1;
  }
  told_tree (IndexTold t i) row o (inl tells) kept tree = record {
    is = AnIndex (as_index t i);
    found = object_found stored.rows_at db (length pages) (IndexTold t i) row (inl tells) kept;
    lists = index_entries t i o tree.0 tree.1 kept.1;
  }
  told_tree (IndexTold t i) row o (inr tells) kept tree = record {
    is = AnIndex (as_index t i);
    found = object_found stored.rows_at db (length pages) (IndexTold t i) row (inr tells) kept;
    lists = index_entries t i o tree.0 tree.1 kept.1;
  }
  told_tree (ViewTold v) row o tells kept none = record {
    is = AView (as_view v);
    found = object_found stored.rows_at db (length pages) (ViewTold v) row tells kept;
    lists = none;
  }
  told_tree (TriggerTold g) row o tells kept none = record {
    is = ATrigger g.definition;
    found = object_found stored.rows_at db (length pages) (TriggerTold g) row tells kept;
    lists = none;
  }

  pub told_trees : (told : List Told) (rows : List Entry) (owners : List Owner) (tell : Pairwise (Tells (length pages)) told rows) → AllByRecursion (IsKept stored.rows_at db) told
      → Pairwise (IsTreeTold pages size stored.rows_at) told owners → Pairwise (HasTree pages size db) (rows_told (length pages) told rows tell) (useds_of owners)
  told_trees [] rows [] tell kept trees = tt
  told_trees [] rows (o ∷ owners) tell kept trees = absurd trees
  told_trees (one ∷ told) [] owners tell kept trees = absurd tell
  told_trees (one ∷ told) (row ∷ rows) [] tell kept trees = absurd trees
  told_trees (one ∷ told) (row ∷ rows) (o ∷ owners) tell kept trees = (told_tree one row o tell.0 kept.0 trees.0, told_trees told rows owners tell.1 kept.1 trees.1)

  -- the trees in the order of the rows that tell them
  pub in_order_told : (owners : List Owner) × Pairwise (IsTreeTold pages size stored.rows_at) stored.tell.told owners × AreReordered (trees_with stored.held l) owners
  in_order_told =
      reordered_pairs (IsTreeTold pages size stored.rows_at) (all_told l) (trees_with stored.held l) stored.tell.told
      (trees_told pages size stored.rows_at l stored.held stored.each stored.shared.trees.1) (reordered_sym stored.tell.told (all_told l) stored.tell.all)

  pub is_freelist : IsFreelist pages size stored.header.freelist_trunk stored.header.freelist_count stored.shared.has.trunks
  is_freelist = subst (λ (h : Header). IsFreelist pages size h.freelist_trunk h.freelist_count stored.shared.has.trunks)
      (one_header (page_at pages 1) stored.shared.has.header stored.header stored.shared.has.header_is stored.header_is) stored.shared.has.listed

  -- each page is used once
  pub is_shared : (owners : List Owner) → AreReordered (trees_with stored.held l) owners → IsShared pages (stored.schema_used ++ (flat_map (λ used. used) (useds_of owners) ++ pages_of stored.shared.has.trunks))
  is_shared owners same = record {
    once = λ n has. (let all = occurs_append n stored.schema_used (flat_map (λ used. used) (useds_of owners) ++ pages_of stored.shared.has.trunks) in
        let rest = occurs_append n (flat_map (λ used. used) (useds_of owners)) (pages_of stored.shared.has.trunks) in
        let trees = ap (occurs n) (used_flat owners) in
        let moved = reordered_count n (λ (o : Owner). o.used) (trees_with stored.held l) owners same in
        let no_more = ap (occurs n) (used_with (all_trees stored.held) l) in
        let both = occurs_append n stored.schema_used (used_by (all_trees stored.held)) in
        let free = stored.shared.has.free_is n in
        let once = stored.shared.once n in
        let one = fresh_there (length pages) n has.first has.last in
        omega (arith, all, rest, trees, moved, no_more, both, free, once, one));
  }
