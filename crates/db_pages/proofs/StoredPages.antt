-- Pages that stand for a database store it.
use Rattle.std.proofs.Common.{◌≡◌, inl, inr, ◌≤◌, ◌<◌, ◌+◌, refl, sym, ap, subst, ◌∙◌, ℕ, zero, suc, ◌-◌, List, [], ◌∷◌, ◌++◌, length, map, true, arith, slice_index_or}
use Rattle.std.proofs.lemmas.Bool.{cases_lt}
use Rattle.std.proofs.lemmas.Grind.{common_steps}
use Rattle.std.specs.List.{AllByRecursion, flat_map, list_all}
use Rattle.sqlval.specs.Lists.{is_rising, sorted}
use Rattle.freelist.specs.Freelist.{pages_of}
use Rattle.pages.proofs.Moving.{occurs_append}
use Rattle.pages.specs.Counting.{fresh, occurs}
use Rattle.pages.specs.Map.{Has, PageMap, page_at}
use Rattle.tree_page.specs.Cells.{Pairwise}
use Rattle.catalog.specs.Database.{Database, Name, name_order}
use Rattle.catalog.specs.Rows.{holds_rows}
use Rattle.query_bind.specs.Triggers.{KnowsTriggers}
use Rattle.db_layout.specs.Layout.{AreShared, IsTree, Owner, used_by}
use Rattle.db_files.specs.Schema.{IsSchemaEntry, SchemaRow}
use Rattle.db_files.specs.Stands.{StandsFor}
use Rattle.db_pages.specs.Language.{language}
use Rattle.db_pages.specs.Reordering.{AreReordered}
use Rattle.db_pages.specs.Standing.{StandingStored}
use Rattle.db_pages.specs.Stored.{Stores, all_trees, schema_tree}
use Rattle.db_pages.proofs.Reordering.{all_reordered}
use Rattle.db_pages.proofs.ReorderedPairs.{reordered_count}
use Rattle.db_pages.proofs.StoredShares.{AllApart}
use Rattle.db_pages.proofs.StoredNames.{first_of, names_in, sorted_different}
use Rattle.db_pages.proofs.StoredApart.{content_at, fewer_roots, indexes_among, names_apart, none_there, roots_apart, roots_in, row_names, table_roots, tables_among}
use Rattle.db_pages.proofs.StoredHomes.{all_listed, each_found}
use Rattle.db_pages.proofs.StoredListings.{AreListings, Item, listings, owners_in, rows_in}
use Rattle.db_pages.proofs.StoredObjects.{AreObjects, each_index, fit_targets, has_keys, homes_all, of_these, on_ones, stand}
use Rattle.db_pages.proofs.StoredOrders.{held_by, told_of, told_reordered, trees_reordered}
use Rattle.db_pages.proofs.StoredTables.{IsAfterFirst, each_after, once, rows_told}
use Rattle.db_pages.proofs.StoredTreePages.{free_there, owner_there, root_used}
use Rattle.db_pages.proofs.StoredTrees.{roots_used, trees_in, trees_so, used_there}

-- a page that is there has the length that all have
pub page_long : (pages : PageMap) (size number : ℕ) → AllByRecursion (λ page. length page ≡ size) pages → Has pages number → length (page_at pages number) ≡ size
page_long pages size zero whole has = absurd (omega (arith, has.first))
page_long [] size (suc number) whole has = absurd (omega (arith, has.last))
page_long (page ∷ pages) size (suc zero) whole has = whole.0
page_long (page ∷ pages) size (suc (suc number)) whole has =
    subst (λ (k : ℕ). length (slice_index_or (page ∷ pages) k []) ≡ size) (later number) (page_long pages size (suc number) whole.1 (record { first = omega arith; last = omega (arith, has.last) }))
  where
    later : (number : ℕ) → suc (suc number - 1) ≡ suc (suc number) - 1
    later number = omega arith

-- what comes once where it is there, and is there where it comes, comes as often as pages are there
once_or_not : (pages : PageMap) (n count : ℕ) → (Has pages n → count ≡ 1) → (1 ≤ count → Has pages n) → count ≡ fresh 0 (length pages) n
once_or_not pages n count once there = elim (cases_lt 0 count) [
  | inl some ↦ (let has = there (omega (arith, some)) in let one = once has in let is = fresh_at (length pages) n has.first has.last in omega (arith, one, is))
  | inr none ↦ elim (cases_lt 0 (fresh 0 (length pages) n)) [
    | inl some ↦ (let at = fresh_where (length pages) n some in let one = once (record { first = at.0; last = at.1 }) in absurd (omega (arith, one, none)))
    | inr neither ↦ omega (arith, none, neither)
  ]
]
  where
    fresh_at : (count n : ℕ) → 1 ≤ n → n ≤ count → fresh 0 count n ≡ 1
    fresh_at count n first last = grind (arith, common_steps)

    fresh_where : (count n : ℕ) → 0 < fresh 0 count n → (1 ≤ n) × (n ≤ count)
    fresh_where count n some = (low count n some, high count n some)
      where
        low : (count n : ℕ) → 0 < fresh 0 count n → 1 ≤ n
        low count n some = grind (arith, common_steps)

        high : (count n : ℕ) → 0 < fresh 0 count n → n ≤ count
        high count n some = grind (arith, common_steps)

fresh_once : (count n : ℕ) → fresh 0 count n ≤ 1
fresh_once count n = grind (arith, common_steps)

module _ (knows : KnowsTriggers) (pages : PageMap) (size : ℕ) (db : Database) (stands : StandsFor language size pages db) where
  -- what the schema rows tell
  pub told_items : AreListings pages size db stands.schema.entries stands.rows stands.trees_used
  told_items =
      listings pages size db stands.schema.in_order stands.schema.entries stands.rows stands.trees_used stands.schema.read stands.schema.objects.each stands.trees

  abbrev pub items : List Item
  items = told_items.items

  abbrev free : List ℕ
  free = pages_of stands.trunks

  abbrev own : Owner
  own = schema_tree stands.schema.entries stands.schema_used

  are_trees : AllByRecursion (IsTree pages size) (owners_in items)
  are_trees = trees_in pages size db items told_items.each

  -- ---- pages

  all_used : (n : ℕ) → occurs n (stands.schema_used ++ (flat_map (λ used. used) stands.trees_used ++ free)) ≡ occurs n stands.schema_used + occurs n (used_by (owners_in items)) + occurs n free
  all_used n =
      let first = occurs_append n stands.schema_used (flat_map (λ used. used) stands.trees_used ++ free) in
      let rest = occurs_append n (flat_map (λ used. used) stands.trees_used) free in
      let same = ap (occurs n) told_items.used in
      omega (arith, first, rest, same)

  -- what is used is there
  each_there : (n : ℕ) → 1 ≤ occurs n stands.schema_used + occurs n (used_by (owners_in items)) + occurs n free → Has pages n
  each_there n some = elim (cases_lt 0 (occurs n stands.schema_used)) [
    | inl here ↦ owner_there pages size own n stands.schema.tree (omega (arith, here))
    | inr none ↦ elim (cases_lt 0 (occurs n (used_by (owners_in items)))) [
      | inl here ↦ used_there pages size n (owners_in items) are_trees (omega (arith, here))
      | inr no_tree ↦ free_there pages size stands.trunks n stands.freelist.trunks_are (omega (arith, none, no_tree, some))
    ]
  ]

  counted : (n : ℕ) → occurs n stands.schema_used + occurs n (used_by (owners_in items)) + occurs n free ≡ fresh 0 (length pages) n
  counted n = once_or_not pages n (occurs n stands.schema_used + occurs n (used_by (owners_in items)) + occurs n free)
      (λ has. sym (all_used n) ∙ stands.shared.once n has) (each_there n)

  -- ---- what the rows tell

  after_first : AllByRecursion IsAfterFirst items
  after_first =
      let all = counted 1 in
      let one = fresh_once (length pages) 1 in
      let first = root_used pages size own stands.schema.tree in
      let roots = roots_used pages size 1 (owners_in items) are_trees in
      each_after items (none_there 1 (roots_in items) (omega (arith, all, one, first, roots)))

  roots_once : (n : ℕ) → occurs n (table_roots (tables_among items)) ≤ 1
  roots_once n =
      let all = counted n in
      let one = fresh_once (length pages) n in
      let roots = roots_used pages size n (owners_in items) are_trees in
      let fewer = fewer_roots n items in
      omega (arith, all, one, roots, fewer)

  names_by : sorted name_order (row_names (rows_in items)) ≡ names_in db
  names_by = subst (λ (rows : List SchemaRow). sorted name_order (row_names rows) ≡ names_in db) (sym told_items.rows_are) stands.schema.objects.names

  rising_names : is_rising name_order (names_in db) ≡ true
  rising_names = first_of (is_rising name_order (names_in db)) (list_all (λ o. holds_rows o.1) db) stands.schema.in_order

  apart : AllApart (row_names (rows_in items))
  apart = sorted_different (row_names (rows_in items)) (subst (λ (ns : List Name). is_rising name_order ns ≡ true) (sym names_by) rising_names)

  are_objects : AreObjects pages size db items
  are_objects = record {
    each = told_items.each;
    apart = apart;
    tables_apart = names_apart pages size db items told_items.each apart;
    roots = roots_apart (tables_among items) roots_once;
    names = names_by;
    in_order = stands.schema.in_order;
  }

  -- ---- trees by tables

  in_tables : AreReordered (owners_in items) (all_trees (held_by items))
  in_tables = trees_reordered items (on_ones pages size db items are_objects)

  shared : AreShared pages size (own ∷ all_trees (held_by items)) free
  shared = record {
    trees = (stands.schema.tree, all_reordered (IsTree pages size) (owners_in items) (all_trees (held_by items)) in_tables are_trees);
    has = record { header = stands.header; header_is = stands.headed.header_is; trunks = stands.trunks; listed = stands.freelist; free_is = λ n. refl };
    whole = λ number has. page_long pages size number stands.headed.whole has;
    once = λ n. (
        let both = occurs_append n stands.schema_used (used_by (all_trees (held_by items))) in
        let same = reordered_count n (λ owner. owner.used) (owners_in items) (all_trees (held_by items)) in_tables in
        let all = counted n in
        omega (arith, both, same, all));
  }

  pub stores : Stores pages size (all_listed items) db
  stores = record {
    rows_at = content_at (tables_among items);
    of_listed = of_these pages size db items are_objects;
    once = once pages size db items are_objects;
    keys = has_keys pages size db items are_objects;
    targets = fit_targets pages size db items are_objects knows;
    header = stands.header;
    header_is = stands.headed.header_is;
    sized = stands.headed.size_is;
    schema = stands.schema.entries;
    schema_used = stands.schema_used;
    tell = record {
      told = map (told_of items) items;
      all = told_reordered items (each_found (indexes_among items) (tables_among items) are_objects.tables_apart) (on_ones pages size db items are_objects);
      each = rows_told pages size db items are_objects items stands.schema.entries told_items.each (homes_all pages size db items are_objects) after_first
          (subst (Pairwise IsSchemaEntry stands.schema.entries) (sym told_items.rows_are) stands.schema.read) told_items.at_rowids;
    };
    held = held_by items;
    free = free;
    each = trees_so pages size db (tables_among items) (indexes_among items) (each_index pages size db items are_objects) (tables_among items) (stand pages size db items are_objects);
    shared = shared;
  }

pub stored_if_standing : KnowsTriggers → StandingStored
stored_if_standing knows pages size db stands = (all_listed (told_items knows pages size db stands).items, stores knows pages size db stands)
