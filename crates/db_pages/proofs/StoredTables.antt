-- The rows of the schema table tell the tables, indexes, views and triggers that they list.
use Rattle.std.proofs.Common.{◌≡◌, ◌<◌, ◌⊎◌, inl, inr, refl, sym, ap, subst, ◌∙◌, ℕ, pos, Bool, true, false, cond, List, [], ◌∷◌, codes, length, map, Option, Some, None, arith}
use Rattle.std.proofs.lemmas.Bool.{ltb-true, ltb-false}
use Rattle.std.specs.List.{AllByRecursion}
use Rattle.std.specs.Prelude.{⊤, nat_lt, unwrap_or}
use Rattle.sqlval.specs.Names.{folded}
use Rattle.sqlval.specs.declared.value.Value.{Value}
use Rattle.sqlval.specs.declared.value.Value.TheVariants.{Int, Text}
use Rattle.record.specs.Record.{IsRecord}
use Rattle.tree_leaf.specs.Leaf.{Entry}
use Rattle.pages.specs.Map.{PageMap, Has}
use Rattle.tree_page.specs.Cells.{Pairwise}
use Rattle.catalog.specs.Database as database
use Rattle.catalog.specs.Database.{Name, Database, ATable, name_order, object}
use Rattle.catalog.specs.Listed.{with_rows}
use Rattle.catalog.specs.declared.tables.Index.{Index}
use Rattle.catalog.specs.declared.tables.Table.{Table}
use Rattle.query_names.specs.Bound.{AreOnce, is_twice_named}
use Rattle.query_names.specs.Checked.{good, known_all}
use Rattle.query_names.specs.Creating.{HasChecksOf, HasColumnsOf, HasKeysOf}
use Rattle.query_names.specs.Schema.{resolve_index_column}
use Rattle.query_names.proofs.CreatedTables.{keeps_once}
use Rattle.query_bind.specs.Indexed.{key_of, keys_known}
use Rattle.db_files.specs.Schema.{SchemaRow, IsSchemaEntry, sql_value}
use Rattle.std.specs.FinMap.Entries.{find}
use Rattle.db_pages.specs.Schema.{HasRowOf, IsIndexRow, IsKeyRow, IsTableRow, IsTriggerRow, IsViewRow, Tells, schema_row}
use Rattle.db_pages.proofs.StoredNames.{same_named, some_is_none}
use Rattle.db_pages.proofs.StoredIndexes.{Keys, same_keys}
use Rattle.db_pages.proofs.StoredListings.{IndexItem, IndexListing, IsEntryOf, IsIndexListing, IsItem, IsListing, IsOfKey, IsOfText, IsTriggerListing, IsViewListing, Item, Listing, TableItem, TriggerItem, ViewItem, index_tree, listed_tree, row_of, rows_in}
use Rattle.db_pages.proofs.StoredApart.{Stands, indexes_among, roots_in, row_named, tables_among}
use Rattle.db_pages.proofs.StoredHomes.{HasHome, IsFoundWith, found_with, tables_in, with_indexes}
use Rattle.db_pages.proofs.StoredObjects.{AreObjects, stand}
use Rattle.db_pages.proofs.StoredOrders.{no_table, table_for, told_of}
use Rattle.db_pages.proofs.StoredTreePages.{owner_root_there}
use Rattle.db_pages.proofs.StoredTriggers.{TriggerListing}
use Rattle.db_pages.proofs.StoredViews.{ViewListing}

-- ---- the schema's rows

abbrev values_with : SchemaRow → List ℕ → ℕ → Option (List ℕ) → List Value
values_with row kind root sql = Text kind ∷ Text row.name ∷ Text row.table ∷ Int (pos root) ∷ sql_value sql ∷ []

values_so : (row : SchemaRow) (entry : Entry) (kind : List ℕ) (sql : Option (List ℕ)) (root : ℕ) → row.kind ≡ kind → row.root ≡ root → row.sql ≡ sql → IsSchemaEntry entry row
    → IsRecord entry.payload (schema_row kind row.name row.table root sql)
values_so row entry kind sql root kind_is root_is sql_is read =
    subst (λ (kind : List ℕ). IsRecord entry.payload (values_with row kind root sql)) kind_is
    (subst (λ (root : ℕ). IsRecord entry.payload (values_with row row.kind root sql)) root_is
    (subst (λ (sql : Option (List ℕ)). IsRecord entry.payload (values_with row row.kind row.root sql)) sql_is read))

-- its tree, if it has one, doesn't begin at page 1
abbrev pub IsAfterFirst : Item → Type 0
IsAfterFirst (TableItem l) = 1 ≡ l.table.root → ⊥
IsAfterFirst (IndexItem l) = 1 ≡ l.index.root → ⊥
IsAfterFirst (ViewItem l) = ⊤
IsAfterFirst (TriggerItem l) = ⊤

-- no tree begins there where none of the roots is 1
pub each_after : (items : List Item) → AllByRecursion (λ root. 1 ≡ root → ⊥) (roots_in items) → AllByRecursion IsAfterFirst items
each_after [] after = tt
each_after (TableItem l ∷ items) after = (after.0, each_after items after.1)
each_after (IndexItem l ∷ items) after = (after.0, each_after items after.1)
each_after (ViewItem l ∷ items) after = (tt, each_after items after)
each_after (TriggerItem l ∷ items) after = (tt, each_after items after)

root_above : (pages : PageMap) (root : ℕ) → Has pages root → (1 ≡ root → ⊥) → 1 < root
root_above pages root has ne = by_test (nat_lt 1 root) refl
  where
    by_test : (b : Bool) → nat_lt 1 root ≡ b → 1 < root
    by_test true lt = ltb-true _ _ lt
    by_test false le = absurd (ne (omega (arith, has.first, ltb-false _ _ le)))

same_table : (s t : database.Table) → Some (ATable s) ≡ Some (ATable t) → s ≡ t
same_table s t e = cc

columns_so : (pages : PageMap) (size : ℕ) (db : Database) (l : Listing) → (is : IsListing pages size db l) → HasColumnsOf is.says.definition l.table
columns_so pages size db l is = subst (HasColumnsOf is.says.definition) (sym is.table_is) is.says.described_is

checks_so : (pages : PageMap) (size : ℕ) (db : Database) (l : Listing) → (is : IsListing pages size db l) → HasChecksOf is.says.definition l.table
checks_so pages size db l is = subst (HasChecksOf is.says.definition) (sym is.table_is) is.says.checks_are

keys_so : (pages : PageMap) (size : ℕ) (db : Database) (l : Listing) → (is : IsListing pages size db l) → HasKeysOf is.says.definition l.table
keys_so pages size db l is = subst (HasKeysOf is.says.definition) (sym is.table_is) is.says.keys_are

module _ (pages : PageMap) (size : ℕ) (db : Database) (items : List Item) (are : AreObjects pages size db items) where
  -- a row has the names of what it tells
  has_row : (row : SchemaRow) (root : ℕ) (entry : Entry) (kind : List ℕ) (sql : Option (List ℕ)) (own_name on_table : Name) → Has pages root → (1 ≡ root → ⊥) → IsSchemaEntry entry row
      → folded row.name ≡ folded own_name → folded row.table ≡ folded on_table → row.kind ≡ kind → row.root ≡ root → row.sql ≡ sql
      → HasRowOf (length pages) kind own_name on_table root sql entry
  has_row row root entry kind sql own_name on_table there after read name_is table_is kind_is root_is sql_is = record {
    above = root_above pages root there after;
    within = there.last;
    name = row.name;
    name_is = name_is;
    table_name = row.table;
    table_name_is = table_is;
    row_is = values_so row entry kind sql root kind_is root_is sql_is read;
  }

  index_root : (i : IndexListing) → IsIndexListing pages size db i → Has pages i.index.root
  index_root i is = owner_root_there pages size (index_tree i) is.tree

  table_row : (l : Listing) (entry : Entry) → IsListing pages size db l → IsAfterFirst (TableItem l) → IsSchemaEntry entry l.row → IsEntryOf entry (TableItem l)
      → IsTableRow (length pages) (with_indexes (indexes_among items) l) entry
  table_row l entry is after read at = record {
    sql = is.says.sql;
    definition = is.says.definition;
    creates = is.says.creates;
    makes = record {
      free = is.says.accepts.free;
      once = is.says.accepts.once;
      name_is = ap (λ (t : Table). t.name) is.table_is;
      columns = columns_so pages size db l is;
      checks = checks_so pages size db l is;
      keys = keys_so pages size db l is;
    };
    rowid_is = at;
    row_is = has_row l.row l.table.root entry (codes "table") (Some is.says.sql) is.says.definition.name is.says.definition.name (owner_root_there pages size (listed_tree l) is.tree) after read is.says.name_is is.says.table_is is.says.kind_is
        (sym (ap (λ (t : Table). t.root) is.table_is)) is.says.sql_is;
  }

  -- the table of an index is the one of its text
  same_keys_known : (l : Listing) (i : IndexListing) → IsListing pages size db l → (is : IsOfText db i) → folded l.table.name ≡ folded i.on
      → keys_known (with_indexes (indexes_among items) l) is.says.definition ≡ good (map key_of i.index.columns)
  same_keys_known l i table is on =
      let found : is.says.t ≡ with_rows l.table l.content =
      same_table is.says.t (with_rows l.table l.content)
      (sym is.says.on ∙ (ap (λ n. find name_order n db) (sym (row_named pages size db l table ∙ (on ∙ ap folded is.on_is))) ∙ table.found)) in
      ap (λ (t : database.Table). known_all (map (resolve_index_column is.says.definition.table t) is.says.definition.columns)) (sym found)
      ∙ (is.says.known ∙ ap (λ (keys : Keys). good keys) (sym (ap (λ (j : Index). map key_of j.columns) is.index_is ∙ same_keys is.i.columns)))

  index_row : (i : IndexListing) (entry : Entry) (l : Listing) → IsListing pages size db l → folded l.table.name ≡ folded i.on → IsIndexListing pages size db i → IsOfText db i → IsAfterFirst (IndexItem i)
      → IsSchemaEntry entry i.row → IsEntryOf entry (IndexItem i) → IsIndexRow (length pages) (with_indexes (indexes_among items) l) i.index entry
  index_row i entry l table on is text after read at = record {
    sql = text.says.sql;
    definition = text.says.definition;
    creates = text.says.creates;
    makes = record {
      free = text.says.free;
      once = text.says.once;
      name_is = ap (λ (j : Index). j.name) text.index_is;
      on = ap folded (sym text.on_is) ∙ sym on;
      unique = ap (λ (j : Index). j.is_unique) text.index_is;
      written = ap (λ (j : Index). j.is_automatic) text.index_is;
      columns = same_keys_known l i table text on;
    };
    rowid_is = at;
    row_is = has_row i.row i.index.root entry (codes "index") (Some text.says.sql) text.says.definition.name text.says.definition.table (index_root i is) after read text.says.name_is text.says.table_is text.says.kind_is
        (sym (ap (λ (j : Index). j.root) text.index_is)) text.says.sql_is;
  }

  key_row : (i : IndexListing) (entry : Entry) (l : Listing) → folded l.table.name ≡ folded i.on → IsIndexListing pages size db i → IsOfKey i → IsAfterFirst (IndexItem i) → IsSchemaEntry entry i.row
      → IsEntryOf entry (IndexItem i) → IsKeyRow (length pages) (with_indexes (indexes_among items) l) i.index entry
  key_row i entry l on is key after read at = record {
    automatic = key.automatic;
    rowid_is = at;
    row_is = has_row i.row i.index.root entry (codes "index") None i.index.name l.table.name (index_root i is) after read is.name_is (key.table_is ∙ sym on) key.kind_is key.root_is key.sql_is;
  }

  view_row : (l : ViewListing) (entry : Entry) → IsViewListing db l → IsSchemaEntry entry l.row → IsEntryOf entry (ViewItem l) → IsViewRow l.view entry
  view_row l entry is read at = record {
    sql = is.says.sql;
    creates = is.says.creates;
    free = is.says.free;
    once = is.says.once;
    rowid_is = at;
    name = l.row.name;
    name_is = is.says.name_is;
    table_name = l.row.table;
    table_name_is = is.says.table_is;
    row_is = values_so l.row entry (codes "view") (Some is.says.sql) 0 is.says.kind_is is.says.root_is is.says.sql_is read;
  }

  trigger_row : (l : TriggerListing) (entry : Entry) → IsTriggerListing db l → IsSchemaEntry entry l.row → IsEntryOf entry (TriggerItem l) → IsTriggerRow l.trigger entry
  trigger_row l entry is read at = record {
    sql = is.says.sql;
    creates = is.says.creates;
    free = is.says.free;
    rowid_is = at;
    name = l.row.name;
    name_is = is.says.name_is;
    target_name = l.row.table;
    target_name_is = is.says.table_is;
    row_is = values_so l.row entry (codes "trigger") (Some is.says.sql) 0 is.says.kind_is is.says.root_is is.says.sql_is read;
  }

  told_row : (item : Item) (entry : Entry) → IsItem pages size db item → HasHome items item → IsAfterFirst item → IsSchemaEntry entry (row_of item) → IsEntryOf entry item
      → Tells (length pages) (told_of items item) entry
  told_row (TableItem l) entry is home after read at = table_row l entry is after read at
  told_row (IndexItem i) entry is home after read at =
      let f : IsFoundWith (indexes_among items) (Stands pages size db (tables_among items)) i.on home.t =
      found_with (indexes_among items) (Stands pages size db (tables_among items)) (tables_among items) i.on home.t (stand pages size db items are) home.found in
      let found : with_indexes (indexes_among items) f.l ≡ table_for items i.on =
      f.table_is ∙ ap (λ (o : Option Table). unwrap_or o no_table) (sym home.found) in
      subst (λ (t : Table). IsIndexRow (length pages) t i.index entry ⊎ IsKeyRow (length pages) t i.index entry) found (by_row f.l f.holds.is f.same is.says)
    where
      by_row : (l : Listing) → IsListing pages size db l → folded l.table.name ≡ folded i.on → IsOfText db i ⊎ IsOfKey i
          → IsIndexRow (length pages) (with_indexes (indexes_among items) l) i.index entry ⊎ IsKeyRow (length pages) (with_indexes (indexes_among items) l) i.index entry
      by_row l table on (inl text) = inl (index_row i entry l table on is text after read at)
      by_row l table on (inr key) = inr (key_row i entry l on is key after read at)
  told_row (ViewItem l) entry is home after read at = view_row l entry is read at
  told_row (TriggerItem l) entry is home after read at = trigger_row l entry is read at

  pub rows_told : (some : List Item) (entries : List Entry) → AllByRecursion (IsItem pages size db) some → AllByRecursion (HasHome items) some → AllByRecursion IsAfterFirst some
      → Pairwise IsSchemaEntry entries (rows_in some) → Pairwise IsEntryOf entries some → Pairwise (Tells (length pages)) (map (told_of items) some) entries
  rows_told [] [] each homes after read at = tt
  rows_told [] (entry ∷ entries) each homes after read at = absurd read
  rows_told (item ∷ some) [] each homes after read at = absurd read
  rows_told (item ∷ some) (entry ∷ entries) each homes after read at = (
    told_row item entry each.0 homes.0 after.0 read.0 at.0,
    rows_told some entries each.1 homes.1 after.1 read.1 at.1,
  )

  -- ---- their columns

  -- no column of a table has the name of another
  once_so : (l : Listing) → IsListing pages size db l → is_twice_named l.table.columns ≡ false
  once_so l is =
      keeps_once [] is.says.definition l.table (λ name t found. some_is_none t (sym found)) is.says.accepts.once (columns_so pages size db l is) l.table.name l.table
      (ap (λ b. cond b (Some l.table) None) (same_named l.table.name l.table.name refl))

  pub once : AreOnce (tables_in items)
  once name t found =
      let f : IsFoundWith (indexes_among items) (Stands pages size db (tables_among items)) name t =
      found_with (indexes_among items) (Stands pages size db (tables_among items)) (tables_among items) name t (stand pages size db items are) found in
      subst (λ (u : Table). is_twice_named u.columns ≡ false) f.table_is (once_so f.l f.holds.is)
