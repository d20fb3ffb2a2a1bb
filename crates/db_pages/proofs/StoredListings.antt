-- What the rows of the schema table tell: tables with their rows and trees, indexes with theirs, views and triggers.
use Rattle.std.proofs.Common.{◌≡◌, ◌⊎◌, ◌==◌, refl, sym, ap, subst, ◌∙◌, ℕ, ℤ, Bool, true, false, codes, List, [], ◌∷◌, ◌++◌, length, map, Option, Some, None, inl, inr}
use Rattle.std.proofs.lemmas.Bool.{eqb-true}
use Rattle.std.proofs.lemmas.List.{length-map}
use Rattle.std.specs.FinMap.Entries.{find}
use Rattle.std.specs.List.{AllByRecursion, flat_map, list_all}
use Rattle.sqlval.specs.Names.{folded}
use Rattle.record.specs.Record.{IsRecord}
use Rattle.tree_leaf.specs.Leaf.{Entry}
use Rattle.pages.specs.Map.{PageMap}
use Rattle.tree_page.specs.Cells.{Pairwise}
use Rattle.tree_table.specs.Tree.{IsTableTree}
use Rattle.tree_index.specs.Entries.{Entry as IndexEntry}
use Rattle.tree_index.specs.Tree.{IsIndexTree}
use Rattle.index_entries.specs.Entries.{Columns, collations, entries_of_rows}
use Rattle.catalog.specs.Database as database
use Rattle.catalog.specs.Database.{Name, Database, Object, ATable, AnIndex, AView, ATrigger, name_order, object}
use Rattle.catalog.specs.Listed.{as_column, as_view, shape_of, with_rows}
use Rattle.catalog.specs.Rows.{are_rows, holds_rowid, holds_rows, in_record, is_in_order, is_row}
use Rattle.catalog.specs.declared.tables.Index.{Index}
use Rattle.catalog.specs.declared.tables.RowShape.{RowShape}
use Rattle.catalog.specs.declared.tables.Table.{Table}
use Rattle.query_names.proofs.ColumnNames.{folded_twice}
use Rattle.db_files.specs.Contents.{HasPages, HasTree, IsStoredRow, ListsEntries, ListsRows}
use Rattle.db_files.specs.Schema.{IsAutomaticRow, IsSchemaEntry, IsViewRow, SchemaRow, IsRowOfObject, IsSchemaRowOf}
use Rattle.db_layout.specs.Layout.{OfEntries, OfRows, Owner, used_by}
use Rattle.db_layout.specs.Trees.{columns_of}
use Rattle.row_scan.specs.Rows.{IsRow, TableRow}
use Rattle.db_pages.specs.Language.{language}
use Rattle.db_pages.proofs.StoredNames.{first_of, found_among, same_some, second_of}
use Rattle.db_pages.proofs.StoredDefinitions.{IsTold, table_of, told}
use Rattle.db_pages.proofs.StoredIndexes.{IsIndexTold, index_of, index_of_row, index_told, same_keys}
use Rattle.db_pages.proofs.StoredTriggers.{IsTriggerTold, TriggerListing, trigger_of, trigger_told}
use Rattle.db_pages.proofs.StoredViews.{IsViewTold, ViewListing, view_is, view_of, view_told}

-- ---- listings

-- a table, its rows, its tree, and the schema's row that tells it
pub record Listing : Type 0 where
  pub table : Table
  pub content : List TableRow
  pub entries : List Entry
  pub used : List ℕ
  pub row : SchemaRow

-- an index, the name of its table, its tree, and the schema's row that tells it
pub record IndexListing : Type 0 where
  pub index : Index
  pub on : Name
  pub entries : List IndexEntry
  pub used : List ℕ
  pub row : SchemaRow

-- one of them
pub data Item : Type 0 where
  TableItem : Listing → Item
  IndexItem : IndexListing → Item
  ViewItem : ViewListing → Item
  TriggerItem : TriggerListing → Item

-- of a table, of an index, of a view, or of a trigger
abbrev pub by_kind : {X : Type 0} → (Listing → X) → (IndexListing → X) → (ViewListing → X) → (TriggerListing → X) → Item → X
by_kind f g h k (TableItem l) = f l
by_kind f g h k (IndexItem l) = g l
by_kind f g h k (ViewItem l) = h l
by_kind f g h k (TriggerItem l) = k l

-- The database has the table with these rows, which are such as it may hold and stand in its tree.
pub record IsListing (pages : PageMap) (size : ℕ) (db : Database) (l : Listing) : Type 0 where
  pub t : database.Table
  pub says : IsTold db l.row t
  pub table_is : l.table ≡ table_of says.definition l.row.root l.table.rowid
  pub found : object db l.row.name ≡ Some (ATable (with_rows l.table l.content))
  pub fit : are_rows (with_rows l.table l.content) ≡ true
  pub tree : IsTableTree pages size l.table.root l.entries l.used
  pub each : Pairwise (IsRow (shape_of l.table)) l.entries l.content

-- the index as the database has it
abbrev pub index_there : IndexListing → database.Index
index_there l = record { table = folded l.on; is_unique = l.index.is_unique; is_automatic = l.index.is_automatic; columns = columns_of l.index }

-- its row has the text of a CREATE INDEX
pub record IsOfText (db : Database) (l : IndexListing) : Type 0 where
  pub i : database.Index
  pub says : IsIndexTold db l.row i
  pub index_is : l.index ≡ index_of says.definition i.columns l.row.root l.index.rowid
  pub on_is : l.on ≡ says.definition.table

-- its row has no text
pub record IsOfKey (l : IndexListing) : Type 0 where
  pub kind_is : l.row.kind ≡ codes "index"
  pub sql_is : l.row.sql ≡ None
  pub table_is : folded l.row.table ≡ folded l.on
  pub root_is : l.row.root ≡ l.index.root
  pub automatic : l.index.is_automatic ≡ true
  pub named : folded l.index.name ≡ l.index.name

-- The database has the index, on this table, and its tree has the entries of the table's rows.
pub record IsIndexListing (pages : PageMap) (size : ℕ) (db : Database) (l : IndexListing) : Type 0 where
  pub t : database.Table
  pub on : object db l.on ≡ Some (ATable t)
  pub says : IsOfText db l ⊎ IsOfKey l
  pub name_is : folded l.row.name ≡ folded l.index.name
  pub found : object db l.row.name ≡ Some (AnIndex (index_there l))
  pub tree : IsIndexTree pages size l.index.root (collations (columns_of l.index)) l.entries l.used
  pub entries_are : l.entries ≡ entries_of_rows (columns_of l.index) t.rows

-- The database has the view, as its row tells it.
pub record IsViewListing (db : Database) (l : ViewListing) : Type 0 where
  pub says : IsViewTold l.row l.view.definition
  pub found : object db l.row.name ≡ Some (AView (as_view l.view))

-- The database has the trigger, as its row tells it.
pub record IsTriggerListing (db : Database) (l : TriggerListing) : Type 0 where
  pub says : IsTriggerTold db l.row l.trigger.definition
  pub found : object db l.row.name ≡ Some (ATrigger l.trigger.definition)

abbrev pub IsItem : PageMap → ℕ → Database → Item → Type 0
IsItem pages size db (TableItem l) = IsListing pages size db l
IsItem pages size db (IndexItem l) = IsIndexListing pages size db l
IsItem pages size db (ViewItem l) = IsViewListing db l
IsItem pages size db (TriggerItem l) = IsTriggerListing db l

abbrev pub row_of : Item → SchemaRow
row_of (TableItem l) = l.row
row_of (IndexItem l) = l.row
row_of (ViewItem l) = l.row
row_of (TriggerItem l) = l.row

abbrev pub rowid_of : Item → ℤ
rowid_of (TableItem l) = l.table.rowid
rowid_of (IndexItem l) = l.index.rowid
rowid_of (ViewItem l) = l.view.rowid
rowid_of (TriggerItem l) = l.trigger.rowid

-- its tree
abbrev pub listed_tree : Listing → Owner
listed_tree l = record { root = l.table.root; content = OfRows l.entries; used = l.used }

abbrev pub index_tree : IndexListing → Owner
index_tree l = record { root = l.index.root; content = OfEntries (collations (columns_of l.index)) l.entries; used = l.used }

-- its tree, if it has one
abbrev pub owners_of : Item → List Owner
owners_of item = by_kind (λ l. listed_tree l ∷ []) (λ l. index_tree l ∷ []) (λ l. []) (λ l. []) item

-- the pages of its tree
abbrev pub pages_of : Item → List ℕ
pages_of item = by_kind (λ l. l.used) (λ l. l.used) (λ l. []) (λ l. []) item

-- the rows, and the trees of all
abbrev pub rows_in : List Item → List SchemaRow
rows_in items = map row_of items

abbrev pub owners_in : List Item → List Owner
owners_in items = flat_map owners_of items

-- the pages of one and of others
used_more : (item : Item) (owners : List Owner) → pages_of item ++ used_by owners ≡ used_by (owners_of item ++ owners)
used_more (TableItem l) owners = refl
used_more (IndexItem l) owners = refl
used_more (ViewItem l) owners = refl
used_more (TriggerItem l) owners = refl

-- ---- rows

-- what the entries of a leaf are is what they are as rows of a shape
rows_so : (t : database.Table) (shape : RowShape) (entries : List Entry) (rows : List TableRow) → t.rowid_column ≡ shape.own → length t.columns ≡ shape.width → list_all (is_row t) rows ≡ true
    → Pairwise (IsStoredRow t) entries rows → Pairwise (IsRow shape) entries rows
rows_so t shape [] [] own wide fit are = tt
rows_so t shape [] (row ∷ rows) own wide fit are = absurd are
rows_so t shape (entry ∷ entries) [] own wide fit are = absurd are
rows_so t shape (entry ∷ entries) (row ∷ rows) own wide fit are =
    let first : is_row t row ≡ true = first_of (is_row t row) (list_all (is_row t) rows) fit in
    let full : (length row.1 == length t.columns) ≡ true = second_of _ (length row.1 == length t.columns) (first_of _ _ (first_of _ _ first)) in (
      record {
        rowid = are.0.rowid;
        values = subst (λ (place : Option ℕ). IsRecord entry.payload (in_record place row.1)) own are.0.values;
        full = eqb-true _ _ full ∙ wide;
        own = subst (λ (place : Option ℕ). holds_rowid place row ≡ true) own (second_of _ (holds_rowid t.rowid_column row) first);
      },
      rows_so t shape entries rows own wide (second_of (is_row t row) (list_all (is_row t) rows) fit) are.1,
    )

all_hold : (es : Database) → list_all (λ o. holds_rows o.1) es ≡ true → AllByRecursion (λ e. holds_rows e.1 ≡ true) es
all_hold [] h = tt
all_hold (e ∷ es) h = (first_of (holds_rows e.1) _ h, all_hold es (second_of (holds_rows e.1) _ h))

-- ---- the row of a table

-- a table of the database, as its row in the schema table and its tree tell it
module _ (pages : PageMap) (size : ℕ) (db : Database) (in_order : is_in_order db ≡ true) (row : SchemaRow) (t : database.Table)
    (found : object db row.name ≡ Some (ATable t)) (says : IsTold db row t) (used : List ℕ) (lists : ListsRows pages size row.root t used) (rowid : ℤ) where
  abbrev pub its_listing : Listing
  its_listing = record { table = table_of says.definition row.root rowid; content = t.rows; entries = lists.entries; used = used; row = row }

  made : t ≡ with_rows its_listing.table t.rows
  made = says.made row.root rowid

  fit_rows : are_rows t ≡ true
  fit_rows = found_among (λ o. holds_rows o ≡ true) db (folded row.name) (ATable t) (all_hold db (second_of _ (list_all (λ o. holds_rows o.1) db) in_order)) found

  wide : length t.columns ≡ length its_listing.table.columns
  wide = ap (λ (x : database.Table). length x.columns) made ∙ length-map its_listing.table.columns as_column

  pub is_listing : IsListing pages size db its_listing
  is_listing = record {
    t = t;
    says = says;
    table_is = refl;
    found = found ∙ ap (λ (x : database.Table). Some (ATable x)) made;
    fit = subst (λ (x : database.Table). are_rows x ≡ true) made fit_rows;
    tree = lists.tree;
    each = rows_so t (shape_of its_listing.table) lists.entries t.rows (ap (λ (x : database.Table). x.rowid_column) made) wide (second_of _ (list_all (is_row t) t.rows) fit_rows) lists.rows;
  }

-- ---- the row of an index

same_table : (s t : database.Table) → Some (ATable s) ≡ Some (ATable t) → s ≡ t
same_table s t e = cc

-- the keys of the index that the database has
abbrev with_columns : Name → Bool → Bool → Columns → Option Object
with_columns table unique automatic columns = Some (AnIndex (record { table = table; is_unique = unique; is_automatic = automatic; columns = columns }))

-- an index of the database, as its row in the schema table and its tree tell it
module _ (pages : PageMap) (size : ℕ) (db : Database) (row : SchemaRow) (i : database.Index)
    (found : object db row.name ≡ Some (AnIndex i)) (used : List ℕ) (lists : ListsEntries pages size row.root db i used) (rowid : ℤ) where
  -- under a name, on a table of this one
  abbrev pub listed_on : Index → Name → IndexListing
  listed_on index on = record { index = index; on = on; entries = entries_of_rows i.columns lists.t.rows; used = used; row = row }

  tree_by : (columns : Columns) → columns ≡ i.columns → IsIndexTree pages size row.root (collations columns) (entries_of_rows i.columns lists.t.rows) used
  tree_by columns same = subst (λ (columns : Columns). IsIndexTree pages size row.root (collations columns) (entries_of_rows i.columns lists.t.rows) used) (sym same) lists.tree

  entries_by : (columns : Columns) (t : database.Table) → columns ≡ i.columns → lists.t ≡ t → entries_of_rows i.columns lists.t.rows ≡ entries_of_rows columns t.rows
  entries_by columns t same on =
      ap (λ (t : database.Table). entries_of_rows i.columns t.rows) on
      ∙ ap (λ (columns : Columns). entries_of_rows columns t.rows) (sym same)

  -- where the row has a text
  module _ (says : IsIndexTold db row i) where
    abbrev pub its_index : IndexListing
    its_index = listed_on (index_of says.definition i.columns row.root rowid) says.definition.table

    -- its table is the one that stands in its text
    same_on : lists.t ≡ says.t
    same_on =
        same_table lists.t says.t
        (sym lists.on ∙ (ap (λ (j : database.Index). object db j.table) says.index_is ∙ (ap (λ (n : Name). find name_order n db) (folded_twice says.definition.table) ∙ says.on)))

    pub is_index : IsIndexListing pages size db its_index
    is_index = record {
      t = says.t;
      on = says.on;
      says = inl (record { i = i; says = says; index_is = refl; on_is = refl });
      name_is = says.name_is;
      found = found ∙ (ap (λ (j : database.Index). Some (AnIndex j)) says.index_is
          ∙ ap (with_columns (folded says.definition.table) says.definition.is_unique false) (sym (same_keys i.columns)));
      tree = tree_by (columns_of its_index.index) (same_keys i.columns);
      entries_are = entries_by (columns_of its_index.index) says.t (same_keys i.columns) same_on;
    }

  -- where it has none
  module _ (says : IsAutomaticRow db row i) where
    abbrev pub its_key : IndexListing
    its_key = listed_on (index_of_row row i rowid) row.table

    pub is_key : IsIndexListing pages size db its_key
    is_key = record {
      t = says.t;
      on = ap (λ (n : Name). find name_order n db) (sym (folded_twice row.table) ∙ ap folded says.table) ∙ says.on;
      says = inr (record { kind_is = says.kind; sql_is = says.sql; table_is = refl; root_is = refl; automatic = says.is_automatic; named = folded_twice row.name });
      name_is = sym (folded_twice row.name);
      found = found ∙ (ap (λ (n : Name). with_columns n i.is_unique i.is_automatic i.columns) (sym says.table)
          ∙ ap (with_columns (folded row.table) i.is_unique i.is_automatic) (sym (same_keys i.columns)));
      tree = tree_by (columns_of its_key.index) (same_keys i.columns);
      entries_are = entries_by (columns_of its_key.index) says.t (same_keys i.columns) (same_table lists.t says.t (sym lists.on ∙ says.on));
    }

-- ---- the row of a view

-- a view of the database, as its row in the schema table tells it
module _ (db : Database) (row : SchemaRow) (v : database.View) (found : object db row.name ≡ Some (AView v)) (says : IsViewRow language db row v) (rowid : ℤ) where
  abbrev pub its_view : ViewListing
  its_view = record { view = view_of says.definition rowid; row = row }

  pub is_view_listing : IsViewListing db its_view
  is_view_listing = record {
    says = view_told db row v says;
    found = found ∙ ap (λ (w : database.View). Some (AView w)) (view_is says.definition v rowid says.made);
  }

-- ---- all rows of the schema table

-- its row has the rowid of this entry
abbrev pub IsEntryOf : Entry → Item → Type 0
IsEntryOf entry item = entry.rowid ≡ rowid_of item

-- what the rows tell, on these pages
pub record AreListings (pages : PageMap) (size : ℕ) (db : Database) (entries : List Entry) (rows : List SchemaRow) (useds : List (List ℕ)) : Type 0 where
  pub items : List Item
  pub rows_are : rows_in items ≡ rows
  pub each : AllByRecursion (IsItem pages size db) items
  pub used : flat_map (λ used. used) useds ≡ used_by (owners_in items)
  pub at_rowids : Pairwise IsEntryOf entries items

-- what a row tells
record Tells (pages : PageMap) (size : ℕ) (db : Database) (rowid : ℤ) (row : SchemaRow) (used : List ℕ) : Type 0 where
  item : Item
  is : IsItem pages size db item
  row_is : row_of item ≡ row
  used_is : used ≡ pages_of item
  rowid_is : rowid ≡ rowid_of item

tells : (pages : PageMap) (size : ℕ) (db : Database) → is_in_order db ≡ true → (rowid : ℤ) (row : SchemaRow) (used : List ℕ) (o : Object) → object db row.name ≡ Some o
    → IsRowOfObject language db row o → HasPages pages size row.root db o used → Tells pages size db rowid row used
tells pages size db in_order rowid row used (ATable t) found says lists =
    let is = told db row t says in
    record {
      item = TableItem (its_listing pages size db in_order row t found is used lists rowid);
      is = is_listing pages size db in_order row t found is used lists rowid;
      row_is = refl;
      used_is = refl;
      rowid_is = refl;
    }
tells pages size db in_order rowid row used (AnIndex i) found (inl says) lists =
    let is = index_told db row i says in
    record {
      item = IndexItem (its_index pages size db row i found used lists rowid is);
      is = is_index pages size db row i found used lists rowid is;
      row_is = refl;
      used_is = refl;
      rowid_is = refl;
    }
tells pages size db in_order rowid row used (AnIndex i) found (inr says) lists = record {
  item = IndexItem (its_key pages size db row i found used lists rowid says);
  is = is_key pages size db row i found used lists rowid says;
  row_is = refl;
  used_is = refl;
  rowid_is = refl;
}
tells pages size db in_order rowid row used (AView v) found says none = record {
  item = ViewItem (its_view db row v found says rowid);
  is = is_view_listing db row v found says rowid;
  row_is = refl;
  used_is = none;
  rowid_is = refl;
}
tells pages size db in_order rowid row used (ATrigger d) found says none = record {
  item = TriggerItem (record { trigger = trigger_of d rowid; row = row });
  is = record { says = trigger_told db row d says; found = found };
  row_is = refl;
  used_is = none;
  rowid_is = refl;
}

pub listings : (pages : PageMap) (size : ℕ) (db : Database) → is_in_order db ≡ true → (entries : List Entry) (rows : List SchemaRow) (useds : List (List ℕ))
    → Pairwise IsSchemaEntry entries rows → AllByRecursion (IsSchemaRowOf language db) rows → Pairwise (HasTree pages size db) rows useds → AreListings pages size db entries rows useds
listings pages size db in_order (entry ∷ entries) [] useds read each trees = absurd read
listings pages size db in_order [] (row ∷ rows) useds read each trees = absurd read
listings pages size db in_order [] [] [] read each trees = record { items = []; rows_are = refl; each = tt; used = refl; at_rowids = tt }
listings pages size db in_order [] [] (used ∷ useds) read each trees = absurd trees
listings pages size db in_order (entry ∷ entries) (row ∷ rows) [] read each trees = absurd trees
listings pages size db in_order (entry ∷ entries) (row ∷ rows) (used ∷ useds) read each trees =
    let more : AreListings pages size db entries rows useds = listings pages size db in_order entries rows useds read.1 each.1 trees.1 in
    let same : trees.0.is ≡ each.0.is = same_some trees.0.is each.0.is (sym trees.0.found ∙ each.0.found) in
    let first : Tells pages size db entry.rowid row used =
    tells pages size db in_order entry.rowid row used each.0.is each.0.found each.0.says (subst (λ (o : Object). HasPages pages size row.root db o used) same trees.0.lists) in
    record {
      items = first.item ∷ more.items;
      rows_are = ap (λ (r : SchemaRow). r ∷ rows_in more.items) first.row_is ∙ ap (λ (rs : List SchemaRow). row ∷ rs) more.rows_are;
      each = (first.is, more.each);
      used = ap (λ (ns : List ℕ). ns ++ flat_map (λ ms. ms) useds) first.used_is
          ∙ (ap (λ (ns : List ℕ). pages_of first.item ++ ns) more.used ∙ used_more first.item (owners_in more.items));
      at_rowids = (first.rowid_is, more.at_rowids);
    }
