-- The database of the tables, indexes, views and triggers that the schema's rows tell: its objects, by their names.
use Rattle.std.proofs.Common.{◌≡◌, ◌⊎◌, inl, inr, refl, sym, ap, ap₂, subst, ◌∙◌, ℕ, Bool, true, false, not, ◌||◌, cond, List, [], ◌∷◌, ◌++◌, map, flat_map, Option, Some, None}
use Rattle.std.proofs.lemmas.Bool.{false≢true}
use Rattle.std.specs.FinMap.Entries.{find}
use Rattle.std.specs.List as list
use Rattle.std.specs.List.{AllByRecursion, list_all, list_any}
use Rattle.std.specs.Prelude.{option_map}
use Rattle.sqlval.specs.Lists.{any_twice, is_rising, sorted}
use Rattle.sqlval.specs.Names.{folded, is_same_name}
use Rattle.pages.specs.Map.{PageMap}
use Rattle.catalog.specs.Database.{Name, Database, Object, ATable, AnIndex, name_order, object}
use Rattle.catalog.specs.Listed.{Listed, Lists, are_named_once, index_objects, named_among, names_of, as_index, with_rows, table_named, treeless_names, treeless_objects, trigger_object, view_object}
use Rattle.catalog.specs.Named.{IsNamed, IsOfListed}
use Rattle.catalog.specs.Rows.{holds_rows, is_in_order}
use Rattle.catalog.specs.declared.tables.Index.{Index}
use Rattle.catalog.specs.declared.tables.Table.{Table}
use Rattle.catalog.specs.declared.tables.Trigger.{Trigger}
use Rattle.catalog.specs.declared.tables.View.{View}
use Rattle.catalog.proofs.Found.{as_object, behind_found, listed_as}
use Rattle.query_names.proofs.ColumnNames.{folded_twice}
use Rattle.query_bind.specs.Triggers.{FitsTarget, KnowsTriggers}
use Rattle.db_files.specs.Schema.{SchemaRow, automatic_indexes}
use Rattle.db_layout.specs.Trees.{columns_of}
use Rattle.row_scan.specs.Rows.{TableRow}
use Rattle.db_pages.specs.Schema.{HasKeyIndexes, automatic_objects, due_objects}
use Rattle.db_pages.proofs.AutomaticObjects.{are_due, each_kept}
use Rattle.db_pages.proofs.NamedObjects.{behind_names, one_among, own_names}
use Rattle.db_pages.proofs.Reordering.{reordered_all, reordered_map}
use Rattle.db_pages.proofs.SortedObjects.{HaveFoldedNames, by_name}
use Rattle.db_pages.proofs.StoredShares.{AllApart, GoesWithOne, apart_reordered, theirs}
use Rattle.db_pages.proofs.StoredNames.{Misses, all_sorted, first_of, missed, names_in, named_same, same_named, some_is_none}
use Rattle.db_pages.proofs.StoredListings.{IndexItem, IndexListing, IsIndexListing, IsItem, IsListing, IsOfKey, IsOfText, IsTriggerListing, IsViewListing, Item, Listing, TableItem, TriggerItem, ViewItem, by_kind, row_of, rows_in}
use Rattle.db_pages.proofs.StoredApart.{NamesApart, RootsApart, Stands, all_both, all_joined, all_parts, all_so, all_stand, content_at, from_map, index_row_named, indexes_among, of_indexes, of_items, of_tables, of_triggers, of_views, onto_map, onto_names, other_name, row_named, row_names, tables_among, triggers_among, views_among}
use Rattle.db_pages.proofs.StoredHomes.{HasHome, IsFoundIn, IsFoundWith, IsHome, all_listed, all_theirs, each_found as all_found, found_with, home, is_on, none_named, on_one, tables_in, triggers_in, views_in, with_indexes}
use Rattle.db_pages.proofs.StoredOrders.{index_name, names_reordered, table_name, trigger_name, view_name}

-- ---- names of rows and of objects

-- the names of the objects are those of the rows
abbrev pub IsNamedBy : List SchemaRow → Database → Type 0
IsNamedBy rows db = sorted name_order (row_names rows) ≡ names_in db

pub all_names : (P : Name → Type 0) (rows : List SchemaRow) (db : Database) → IsNamedBy rows db → AllByRecursion P (row_names rows) → AllByRecursion P (names_in db)
all_names P rows db names h = subst (AllByRecursion P) names (all_sorted P (row_names rows) h)

-- a name that no row has finds nothing
pub missed_by : (db : Database) (rows : List SchemaRow) → IsNamedBy rows db → (q : Name) → Misses q (row_names rows) → find name_order q db ≡ None
missed_by db rows names q none = missed db q (all_names (λ n. q ≡ n → ⊥) rows db names none)

onto_objects : (P : Name → Type 0) (es : Database) → AllByRecursion P (names_in es) → AllByRecursion (λ e. P e.0) es
onto_objects P [] h = tt
onto_objects P (e ∷ es) h = (h.0, onto_objects P es h.1)

-- ---- the database

-- These are the tables, indexes, views and triggers of the database, and each table has a tree of its own.
pub record AreObjects (pages : PageMap) (size : ℕ) (db : Database) (items : List Item) : Type 0 where
  pub each : AllByRecursion (IsItem pages size db) items
  pub apart : AllApart (row_names (rows_in items))
  pub tables_apart : NamesApart (tables_among items)
  pub roots : RootsApart (tables_among items)
  pub names : IsNamedBy (rows_in items) db
  pub in_order : is_in_order db ≡ true

-- an index under its name
abbrev object_of : List IndexListing → Listing → IndexListing → Name × Object
object_of indexes l i = (i.index.name, AnIndex (as_index (with_indexes indexes l) i.index))

-- the database has the object under its name
abbrev IsObject : Database → Name × Object → Type 0
IsObject db o = object db o.0 ≡ Some o.1

-- what is found among objects of the database is found there
found_object : (db : Database) (name : Name) (objects : List (Name × Object)) (o : Object) → AllByRecursion (IsObject db) objects → named_among name objects ≡ Some o → object db name ≡ Some o
found_object db name [] o all found = some_is_none o (sym found)
found_object db name (x ∷ objects) o all found = by_test (found_object db name objects o all.1) (is_same_name x.0 name) refl found
  where
    by_test : (named_among name objects ≡ Some o → object db name ≡ Some o) → (b : Bool) → is_same_name x.0 name ≡ b
        → option_map (λ (y : Name × Object). y.1) (cond b (Some x) (list.find (λ (y : Name × Object). is_same_name y.0 name) objects)) ≡ Some o → object db name ≡ Some o
    by_test rest true is found = ap (λ n. find name_order n db) (sym (named_same x.0 name is)) ∙ (all.0 ∙ found)
    by_test rest false is found = rest found

-- another name
abbrev Others : Name → Name → Type 0
Others name other = folded other ≡ folded name → ⊥

-- where a name finds none of the objects, none has it
none_of : (name : Name) (os : List (Name × Object)) → named_among name os ≡ None → AllByRecursion (Others name) (own_names os)
none_of name [] none = tt
none_of name (o ∷ os) none = by_test (none_of name os) (is_same_name o.0 name) refl (sym (one_among name o os) ∙ none)
  where
    by_test : (named_among name os ≡ None → AllByRecursion (Others name) (own_names os)) → (b : Bool) → is_same_name o.0 name ≡ b → cond b (Some o.1) (named_among name os) ≡ None
        → AllByRecursion (Others name) (own_names (o ∷ os))
    by_test rest true is none = some_is_none o.1 none
    by_test rest false is none = ((λ same. false≢true (sym is ∙ same_named o.0 name same)), rest none)

-- where none is found behind the tables, no view, no trigger and no index has the name
none_behind : (name : Name) (l : Listed) → behind_found name l ≡ None
    → AllByRecursion (Others name) (treeless_names l ++ flat_map (λ t. map (λ i. i.name) t.indexes) l.tables)
none_behind name l none =
    subst (λ (ns : List Name). AllByRecursion (Others name) ns) (behind_names l)
    (none_of name (treeless_objects l ++ flat_map index_objects l.tables) none)

-- names whose folded ones differ
any_named : (name : Name) (names : List Name) → AllByRecursion (λ n. folded name ≡ n → ⊥) (map folded names) → list_any (is_same_name name) names ≡ false
any_named name [] misses = refl
any_named name (n ∷ names) misses =
    ap (λ b. b || list_any (is_same_name name) names) (other_name name n misses.0) ∙ any_named name names misses.1

named_once : (names : List Name) → AllApart (map folded names) → any_twice is_same_name names ≡ false
named_once [] apart = refl
named_once (n ∷ names) apart =
    ap (λ b. b || any_twice is_same_name names) (any_named n names apart.0) ∙ named_once names apart.1

module _ (pages : PageMap) (size : ℕ) (db : Database) (items : List Item) (are : AreObjects pages size db items) where
  abbrev tables : List Listing
  tables = tables_among items

  abbrev indexes : List IndexListing
  indexes = indexes_among items

  each_table : AllByRecursion (IsListing pages size db) tables
  each_table = of_tables (IsItem pages size db) items are.each

  pub each_index : AllByRecursion (IsIndexListing pages size db) indexes
  each_index = of_indexes (IsItem pages size db) items are.each

  each_view : AllByRecursion (IsViewListing db) (views_among items)
  each_view = of_views (IsItem pages size db) items are.each

  each_trigger : AllByRecursion (IsTriggerListing db) (triggers_among items)
  each_trigger = of_triggers (IsItem pages size db) items are.each

  pub stand : AllByRecursion (Stands pages size db tables) tables
  stand = all_stand pages size db tables each_table are.roots

  homes_are : AllByRecursion (IsHome items) indexes
  homes_are =
      all_so (IsIndexListing pages size db) (IsHome items) (home pages size db items are.each (missed_by db (rows_in items) are.names)) indexes each_index

  pub homes_all : AllByRecursion (HasHome items) items
  homes_all = of_items (HasHome items) items (all_so (IsListing pages size db) (λ l. HasHome items (TableItem l)) (λ l is. tt) tables each_table) homes_are
      (all_so (IsViewListing db) (λ l. HasHome items (ViewItem l)) (λ l is. tt) (views_among items) each_view)
      (all_so (IsTriggerListing db) (λ l. HasHome items (TriggerItem l)) (λ l is. tt) (triggers_among items) each_trigger)

  -- each index is on one table
  pub on_ones : AllByRecursion (λ i. GoesWithOne is_on i tables) indexes
  on_ones = all_so (IsHome items) (λ i. GoesWithOne is_on i tables) (λ i is. on_one indexes i tables is.t are.tables_apart is.found) indexes homes_are

  pub named : IsNamed db
  named = record {
    rising = first_of (is_rising name_order (names_in db)) (list_all (λ o. holds_rows o.1) db) are.in_order;
    each_folded =
        onto_objects (λ n. folded n ≡ n) db (all_names (λ n. folded n ≡ n) (rows_in items) db are.names
        (onto_names (λ n. folded n ≡ n) items (all_so (IsItem pages size db) (λ item. folded (folded (row_of item).name) ≡ folded (row_of item).name) (λ item is. folded_twice (row_of item).name) items are.each)));
  }

  -- ---- objects by their names

  index_is : (l : Listing) (i : IndexListing) → IsIndexListing pages size db i → is_on l i ≡ true → IsObject db (object_of indexes l i)
  index_is l i is on =
      ap (λ n. find name_order n db) (sym (index_row_named pages size db i is))
      ∙ (is.found
      ∙ ap (λ n. Some (AnIndex (record { table = n; is_unique = i.index.is_unique; is_automatic = i.index.is_automatic; columns = columns_of i.index }))) (sym (named_same l.table.name i.on on)))

  -- all indexes are objects of the database
  indexes_are : AllByRecursion (IsObject db) (flat_map index_objects (tables_in items))
  indexes_are =
      all_parts (IsObject db) index_objects (tables_in items)
      (onto_map (λ t. AllByRecursion (IsObject db) (index_objects t)) (with_indexes indexes) tables
      (all_so (IsListing pages size db) (λ l. AllByRecursion (IsObject db) (index_objects (with_indexes indexes l)))
      (λ l table. onto_map (IsObject db) (λ (i : Index). (i.name, AnIndex (as_index (with_indexes indexes l) i))) (map (λ i. i.index) (theirs is_on indexes l))
      (onto_map (λ (i : Index). IsObject db (i.name, AnIndex (as_index (with_indexes indexes l) i))) (λ i. i.index) (theirs is_on indexes l)
      (all_theirs (λ i. IsObject db (object_of indexes l i)) l indexes
      (all_so (IsIndexListing pages size db) (λ i. is_on l i ≡ true → IsObject db (object_of indexes l i)) (λ i is on. index_is l i is on) indexes each_index))))
      tables each_table))

  -- and so are all views
  views_are : AllByRecursion (IsObject db) (map view_object (views_in items))
  views_are =
      onto_map (IsObject db) view_object (views_in items) (onto_map (λ (v : View). IsObject db (view_object v)) (λ l. l.view) (views_among items)
      (all_so (IsViewListing db) (λ l. IsObject db (view_object l.view)) (λ l is. ap (λ n. find name_order n db) (sym is.says.name_is) ∙ is.found) (views_among items) each_view))

  -- and all triggers
  triggers_are : AllByRecursion (IsObject db) (map trigger_object (triggers_in items))
  triggers_are =
      onto_map (IsObject db) trigger_object (triggers_in items) (onto_map (λ (g : Trigger). IsObject db (trigger_object g)) (λ l. l.trigger) (triggers_among items)
      (all_so (IsTriggerListing db) (λ l. IsObject db (trigger_object l.trigger)) (λ l is. ap (λ n. find name_order n db) (sym is.says.name_is) ∙ is.found) (triggers_among items) each_trigger))

  behind_are : AllByRecursion (IsObject db) (treeless_objects (all_listed items) ++ flat_map index_objects (tables_in items))
  behind_are =
      all_joined (IsObject db) (treeless_objects (all_listed items)) (flat_map index_objects (tables_in items))
      (all_joined (IsObject db) (map view_object (views_in items)) (map trigger_object (triggers_in items)) views_are triggers_are) indexes_are

  -- a listed table is found in the database
  found_listed : (name : Name) (t : Table) → IsFoundWith indexes (Stands pages size db tables) name t → object db name ≡ Some (ATable (with_rows t (content_at tables t.root)))
  found_listed name t f =
      ap (λ n. find name_order n db) (sym (row_named pages size db f.l f.holds.is ∙ f.same))
      ∙ (f.holds.is.found ∙ (ap (λ (rows : List TableRow). Some (ATable (with_rows f.l.table rows))) (sym f.holds.content_is)
      ∙ ap (λ (u : Table). Some (ATable (with_rows u (content_at tables u.root)))) f.table_is))

  -- what none of them has as its name is no name of the database
  abbrev own_name : Item → Name
  own_name item = by_kind table_name index_name view_name trigger_name item

  own_named : (item : Item) → IsItem pages size db item → folded (row_of item).name ≡ folded (own_name item)
  own_named (TableItem l) is = row_named pages size db l is
  own_named (IndexItem l) is = index_row_named pages size db l is
  own_named (ViewItem l) is = is.says.name_is
  own_named (TriggerItem l) is = is.says.name_is

  not_listed : (name : Name) → table_named name (tables_in items) ≡ None → behind_found name (all_listed items) ≡ None → object db name ≡ None
  not_listed name no_table none =
      missed_by db (rows_in items) are.names (folded name) (onto_names (λ n. folded name ≡ n → ⊥) items
      (all_both (IsItem pages size db) (λ item. Others name (own_name item)) (λ item. folded name ≡ folded (row_of item).name → ⊥)
      (λ item is other same. other (sym (same ∙ own_named item is))) items are.each
      (from_map (Others name) own_name items (reordered_all (Others name) (map own_name items) (names_of (all_listed items)) (names_reordered items on_ones)
      (all_joined (Others name) (map (λ t. t.name) (tables_in items)) (treeless_names (all_listed items) ++ flat_map (λ t. map (λ i. i.name) t.indexes) (tables_in items))
      (onto_map (Others name) (λ (t : Table). t.name) (tables_in items) (onto_map (λ (t : Table). Others name t.name) (with_indexes indexes) tables (none_named indexes tables name no_table)))
      (none_behind name (all_listed items) none))))))

  pub lists : Lists (content_at tables) (all_listed items) db
  lists name = by_found (table_named name (tables_in items)) refl ∙ sym (listed_as (content_at tables) name (all_listed items))
    where
      behind : Option Object
      behind = behind_found name (all_listed items)

      by_behind : (found : Option Object) → table_named name (tables_in items) ≡ None → behind_found name (all_listed items) ≡ found → object db name ≡ found
      by_behind (Some o) none found = found_object db name (treeless_objects (all_listed items) ++ flat_map index_objects (tables_in items)) o behind_are found
      by_behind None none found = not_listed name none found

      by_found : (found : Option Table) → table_named name (tables_in items) ≡ found → object db name ≡ as_object (content_at tables) behind (table_named name (tables_in items))
      by_found (Some t) found =
          found_listed name t (found_with indexes (Stands pages size db tables) tables name t stand found)
          ∙ ap (as_object (content_at tables) behind) (sym found)
      by_found None found = by_behind behind found refl ∙ ap (as_object (content_at tables) behind) (sym found)

  -- ---- names, each once

  same_names : (some : List Item) → AllByRecursion (IsItem pages size db) some → row_names (rows_in some) ≡ map folded (map own_name some)
  same_names [] each = refl
  same_names (item ∷ some) each = ap₂ (λ n ns. n ∷ ns) (own_named item each.0) (same_names some each.1)

  pub once_named : are_named_once (all_listed items) ≡ true
  once_named =
      ap not (named_once (names_of (all_listed items)) (apart_reordered (map folded (map own_name items)) (map folded (names_of (all_listed items)))
      (reordered_map folded (map own_name items) (names_of (all_listed items)) (names_reordered items on_ones))
      (subst (λ (ns : List Name). AllApart ns) (same_names items are.each) are.apart)))

  pub of_these : IsOfListed (content_at tables) (all_listed items) db
  of_these = record { lists = lists; named = named; once = once_named }

  -- ---- what triggers are on

  -- each trigger fits what its ON names beside what is listed
  pub fit_targets : KnowsTriggers → AllByRecursion (λ g. FitsTarget (all_listed items) g.definition) (triggers_in items)
  fit_targets knows =
      onto_map (λ (g : Trigger). FitsTarget (all_listed items) g.definition) (λ l. l.trigger) (triggers_among items)
      (all_so (IsTriggerListing db) (λ l. FitsTarget (all_listed items) l.trigger.definition)
      (λ l is. sym (knows (content_at tables) (all_listed items) db l.trigger.definition lists) ∙ is.says.fits) (triggers_among items) each_trigger)

  -- ---- the indexes that keys ask for

  -- an automatic index has a folded name
  named_folded : (i : IndexListing) → IsIndexListing pages size db i → i.index.is_automatic ≡ true → folded i.index.name ≡ i.index.name
  named_folded i is made = by_row is.says
    where
      by_row : IsOfText db i ⊎ IsOfKey i → folded i.index.name ≡ i.index.name
      by_row (inl text) = absurd (false≢true (sym (ap (λ (j : Index). j.is_automatic) text.index_is) ∙ made))
      by_row (inr key) = key.named

  automatic_folded : (l : Listing) → HaveFoldedNames (automatic_objects (with_indexes indexes l))
  automatic_folded l =
      each_kept (λ (i : Index). i.is_automatic) (λ (i : Index). (i.name, AnIndex (as_index (with_indexes indexes l) i))) (λ (o : Name × Object). folded o.0 ≡ o.0) (map (λ i. i.index) (theirs is_on indexes l))
      (onto_map (λ (i : Index). i.is_automatic ≡ true → folded i.name ≡ i.name) (λ i. i.index) (theirs is_on indexes l)
      (all_theirs (λ i. i.index.is_automatic ≡ true → folded i.index.name ≡ i.index.name) l indexes
      (all_so (IsIndexListing pages size db) (λ i. is_on l i ≡ true → i.index.is_automatic ≡ true → folded i.index.name ≡ i.index.name) (λ i is on. named_folded i is) indexes each_index)))

  -- the row of a table tells those of the database
  due_are : (l : Listing) → IsListing pages size db l → sorted by_name (due_objects l.table) ≡ automatic_indexes db l.table.name
  due_are l is = subst (λ (t : Table). sorted by_name (due_objects t) ≡ automatic_indexes db t.name) (sym is.table_is) is.says.automatic_are

  pub has_keys : AllByRecursion HasKeyIndexes (tables_in items)
  has_keys =
      onto_map HasKeyIndexes (with_indexes indexes) tables
      (all_both (IsListing pages size db) (IsFoundIn indexes tables) (λ l. HasKeyIndexes (with_indexes indexes l))
      (λ l is found. are_due (content_at tables) (all_listed items) db of_these (with_indexes indexes l) (found l.table.name (same_named l.table.name l.table.name refl)) (automatic_folded l) (due_are l is))
      tables each_table (all_found indexes tables are.tables_apart))
