-- What the rows tell, the names and the trees: in the order of the rows, and in that of the tables with their indexes, the views and the triggers.
use Rattle.std.proofs.Common.{◌≡◌, refl, sym, ap, ap₂, ◌∙◌, append_assoc, pos, Bool, true, false, cond, List, [], ◌∷◌, ◌++◌, map, flat_map, Option, None}
use Rattle.std.specs.List.{AllByRecursion}
use Rattle.std.specs.Prelude.{unwrap_or}
use Rattle.catalog.specs.Database.{Name}
use Rattle.catalog.specs.Listed.{names_of, table_named, treeless_names}
use Rattle.catalog.specs.declared.tables.Index.{Index}
use Rattle.catalog.specs.declared.tables.Table.{Table}
use Rattle.catalog.specs.declared.tables.Trigger.{Trigger}
use Rattle.catalog.specs.declared.tables.View.{View}
use Rattle.db_layout.specs.Layout.{Owner}
use Rattle.db_pages.specs.Reordering.{AreReordered}
use Rattle.db_pages.specs.Schema.{Told, TableTold, IndexTold, TriggerTold, ViewTold, all_told, tables_told}
use Rattle.db_pages.specs.Stored.{all_trees}
use Rattle.db_pages.proofs.Reordering.{is_reordered, reordered_both, reordered_is, reordered_refl, reordered_swapped, reordered_trans}
use Rattle.db_pages.proofs.StoredShares.{GoesWithOne, flat_none, flat_ones, nothing_of, shared_out, theirs, with_theirs}
use Rattle.db_pages.proofs.StoredListings.{IndexListing, Item, Listing, by_kind, index_tree, listed_tree, owners_in}
use Rattle.db_pages.proofs.StoredApart.{indexes_among, split_items, split_trees, tables_among, triggers_among, views_among}
use Rattle.db_pages.proofs.StoredHomes.{IsFoundIn, all_listed, is_on, tables_in, triggers_in, views_in, with_indexes}
use Rattle.db_pages.proofs.StoredTriggers.{TriggerListing}
use Rattle.db_pages.proofs.StoredViews.{ViewListing}

map_twice : {A B C : Type 0} (g : B → C) (f : A → B) (xs : List A) → map g (map f xs) ≡ map (λ x. g (f x)) xs
map_twice g f [] = refl
map_twice g f (x ∷ xs) = ap (λ zs. g (f x) ∷ zs) (map_twice g f xs)

-- ---- what is told

abbrev pub no_table : Table
no_table = record { name = []; columns = []; rowid_column = None; checks = []; keys = []; indexes = []; root = 0; rowid = pos 0 }

-- the table of a name
abbrev pub table_for : List Item → Name → Table
table_for items name = unwrap_or (table_named name (tables_in items)) no_table

-- what a row tells
abbrev pub table_told : List Item → Listing → Told
table_told items l = TableTold (with_indexes (indexes_among items) l)

abbrev pub index_told : List Item → IndexListing → Told
index_told items i = IndexTold (table_for items i.on) i.index

abbrev pub view_told : ViewListing → Told
view_told l = ViewTold l.view

abbrev pub trigger_told : TriggerListing → Told
trigger_told l = TriggerTold l.trigger

abbrev pub told_of : List Item → Item → Told
told_of items item = by_kind (table_told items) (index_told items) view_told trigger_told item

-- its name
abbrev pub table_name : Listing → Name
table_name l = l.table.name

abbrev pub index_name : IndexListing → Name
index_name i = i.index.name

abbrev pub view_name : ViewListing → Name
view_name l = l.view.definition.name

abbrev pub trigger_name : TriggerListing → Name
trigger_name l = l.trigger.definition.name

-- some in another order, and the others as they are
with_others : {X : Type 0} (xs ys us vs : List X) → us ≡ vs → AreReordered xs ys → AreReordered (xs ++ us) (ys ++ vs)
with_others xs ys us vs same moved = reordered_both xs ys us vs moved (reordered_is us us vs same (reordered_refl us))

module _ (items : List Item) where
  abbrev tables : List Listing
  tables = tables_among items

  abbrev indexes : List IndexListing
  indexes = indexes_among items

  -- the indexes of a table that each finds are told with it
  indexes_told : (l : Listing) (t : Table) (some : List IndexListing) → ((i : IndexListing) → is_on l i ≡ true → table_for items i.on ≡ t)
      → map (index_told items) (theirs is_on some l) ≡ map (λ index. IndexTold t index) (map (λ i. i.index) (theirs is_on some l))
  indexes_told l t [] found = refl
  indexes_told l t (i ∷ some) found = by_test (is_on l i) refl (indexes_told l t some found)
    where
      by_test : (b : Bool) → is_on l i ≡ b → map (index_told items) (theirs is_on some l) ≡ map (λ index. IndexTold t index) (map (λ i. i.index) (theirs is_on some l))
          → map (index_told items) (cond b (i ∷ theirs is_on some l) (theirs is_on some l)) ≡ map (λ index. IndexTold t index) (map (λ i. i.index) (cond b (i ∷ theirs is_on some l) (theirs is_on some l)))
      by_test true is rest = ap₂ (λ u zs. IndexTold u i.index ∷ zs) (found i is) rest
      by_test false is rest = rest

  tables_so : (some : List Listing) → AllByRecursion (IsFoundIn indexes tables) some
      → with_theirs is_on (λ l. table_told items l ∷ []) (index_told items) indexes some ≡ tables_told (map (with_indexes indexes) some)
  tables_so [] found = refl
  tables_so (l ∷ some) found =
      ap₂ (λ (a b : List Told). (table_told items l ∷ a) ++ b)
      (indexes_told l (with_indexes indexes l) indexes (λ i is. ap (λ (o : Option Table). unwrap_or o no_table) (found.0 i.on is)))
      (tables_so some found.1)

  -- what is told of those that have no tree
  abbrev treeless_told : List Told
  treeless_told = map view_told (views_among items) ++ map trigger_told (triggers_among items)

  treeless_so : treeless_told ≡ map ViewTold (views_in items) ++ map TriggerTold (triggers_in items)
  treeless_so = ap₂ (λ (a b : List Told). a ++ b) (sym (map_twice ViewTold (λ l. l.view) (views_among items))) (sym (map_twice TriggerTold (λ l. l.trigger) (triggers_among items)))

  pub told_reordered : AllByRecursion (IsFoundIn indexes tables) tables → AllByRecursion (λ i. GoesWithOne is_on i tables) indexes → AreReordered (map (told_of items) items) (all_told (all_listed items))
  told_reordered found one =
      reordered_trans (map (told_of items) items) ((flat_map (λ l. table_told items l ∷ []) tables ++ map (index_told items) indexes) ++ treeless_told) (all_told (all_listed items))
      (split_items (table_told items) (index_told items) view_told trigger_told items)
      (with_others (flat_map (λ l. table_told items l ∷ []) tables ++ map (index_told items) indexes) (tables_told (tables_in items)) treeless_told
      (map ViewTold (views_in items) ++ map TriggerTold (triggers_in items)) treeless_so
      (reordered_is (flat_map (λ l. table_told items l ∷ []) tables ++ map (index_told items) indexes)
      (with_theirs is_on (λ l. table_told items l ∷ []) (index_told items) indexes tables) (tables_told (tables_in items)) (tables_so tables found)
      (shared_out is_on (λ l. table_told items l ∷ []) (index_told items) tables indexes one)))

  -- ---- names

  index_names : (some : List Listing) → with_theirs is_on nothing_of index_name indexes some ≡ flat_map (λ t. map (λ i. i.name) t.indexes) (map (with_indexes indexes) some)
  index_names [] = refl
  index_names (l ∷ some) = ap₂ (λ (a b : List Name). a ++ b) (sym (map_twice (λ (i : Index). i.name) (λ i. i.index) (theirs is_on indexes l))) (index_names some)

  -- the names of tables, those of what has no tree, and those of indexes
  abbrev of_tables : List Name
  of_tables = map (λ t. t.name) (tables_in items)

  abbrev of_treeless : List Name
  of_treeless = treeless_names (all_listed items)

  abbrev of_indexes : List Name
  of_indexes = flat_map (λ t. map (λ i. i.name) t.indexes) (tables_in items)

  tables_and_indexes : AllByRecursion (λ i. GoesWithOne is_on i tables) indexes → AreReordered (flat_map (λ l. table_name l ∷ []) tables ++ map index_name indexes) (of_tables ++ of_indexes)
  tables_and_indexes one =
      reordered_both (flat_map (λ l. table_name l ∷ []) tables) of_tables (map index_name indexes) of_indexes
      (reordered_is (flat_map (λ l. table_name l ∷ []) tables) (flat_map (λ l. table_name l ∷ []) tables) of_tables
      (flat_ones table_name tables ∙ sym (map_twice (λ (t : Table). t.name) (with_indexes indexes) tables)) (reordered_refl (flat_map (λ l. table_name l ∷ []) tables)))
      (reordered_is (map index_name indexes) (with_theirs is_on nothing_of index_name indexes tables) of_indexes (index_names tables)
      (is_reordered (flat_map nothing_of tables ++ map index_name indexes) (map index_name indexes) (with_theirs is_on nothing_of index_name indexes tables)
      (ap (λ (zs : List Name). zs ++ map index_name indexes) (flat_none tables)) (shared_out is_on nothing_of index_name tables indexes one)))

  abbrev treeless_here : List Name
  treeless_here = map view_name (views_among items) ++ map trigger_name (triggers_among items)

  same_treeless : treeless_here ≡ of_treeless
  same_treeless =
      ap₂ (λ (a b : List Name). a ++ b) (sym (map_twice (λ (v : View). v.definition.name) (λ l. l.view) (views_among items)))
      (sym (map_twice (λ (g : Trigger). g.definition.name) (λ l. l.trigger) (triggers_among items)))

  pub names_reordered : AllByRecursion (λ i. GoesWithOne is_on i tables) indexes → AreReordered (map (λ item. by_kind table_name index_name view_name trigger_name item) items) (names_of (all_listed items))
  names_reordered one =
      reordered_trans (map (λ item. by_kind table_name index_name view_name trigger_name item) items) ((flat_map (λ l. table_name l ∷ []) tables ++ map index_name indexes) ++ treeless_here)
      (of_tables ++ (of_treeless ++ of_indexes))
      (split_items table_name index_name view_name trigger_name items)
      (reordered_trans ((flat_map (λ l. table_name l ∷ []) tables ++ map index_name indexes) ++ treeless_here) ((of_tables ++ of_indexes) ++ of_treeless) (of_tables ++ (of_treeless ++ of_indexes))
      (with_others (flat_map (λ l. table_name l ∷ []) tables ++ map index_name indexes) (of_tables ++ of_indexes) treeless_here of_treeless same_treeless
      (tables_and_indexes one))
      (is_reordered (of_tables ++ (of_indexes ++ of_treeless)) ((of_tables ++ of_indexes) ++ of_treeless) (of_tables ++ (of_treeless ++ of_indexes)) (sym (append_assoc of_tables of_indexes of_treeless))
      (reordered_both of_tables of_tables (of_indexes ++ of_treeless) (of_treeless ++ of_indexes) (reordered_refl of_tables) (reordered_swapped of_indexes of_treeless))))

  -- ---- trees

  -- the trees of a table: its own, and those of its indexes
  abbrev pub trees_of : Listing → List Owner
  trees_of l = listed_tree l ∷ map index_tree (theirs is_on indexes l)

  abbrev pub held_by : List (List Owner)
  held_by = map trees_of tables

  trees_held : (some : List Listing) → with_theirs is_on (λ l. listed_tree l ∷ []) index_tree indexes some ≡ all_trees (map trees_of some)
  trees_held [] = refl
  trees_held (l ∷ some) = ap (λ (os : List Owner). trees_of l ++ os) (trees_held some)

  pub trees_reordered : AllByRecursion (λ i. GoesWithOne is_on i tables) indexes → AreReordered (owners_in items) (all_trees held_by)
  trees_reordered one =
      reordered_trans (owners_in items) (flat_map (λ l. listed_tree l ∷ []) tables ++ map index_tree indexes) (all_trees held_by)
      (split_trees items)
      (reordered_is (flat_map (λ l. listed_tree l ∷ []) tables ++ map index_tree indexes) (with_theirs is_on (λ l. listed_tree l ∷ []) index_tree indexes tables) (all_trees held_by)
      (trees_held tables) (shared_out is_on (λ l. listed_tree l ∷ []) index_tree tables indexes one))
