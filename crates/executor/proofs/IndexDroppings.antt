-- What a DROP INDEX comes to on the database that pages hold.
use Rattle.std.proofs.Common.{◌≡◌, ◌≤◌, inl, inr, refl, sym, ap, subst, ◌∙◌, ℕ, Bool, true, false, map, not, filter, List, [], ◌∷◌, ◌++◌, append_assoc, length, Option, Some, None, Ok, Err, arith}
use Rattle.std.specs.Prelude.{MatchOption}
use Rattle.std.specs.FinMap.Entries as entries
use Rattle.std.specs.List.{AllByRecursion, find, list_any}
use Rattle.sqlval.specs.Names.{is_same_name}
use Rattle.sqlval.specs.Refusals.{Misuse}
use Rattle.sqlval.specs.declared.fault.Fault.{Fault}
use Rattle.sqlval.specs.declared.fault.Fault.TheVariants as fault
use Rattle.sqlval.specs.declared.fault.Misuse as misuse
use Rattle.sql_syntax.specs.declared.statement.ObjectKind.TheVariants as kind
use Rattle.tree_leaf.specs.Leaf.{Entry}
use Rattle.pages.specs.Map.{PageMap}
use Rattle.tree_table.specs.Calls.{BecomesRows, Stands}
use Rattle.tree_table.specs.Rows.{payload_at, without_row}
use Rattle.catalog.specs.Database.{Database, Name, Object, ATable, AnIndex, AView, name_order, object}
use Rattle.catalog.specs.Listed.{has_index, is_on, as_index, as_view, table_named, table_with_index, with_replaced, with_rows, Listed, view_named}
use Rattle.catalog.specs.Laws.{IsNoSource, IsNoTable}
use Rattle.catalog.specs.Named.{IsOfListed, without}
use Rattle.catalog.specs.NewIndexes.{ListsOtherIndexes, without_index, replacing}
use Rattle.catalog.specs.declared.tables.Index.{Index}
use Rattle.catalog.specs.declared.tables.Table.{Table}
use Rattle.catalog.proofs.Found.{as_object, listed_as, behind_found, finds_listed}
use Rattle.query_names.specs.Checked.{good, unless}
use Rattle.query_names.specs.Schema.{dropped}
use Rattle.row_scan.proofs.TreeOrder.{tree_rises}
use Rattle.row_scan.specs.Rows.{TableRow}
use Rattle.db_layout.specs.Layout.{Owner, ReplacesTrees, TreesStand}
use Rattle.db_layout.specs.Trees.{AreAmong}
use Rattle.db_write.specs.Changing.{FreesIndex, with_indexes}
use Rattle.db_pages.specs.Schema.{AreRowsOf, HasKeyIndexes, IndexTold, TableTold, Told, all_told, told_by, tables_told}
use Rattle.db_pages.specs.Stored.{Stores, all_trees, schema_tree}
use Rattle.executor.specs.Changing.{IsChangeRefusal, IsIndexIn, IsMade}
use Rattle.executor.specs.Works.{Reaches, RefusesWith, change_made, of_known}
use Rattle.executor.proofs.Droppings.{dropping}
use Rattle.executor.proofs.FoundTables.{indexes_listed}
use Rattle.executor.specs.Holding.{HoldsTrees}
use Rattle.executor.proofs.HeldTrees.{among, changed, page_size, rows_with, schema_stands, stores_of, trees_held, with_schema}
use Rattle.executor.proofs.IndexListings.{rows_same}
use Rattle.executor.proofs.KeyIndexes.{all_replaced, keys_without_index}
use Rattle.executor.proofs.Owners.{HasTable, one_of, table_of_parts}
use Rattle.executor.proofs.Replacing.{IsSplit, IsSplitAt, found_is, indexes_once, names_once, same_folded, split_at, split_index}
use Rattle.executor.proofs.SchemaRows.{rising_distinct}
use Rattle.executor.proofs.Targets.{AreFit, fit_with_other, none_on}
use Rattle.executor.proofs.Telling.{IsLess, as_rows, as_told, many_retold, map_append, more_pages, one_less, same_indexes, same_table, told_around, told_as, told_after}
use Rattle.catalog.specs.declared.tables.View.{View}

-- what follows for every listed database, and for the trees of its file
pub record Laws : Type 0 where
  pub others : ListsOtherIndexes
  pub stand : TreesStand
  pub give_way : ReplacesTrees

-- ---- an index that goes

module _ (old : PageMap) (size : ℕ) (l : Listed) (db : Database) (held : Stores old size l db) (n : Name) (t : Table) (i : Index)
    (on : table_with_index n l.tables ≡ Some t) (found : find (λ (j : Index). is_same_name j.name n) t.indexes ≡ Some i) where
  abbrev trees : HoldsTrees old size held.rows_at l.tables held.schema
  trees = trees_held old size l db held

  pub schema_stand : Laws → Stands old size 1 held.schema held.schema_used held.free
  schema_stand laws = schema_stands old size held.rows_at l.tables held.schema trees laws.stand

  pub split : IsSplit t l.tables
  split = split_at (has_index n) l.tables t (names_once l held.of_listed.once) on

  pub at : IsSplitAt i t.indexes
  at = split_index (λ (j : Index). is_same_name j.name n) t.indexes i (indexes_once l split.before t split.after split.parts held.of_listed.once) found

  named_so : is_same_name i.name n ≡ true
  named_so = found_is (λ (j : Index). is_same_name j.name n) t.indexes i found

  abbrev o : HasTable held.rows_at l.tables held.held t
  o = table_of_parts held.rows_at l.tables held.held split.before t split.after split.parts held.each

  abbrev rows : List TableRow
  rows = held.rows_at t.root

  abbrev left : List Index
  left = at.before ++ at.after

  -- the table without it
  abbrev then_table : Table
  then_table = with_indexes t left

  then_is : without_index n t ≡ then_table
  then_is = ap (λ (is : List Index). with_indexes t is) (at.without n named_so)

  -- ---- what it is in the database

  found_as : object db n ≡ Some (AnIndex (as_index t i))
  found_as =
      ap (λ (k : Name). entries.find name_order k db) (sym (same_folded i.name n named_so))
      ∙ one_of (IsIndexIn db t) at.before i at.after (subst (AllByRecursion (IsIndexIn db t)) at.parts (indexes_listed held.rows_at l db held.of_listed split.before t split.after split.parts))

  not_table : table_named n l.tables ≡ None
  not_table = by (table_named n l.tables) (sym (listed_as held.rows_at n l) ∙ (sym (held.of_listed.lists n) ∙ found_as))
    where
      by : (u : Option Table) → as_object held.rows_at (behind_found n l) u ≡ Some (AnIndex (as_index t i)) → u ≡ None
      by None e = refl
      by (Some u) e = absurd cc

  not_view : view_named n l.views ≡ None
  not_view = by (view_named n l.views)
      (subst (λ (u : Option Table). MatchOption u (IsNoTable l n (object db n)) (λ u. object db n ≡ Some (ATable (with_rows u (held.rows_at u.root))))) not_table (finds_listed held.rows_at l db n held.of_listed.lists))
    where
      other : (v : View) → Some (AnIndex (as_index t i)) ≡ Some (AView (as_view v)) → ⊥
      other v e = cc

      by : (v : Option View) → MatchOption v (IsNoSource l n (object db n)) (λ v. object db n ≡ Some (AView (as_view v))) → v ≡ None
      by None h = refl
      by (Some v) h = absurd (other v (sym found_as ∙ h))

  -- it is no trigger's table or view
  no_trigger : list_any (is_on n) l.triggers ≡ false
  no_trigger = none_on l n l.triggers not_table not_view held.targets

  reached : i.is_automatic ≡ false → Reaches (change_made (dropping kind.Index n) db) (without n db)
  reached written = subst (λ (x : Option Object). Reaches (of_known (dropped db kind.Index n x)) (without n db)) (sym found_as)
      (subst (λ (b : Bool). Reaches (of_known (unless b Misuse (good (without n db)))) (without n db)) (sym written) refl)

  -- an automatic index isn't dropped
  pub refused_automatic : i.is_automatic ≡ true → (why : misuse.Misuse) → IsChangeRefusal (dropping kind.Index n) db (fault.Misuse why)
  refused_automatic automatic why = inr (inl (subst (λ (x : Option Object). RefusesWith (of_known (dropped db kind.Index n x)) Misuse) (sym found_as)
      (subst (λ (b : Bool). RefusesWith (of_known (unless b Misuse (good (without n db)))) Misuse) (sym automatic) (0, omega arith, refl))))

  -- the automatic indexes of the table stay
  keys_left : i.is_automatic ≡ false → AllByRecursion HasKeyIndexes (with_replaced (without_index n t) l.tables)
  keys_left written =
      all_replaced HasKeyIndexes (without_index n t) l.tables
      (keys_without_index n t i at named_so written (one_of HasKeyIndexes split.before t split.after (subst (AllByRecursion HasKeyIndexes) split.parts held.keys))) held.keys

  -- and so do the tables of triggers
  targets_left : AreFit (replacing (without_index n t) l) l.triggers
  targets_left = subst (λ (ts : List Table). AreFit (record l { tables = ts }) l.triggers) (sym (split.replaced (without_index n t) refl))
      (fit_with_other l split.before t (without_index n t) split.after split.parts refl refl held.targets)

  -- ---- its row

  abbrev front : List Told
  front = tables_told split.before

  abbrev back : List Told
  back = told_after split.after l

  abbrev its : List Index → List Told
  its is = map (λ j. IndexTold t j) is

  abbrev first : List Told
  first = front ++ TableTold t ∷ its at.before

  all_are : all_told l ≡ first ++ IndexTold t i ∷ (its at.after ++ back)
  all_are =
      ap (λ (ts : List Table). all_told (record l { tables = ts })) split.parts
      ∙ (told_around split.before t split.after l
      ∙ (ap (λ (is : List Index). front ++ ((TableTold t ∷ its is) ++ back)) at.parts
      ∙ (ap (λ (xs : List Told). front ++ ((TableTold t ∷ xs) ++ back)) (map_append (λ j. IndexTold t j) at.before (i ∷ at.after))
      ∙ (ap (λ (xs : List Told). front ++ (TableTold t ∷ xs)) (append_assoc (its at.before) (IndexTold t i ∷ its at.after) back)
      ∙ sym (append_assoc front (TableTold t ∷ its at.before) (IndexTold t i ∷ (its at.after ++ back)))))))

  less : IsLess (length old) (first ++ (its at.after ++ back)) i.rowid held.schema
  less = one_less (length old) first (its at.after ++ back) (IndexTold t i) held.schema
      (told_as (length old) (all_told l) (first ++ IndexTold t i ∷ (its at.after ++ back)) held.schema all_are (as_told (length old) l held.schema held.tell))
      (rising_distinct held.schema (tree_rises old size 1 held.schema held.schema_used held.shared.trees.0))

  pub row_there : payload_at i.rowid held.schema ≡ None → ⊥
  row_there = less.there

  abbrev schema_left : List Entry
  schema_left = without_row i.rowid held.schema

  left_are : first ++ (its at.after ++ back) ≡ front ++ ((TableTold t ∷ its left) ++ back)
  left_are =
      append_assoc front (TableTold t ∷ its at.before) (its at.after ++ back)
      ∙ ap (λ (xs : List Told). front ++ (TableTold t ∷ xs)) (sym (append_assoc (its at.before) (its at.after) back) ∙ ap (λ (xs : List Told). xs ++ back) (sym (map_append (λ j. IndexTold t j) at.before at.after)))

  told : (new : ℕ) → length old ≤ new → AreRowsOf new (record l { tables = split.before ++ then_table ∷ split.after }) schema_left
  told new longer =
      as_rows new (record l { tables = split.before ++ then_table ∷ split.after }) (front ++ (told_by then_table ++ back)) schema_left (told_around split.before then_table split.after l)
      (many_retold new front (TableTold t ∷ its left) (told_by then_table) back schema_left (same_table new t left, same_indexes new t left left)
      (told_as new (first ++ (its at.after ++ back)) (front ++ ((TableTold t ∷ its left) ++ back)) schema_left left_are (more_pages (length old) new longer (first ++ (its at.after ++ back)) schema_left less.tell)))

  -- ---- its tree

  module _ (laws : Laws) (mid : PageMap) (becomes : BecomesRows old mid size 1 schema_left held.schema_used held.free) where
    abbrev then_trees : HoldsTrees mid size held.rows_at l.tables schema_left
    then_trees = with_schema old size held.rows_at l.tables held.schema trees laws.give_way mid schema_left becomes

    abbrev schema : Owner
    schema = schema_tree schema_left becomes.now_used

    whole_is : t ≡ with_indexes t (at.before ++ i ∷ at.after)
    whole_is = ap (λ (is : List Index). with_indexes t is) at.parts

    stand : AreAmong mid size schema (all_trees o.split.before) (with_indexes t (at.before ++ i ∷ at.after)) rows (all_trees o.split.after)
    stand = subst (λ (u : Table). AreAmong mid size schema (all_trees o.split.before) u rows (all_trees o.split.after)) whole_is (among mid size held.rows_at l.tables schema_left then_trees t o)

    -- what the call that gives its tree back comes to
    pub drops : i.is_automatic ≡ false → (new : PageMap) → FreesIndex mid new size i.root (Ok tt) → (listed : Listed) → listed ≡ replacing (without_index n t) l
        → IsMade (dropping kind.Index n) db new size listed
    drops written new frees listed same =
        let now = frees t at.before at.after i refl schema (all_trees o.split.before) (all_trees o.split.after) rows (page_size mid size held.rows_at l.tables schema_left then_trees) refl stand o.split.is.fit in
        let longer : length old ≤ length new = (let a = becomes.moves.longer in let b = now.longer in omega (arith, a, b)) in
        let others : split.before ++ then_table ∷ split.after ≡ with_replaced (without_index n t) l.tables =
        sym (ap (λ (u : Table). with_replaced u l.tables) then_is ∙ split.replaced then_table refl) in
        record {
          made = without n db;
          reaches = reached written;
          stored = subst (λ (left : Listed). Stores new size left (without n db)) (sym same)
              (stores_of new size (rows_with held.rows_at t.root rows) (replacing (without_index n t) l) schema_left (without n db)
              (subst (λ (ts : List Table). HoldsTrees new size (rows_with held.rows_at t.root rows) ts schema_left) others
              (changed mid size held.rows_at l.tables schema_left then_trees t o new then_table rows refl o.split.is.fit now))
              (subst (λ (rs : ℕ → List TableRow). IsOfListed rs (replacing (without_index n t) l) (without n db)) (sym (rows_same held.rows_at t.root))
              (laws.others held.rows_at l db n t held.of_listed on no_trigger))
              (subst (λ (ts : List Table). AreRowsOf (length new) (record l { tables = ts }) schema_left) others (told (length new) longer)) (keys_left written) targets_left);
        }

    pub not_given : (new : PageMap) (f : Fault) → FreesIndex mid new size i.root (Err f) → IsChangeRefusal (dropping kind.Index n) db f
    not_given new f frees =
        inl (inl (frees t at.before at.after i refl schema (all_trees o.split.before) (all_trees o.split.after) rows (page_size mid size held.rows_at l.tables schema_left then_trees) refl stand o.split.is.fit))
