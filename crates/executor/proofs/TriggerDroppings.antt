-- What a DROP TRIGGER comes to on the database that pages hold.
use Rattle.std.proofs.Common.{◌≡◌, ◌⊎◌, inl, inr, refl, sym, ap, subst, ◌∙◌, ℕ, false, not, map, List, [], ◌∷◌, ◌++◌, append_assoc, length, Option, None, Some, arith}
use Rattle.std.specs.Prelude.{MatchOption}
use Rattle.std.specs.List.{list_any}
use Rattle.sqlval.specs.Names.{is_same_name}
use Rattle.sqlval.specs.Refusals.{NoSuch, refusal_of}
use Rattle.sqlval.specs.declared.fault.Fault.{Fault}
use Rattle.sqlval.specs.declared.fault.Fault.TheVariants as fault
use Rattle.sql_syntax.specs.declared.statement.ObjectKind.TheVariants as kind
use Rattle.tree_leaf.specs.Leaf.{Entry}
use Rattle.pages.specs.Map.{PageMap}
use Rattle.tree_table.specs.Calls.{BecomesRows, Stands}
use Rattle.tree_table.specs.Rows.{payload_at, without_row}
use Rattle.db_layout.specs.Layout.{ReplacesTrees, TreesStand}
use Rattle.catalog.specs.Database.{ATable, ATrigger, AView, Database, Name, Object, object}
use Rattle.catalog.specs.Laws.{FindsListed, IsIndexOrNone, IsNoSource, IsNoTable}
use Rattle.catalog.specs.Listed.{Listed, as_view, is_on, is_trigger, table_named, trigger_named, view_named, with_rows}
use Rattle.catalog.specs.Named.{without}
use Rattle.catalog.specs.NewViews.{ListsOtherTriggers, less_trigger}
use Rattle.catalog.specs.declared.tables.Table.{Table}
use Rattle.catalog.specs.declared.tables.Trigger.{Trigger}
use Rattle.catalog.specs.declared.tables.View.{View}
use Rattle.query_names.specs.Schema.{dropped}
use Rattle.db_pages.specs.Schema.{Told, TriggerTold, ViewTold, all_told, tables_told}
use Rattle.db_pages.specs.Stored.{Stores}
use Rattle.executor.specs.Changing.{IsChangeRefusal, IsMade}
use Rattle.executor.specs.Holding.{HoldsTrees}
use Rattle.executor.specs.Works.{Reaches, RefusesWith, change_made, of_known}
use Rattle.executor.proofs.Droppings.{dropping}
use Rattle.executor.proofs.HeldTrees.{schema_stands, stores_of, trees_held, with_schema}
use Rattle.executor.proofs.Replacing.{found_is, once_last}
use Rattle.row_scan.proofs.TreeOrder.{tree_rises}
use Rattle.executor.proofs.SchemaRows.{rising_distinct}
use Rattle.executor.proofs.Splitting.{IsSplitOf, has_it, last_none, none_seen, none_treeless, split_of, treeless_once, trigger_names, view_names}
use Rattle.executor.proofs.Targets.{none_on, some_fit}
use Rattle.executor.proofs.Telling.{IsLess, as_rows, as_told, map_append, more_pages, one_less, told_as}

-- what follows for every listed database, and for the trees of its file
pub record Laws : Type 0 where
  pub finds : FindsListed
  pub others : ListsOtherTriggers
  pub stand : TreesStand
  pub give_way : ReplacesTrees

-- ---- where there is none

module _ (finds : FindsListed) (old : PageMap) (size : ℕ) (l : Listed) (db : Database) (held : Stores old size l db) (n : Name) where
  abbrev refuses : Option Object → Type 0
  refuses o = RefusesWith (of_known (dropped db kind.Trigger n o)) NoSuch

  -- a name that no listed trigger has isn't that of a trigger
  pub no_trigger : (f : Fault) → (f ≡ fault.Memory) ⊎ (refusal_of f ≡ NoSuch) × (trigger_named n l.triggers ≡ None) → IsChangeRefusal (dropping kind.Trigger n) db f
  no_trigger f (inl memory) = inl (inl (inl memory))
  no_trigger f (inr (is, none)) = inr (inl (subst (RefusesWith (change_made (dropping kind.Trigger n) db)) (sym is) (by (table_named n l.tables) (finds held.rows_at l db n held.of_listed.lists))))
    where
      last : (t : Option Trigger) → t ≡ None → MatchOption t (IsIndexOrNone (object db n)) (λ t. object db n ≡ Some (ATrigger t.definition)) → refuses (object db n)
      last (Some t) none h = absurd cc
      last None none (inl nothing) = subst refuses (sym nothing) (0, omega arith, refl)
      last None none (inr (i, e)) = subst refuses (sym e) (0, omega arith, refl)

      behind : (v : Option View) → MatchOption v (IsNoSource l n (object db n)) (λ v. object db n ≡ Some (AView (as_view v))) → refuses (object db n)
      behind (Some v) e = subst refuses (sym e) (0, omega arith, refl)
      behind None h = last (trigger_named n l.triggers) none h

      by : (t : Option Table) → MatchOption t (IsNoTable l n (object db n)) (λ t. object db n ≡ Some (ATable (with_rows t (held.rows_at t.root)))) → refuses (object db n)
      by (Some t) e = subst refuses (sym e) (0, omega arith, refl)
      by None h = behind (view_named n l.views) h

-- ---- a trigger that goes

module _ (laws : Laws) (old : PageMap) (size : ℕ) (l : Listed) (db : Database) (held : Stores old size l db) (n : Name) (t : Trigger) (found : trigger_named n l.triggers ≡ Some t) where
  abbrev trees : HoldsTrees old size held.rows_at l.tables held.schema
  trees = trees_held old size l db held

  pub schema_stand : Stands old size 1 held.schema held.schema_used held.free
  schema_stand = schema_stands old size held.rows_at l.tables held.schema trees laws.stand

  -- no table has its name
  no_table : table_named n l.tables ≡ None
  no_table = by (table_named n l.tables) refl
    where
      by : (u : Option Table) → table_named n l.tables ≡ u → u ≡ None
      by None e = refl
      by (Some u) e = absurd (has_it (λ (u : Trigger). u.definition.name) n l.triggers t found (last_none (is_same_name n) (view_names l.views) (trigger_names l.triggers) (none_treeless l held.of_listed.once n u e)))

  -- nor a view
  no_view : view_named n l.views ≡ None
  no_view = by (view_named n l.views) refl
    where
      by : (v : Option View) → view_named n l.views ≡ v → v ≡ None
      by None e = refl
      by (Some v) e = absurd (has_it (λ (u : Trigger). u.definition.name) n l.triggers t found (none_seen l held.of_listed.once n v e))

  found_as : object db n ≡ Some (ATrigger t.definition)
  found_as =
      subst (λ (x : Option Trigger). MatchOption x (IsIndexOrNone (object db n)) (λ t. object db n ≡ Some (ATrigger t.definition))) found
      (subst (λ (v : Option View). MatchOption v (IsNoSource l n (object db n)) (λ v. object db n ≡ Some (AView (as_view v)))) no_view
      (subst (λ (u : Option Table). MatchOption u (IsNoTable l n (object db n)) (λ u. object db n ≡ Some (ATable (with_rows u (held.rows_at u.root))))) no_table (laws.finds held.rows_at l db n held.of_listed.lists)))

  reached : Reaches (change_made (dropping kind.Trigger n) db) (without n db)
  reached = subst (λ (x : Option Object). Reaches (of_known (dropped db kind.Trigger n x)) (without n db)) (sym found_as) refl

  -- ---- its row

  at : IsSplitOf (λ (u : Trigger). u.definition.name) t l.triggers
  at = split_of (λ (u : Trigger). u.definition.name) (is_trigger n) l.triggers t (once_last (view_names l.views) (trigger_names l.triggers) (treeless_once l held.of_listed.once)) found

  abbrev before : List Told
  before = tables_told l.tables ++ map ViewTold l.views

  abbrev first : List Told
  first = before ++ map TriggerTold at.before

  abbrev last : List Told
  last = map TriggerTold at.after

  grouped : (ts : List Told) → tables_told l.tables ++ (map ViewTold l.views ++ (map TriggerTold at.before ++ ts)) ≡ first ++ ts
  grouped ts =
      sym (append_assoc (tables_told l.tables) (map ViewTold l.views) (map TriggerTold at.before ++ ts)) ∙ sym (append_assoc before (map TriggerTold at.before) ts)

  all_are : all_told l ≡ first ++ TriggerTold t ∷ last
  all_are =
      ap (λ (ts : List Trigger). tables_told l.tables ++ (map ViewTold l.views ++ map TriggerTold ts)) at.parts
      ∙ (ap (λ (ts : List Told). tables_told l.tables ++ (map ViewTold l.views ++ ts)) (map_append TriggerTold at.before (t ∷ at.after)) ∙ grouped (TriggerTold t ∷ last))

  others_are : all_told (less_trigger n l) ≡ first ++ last
  others_are =
      ap (λ (ts : List Trigger). tables_told l.tables ++ (map ViewTold l.views ++ map TriggerTold ts)) (at.without n (found_is (is_trigger n) l.triggers t found))
      ∙ (ap (λ (ts : List Told). tables_told l.tables ++ (map ViewTold l.views ++ ts)) (map_append TriggerTold at.before at.after) ∙ grouped last)

  less : IsLess (length old) (first ++ last) t.rowid held.schema
  less = one_less (length old) first last (TriggerTold t) held.schema
      (told_as (length old) (all_told l) (first ++ TriggerTold t ∷ last) held.schema all_are (as_told (length old) l held.schema held.tell))
      (rising_distinct held.schema (tree_rises old size 1 held.schema held.schema_used held.shared.trees.0))

  pub row_there : payload_at t.rowid held.schema ≡ None → ⊥
  row_there = less.there

  pub drops : (new : PageMap) → BecomesRows old new size 1 (without_row t.rowid held.schema) held.schema_used held.free → (listed : Listed) → listed ≡ less_trigger n l → IsMade (dropping kind.Trigger n) db new size listed
  drops new becomes listed same = record {
    made = without n db;
    reaches = reached;
    stored = subst (λ (x : Listed). Stores new size x (without n db)) (sym same)
        (stores_of new size held.rows_at (less_trigger n l) (without_row t.rowid held.schema) (without n db)
        (with_schema old size held.rows_at l.tables held.schema trees laws.give_way new (without_row t.rowid held.schema) becomes)
        (laws.others held.rows_at l db n t held.of_listed found (none_on l n l.triggers no_table no_view held.targets))
        (as_rows (length new) (less_trigger n l) (first ++ last) (without_row t.rowid held.schema) others_are (more_pages (length old) (length new) becomes.moves.longer (first ++ last) (without_row t.rowid held.schema) less.tell))
        held.keys (some_fit (λ u. not (is_trigger n u)) l l l.triggers (λ u other fits. fits) held.targets));
  }
