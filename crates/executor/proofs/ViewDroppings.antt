-- What a DROP VIEW comes to on the database that pages hold.
use Rattle.std.proofs.Common.{◌≡◌, ◌⊎◌, inl, inr, refl, sym, ap, subst, ◌∙◌, ℕ, ℤ, map, List, [], ◌∷◌, ◌++◌, append_assoc, length, Option, None, Some, arith}
use Rattle.std.specs.Prelude.{MatchOption}
use Rattle.sqlval.specs.Names.{is_same_name}
use Rattle.sqlval.specs.Refusals.{NoSuch, refusal_of}
use Rattle.sqlval.specs.declared.fault.Fault.{Fault}
use Rattle.sqlval.specs.declared.fault.Fault.TheVariants as fault
use Rattle.sql_syntax.specs.declared.statement.ObjectKind.TheVariants as kind
use Rattle.tree_leaf.specs.Leaf.{Entry}
use Rattle.pages.specs.Map.{PageMap}
use Rattle.tree_table.specs.Calls.{BecomesRows, Stands}
use Rattle.tree_table.specs.Rows.{without_row}
use Rattle.db_layout.specs.Layout.{ReplacesTrees, TreesStand}
use Rattle.catalog.specs.Database.{ATable, ATrigger, AView, Database, Name, Object, object}
use Rattle.catalog.specs.Laws.{FindsListed, IsIndexOrNone, IsNoSource}
use Rattle.catalog.specs.Listed.{Listed, as_view, is_on, is_view, table_named, trigger_named, view_named, with_rows, without_triggers_on}
use Rattle.catalog.specs.Named.{without}
use Rattle.catalog.specs.NewViews.{ListsOtherViews, less_view}
use Rattle.catalog.specs.declared.tables.Table.{Table}
use Rattle.catalog.specs.declared.tables.Trigger.{Trigger}
use Rattle.catalog.specs.declared.tables.View.{View}
use Rattle.query_names.specs.Schema.{dropped}
use Rattle.db_pages.specs.Schema.{Told, TriggerTold, ViewTold, all_told, tables_told}
use Rattle.db_pages.specs.Stored.{Stores}
use Rattle.executor.specs.Changing.{IsChangeRefusal, IsMade}
use Rattle.executor.specs.Holding.{HoldsTrees}
use Rattle.executor.specs.Listing.{AreThere, rowids_on, without_rows}
use Rattle.executor.specs.Works.{Reaches, RefusesWith, change_made, of_known}
use Rattle.executor.proofs.Droppings.{dropping}
use Rattle.executor.proofs.HeldTrees.{schema_stands, stores_of, trees_held, with_schema}
use Rattle.executor.proofs.Replacing.{found_is, once_first}
use Rattle.row_scan.proofs.TreeOrder.{tree_rises}
use Rattle.executor.proofs.SchemaRows.{rising_distinct}
use Rattle.executor.proofs.Splitting.{IsSplitOf, first_none, has_it, none_treeless, split_of, treeless_once, trigger_names, view_names}
use Rattle.executor.proofs.Targets.{fit_without_view}
use Rattle.executor.proofs.Telling.{AreLess, IsLess, as_rows, as_told, map_append, more_pages, one_less, told_as}
use Rattle.executor.proofs.TriggerRows.{some_less}

-- what follows for every listed database, and for the trees of its file
pub record Laws : Type 0 where
  pub finds : FindsListed
  pub others : ListsOtherViews
  pub stand : TreesStand
  pub give_way : ReplacesTrees

-- ---- where there is none

-- a name that no listed view has isn't that of a view
pub no_view : (finds : FindsListed) (old : PageMap) (size : ℕ) (l : Listed) (db : Database) (held : Stores old size l db) (n : Name) (f : Fault)
    → (f ≡ fault.Memory) ⊎ (refusal_of f ≡ NoSuch) × (view_named n l.views ≡ None) → IsChangeRefusal (dropping kind.View n) db f
no_view finds old size l db held n f (inl memory) = inl (inl (inl memory))
no_view finds old size l db held n f (inr (is, none)) = inr (inl (subst (RefusesWith (change_made (dropping kind.View n) db)) (sym is)
    (by (table_named n l.tables) (subst (λ (v : Option View). MatchOption (table_named n l.tables) (MatchOption v (IsNoSource l n (object db n)) (λ v. object db n ≡ Some (AView (as_view v))))
    (λ t. object db n ≡ Some (ATable (with_rows t (held.rows_at t.root))))) none (finds held.rows_at l db n held.of_listed.lists)))))
  where
    refuses : Option Object → Type 0
    refuses o = RefusesWith (of_known (dropped db kind.View n o)) NoSuch

    behind : (t : Option Trigger) → MatchOption t (IsIndexOrNone (object db n)) (λ t. object db n ≡ Some (ATrigger t.definition)) → refuses (object db n)
    behind (Some t) e = subst refuses (sym e) (0, omega arith, refl)
    behind None (inl nothing) = subst refuses (sym nothing) (0, omega arith, refl)
    behind None (inr (i, e)) = subst refuses (sym e) (0, omega arith, refl)

    by : (t : Option Table) → MatchOption t (IsNoSource l n (object db n)) (λ t. object db n ≡ Some (ATable (with_rows t (held.rows_at t.root)))) → refuses (object db n)
    by (Some t) e = subst refuses (sym e) (0, omega arith, refl)
    by None h = behind (trigger_named n l.triggers) h

-- ---- a view that goes

module _ (laws : Laws) (old : PageMap) (size : ℕ) (l : Listed) (db : Database) (held : Stores old size l db) (n : Name) (v : View) (found : view_named n l.views ≡ Some v) where
  abbrev trees : HoldsTrees old size held.rows_at l.tables held.schema
  trees = trees_held old size l db held

  pub schema_stand : Stands old size 1 held.schema held.schema_used held.free
  schema_stand = schema_stands old size held.rows_at l.tables held.schema trees laws.stand

  -- no table has its name
  no_table : table_named n l.tables ≡ None
  no_table = by (table_named n l.tables) refl
    where
      by : (t : Option Table) → table_named n l.tables ≡ t → t ≡ None
      by None e = refl
      by (Some t) e = absurd (has_it (λ (u : View). u.definition.name) n l.views v found (first_none (is_same_name n) (view_names l.views) (trigger_names l.triggers) (none_treeless l held.of_listed.once n t e)))

  found_as : object db n ≡ Some (AView (as_view v))
  found_as =
      subst (λ (x : Option View). MatchOption x (IsNoSource l n (object db n)) (λ v. object db n ≡ Some (AView (as_view v)))) found
      (subst (λ (t : Option Table). MatchOption t (MatchOption (view_named n l.views) (IsNoSource l n (object db n)) (λ v. object db n ≡ Some (AView (as_view v))))
      (λ t. object db n ≡ Some (ATable (with_rows t (held.rows_at t.root))))) no_table (laws.finds held.rows_at l db n held.of_listed.lists))

  reached : Reaches (change_made (dropping kind.View n) db) (without n db)
  reached = subst (λ (x : Option Object). Reaches (of_known (dropped db kind.View n x)) (without n db)) (sym found_as) refl

  -- ---- its row, and those of its triggers

  at : IsSplitOf (λ (u : View). u.definition.name) v l.views
  at = split_of (λ (u : View). u.definition.name) (is_view n) l.views v (once_first (view_names l.views) (trigger_names l.triggers) (treeless_once l held.of_listed.once)) found

  abbrev first : List Told
  first = tables_told l.tables ++ map ViewTold at.before

  abbrev last : List Told
  last = map ViewTold at.after

  abbrev others : List Told
  others = first ++ last

  -- before the triggers stand the tables, and the views in two parts
  regrouped : (views : List Told) (ts : List Trigger) → tables_told l.tables ++ ((map ViewTold at.before ++ views) ++ map TriggerTold ts) ≡ first ++ (views ++ map TriggerTold ts)
  regrouped views ts =
      ap (λ (xs : List Told). tables_told l.tables ++ xs) (append_assoc (map ViewTold at.before) views (map TriggerTold ts)) ∙ sym (append_assoc (tables_told l.tables) (map ViewTold at.before) (views ++ map TriggerTold ts))

  all_are : all_told l ≡ first ++ ViewTold v ∷ (last ++ map TriggerTold l.triggers)
  all_are =
      ap (λ (vs : List View). tables_told l.tables ++ (map ViewTold vs ++ map TriggerTold l.triggers)) at.parts
      ∙ (ap (λ (ts : List Told). tables_told l.tables ++ (ts ++ map TriggerTold l.triggers)) (map_append ViewTold at.before (v ∷ at.after)) ∙ regrouped (ViewTold v ∷ last) l.triggers)

  abbrev triggers_left : List Trigger
  triggers_left = without_triggers_on n l.triggers

  others_are : all_told (less_view n l) ≡ others ++ map TriggerTold triggers_left
  others_are =
      ap (λ (vs : List View). tables_told l.tables ++ (map ViewTold vs ++ map TriggerTold triggers_left)) (at.without n (found_is (is_view n) l.views v found))
      ∙ (ap (λ (ts : List Told). tables_told l.tables ++ (ts ++ map TriggerTold triggers_left)) (map_append ViewTold at.before at.after)
      ∙ (regrouped last triggers_left ∙ sym (append_assoc first last (map TriggerTold triggers_left))))

  own_less : IsLess (length old) (first ++ (last ++ map TriggerTold l.triggers)) v.rowid held.schema
  own_less = one_less (length old) first (last ++ map TriggerTold l.triggers) (ViewTold v) held.schema
      (told_as (length old) (all_told l) (first ++ ViewTold v ∷ (last ++ map TriggerTold l.triggers)) held.schema all_are (as_told (length old) l held.schema held.tell))
      (rising_distinct held.schema (tree_rises old size 1 held.schema held.schema_used held.shared.trees.0))

  triggers_less : AreLess (length old) (others ++ map TriggerTold triggers_left) (rowids_on n l.triggers) (without_row v.rowid held.schema)
  triggers_less = some_less (length old) others (is_on n) l.triggers (without_row v.rowid held.schema)
      (told_as (length old) (first ++ (last ++ map TriggerTold l.triggers)) (others ++ map TriggerTold l.triggers) (without_row v.rowid held.schema) (sym (append_assoc first last (map TriggerTold l.triggers))) own_less.tell)
      own_less.distinct

  abbrev gone : List ℤ
  gone = v.rowid ∷ rowids_on n l.triggers

  pub rows_there : AreThere gone held.schema
  rows_there = (own_less.there, triggers_less.there)

  pub drops : (new : PageMap) → BecomesRows old new size 1 (without_rows gone held.schema) held.schema_used held.free → (listed : Listed) → listed ≡ less_view n l → IsMade (dropping kind.View n) db new size listed
  drops new becomes listed same = record {
    made = without n db;
    reaches = reached;
    stored = subst (λ (x : Listed). Stores new size x (without n db)) (sym same)
        (stores_of new size held.rows_at (less_view n l) (without_rows gone held.schema) (without n db)
        (with_schema old size held.rows_at l.tables held.schema trees laws.give_way new (without_rows gone held.schema) becomes)
        (laws.others held.rows_at l db n v held.of_listed found)
        (as_rows (length new) (less_view n l) (others ++ map TriggerTold triggers_left) (without_rows gone held.schema) others_are
        (more_pages (length old) (length new) becomes.moves.longer (others ++ map TriggerTold triggers_left) (without_rows gone held.schema) triggers_less.tell)) held.keys (fit_without_view n l held.targets));
  }
