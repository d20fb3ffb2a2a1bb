-- What a DROP TABLE comes to on the database that pages hold, and what is refused where there is no such object.
use Rattle.std.proofs.Common.{◌≡◌, ◌⊎◌, ◌≤◌, ℤ, inl, inr, refl, sym, ap, subst, ◌∙◌, ℕ, Bool, true, false, cond, not, filter, map, ◌||◌, List, [], ◌∷◌, ◌++◌, append_assoc, length, Option, Some, None, Ok, Err, arith}
use Rattle.std.specs.Prelude.{Contains, MatchOption, is_some}
use Rattle.std.proofs.lemmas.Bool.{false≢true}
use Rattle.sqlval.specs.Names.{is_same_name}
use Rattle.sqlval.specs.Refusals.{NoSuch, Refusal, refusal_of}
use Rattle.sqlval.specs.declared.fault.Fault.{Fault}
use Rattle.sqlval.specs.declared.fault.Fault.TheVariants as fault
use Rattle.sql_syntax.specs.declared.statement.ObjectKind.{ObjectKind}
use Rattle.sql_syntax.specs.declared.statement.ObjectKind.TheVariants as kind
use Rattle.sql_syntax.specs.declared.statement.Statement.{Statement}
use Rattle.sql_syntax.specs.declared.statement.Statement.TheVariants as statement
use Rattle.tree_leaf.specs.Leaf.{Entry}
use Rattle.pages.specs.Map.{PageMap}
use Rattle.tree_table.specs.Calls.{BecomesRows, Stands}
use Rattle.db_layout.specs.Layout.{ReplacesTrees, TreesStand}
use Rattle.catalog.specs.Database as database
use Rattle.catalog.specs.Database.{Database, Index, Name, Object, ATable, AnIndex, AView, ATrigger, object}
use Rattle.catalog.specs.Laws.{FindsListed, IsIndexOrNone, IsNoTable, NamesListed, IsNoSource}
use Rattle.catalog.specs.Listed.{has_index, is_name_of, is_on, is_table, is_trigger, with_rows, rowids_in, table_named, table_with_index, trigger_named, without_table, without_triggers_on, Listed, as_view, has_table_name, is_view, view_named}
use Rattle.catalog.specs.Named.{ListsOthers, less_table, without}
use Rattle.catalog.specs.declared.tables.Table.{Table}
use Rattle.query_names.specs.Checked.{Checked, Meant, faults}
use Rattle.query_names.specs.Schema.{dropped}
use Rattle.row_scan.proofs.TreeOrder.{tree_rises}
use Rattle.db_write.specs.Changing.{DropsTrees}
use Rattle.db_pages.specs.Schema.{AreRowsOf, HasKeyIndexes, Told, TriggerTold, ViewTold, all_told, told_by, tables_told}
use Rattle.db_pages.specs.Stored.{Stores, all_trees, schema_tree}
use Rattle.executor.specs.Changing.{IsChangeRefusal, IsMade}
use Rattle.executor.specs.Listing.{AreThere, rowids_on, without_rows}
use Rattle.executor.specs.Works.{Reaches, RefusesWith, change_made, of_known}
use Rattle.executor.proofs.FoundTables.{table_found}
use Rattle.executor.specs.Holding.{HoldsTrees}
use Rattle.executor.proofs.HeldTrees.{among, page_size, schema_stands, stores_of, trees_held, with_schema}
use Rattle.executor.proofs.HeldTrees as held_trees
use Rattle.executor.proofs.KeyIndexes.{all_without}
use Rattle.executor.proofs.Owners.{HasTable, table_of_parts}
use Rattle.executor.proofs.Replacing.{IsSplit, found_is, names_once, split_at}
use Rattle.executor.proofs.SchemaRows.{rising_distinct}
use Rattle.executor.proofs.Targets.{fit_without_table}
use Rattle.executor.proofs.TriggerRows.{some_less, then_less}
use Rattle.executor.proofs.Telling.{AreLess, as_rows, as_told, many_less, more_pages, rowids_told, told_joined, told_around, told_as, told_after}
use Rattle.catalog.specs.declared.tables.Trigger.{Trigger}
use Rattle.catalog.specs.declared.tables.View.{View}
use Rattle.std.specs.List.{list_any}

-- what follows for every listed database, and for the trees of its file
pub record Laws : Type 0 where
  pub others : ListsOthers
  pub finds : FindsListed
  pub stand : TreesStand
  pub give_way : ReplacesTrees

abbrev pub dropping : ObjectKind → Name → Statement
dropping k n = statement.Drop k n

refused_work : (k : Checked Database) (r : Refusal) → Contains (faults k) r → RefusesWith (of_known k) r
refused_work (Meant db []) r has = absurd (omega (arith, has.1))
refused_work (Meant db (s ∷ rs)) r has = has

-- ---- where there is none

-- an object of another kind isn't dropped
abbrev refuses_kind : Database → ObjectKind → Name → Option Object → Type 0
refuses_kind db k n o = RefusesWith (of_known (dropped db k n o)) NoSuch

module _ (finds : FindsListed) (old : PageMap) (size : ℕ) (l : Listed) (db : Database) (held : Stores old size l db) (n : Name) where
  found_so : MatchOption (table_named n l.tables) (IsNoTable l n (object db n)) (λ t. object db n ≡ Some (ATable (with_rows t (held.rows_at t.root))))
  found_so = finds held.rows_at l db n held.of_listed.lists

  pub no_table : (f : Fault) → (f ≡ fault.Memory) ⊎ (refusal_of f ≡ NoSuch) × (table_named n l.tables ≡ None) → IsChangeRefusal (dropping kind.Table n) db f
  no_table f (inl memory) = inl (inl (inl memory))
  no_table f (inr (is, none)) = inr (inl (subst (RefusesWith (change_made (dropping kind.Table n) db)) (sym is) (by (view_named n l.views)
      (subst (λ (t : Option Table). MatchOption t (IsNoTable l n (object db n)) (λ t. object db n ≡ Some (ATable (with_rows t (held.rows_at t.root))))) none found_so))))
    where
      behind : (t : Option Trigger) → MatchOption t (IsIndexOrNone (object db n)) (λ t. object db n ≡ Some (ATrigger t.definition)) → refuses_kind db kind.Table n (object db n)
      behind (Some t) is = subst (refuses_kind db kind.Table n) (sym is) (0, omega arith, refl)
      behind None (inl nothing) = subst (refuses_kind db kind.Table n) (sym nothing) (0, omega arith, refl)
      behind None (inr (i, is)) = subst (refuses_kind db kind.Table n) (sym is) (0, omega arith, refl)

      by : (v : Option View) → MatchOption v (IsNoSource l n (object db n)) (λ v. object db n ≡ Some (AView (as_view v))) → refuses_kind db kind.Table n (object db n)
      by (Some v) is = subst (refuses_kind db kind.Table n) (sym is) (0, omega arith, refl)
      by None h = behind (trigger_named n l.triggers) h

  no_name : (ts : List Table) → table_named n ts ≡ None → table_with_index n ts ≡ None → list_any (has_table_name n) ts ≡ false
  no_name [] none and = refl
  no_name (t ∷ ts) none and = by (is_table n t) (has_index n t) none and (no_name ts)
    where
      by : (a b : Bool) → cond a (Some t) (table_named n ts) ≡ None → cond b (Some t) (table_with_index n ts) ≡ None → (table_named n ts ≡ None → table_with_index n ts ≡ None → list_any (has_table_name n) ts ≡ false)
          → ((a || b) || list_any (has_table_name n) ts) ≡ false
      by true b none and rest = absurd cc
      by false true none and rest = absurd cc
      by false false none and rest = rest none and

  no_view_name : (vs : List View) → view_named n vs ≡ None → list_any (is_view n) vs ≡ false
  no_view_name [] none = refl
  no_view_name (v ∷ vs) none = by (is_view n v) none (no_view_name vs)
    where
      by : (a : Bool) → cond a (Some v) (view_named n vs) ≡ None → (view_named n vs ≡ None → list_any (is_view n) vs ≡ false) → (a || list_any (is_view n) vs) ≡ false
      by true none rest = absurd cc
      by false none rest = rest none

  no_trigger_name : (ts : List Trigger) → trigger_named n ts ≡ None → list_any (is_trigger n) ts ≡ false
  no_trigger_name [] none = refl
  no_trigger_name (t ∷ ts) none = by (is_trigger n t) none (no_trigger_name ts)
    where
      by : (a : Bool) → cond a (Some t) (trigger_named n ts) ≡ None → (trigger_named n ts ≡ None → list_any (is_trigger n) ts ≡ false) → (a || list_any (is_trigger n) ts) ≡ false
      by true none rest = absurd cc
      by false none rest = rest none

  -- no index has the name
  pub no_index : NamesListed → (f : Fault) → (f ≡ fault.Memory) ⊎ (refusal_of f ≡ NoSuch) × (table_with_index n l.tables ≡ None) → IsChangeRefusal (dropping kind.Index n) db f
  no_index names f (inl memory) = inl (inl (inl memory))
  no_index names f (inr (is, none)) = inr (inl (subst (RefusesWith (change_made (dropping kind.Index n) db)) (sym is) (by (table_named n l.tables) refl found_so)))
    where
      not_there : table_named n l.tables ≡ None → view_named n l.views ≡ None → trigger_named n l.triggers ≡ None → (i : Index) → object db n ≡ Some (AnIndex i) → ⊥
      not_there named seen fired i e = some_named (sym (ap is_some e) ∙ (names held.rows_at l db n held.of_listed.lists
          ∙ (ap (λ b. b || (list_any (is_view n) l.views || list_any (is_trigger n) l.triggers)) (no_name l.tables named none)
          ∙ (ap (λ b. b || list_any (is_trigger n) l.triggers) (no_view_name l.views seen) ∙ no_trigger_name l.triggers fired))))
        where
          some_named : true ≡ false → ⊥
          some_named h = false≢true (sym h)

      last : table_named n l.tables ≡ None → view_named n l.views ≡ None → (t : Option Trigger) → trigger_named n l.triggers ≡ t
          → MatchOption t (IsIndexOrNone (object db n)) (λ t. object db n ≡ Some (ATrigger t.definition)) → refuses_kind db kind.Index n (object db n)
      last named seen (Some t) fired e = subst (refuses_kind db kind.Index n) (sym e) (0, omega arith, refl)
      last named seen None fired (inl nothing) = subst (refuses_kind db kind.Index n) (sym nothing) (0, omega arith, refl)
      last named seen None fired (inr (i, e)) = absurd (not_there named seen fired i e)

      behind : table_named n l.tables ≡ None → (v : Option View) → view_named n l.views ≡ v → MatchOption v (IsNoSource l n (object db n)) (λ v. object db n ≡ Some (AView (as_view v)))
          → refuses_kind db kind.Index n (object db n)
      behind named (Some v) seen e = subst (refuses_kind db kind.Index n) (sym e) (0, omega arith, refl)
      behind named None seen h = last named seen (trigger_named n l.triggers) refl h

      by : (t : Option Table) → table_named n l.tables ≡ t → MatchOption t (IsNoTable l n (object db n)) (λ t. object db n ≡ Some (ATable (with_rows t (held.rows_at t.root)))) → refuses_kind db kind.Index n (object db n)
      by (Some t) named e = subst (refuses_kind db kind.Index n) (sym e) (0, omega arith, refl)
      by None named h = behind named (view_named n l.views) refl h

-- ---- a table that goes

module _ (laws : Laws) (old : PageMap) (size : ℕ) (l : Listed) (db : Database) (held : Stores old size l db) (n : Name) (t : Table) (named : table_named n l.tables ≡ Some t) where
  abbrev trees : HoldsTrees old size held.rows_at l.tables held.schema
  trees = trees_held old size l db held

  pub schema_stand : Stands old size 1 held.schema held.schema_used held.free
  schema_stand = schema_stands old size held.rows_at l.tables held.schema trees laws.stand

  pub split : IsSplit t l.tables
  split = split_at (is_table n) l.tables t (names_once l held.of_listed.once) named

  abbrev o : HasTable held.rows_at l.tables held.held t
  o = table_of_parts held.rows_at l.tables held.held split.before t split.after split.parts held.each

  abbrev front : List Told
  front = tables_told split.before

  abbrev back : List Told
  back = told_after split.after l

  -- the rows that are left tell the tables that are left
  own_less : AreLess (length old) (front ++ back) (rowids_in t) held.schema
  own_less = subst (λ (rs : List ℤ). AreLess (length old) (front ++ back) rs held.schema) (rowids_told t)
      (many_less (length old) front (told_by t) back held.schema
      (told_as (length old) (all_told l) (front ++ (told_by t ++ back)) held.schema (ap (λ (ts : List Table). all_told (record l { tables = ts })) split.parts ∙ told_around split.before t split.after l) (as_told (length old) l held.schema held.tell))
      (rising_distinct held.schema (tree_rises old size 1 held.schema held.schema_used held.shared.trees.0)))

  -- what stands before the triggers
  abbrev others : List Told
  others = (front ++ tables_told split.after) ++ map ViewTold l.views

  regrouped : (ts : List Trigger) → others ++ map TriggerTold ts ≡ front ++ (tables_told split.after ++ (map ViewTold l.views ++ map TriggerTold ts))
  regrouped ts =
      append_assoc (front ++ tables_told split.after) (map ViewTold l.views) (map TriggerTold ts)
      ∙ append_assoc front (tables_told split.after) (map ViewTold l.views ++ map TriggerTold ts)

  abbrev triggers_left : List Trigger
  triggers_left = without_triggers_on n l.triggers

  abbrev gone : List ℤ
  gone = rowids_in t ++ rowids_on n l.triggers

  -- and the triggers that are left
  less : AreLess (length old) (others ++ map TriggerTold triggers_left) gone held.schema
  less = then_less (length old) (front ++ back) (others ++ map TriggerTold triggers_left) (rowids_in t) (rowids_on n l.triggers) held.schema own_less
      (some_less (length old) others (is_on n) l.triggers (without_rows (rowids_in t) held.schema)
      (told_as (length old) (front ++ back) (others ++ map TriggerTold l.triggers) (without_rows (rowids_in t) held.schema) (sym (regrouped l.triggers)) own_less.tell) own_less.distinct)

  pub rows_there : AreThere gone held.schema
  rows_there = less.there

  module _ (mid : PageMap) (becomes : BecomesRows old mid size 1 (without_rows gone held.schema) held.schema_used held.free) where
    abbrev schema_left : List Entry
    schema_left = without_rows gone held.schema

    abbrev then_trees : HoldsTrees mid size held.rows_at l.tables schema_left
    then_trees = with_schema old size held.rows_at l.tables held.schema trees laws.give_way mid schema_left becomes

    reached : Reaches (change_made (dropping kind.Table n) db) (without n db)
    reached = subst (λ (o : Option Object). Reaches (of_known (dropped db kind.Table n o)) (without n db))
        (sym (table_found held.rows_at l db n t held.of_listed.lists named)) refl

    -- what the call that gives its trees back comes to
    pub drops : (new : PageMap) → DropsTrees mid new size t (Ok tt) → (listed : Listed) → listed ≡ less_table n l → IsMade (dropping kind.Table n) db new size listed
    drops new gives listed same =
        let left = gives (schema_tree schema_left becomes.now_used) (all_trees o.split.before) (all_trees o.split.after) (held.rows_at t.root)
        (page_size mid size held.rows_at l.tables schema_left then_trees) refl (among mid size held.rows_at l.tables schema_left then_trees t o) o.split.is.fit in
        let longer : length old ≤ length new = (let a = becomes.moves.longer in let b = left.same in omega (arith, a, b)) in
        let tables_left : split.before ++ split.after ≡ without_table n l.tables = sym (split.without n (found_is (is_table n) l.tables t named)) in
        let tell : AreRowsOf (length new) (record l { tables = split.before ++ split.after; triggers = triggers_left }) schema_left =
        as_rows (length new) (record l { tables = split.before ++ split.after; triggers = triggers_left }) (others ++ map TriggerTold triggers_left) schema_left
        (told_joined split.before split.after (record l { triggers = triggers_left }) ∙ sym (regrouped triggers_left))
        (more_pages (length old) (length new) longer (others ++ map TriggerTold triggers_left) schema_left less.tell) in
        record {
          made = without n db;
          reaches = reached;
          stored = subst (λ (left : Listed). Stores new size left (without n db)) (sym same)
              (stores_of new size held.rows_at (less_table n l) schema_left (without n db)
              (subst (λ (ts : List Table). HoldsTrees new size held.rows_at ts schema_left) tables_left (held_trees.dropped mid size held.rows_at l.tables schema_left then_trees t o new left))
              (laws.others held.rows_at l db n t held.of_listed named)
              (subst (λ (ts : List Table). AreRowsOf (length new) (record l { tables = ts; triggers = triggers_left }) schema_left) tables_left tell)
              (all_without HasKeyIndexes n l.tables held.keys) (fit_without_table n l held.targets));
        }

    pub not_given : (new : PageMap) (f : Fault) → DropsTrees mid new size t (Err f) → IsChangeRefusal (dropping kind.Table n) db f
    not_given new f gives =
        inl (inl (gives (schema_tree schema_left becomes.now_used) (all_trees o.split.before) (all_trees o.split.after) (held.rows_at t.root)
        (page_size mid size held.rows_at l.tables schema_left then_trees) refl (among mid size held.rows_at l.tables schema_left then_trees t o) o.split.is.fit))
