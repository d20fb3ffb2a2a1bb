-- The triggers of a table or view, in the database and in the list.
use Rattle.std.proofs.Common.{◌≡◌, refl, sym, ap, ◌∙◌, ℕ, ℤ, Bool, true, false, List, [], ◌∷◌, ◌++◌, map, Some, None, cond}
use Rattle.std.proofs.lemmas.List.Folds.{list_any-append}
use Rattle.std.specs.List.{cons_option, list_any}
use Rattle.std.specs.Prelude.{◌&&◌, ◌||◌, filter, flat_map}
use Rattle.sqlval.specs.Lists.{any_twice}
use Rattle.sqlval.specs.Names.{is_same_name}
use Rattle.sqlval.specs.declared.value.Value.{Value}
use Rattle.sql_syntax.specs.declared.create.TriggerDefinition.{TriggerDefinition}
use Rattle.catalog.specs.Database.{Name, Database, Object, ATable, AnIndex, AView, ATrigger, triggers_of}
use Rattle.catalog.specs.Laws.{ListsTriggers}
use Rattle.catalog.specs.Listed.{as_index, index_objects, is_on, names_of, objects_of, table_object, treeless_objects, trigger_object, view_object}
use Rattle.catalog.specs.declared.tables.Index.{Index as ListedIndex}
use Rattle.catalog.specs.declared.tables.Table.{Table}
use Rattle.catalog.specs.declared.tables.Trigger.{Trigger}
use Rattle.catalog.specs.declared.tables.View.{View}
use Rattle.catalog.proofs.Dropped.{is_no, names_are, turned}
use Rattle.catalog.proofs.ListedIndexes.{any_made, made, made_finds, made_named}
use Rattle.catalog.proofs.NamedDatabases.{one_database}

-- a test of a trigger of this table or view
abbrev of_target : Name → (TriggerDefinition → Bool) → Object → Bool
of_target name p (ATrigger t) = is_same_name t.target name && p t
of_target name p _ = false

any_of_target : (name : Name) (p : TriggerDefinition → Bool) (db : Database) → list_any (λ t. p t.1) (triggers_of db name) ≡ list_any (λ o. of_target name p o.1) db
any_of_target name p [] = refl
any_of_target name p ((k, ATable t) ∷ es) = any_of_target name p es
any_of_target name p ((k, AView v) ∷ es) = any_of_target name p es
any_of_target name p ((k, AnIndex i) ∷ es) = any_of_target name p es
any_of_target name p ((k, ATrigger t) ∷ es) = by (is_same_name t.target name) (any_of_target name p es) where
  by : (b : Bool) → list_any (λ (u : Name × TriggerDefinition). p u.1) (triggers_of es name) ≡ list_any (λ (o : Name × Object). of_target name p o.1) es
      → list_any (λ (u : Name × TriggerDefinition). p u.1) (cons_option (cond b (Some (k, t)) None) (triggers_of es name)) ≡ (b && p t) || list_any (λ (o : Name × Object). of_target name p o.1) es
  by true rest = ap (λ b. p t || b) rest
  by false rest = rest

module _ (rows_at : ℕ → List (ℤ × List Value)) (name : Name) (p : TriggerDefinition → Bool) where
  abbrev test : Name × Object → Bool
  test o = of_target name p o.1

  no_tables : (tables : List Table) → list_any test (map (table_object rows_at) tables) ≡ false
  no_tables [] = refl
  no_tables (t ∷ ts) = no_tables ts

  no_views : (views : List View) → list_any test (map view_object views) ≡ false
  no_views [] = refl
  no_views (v ∷ vs) = no_views vs

  no_indexes_of : (t : Table) (is : List ListedIndex) (os : List (Name × Object)) → list_any test (map (λ (i : ListedIndex). (i.name, AnIndex (as_index t i))) is ++ os) ≡ list_any test os
  no_indexes_of t [] os = refl
  no_indexes_of t (i ∷ is) os = no_indexes_of t is os

  no_indexes : (tables : List Table) → list_any test (flat_map index_objects tables) ≡ false
  no_indexes [] = refl
  no_indexes (t ∷ ts) = no_indexes_of t t.indexes (flat_map index_objects ts) ∙ no_indexes ts

  of_triggers : (triggers : List Trigger) → list_any test (map trigger_object triggers) ≡ list_any (λ t. p t.definition) (filter (is_on name) triggers)
  of_triggers [] = refl
  of_triggers (t ∷ ts) = ap (λ b. (b && p t.definition) || list_any test (map trigger_object ts)) (turned t.definition.target name) ∙ by_test (is_on name t) (of_triggers ts)
    where
      by_test : (b : Bool) → list_any test (map trigger_object ts) ≡ list_any (λ t. p t.definition) (filter (is_on name) ts)
          → ((b && p t.definition) || list_any test (map trigger_object ts)) ≡ list_any (λ t. p t.definition) (cond b (t ∷ filter (is_on name) ts) (filter (is_on name) ts))
      by_test true rest = ap (λ b. p t.definition || b) rest
      by_test false rest = rest

pub lists_triggers : ListsTriggers
lists_triggers rows_at l db name p of =
    any_of_target name p db
    ∙ ap (list_any (λ (o : Name × Object). of_target name p o.1)) same
    ∙ any_made (of_target name p) objects (ap (any_twice is_same_name) (names_are rows_at l) ∙ is_no (any_twice is_same_name (names_of l)) of.once)
    ∙ list_any-append (test rows_at name p) (map (table_object rows_at) l.tables) (treeless_objects l ++ flat_map index_objects l.tables)
    ∙ ap (λ b. b || list_any (test rows_at name p) (treeless_objects l ++ flat_map index_objects l.tables)) (no_tables rows_at name p l.tables)
    ∙ list_any-append (test rows_at name p) (treeless_objects l) (flat_map index_objects l.tables)
    ∙ ap (λ b. list_any (test rows_at name p) (treeless_objects l) || b) (no_indexes rows_at name p l.tables)
    ∙ or_false (list_any (test rows_at name p) (treeless_objects l))
    ∙ list_any-append (test rows_at name p) (map view_object l.views) (map trigger_object l.triggers)
    ∙ ap (λ b. b || list_any (test rows_at name p) (map trigger_object l.triggers)) (no_views rows_at name p l.views)
    ∙ of_triggers rows_at name p l.triggers
  where
    objects : List (Name × Object)
    objects = objects_of rows_at l

    same : db ≡ made objects
    same = one_database db (made objects) of.named (made_named objects) (λ other. of.lists other ∙ sym (made_finds objects other))

    or_false : (b : Bool) → (b || false) ≡ b
    or_false true = refl
    or_false false = refl
