-- Two triggers of one row of the schema table are one, and no row tells a trigger and another object.
use Rattle.std.proofs.Common.{◌≡◌, inl, inr, ap, ℕ, ℤ, List, Some, None}
use Rattle.std.specs.Prelude.{codes}
use Rattle.sqlval.specs.Names.{folded}
use Rattle.sqlval.specs.declared.value.Value.{Value}
use Rattle.record.specs.Record.{DetermineValues}
use Rattle.tree_leaf.specs.Leaf.{Entry}
use Rattle.sql_syntax.specs.declared.create.NewObject.TheVariants as new
use Rattle.sql_syntax.specs.declared.create.TriggerDefinition.{TriggerDefinition}
use Rattle.catalog.specs.Database.{ATrigger}
use Rattle.catalog.specs.declared.tables.Index.{Index}
use Rattle.catalog.specs.declared.tables.Table.{Table}
use Rattle.catalog.specs.declared.tables.Trigger.{Trigger}
use Rattle.catalog.specs.declared.tables.View.{View}
use Rattle.db_pages.specs.Schema.{IndexTold, IsTableRow, IsTriggerRow, IsViewRow, Tells, TriggerTold, schema_row}
use Rattle.db_pages.proofs.AlikeTold.{AreAlike}
use Rattle.db_pages.proofs.OneRow.{OneText, no_index_is_trigger, no_table_is_trigger, no_text, no_view_is_trigger, one_made, text_is, trigger_definition_is}

module _ (texts : OneText) (values : DetermineValues) (row : Entry) where
  -- ---- two triggers

  module _ (g h : Trigger) (first : IsTriggerRow g row) (second : IsTriggerRow h row) where
    -- the row has one text
    row_is : schema_row (codes "trigger") first.name first.target_name 0 (Some first.sql) ≡ schema_row (codes "trigger") second.name second.target_name 0 (Some second.sql)
    row_is = values row.payload _ _ first.row_is second.row_is

    one_trigger : g.definition ≡ h.definition
    one_trigger = trigger_definition_is g.definition h.definition (one_made texts first.sql second.sql (new.Trigger g.definition) (new.Trigger h.definition)
        (text_is (codes "trigger") (codes "trigger") first.name second.name first.target_name second.target_name 0 0 first.sql second.sql row_is)
        first.creates second.creates)

    -- whatever rows tables have
    pub triggers_alike : (rows_at others_at : ℕ → List (ℤ × List Value)) → AreAlike rows_at others_at (TriggerTold g) (TriggerTold h)
    triggers_alike rows_at others_at = (ap (λ (d : TriggerDefinition). folded d.name) one_trigger, ap (λ (d : TriggerDefinition). ATrigger d) one_trigger)

  -- ---- a trigger and another object

  pub no_table_beside : {A : Type 0} (pages : ℕ) (t : Table) (g : Trigger) → IsTableRow pages t row → IsTriggerRow g row → A
  no_table_beside pages t g first second =
      no_table_is_trigger first.definition g.definition (one_made texts first.sql second.sql (new.Table first.definition) (new.Trigger g.definition)
      (text_is (codes "table") (codes "trigger") first.row_is.name second.name first.row_is.table_name second.target_name t.root 0 first.sql second.sql
      (values row.payload (schema_row (codes "table") first.row_is.name first.row_is.table_name t.root (Some first.sql))
      (schema_row (codes "trigger") second.name second.target_name 0 (Some second.sql)) first.row_is.row_is second.row_is))
      first.creates second.creates)

  pub no_index_beside : {A : Type 0} (pages : ℕ) (t : Table) (i : Index) (g : Trigger) → Tells pages (IndexTold t i) row → IsTriggerRow g row → A
  no_index_beside pages t i g (inl first) second =
      no_index_is_trigger first.definition g.definition (one_made texts first.sql second.sql (new.Index first.definition) (new.Trigger g.definition)
      (text_is (codes "index") (codes "trigger") first.row_is.name second.name first.row_is.table_name second.target_name i.root 0 first.sql second.sql
      (values row.payload (schema_row (codes "index") first.row_is.name first.row_is.table_name i.root (Some first.sql))
      (schema_row (codes "trigger") second.name second.target_name 0 (Some second.sql)) first.row_is.row_is second.row_is))
      first.creates second.creates)
  no_index_beside pages t i g (inr first) second =
      no_text (codes "trigger") (codes "index") second.name first.row_is.name second.target_name first.row_is.table_name 0 i.root second.sql
      (values row.payload (schema_row (codes "trigger") second.name second.target_name 0 (Some second.sql))
      (schema_row (codes "index") first.row_is.name first.row_is.table_name i.root None) second.row_is first.row_is.row_is)

  pub no_view_beside : {A : Type 0} (v : View) (g : Trigger) → IsViewRow v row → IsTriggerRow g row → A
  no_view_beside v g first second =
      no_view_is_trigger v.definition g.definition (one_made texts first.sql second.sql (new.View v.definition) (new.Trigger g.definition)
      (text_is (codes "view") (codes "trigger") first.name second.name first.table_name second.target_name 0 0 first.sql second.sql
      (values row.payload (schema_row (codes "view") first.name first.table_name 0 (Some first.sql))
      (schema_row (codes "trigger") second.name second.target_name 0 (Some second.sql)) first.row_is second.row_is))
      first.creates second.creates)
