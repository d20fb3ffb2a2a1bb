-- Two views of one row of the schema table are one, and no row tells a view and a table or an index.
use Rattle.std.proofs.Common.{◌≡◌, inl, inr, ap, ℕ, ℤ, List, map, Some, None}
use Rattle.std.specs.Prelude.{codes}
use Rattle.sqlval.specs.Names.{folded}
use Rattle.sqlval.specs.declared.value.Value.{Value}
use Rattle.record.specs.Record.{DetermineValues}
use Rattle.tree_leaf.specs.Leaf.{Entry}
use Rattle.sql_syntax.specs.declared.create.NewObject.TheVariants as new
use Rattle.sql_syntax.specs.declared.create.ViewDefinition.{ViewDefinition}
use Rattle.catalog.specs.Database.{AView}
use Rattle.catalog.specs.Listed.{names_listed}
use Rattle.catalog.specs.declared.tables.Index.{Index}
use Rattle.catalog.specs.declared.tables.Table.{Table}
use Rattle.catalog.specs.declared.tables.View.{View}
use Rattle.db_pages.specs.Schema.{IndexTold, IsTableRow, IsViewRow, Tells, ViewTold, schema_row}
use Rattle.db_pages.proofs.AlikeTold.{AreAlike}
use Rattle.db_pages.proofs.OneRow.{OneText, no_index_is_view, no_table_is_view, no_text, one_made, text_is, view_definition_is}

module _ (texts : OneText) (values : DetermineValues) (row : Entry) where
  -- ---- two views

  module _ (v w : View) (first : IsViewRow v row) (second : IsViewRow w row) where
    -- the row has one text
    row_is : schema_row (codes "view") first.name first.table_name 0 (Some first.sql) ≡ schema_row (codes "view") second.name second.table_name 0 (Some second.sql)
    row_is = values row.payload _ _ first.row_is second.row_is

    one_view : v.definition ≡ w.definition
    one_view = view_definition_is v.definition w.definition (one_made texts first.sql second.sql (new.View v.definition) (new.View w.definition)
        (text_is (codes "view") (codes "view") first.name second.name first.table_name second.table_name 0 0 first.sql second.sql row_is)
        first.creates second.creates)

    -- whatever rows tables have
    pub views_alike : (rows_at others_at : ℕ → List (ℤ × List Value)) → AreAlike rows_at others_at (ViewTold v) (ViewTold w)
    views_alike rows_at others_at = (
      ap (λ (d : ViewDefinition). folded d.name) one_view,
      ap (λ (d : ViewDefinition). AView (record { columns = map folded (names_listed d); query = d.query })) one_view,
    )

  -- ---- a view and another object

  pub no_table_beside : {A : Type 0} (pages : ℕ) (t : Table) (w : View) → IsTableRow pages t row → IsViewRow w row → A
  no_table_beside pages t w first second =
      no_table_is_view first.definition w.definition (one_made texts first.sql second.sql (new.Table first.definition) (new.View w.definition)
      (text_is (codes "table") (codes "view") first.row_is.name second.name first.row_is.table_name second.table_name t.root 0 first.sql second.sql
      (values row.payload (schema_row (codes "table") first.row_is.name first.row_is.table_name t.root (Some first.sql))
      (schema_row (codes "view") second.name second.table_name 0 (Some second.sql)) first.row_is.row_is second.row_is))
      first.creates second.creates)

  pub no_index_beside : {A : Type 0} (pages : ℕ) (t : Table) (i : Index) (w : View) → Tells pages (IndexTold t i) row → IsViewRow w row → A
  no_index_beside pages t i w (inl first) second =
      no_index_is_view first.definition w.definition (one_made texts first.sql second.sql (new.Index first.definition) (new.View w.definition)
      (text_is (codes "index") (codes "view") first.row_is.name second.name first.row_is.table_name second.table_name i.root 0 first.sql second.sql
      (values row.payload (schema_row (codes "index") first.row_is.name first.row_is.table_name i.root (Some first.sql))
      (schema_row (codes "view") second.name second.table_name 0 (Some second.sql)) first.row_is.row_is second.row_is))
      first.creates second.creates)
  no_index_beside pages t i w (inr first) second =
      no_text (codes "view") (codes "index") second.name first.row_is.name second.table_name first.row_is.table_name 0 i.root second.sql
      (values row.payload (schema_row (codes "view") second.name second.table_name 0 (Some second.sql))
      (schema_row (codes "index") first.row_is.name first.row_is.table_name i.root None) second.row_is first.row_is.row_is)
