-- The rows of page 1 are the rows of the schema table of the database of what is told.
use Rattle.std.proofs.Common.{◌≡◌, ◌∙◌, inl, inr, refl, sym, ap, subst, ℕ, ℤ, List, [], ◌∷◌, map, codes, Some, None}
use Rattle.std.specs.Prelude.{⊤}
use Rattle.std.specs.FinMap.Entries.{find}
use Rattle.std.specs.List.{AllByRecursion}
use Rattle.tree_leaf.specs.Leaf.{Entry}
use Rattle.sqlval.specs.Lists.{sorted}
use Rattle.sqlval.specs.Names.{folded}
use Rattle.sqlval.specs.declared.value.Value.{Value}
use Rattle.tree_page.specs.Cells.{Pairwise}
use Rattle.catalog.specs.Database.{ATable, AnIndex, AView, ATrigger, Database, Name, name_order, object}
use Rattle.catalog.specs.Listed.{as_index, as_view, key_columns, with_rows}
use Rattle.catalog.specs.declared.tables.Index.{Index}
use Rattle.catalog.specs.declared.tables.Table.{Table}
use Rattle.catalog.specs.declared.tables.Trigger.{Trigger}
use Rattle.catalog.specs.declared.tables.View.{View}
use Rattle.catalog.proofs.NamedDatabases.{folded_twice}
use Rattle.query_names.specs.Checked.{good}
use Rattle.query_names.specs.Schema.{automatic, trigger_made}
use Rattle.query_names.proofs.CreatedTables.{listed_made}
use Rattle.db_files.specs.Schema as listed
use Rattle.db_files.specs.Schema.{IsSchemaEntry, IsSchemaRowOf, SchemaRow, automatic_indexes}
use Rattle.db_pages.specs.Language.{language}
use Rattle.db_pages.specs.Schema.{IndexTold, IsIndexRow, IsKeyRow, IsTableRow, IsTriggerRow, IsViewRow, TableTold, Tells, Told, TriggerTold, ViewTold, due_objects}
use Rattle.db_pages.proofs.SortedObjects.{by_name}
use Rattle.db_pages.proofs.StandingTexts.{index_is, index_not_refused, not_refused, on_another, trigger_not_refused, two_names, view_is, view_not_refused}
use Rattle.db_pages.proofs.ToldObjects.{IsKept, told_name, told_object}

-- what a row tells, as a row of the schema table
abbrev pub row_told : (pages : ℕ) (told : Told) (row : Entry) → Tells pages told row → SchemaRow
row_told pages (TableTold t) row tells = record { kind = codes "table"; name = tells.row_is.name; table = tells.row_is.table_name; root = t.root; sql = Some tells.sql }
row_told pages (IndexTold t i) row (inl tells) = record { kind = codes "index"; name = tells.row_is.name; table = tells.row_is.table_name; root = i.root; sql = Some tells.sql }
row_told pages (IndexTold t i) row (inr tells) = record { kind = codes "index"; name = tells.row_is.name; table = tells.row_is.table_name; root = i.root; sql = None }
row_told pages (ViewTold v) row tells = record { kind = codes "view"; name = tells.name; table = tells.table_name; root = 0; sql = Some tells.sql }
row_told pages (TriggerTold g) row tells = record { kind = codes "trigger"; name = tells.name; table = tells.target_name; root = 0; sql = Some tells.sql }

abbrev pub rows_told : (pages : ℕ) (told : List Told) (rows : List Entry) → Pairwise (Tells pages) told rows → List SchemaRow
rows_told pages [] rows tell = []
rows_told pages (one ∷ told) [] tell = []
rows_told pages (one ∷ told) (row ∷ rows) tell = row_told pages one row tell.0 ∷ rows_told pages told rows tell.1

-- each entry of the page is the record of its row
row_read : (pages : ℕ) (one : Told) (row : Entry) (tells : Tells pages one row) → IsSchemaEntry row (row_told pages one row tells)
row_read pages (TableTold t) row tells = tells.row_is.row_is
row_read pages (IndexTold t i) row (inl tells) = tells.row_is.row_is
row_read pages (IndexTold t i) row (inr tells) = tells.row_is.row_is
row_read pages (ViewTold v) row tells = tells.row_is
row_read pages (TriggerTold g) row tells = tells.row_is

pub rows_read : (pages : ℕ) (told : List Told) (rows : List Entry) (tell : Pairwise (Tells pages) told rows) → Pairwise IsSchemaEntry rows (rows_told pages told rows tell)
rows_read pages [] [] tell = tt
rows_read pages [] (row ∷ rows) tell = absurd tell
rows_read pages (one ∷ told) [] tell = absurd tell
rows_read pages (one ∷ told) (row ∷ rows) tell = (row_read pages one row tell.0, rows_read pages told rows tell.1)

-- a row has the name that it tells
pub name_told : (pages : ℕ) (one : Told) (row : Entry) (tells : Tells pages one row) → folded (row_told pages one row tells).name ≡ folded (told_name one)
name_told pages (TableTold t) row tells = tells.row_is.name_is ∙ sym (ap folded tells.makes.name_is)
name_told pages (IndexTold t i) row (inl tells) = tells.row_is.name_is ∙ sym (ap folded tells.makes.name_is)
name_told pages (IndexTold t i) row (inr tells) = tells.row_is.name_is
name_told pages (ViewTold v) row tells = tells.name_is
name_told pages (TriggerTold g) row tells = tells.name_is

pub rows_named : (pages : ℕ) (told : List Told) (rows : List Entry) (tell : Pairwise (Tells pages) told rows)
    → map (λ row. folded row.name) (rows_told pages told rows tell) ≡ map (λ one. folded (told_name one)) told
rows_named pages [] rows tell = refl
rows_named pages (one ∷ told) [] tell = absurd tell
rows_named pages (one ∷ told) (row ∷ rows) tell =
    ap (λ (n : Name). n ∷ map (λ row. folded row.name) (rows_told pages told rows tell.1)) (name_told pages one row tell.0)
    ∙ ap (λ (ns : List Name). folded (told_name one) ∷ ns) (rows_named pages told rows tell.1)

-- ---- what they say

-- of a table, that the database has the indexes that its keys ask for as its automatic ones; of a trigger, that it fits what its ON names there
abbrev pub FitsIn : Database → Told → Type 0
FitsIn db (TableTold t) = sorted by_name (due_objects t) ≡ automatic_indexes db t.name
FitsIn db (IndexTold t i) = ⊤
FitsIn db (ViewTold v) = ⊤
FitsIn db (TriggerTold g) = trigger_made (object db g.definition.target) g.definition ≡ good (ATrigger g.definition)

module _ (rows_at : ℕ → List (ℤ × List Value)) (db : Database) (pages : ℕ) where
  -- the object of the row's name is what the row tells
  pub object_found : (one : Told) (row : Entry) (tells : Tells pages one row) → IsKept rows_at db one → object db (row_told pages one row tells).name ≡ Some (told_object rows_at one)
  object_found (TableTold t) row tells kept = ap (λ (n : Name). find name_order n db) (name_told pages (TableTold t) row tells) ∙ kept
  object_found (IndexTold t i) row tells kept = ap (λ (n : Name). find name_order n db) (name_told pages (IndexTold t i) row tells) ∙ kept.0
  object_found (ViewTold v) row tells kept = ap (λ (n : Name). find name_order n db) (name_told pages (ViewTold v) row tells) ∙ kept
  object_found (TriggerTold g) row tells kept = ap (λ (n : Name). find name_order n db) (name_told pages (TriggerTold g) row tells) ∙ kept

  -- the row's text makes the table
  table_said : (t : Table) (row : Entry) (tells : IsTableRow pages t row) → FitsIn db (TableTold t) → listed.IsTableRow language db (row_told pages (TableTold t) row tells) (with_rows t (rows_at t.root))
  table_said t row tells due =
      let made = listed_made tells.definition t tells.makes.once tells.makes.columns tells.makes.keys tells.makes.checks in
      record {
        definition = tells.definition;
        kind = refl;
        text = record {
          text = tells.sql;
          sql_is = refl;
          creates = tells.creates;
          accepts = not_refused db tells.definition (with_rows t []) (map key_columns t.keys) made tells.makes.free;
        };
        name = tells.row_is.name_is;
        table = tells.row_is.table_name_is;
        keys = map key_columns t.keys;
        made = made;
        automatic_are = subst (λ (n : Name). sorted by_name (automatic n 1 (map key_columns t.keys)) ≡ automatic_indexes db n) tells.makes.name_is due;
      }

  -- and the index
  index_said : (t : Table) (i : Index) (row : Entry) (tells : IsIndexRow pages t i row) → IsKept rows_at db (IndexTold t i)
      → listed.IsIndexRow language db (row_told pages (IndexTold t i) row (inl tells)) (as_index t i)
  index_said t i row tells kept =
      let made = index_is db tells.definition t i (rows_at t.root) tells.makes kept.1 in
      let here = ap (λ n. object db n) (sym tells.makes.name_is) ∙ kept.0 in
      let on = ap (λ n. find name_order n db) tells.makes.on ∙ kept.1 in
      record {
        definition = tells.definition;
        kind = refl;
        text = record {
          text = tells.sql;
          sql_is = refl;
          creates = tells.creates;
          accepts = index_not_refused db tells.definition (AnIndex (as_index t i)) tells.makes.once tells.makes.free
              (two_names db tells.definition.name tells.definition.table (as_index t i) (with_rows t (rows_at t.root)) here on) made;
        };
        name = tells.row_is.name_is;
        table = tells.row_is.table_name_is;
        made = made;
      }

  -- a row without a text says an automatic index
  key_said : (t : Table) (i : Index) (row : Entry) (tells : IsKeyRow pages t i row) → IsKept rows_at db (IndexTold t i)
      → listed.IsAutomaticRow db (row_told pages (IndexTold t i) row (inr tells)) (as_index t i)
  key_said t i row tells kept = record {
    t = with_rows t (rows_at t.root);
    kind = refl;
    sql = refl;
    is_automatic = tells.automatic;
    table = tells.row_is.table_name_is;
    on = ap (λ (n : Name). find name_order n db) (folded_twice t.name) ∙ kept.1;
  }

  -- a row with the text of a CREATE VIEW says the view
  view_said : (v : View) (row : Entry) (tells : IsViewRow v row) → listed.IsViewRow language db (row_told pages (ViewTold v) row tells) (as_view v)
  view_said v row tells = record {
    definition = v.definition;
    kind = refl;
    text = record { text = tells.sql; sql_is = refl; creates = tells.creates; accepts = view_not_refused db v tells.once tells.free };
    name = tells.name_is;
    table = tells.table_name_is;
    root = refl;
    made = view_is v tells.once;
  }

  -- a row with the text of a CREATE TRIGGER says the trigger
  trigger_said : (g : Trigger) (row : Entry) (tells : IsTriggerRow g row) → IsKept rows_at db (TriggerTold g) → FitsIn db (TriggerTold g)
      → listed.IsTriggerRow language db (row_told pages (TriggerTold g) row tells) g.definition
  trigger_said g row tells kept fits = record {
    kind = refl;
    text = record { text = tells.sql; sql_is = refl; creates = tells.creates; accepts = trigger_not_refused db g.definition tells.free (on_another db g.definition kept fits) fits };
    name = tells.name_is;
    table = tells.target_name_is;
    root = refl;
  }

  row_says : (one : Told) (row : Entry) (tells : Tells pages one row) → IsKept rows_at db one → FitsIn db one → IsSchemaRowOf language db (row_told pages one row tells)
  row_says (TableTold t) row tells kept due = record { is = ATable (with_rows t (rows_at t.root)); found = object_found (TableTold t) row tells kept; says = table_said t row tells due }
  row_says (IndexTold t i) row (inl tells) kept due = record { is = AnIndex (as_index t i); found = object_found (IndexTold t i) row (inl tells) kept; says = inl (index_said t i row tells kept) }
  row_says (IndexTold t i) row (inr tells) kept due = record { is = AnIndex (as_index t i); found = object_found (IndexTold t i) row (inr tells) kept; says = inr (key_said t i row tells kept) }
  row_says (ViewTold v) row tells kept due = record { is = AView (as_view v); found = object_found (ViewTold v) row tells kept; says = view_said v row tells }
  row_says (TriggerTold g) row tells kept fits = record { is = ATrigger g.definition; found = object_found (TriggerTold g) row tells kept; says = trigger_said g row tells kept fits }

  pub rows_say : (told : List Told) (rows : List Entry) (tell : Pairwise (Tells pages) told rows) → AllByRecursion (IsKept rows_at db) told → AllByRecursion (FitsIn db) told
      → AllByRecursion (IsSchemaRowOf language db) (rows_told pages told rows tell)
  rows_say [] rows tell kept due = tt
  rows_say (one ∷ told) [] tell kept due = tt
  rows_say (one ∷ told) (row ∷ rows) tell kept due = (row_says one row tell.0 kept.0 due.0, rows_say told rows tell.1 kept.1 due.1)
