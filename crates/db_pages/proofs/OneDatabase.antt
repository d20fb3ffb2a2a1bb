-- Pages store one database at most: each row of the schema table is one statement, and says one root.
use Rattle.std.proofs.Common.{◌≡◌, ◌∙◌, inl, inr, refl, sym, ap, ap₂, subst, ℕ, List, [], ◌∷◌, length, map, Option, Some, None}
use Rattle.std.specs.Prelude.{codes}
use Rattle.std.specs.FinMap.Entries.{find}
use Rattle.std.specs.List.{AllByRecursion}
use Rattle.sqlval.specs.Names.{folded}
use Rattle.sqlval.specs.declared.collation.Collation.{Collation}
use Rattle.record.specs.Record.{DetermineValues, IsRecord}
use Rattle.tree_leaf.specs.Leaf.{Entry}
use Rattle.pages.specs.Map.{PageMap}
use Rattle.tree_page.specs.Cells.{Pairwise}
use Rattle.tree_table.specs.Laws.{OneTree}
use Rattle.tree_table.specs.Tree.{IsTableTree}
use Rattle.sql_syntax.specs.declared.create.IndexDefinition.{IndexDefinition}
use Rattle.sql_syntax.specs.declared.create.NewObject.TheVariants as new
use Rattle.sql_syntax.specs.declared.create.TableDefinition.{TableDefinition}
use Rattle.catalog.specs.Database as database
use Rattle.catalog.specs.Database.{ATable, AnIndex, Database, Name, TableColumn, name_order, object}
use Rattle.catalog.specs.Listed.{Listed, as_column, as_index, key_columns, named_among, own_column, place_within, shape_of, with_rows}
use Rattle.catalog.specs.declared.tables.Column.{Column}
use Rattle.catalog.specs.declared.tables.Index.{Index}
use Rattle.catalog.specs.declared.tables.RowShape.{RowShape}
use Rattle.catalog.specs.declared.tables.Table.{Table}
use Rattle.catalog.proofs.NamedDatabases.{one_database}
use Rattle.query_names.specs.Checked.{Checked, meant}
use Rattle.query_terms.specs.Terms.{Term}
use Rattle.query_names.specs.Creating.{checks_known, defined, described, table_keys_known}
use Rattle.query_names.specs.Schema.{automatic, index_made}
use Rattle.row_scan.specs.Rows.{IsRow, TableRow}
use Rattle.row_scan.proofs.HeldRows.{same_rows}
use Rattle.db_layout.specs.Layout.{HoldsUnder, IsTree, Owner}
use Rattle.db_layout.specs.Trees.{IsRowsTree}
use Rattle.db_pages.specs.Schema.{IndexTold, IsIndexRow, IsKeyRow, IsTableRow, TableTold, Tells, Told, TriggerTold, ViewTold, due_objects, schema_row}
use Rattle.db_pages.specs.Standing.{StoredOnce}
use Rattle.db_pages.specs.Stored.{Stores}
use Rattle.db_pages.proofs.AlikeTold.{AreAlike, HaveAlikeTables, beside, by_rows, each_pair, same_found, table_found}
use Rattle.db_pages.proofs.KeptObjects.{named_alike}
use Rattle.db_pages.proofs.OneRow.{OneText, index_definition_is, no_table_is_index, no_text, one_made, root_is, row_name_is, row_table_is, table_is, text_is}
use Rattle.db_pages.proofs.OneTriggers as triggers
use Rattle.db_pages.proofs.OneTriggers.{no_view_beside, triggers_alike}
use Rattle.db_pages.proofs.OneViews.{no_index_beside, no_table_beside, views_alike}
use Rattle.db_pages.proofs.StandingTexts.{index_is}
use Rattle.db_pages.proofs.StandingTrees.{IsTreeTold, in_order_told}
use Rattle.db_pages.proofs.StoredNames.{same_some}
use Rattle.db_pages.proofs.ToldDues.{told_due}
use Rattle.db_pages.proofs.ToldObjects.{IsKept, told_finds, told_kept}
use Rattle.db_pages.proofs.ToldTables.{HaveAlikeDues, IsDueAmong, due_alike, due_named, same_dues}

-- ---- columns

first_of : {A : Type 0} (a b : A) (us bs : List A) → a ∷ us ≡ b ∷ bs → a ≡ b
first_of a b us bs h = cc

rest_of : {A : Type 0} (a b : A) (us bs : List A) → a ∷ us ≡ b ∷ bs → us ≡ bs
rest_of a b us bs h = cc

no_item : {A B : Type 0} (b : B) (bs : List B) → [] ≡ b ∷ bs → A
no_item b bs h = absurd cc

-- a column is what it is described as
column_is : (a b : Column) → described a ≡ described b → a ≡ b
column_is a b h =
    let name : a.name ≡ b.name = ap (λ (d : Name × Checked TableColumn). d.0) h in
    let made : as_column a ≡ as_column b = ap (λ (d : Name × Checked TableColumn). meant d.1) h in
    λ i. record { name = name i; affinity = (made i).affinity; collation = (made i).collation; is_filled = (made i).is_filled; default = (made i).default }

pub columns_are : (us ts : List Column) → map described us ≡ map described ts → us ≡ ts
columns_are [] [] h = refl
columns_are [] (t ∷ ts) h = no_item (described t) (map described ts) h
columns_are (u ∷ us) [] h = no_item (described u) (map described us) (sym h)
columns_are (u ∷ us) (t ∷ ts) h =
    let first = column_is u t (first_of (described u) (described t) (map described us) (map described ts) h) in
    let rest = columns_are us ts (rest_of (described u) (described t) (map described us) (map described ts) h) in
    λ i. first i ∷ rest i

abbrev table_with : List Column → Option ℕ → List Term → List TableRow → database.Table
table_with cs own checks rows = record { columns = map as_column cs; rowid_column = own; checks = checks; rows = rows }

module _ (trees : OneTree) (texts : OneText) (values : DetermineValues) where
  module _ (pages : PageMap) (size : ℕ) (l more : Listed) (a b : Database) (one : Stores pages size l a) (other : Stores pages size more b) where
    abbrev count : ℕ
    count = length pages

    -- what is told with its tree
    abbrev HasItsTree : (ℕ → List TableRow) → Told → Type 0
    HasItsTree rows_at told = (owner : Owner) × IsTreeTold pages size rows_at told owner

    -- ---- two tables of one row

    module _ (t u : Table) (row : Entry) (first : IsTableRow count t row) (second : IsTableRow count u row) where
      row_is : schema_row (codes "table") first.row_is.name first.row_is.table_name t.root (Some first.sql) ≡ schema_row (codes "table") second.row_is.name second.row_is.table_name u.root (Some second.sql)
      row_is = values row.payload _ _ first.row_is.row_is second.row_is.row_is

      one_definition : first.definition ≡ second.definition
      one_definition = table_is first.definition second.definition (one_made texts first.sql second.sql (new.Table first.definition) (new.Table second.definition)
          (text_is (codes "table") (codes "table") first.row_is.name second.row_is.name first.row_is.table_name second.row_is.table_name t.root u.root first.sql second.sql row_is)
          first.creates second.creates)

      one_root : t.root ≡ u.root
      one_root = root_is (codes "table") (codes "table") first.row_is.name second.row_is.name first.row_is.table_name second.row_is.table_name t.root u.root (Some first.sql) (Some second.sql) row_is

      one_name : t.name ≡ u.name
      one_name = first.makes.name_is ∙ ap (λ (d : TableDefinition). d.name) one_definition ∙ sym second.makes.name_is

      one_columns : t.columns ≡ u.columns
      one_columns = columns_are t.columns u.columns (first.makes.columns ∙ ap (λ (d : TableDefinition). map defined d.columns) one_definition ∙ sym second.makes.columns)

      one_checks : t.checks ≡ u.checks
      one_checks = ap meant (sym first.makes.checks
          ∙ (ap (λ (d : TableDefinition). checks_known d t.columns) one_definition ∙ ap (checks_known second.definition) one_columns)
          ∙ second.makes.checks)

      -- their keys ask for the same
      one_asked : ◌≡◌ {A = Option ℕ × List (List (ℕ × Collation))} (t.rowid_column, map key_columns t.keys) (u.rowid_column, map key_columns u.keys)
      one_asked = ap meant (sym first.makes.keys
          ∙ (ap (λ (d : TableDefinition). table_keys_known d t.columns) one_definition ∙ ap (table_keys_known second.definition) one_columns)
          ∙ second.makes.keys)

      one_own : own_column t ≡ own_column u
      one_own = ap₂ (λ (cs : List Column) (own : Option ℕ). place_within (length cs) own) one_columns (ap (λ (asked : Option ℕ × List (List (ℕ × Collation))). asked.0) one_asked)

      one_due : due_objects t ≡ due_objects u
      one_due = ap₂ (λ (n : Name) (keys : List (List (ℕ × Collation))). automatic n 1 keys) one_name (ap (λ (asked : Option ℕ × List (List (ℕ × Collation))). asked.1) one_asked)

      -- and their rows have one shape
      one_shape : shape_of t ≡ shape_of u
      one_shape = ap₂ (λ (cs : List Column) (own : Option ℕ). (let s : RowShape = record { width = length cs; own = own } in s)) one_columns one_own

      rows_tree : (v : Table) (rows : List TableRow) (o : Owner) (is : IsRowsTree v rows o) → IsTree pages size o → IsTableTree pages size v.root is.entries o.used
      rows_tree v rows o is tree = subst (λ (root : ℕ). IsTableTree pages size root is.entries o.used) is.root_is (subst (HoldsUnder pages size o.root o.used) is.content_is tree)

      one_rows : HasItsTree one.rows_at (TableTold t) → HasItsTree other.rows_at (TableTold u) → one.rows_at t.root ≡ other.rows_at u.root
      one_rows mine its =
          same_rows (shape_of t) mine.1.0.entries its.1.0.entries (one.rows_at t.root) (other.rows_at u.root)
          (trees pages size u.root mine.1.0.entries its.1.0.entries mine.0.used its.0.used
          (subst (λ (root : ℕ). IsTableTree pages size root mine.1.0.entries mine.0.used) one_root (rows_tree t (one.rows_at t.root) mine.0 mine.1.0 mine.1.1))
          (rows_tree u (other.rows_at u.root) its.0 its.1.0 its.1.1)).0
          mine.1.0.each
          (subst (λ (s : RowShape). Pairwise (IsRow s) its.1.0.entries (other.rows_at u.root)) (sym one_shape) its.1.0.each)

      tables_alike : HasItsTree one.rows_at (TableTold t) → HasItsTree other.rows_at (TableTold u) → AreAlike one.rows_at other.rows_at (TableTold t) (TableTold u)
      tables_alike mine its = (ap folded one_name, λ i. ATable (table_with (one_columns i) (one_own i) (one_checks i) (one_rows mine its i)))

    -- ---- two indexes of one row

    -- the names that the row of an index has
    record HasNames (t : Table) (i : Index) (row : Entry) : Type 0 where
      name : Name
      table_name : Name
      sql : Option (List ℕ)
      name_is : folded name ≡ folded i.name
      table_name_is : folded table_name ≡ folded t.name
      row_is : IsRecord row.payload (schema_row (codes "index") name table_name i.root sql)

    has_names : (t : Table) (i : Index) (row : Entry) → Tells count (IndexTold t i) row → HasNames t i row
    has_names t i row (inl is) = record {
      name = is.row_is.name;
      table_name = is.row_is.table_name;
      sql = Some is.sql;
      name_is = is.row_is.name_is ∙ sym (ap folded is.makes.name_is);
      table_name_is = is.row_is.table_name_is ∙ is.makes.on;
      row_is = is.row_is.row_is;
    }
    has_names t i row (inr is) = record {
      name = is.row_is.name;
      table_name = is.row_is.table_name;
      sql = None;
      name_is = is.row_is.name_is;
      table_name_is = is.row_is.table_name_is;
      row_is = is.row_is.row_is;
    }

    module _ (t u : Table) (i j : Index) (row : Entry) (first : Tells count (IndexTold t i) row) (second : Tells count (IndexTold u j) row) where
      first_has : HasNames t i row
      first_has = has_names t i row first

      second_has : HasNames u j row
      second_has = has_names u j row second

      names_are : schema_row (codes "index") first_has.name first_has.table_name i.root first_has.sql ≡ schema_row (codes "index") second_has.name second_has.table_name j.root second_has.sql
      names_are = values row.payload _ _ first_has.row_is second_has.row_is

      index_names : folded i.name ≡ folded j.name
      index_names =
          sym first_has.name_is
          ∙ (ap folded (row_name_is (codes "index") (codes "index") first_has.name second_has.name first_has.table_name second_has.table_name i.root j.root first_has.sql second_has.sql names_are) ∙ second_has.name_is)

      on_names : folded t.name ≡ folded u.name
      on_names =
          sym first_has.table_name_is
          ∙ (ap folded (row_table_is (codes "index") (codes "index") first_has.name second_has.name first_has.table_name second_has.table_name i.root j.root first_has.sql second_has.sql names_are) ∙ second_has.table_name_is)

    -- a table of the one is a table of the other
    abbrev HasSameTables : Type 0
    HasSameTables = (d : IndexDefinition) → (table : database.Table) → object a d.table ≡ Some (ATable table) → object b d.table ≡ Some (ATable table)

    module _ (t u : Table) (i j : Index) (row : Entry) (first : IsIndexRow count t i row) (second : IsIndexRow count u j row) where
      index_row_is : schema_row (codes "index") first.row_is.name first.row_is.table_name i.root (Some first.sql) ≡ schema_row (codes "index") second.row_is.name second.row_is.table_name j.root (Some second.sql)
      index_row_is = values row.payload _ _ first.row_is.row_is second.row_is.row_is

      one_index : first.definition ≡ second.definition
      one_index = index_definition_is first.definition second.definition (one_made texts first.sql second.sql (new.Index first.definition) (new.Index second.definition)
          (text_is (codes "index") (codes "index") first.row_is.name second.row_is.name first.row_is.table_name second.row_is.table_name i.root j.root first.sql second.sql index_row_is)
          first.creates second.creates)

      -- on one table they are one
      indexes_alike : HasSameTables → IsKept one.rows_at a (IndexTold t i) → IsKept other.rows_at b (IndexTold u j) → AreAlike one.rows_at other.rows_at (IndexTold t i) (IndexTold u j)
      indexes_alike tables mine its =
          let on_a : object a first.definition.table ≡ Some (ATable (with_rows t (one.rows_at t.root))) = ap (λ n. find name_order n a) first.makes.on ∙ mine.1 in
          let on_b : object b first.definition.table ≡ Some (ATable (with_rows t (one.rows_at t.root))) = tables first.definition (with_rows t (one.rows_at t.root)) on_a in
          let made_a = index_is a first.definition t i (one.rows_at t.root) first.makes mine.1 in
          let made_b = index_is b second.definition u j (other.rows_at u.root) second.makes its.1 in (
            index_names t u i j row (inl first) (inl second),
            ap meant (sym made_a ∙ ap (λ o. index_made o first.definition) (on_a ∙ sym on_b) ∙ ap (λ (d : IndexDefinition). index_made (object b d.table) d) one_index ∙ made_b),
          )

    -- one has a text and the other has none
    differ : {A : Type 0} (t u : Table) (i j : Index) (row : Entry) → IsIndexRow count t i row → IsKeyRow count u j row → A
    differ t u i j row first second =
        no_text (codes "index") (codes "index") first.row_is.name second.row_is.name first.row_is.table_name second.row_is.table_name i.root j.root first.sql
        (values row.payload (schema_row (codes "index") first.row_is.name first.row_is.table_name i.root (Some first.sql))
        (schema_row (codes "index") second.row_is.name second.row_is.table_name j.root None) first.row_is.row_is second.row_is.row_is)

    -- two of one row without a text are what a key of one table asks for
    keys_alike : (t u : Table) (i j : Index) (row : Entry) → IsKeyRow count t i row → IsKeyRow count u j row → ((name : Name) → due_named name one.tell.told ≡ due_named name other.tell.told)
        → IsDueAmong one.tell.told (IndexTold t i) → IsDueAmong other.tell.told (IndexTold u j) → AreAlike one.rows_at other.rows_at (IndexTold t i) (IndexTold u j)
    keys_alike t u i j row first second same mine its =
        let names = index_names t u i j row (inr first) (inr second) in
        let due : due_objects t ≡ due_objects u = same_some (due_objects t) (due_objects u)
        (sym mine.0 ∙ (due_alike t.name u.name one.tell.told (on_names t u i j row (inr first) (inr second)) ∙ (same u.name ∙ its.0))) in (
          names,
          same_some (AnIndex (as_index t i)) (AnIndex (as_index u j))
              (sym (mine.1 first.automatic) ∙ (ap (named_among i.name) due ∙ (named_alike i.name j.name (due_objects u) names ∙ its.1 second.automatic))),
        )

    -- ---- a table and an index aren't told by one row

    apart : {A : Type 0} (t u : Table) (j : Index) (row : Entry) → IsTableRow count t row → Tells count (IndexTold u j) row → A
    apart t u j row first (inl second) =
        no_table_is_index first.definition second.definition (one_made texts first.sql second.sql (new.Table first.definition) (new.Index second.definition)
        (text_is (codes "table") (codes "index") first.row_is.name second.row_is.name first.row_is.table_name second.row_is.table_name t.root j.root first.sql second.sql
        (values row.payload (schema_row (codes "table") first.row_is.name first.row_is.table_name t.root (Some first.sql))
        (schema_row (codes "index") second.row_is.name second.row_is.table_name j.root (Some second.sql)) first.row_is.row_is second.row_is.row_is))
        first.creates second.creates)
    apart t u j row first (inr second) =
        no_text (codes "table") (codes "index") first.row_is.name second.row_is.name first.row_is.table_name second.row_is.table_name t.root j.root first.sql
        (values row.payload (schema_row (codes "table") first.row_is.name first.row_is.table_name t.root (Some first.sql))
        (schema_row (codes "index") second.row_is.name second.row_is.table_name j.root None) first.row_is.row_is second.row_is.row_is)

    -- ---- what one row tells in both

    alike_first : (x y : Told) (row : Entry) → Tells count x row → Tells count y row → HasItsTree one.rows_at x → HasItsTree other.rows_at y → HaveAlikeTables one.rows_at other.rows_at x y × HaveAlikeDues x y
    alike_first (TableTold t) (TableTold u) row first second mine its =
        let alike = tables_alike t u row first second mine its in (alike, (alike.0, one_due t u row first second))
    alike_first (TableTold t) (IndexTold u j) row first second mine its = apart t u j row first second
    alike_first (TableTold t) (ViewTold w) row first second mine its = no_table_beside texts values row count t w first second
    alike_first (TableTold t) (TriggerTold h) row first second mine its = triggers.no_table_beside texts values row count t h first second
    alike_first (IndexTold t i) (TableTold u) row first second mine its = apart u t i row second first
    alike_first (IndexTold t i) (IndexTold u j) row first second mine its = (index_names t u i j row first second, tt)
    alike_first (IndexTold t i) (ViewTold w) row first second mine its = no_index_beside texts values row count t i w first second
    alike_first (IndexTold t i) (TriggerTold h) row first second mine its = triggers.no_index_beside texts values row count t i h first second
    alike_first (ViewTold v) (TableTold u) row first second mine its = no_table_beside texts values row count u v second first
    alike_first (ViewTold v) (IndexTold u j) row first second mine its = no_index_beside texts values row count u j v second first
    alike_first (ViewTold v) (ViewTold w) row first second mine its = (views_alike texts values row v w first second one.rows_at other.rows_at, tt)
    alike_first (ViewTold v) (TriggerTold h) row first second mine its = no_view_beside texts values row v h first second
    alike_first (TriggerTold g) (TableTold u) row first second mine its = triggers.no_table_beside texts values row count u g second first
    alike_first (TriggerTold g) (IndexTold u j) row first second mine its = triggers.no_index_beside texts values row count u j g second first
    alike_first (TriggerTold g) (ViewTold w) row first second mine its = no_view_beside texts values row w g second first
    alike_first (TriggerTold g) (TriggerTold h) row first second mine its = (triggers_alike texts values row g h first second one.rows_at other.rows_at, tt)

    -- what is known of each in the first and in the second
    abbrev IsKnownHere : Told → Type 0
    IsKnownHere x = HasItsTree one.rows_at x × IsKept one.rows_at a x × IsDueAmong one.tell.told x

    abbrev IsKnownThere : Told → Type 0
    IsKnownThere y = HasItsTree other.rows_at y × IsKept other.rows_at b y × IsDueAmong other.tell.told y

    alike_then : HasSameTables → ((name : Name) → due_named name one.tell.told ≡ due_named name other.tell.told) → (x y : Told) (row : Entry) → Tells count x row → Tells count y row → IsKnownHere x → IsKnownThere y
        → AreAlike one.rows_at other.rows_at x y
    alike_then tables dues (TableTold t) (TableTold u) row first second mine its = tables_alike t u row first second mine.0 its.0
    alike_then tables dues (TableTold t) (IndexTold u j) row first second mine its = apart t u j row first second
    alike_then tables dues (TableTold t) (ViewTold w) row first second mine its = no_table_beside texts values row count t w first second
    alike_then tables dues (TableTold t) (TriggerTold h) row first second mine its = triggers.no_table_beside texts values row count t h first second
    alike_then tables dues (IndexTold t i) (TableTold u) row first second mine its = apart u t i row second first
    alike_then tables dues (IndexTold t i) (IndexTold u j) row (inl first) (inl second) mine its = indexes_alike t u i j row first second tables mine.1 its.1
    alike_then tables dues (IndexTold t i) (IndexTold u j) row (inl first) (inr second) mine its = differ t u i j row first second
    alike_then tables dues (IndexTold t i) (IndexTold u j) row (inr first) (inl second) mine its = differ u t j i row second first
    alike_then tables dues (IndexTold t i) (IndexTold u j) row (inr first) (inr second) mine its = keys_alike t u i j row first second dues mine.2 its.2
    alike_then tables dues (IndexTold t i) (ViewTold w) row first second mine its = no_index_beside texts values row count t i w first second
    alike_then tables dues (IndexTold t i) (TriggerTold h) row first second mine its = triggers.no_index_beside texts values row count t i h first second
    alike_then tables dues (ViewTold v) (TableTold u) row first second mine its = no_table_beside texts values row count u v second first
    alike_then tables dues (ViewTold v) (IndexTold u j) row first second mine its = no_index_beside texts values row count u j v second first
    alike_then tables dues (ViewTold v) (ViewTold w) row first second mine its = views_alike texts values row v w first second one.rows_at other.rows_at
    alike_then tables dues (ViewTold v) (TriggerTold h) row first second mine its = no_view_beside texts values row v h first second
    alike_then tables dues (TriggerTold g) (TableTold u) row first second mine its = triggers.no_table_beside texts values row count u g second first
    alike_then tables dues (TriggerTold g) (IndexTold u j) row first second mine its = triggers.no_index_beside texts values row count u j g second first
    alike_then tables dues (TriggerTold g) (ViewTold w) row first second mine its = no_view_beside texts values row w g second first
    alike_then tables dues (TriggerTold g) (TriggerTold h) row first second mine its = triggers_alike texts values row g h first second one.rows_at other.rows_at

    -- the schema table has one list of rows
    one_schema : one.schema ≡ other.schema
    one_schema = (trees pages size 1 one.schema other.schema one.schema_used other.schema_used one.shared.trees.0 other.shared.trees.0).0

    tell_here : Pairwise (Tells count) one.tell.told other.schema
    tell_here = subst (Pairwise (Tells count) one.tell.told) one_schema one.tell.each

    my_trees : AllByRecursion (HasItsTree one.rows_at) one.tell.told
    my_trees = (let owners = in_order_told pages size l a one in
        beside (IsTreeTold pages size one.rows_at) one.tell.told owners.0 owners.1)

    its_trees : AllByRecursion (HasItsTree other.rows_at) other.tell.told
    its_trees = (let owners = in_order_told pages size more b other in
        beside (IsTreeTold pages size other.rows_at) other.tell.told owners.0 owners.1)

    -- what each says without the others
    firsts : Pairwise (λ x y. HaveAlikeTables one.rows_at other.rows_at x y × HaveAlikeDues x y) one.tell.told other.tell.told
    firsts = by_rows (Tells count) (Tells count) (HasItsTree one.rows_at) (HasItsTree other.rows_at) (λ x y. HaveAlikeTables one.rows_at other.rows_at x y × HaveAlikeDues x y) alike_first
        one.tell.told other.tell.told other.schema tell_here other.tell.each my_trees its_trees

    -- a table of the one is a table of the other
    same_table : HasSameTables
    same_table d table found =
        told_finds other.rows_at more b other.of_listed other.tell.told other.tell.all d.table
        ∙ table_found one.rows_at other.rows_at d.table table one.tell.told other.tell.told
        (each_pair (λ x y. HaveAlikeTables one.rows_at other.rows_at x y × HaveAlikeDues x y) (HaveAlikeTables one.rows_at other.rows_at) (λ x y both. both.0) one.tell.told other.tell.told firsts)
        (sym (told_finds one.rows_at l a one.of_listed one.tell.told one.tell.all d.table) ∙ found)

    -- and the keys of one ask for what those of the other ask for
    one_dues : (name : Name) → due_named name one.tell.told ≡ due_named name other.tell.told
    one_dues name = same_dues name one.tell.told other.tell.told
        (each_pair (λ x y. HaveAlikeTables one.rows_at other.rows_at x y × HaveAlikeDues x y) HaveAlikeDues (λ x y both. both.1) one.tell.told other.tell.told firsts)

    all_and : {A : Type 0} (P Q R : A → Type 0) (xs : List A) → AllByRecursion P xs → AllByRecursion Q xs → AllByRecursion R xs → AllByRecursion (λ x. P x × Q x × R x) xs
    all_and P Q R [] ps qs rs = tt
    all_and P Q R (x ∷ xs) ps qs rs = ((ps.0, qs.0, rs.0), all_and P Q R xs ps.1 qs.1 rs.1)

    all_alike : Pairwise (AreAlike one.rows_at other.rows_at) one.tell.told other.tell.told
    all_alike = by_rows (Tells count) (Tells count) IsKnownHere IsKnownThere
        (AreAlike one.rows_at other.rows_at) (alike_then same_table one_dues) one.tell.told other.tell.told other.schema tell_here other.tell.each
        (all_and (HasItsTree one.rows_at) (IsKept one.rows_at a) (IsDueAmong one.tell.told) one.tell.told my_trees (told_kept one.rows_at l a one.of_listed one.tell.told one.tell.all) (told_due pages size l a one))
        (all_and (HasItsTree other.rows_at) (IsKept other.rows_at b) (IsDueAmong other.tell.told) other.tell.told its_trees (told_kept other.rows_at more b other.of_listed other.tell.told other.tell.all) (told_due pages size more b other))

    pub same_database : a ≡ b
    same_database = one_database a b one.of_listed.named other.of_listed.named (λ name.
        told_finds one.rows_at l a one.of_listed one.tell.told one.tell.all name
        ∙ same_found one.rows_at other.rows_at name one.tell.told other.tell.told all_alike
        ∙ sym (told_finds other.rows_at more b other.of_listed other.tell.told other.tell.all name))

pub stored_once : OneTree → OneText → DetermineValues → StoredOnce
stored_once trees texts values pages size l more a b one other = same_database trees texts values pages size l more a b one other
