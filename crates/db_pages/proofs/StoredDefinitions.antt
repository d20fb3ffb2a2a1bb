-- The table that a row of the schema table tells.
use Rattle.std.proofs.Common.{◌≡◌, refl, sym, ap, ap₂, subst, ◌∙◌, ℕ, ℤ, pos, List, [], ◌∷◌, ◌++◌, map, Option, Some}
use Rattle.std.specs.List.{list_any}
use Rattle.std.specs.Prelude.{codes}
use Rattle.sqlval.specs.Affinity.{declared_affinity}
use Rattle.sqlval.specs.Lists.{sorted}
use Rattle.sqlval.specs.Names.{folded}
use Rattle.sqlval.specs.declared.affinity.Affinity.{Affinity}
use Rattle.sqlval.specs.declared.collation.Collation.{Collation}
use Rattle.sqlval.specs.declared.value.Value.TheVariants.{Null}
use Rattle.sql_syntax.specs.declared.create.ColumnDefinition.{ColumnDefinition}
use Rattle.sql_syntax.specs.declared.create.NewObject.TheVariants as new
use Rattle.sql_syntax.specs.declared.create.TableDefinition.{TableDefinition}
use Rattle.catalog.specs.Database as database
use Rattle.catalog.specs.Database.{Name, Database, TableColumn, name_order}
use Rattle.catalog.specs.Listed.{as_column, key_columns, with_rows, type_text}
use Rattle.catalog.specs.declared.tables.Column.{Column}
use Rattle.catalog.specs.declared.tables.IndexColumn.{IndexColumn}
use Rattle.catalog.specs.declared.tables.Table.{Table}
use Rattle.query_terms.specs.Terms.{Term}
use Rattle.query_names.specs.Checked.{Checked, Meant, both, faults, good, known_all, meant}
use Rattle.query_names.specs.Creating.{checks_known, defined, described, table_keys_known}
use Rattle.query_names.specs.Schema.{automatic}
use Rattle.query_names.specs.Tables.{affinity_known, collation_of, column_of, default_of, is_not_null, last_of, table_made}
use Rattle.query_names.proofs.CreatedTables.{IsAccepted, accepted, listed_made}
use Rattle.db_files.specs.Schema.{SchemaRow, IsTableRow, automatic_indexes}
use Rattle.db_pages.specs.Language.{others, language}
use Rattle.db_pages.specs.Schema.{IsCreateOf}
use Rattle.db_pages.proofs.StoredIndexes.{Keys, key_for, same_keys}

-- ---- the table of a definition

-- a column, under its name as it is written
abbrev pub listed_as : Name → TableColumn → Column
listed_as n c = record { name = n; affinity = c.affinity; collation = c.collation; is_filled = c.is_filled; default = c.default }

-- the listed column of a definition
abbrev pub column_for : ColumnDefinition → Column
column_for c = listed_as c.name (meant (column_of c))

-- what its CHECKs mean
abbrev pub checks_for : TableDefinition → List Term
checks_for d = meant (checks_known d (map column_for d.columns))

-- what its keys ask for
abbrev asked_of : TableDefinition → Option ℕ × List Keys
asked_of d = meant (table_keys_known d (map column_for d.columns))

-- the place of the column that is another name of the rowid
abbrev pub own_for : TableDefinition → Option ℕ
own_for d = (asked_of d).0

-- the columns of each index that its keys ask for
abbrev pub keys_for : TableDefinition → List (List IndexColumn)
keys_for d = map (map key_for) (asked_of d).1

-- the table of a definition, whose tree begins at this page, and whose row has this rowid
abbrev pub table_of : TableDefinition → ℕ → ℤ → Table
table_of d root rowid = record { name = d.name; columns = map column_for d.columns; rowid_column = own_for d; checks = checks_for d; keys = keys_for d; indexes = []; root = root; rowid = rowid }

not_bad : {A : Type 0} (k : Checked A) → faults k ≡ [] → k ≡ good (meant k)
not_bad (Meant x rs) none = ap (λ ss. Meant x ss) none

no_part : {A : Type 0} (xs ys : List A) → xs ++ ys ≡ [] → (xs ≡ []) × (ys ≡ [])
no_part [] ys none = (refl, none)
no_part (x ∷ xs) ys none = absurd cc

neither : {A B C : Type 0} (f : A → B → C) (k : Checked A) (l : Checked B) → faults (both f k l) ≡ [] → (faults k ≡ []) × (faults l ≡ [])
neither f (Meant x rs) (Meant y ss) none = no_part rs ss none

-- what a column's affinity and collation make with the rest of its definition
abbrev made_with : ColumnDefinition → Affinity → Collation → TableColumn
made_with c a k = record { name = folded c.name; affinity = a; collation = k; is_filled = list_any is_not_null c.rules; default = last_of default_of Null c.rules }

-- where nothing is refused of them, that is the column that is listed
column_so : (c : ColumnDefinition) (a : Checked Affinity) (k : Checked Collation) → faults (both (made_with c) a k) ≡ [] → good (as_column (listed_as c.name (meant (both (made_with c) a k)))) ≡ both (made_with c) a k
column_so c (Meant a rs) (Meant k ss) none = ap (λ ts. Meant (made_with c a k) ts) (sym none)

described_so : (cs : List ColumnDefinition) → faults (known_all (map column_of cs)) ≡ [] → map described (map column_for cs) ≡ map defined cs
described_so [] known = refl
described_so (c ∷ cs) known =
    let parts = neither (λ (x : TableColumn) xs. x ∷ xs) (column_of c) (known_all (map column_of cs)) known in
    ap (λ made. (c.name, made) ∷ map described (map column_for cs)) (column_so c (affinity_known (declared_affinity (type_text c))) (collation_of c.rules) parts.0)
    ∙ ap (λ ds. defined c ∷ ds) (described_so cs parts.1)

checks_so : (d : TableDefinition) → IsAccepted d → checks_known d (map column_for d.columns) ≡ good (checks_for d)
checks_so d is = not_bad (checks_known d (map column_for d.columns)) (is.checked (map column_for d.columns) (described_so d.columns is.known))

-- the keys that are listed are those that are known
each_same : (keys : List Keys) → map key_columns (map (map key_for) keys) ≡ keys
each_same [] = refl
each_same (key ∷ keys) = ap₂ (λ (k : Keys) (ks : List Keys). k ∷ ks) (same_keys key) (each_same keys)

-- where nothing is refused, its keys are known over its columns
keys_so : (d : TableDefinition) → IsAccepted d → table_keys_known d (map column_for d.columns) ≡ good (own_for d, map key_columns (keys_for d))
keys_so d is =
    not_bad (table_keys_known d (map column_for d.columns)) (is.keyed (map column_for d.columns) (described_so d.columns is.known))
    ∙ ap (λ (keys : List Keys). good (own_for d, keys)) (sym (each_same (asked_of d).1))

-- ---- what its row says

-- The row has the text of a CREATE TABLE that isn't refused; it makes this table, and the automatic indexes of the database.
pub record IsTold (db : Database) (row : SchemaRow) (t : database.Table) : Type 0 where
  pub definition : TableDefinition
  pub sql : List ℕ
  pub sql_is : row.sql ≡ Some sql
  pub kind_is : row.kind ≡ codes "table"
  pub name_is : folded row.name ≡ folded definition.name
  pub table_is : folded row.table ≡ folded definition.name
  pub creates : IsCreateOf sql (new.Table definition)
  pub accepts : IsAccepted definition
  pub described_is : map described (map column_for definition.columns) ≡ map defined definition.columns
  pub checks_are : checks_known definition (map column_for definition.columns) ≡ good (checks_for definition)
  pub keys_are : table_keys_known definition (map column_for definition.columns) ≡ good (own_for definition, map key_columns (keys_for definition))
  pub made : (root : ℕ) (rowid : ℤ) → t ≡ with_rows (table_of definition root rowid) t.rows
  pub automatic_are : sorted (λ a b. name_order a.0 b.0) (automatic definition.name 1 (map key_columns (keys_for definition))) ≡ automatic_indexes db definition.name

-- what a CREATE TABLE makes
abbrev Made : Type 0
Made = database.Table × List Keys

-- what the definition makes, both ways
both_made : (d : TableDefinition) (t : database.Table) (keys : List Keys) (root : ℕ) (rowid : ℤ) → IsAccepted d → table_made d ≡ good (record t { rows = [] }, keys)
    → ◌≡◌ {A = Made} (with_rows (table_of d root rowid) [], map key_columns (keys_for d)) (record t { rows = [] }, keys)
both_made d t keys root rowid is made =
    ap (meant {A = Made}) (sym (listed_made d (table_of d root rowid) is.once (described_so d.columns is.known) (keys_so d is) (checks_so d is)) ∙ made)

pub told : (db : Database) (row : SchemaRow) (t : database.Table) → IsTableRow language db row t → IsTold db row t
told db row t is =
    let accepts : IsAccepted is.definition = accepted (others db is.definition.name) is.definition is.text.accepts in
    record {
      definition = is.definition;
      sql = is.text.text;
      sql_is = is.text.sql_is;
      kind_is = is.kind;
      name_is = is.name;
      table_is = is.table;
      creates = is.text.creates;
      accepts = accepts;
      described_is = described_so is.definition.columns accepts.known;
      checks_are = checks_so is.definition accepts;
      keys_are = keys_so is.definition accepts;
      made = λ root rowid. ap (λ (m : Made). record m.0 { rows = t.rows }) (sym (both_made is.definition t is.keys root rowid accepts is.made));
      automatic_are = subst (λ (keys : List Keys). sorted (λ a b. name_order a.0 b.0) (automatic is.definition.name 1 keys) ≡ automatic_indexes db is.definition.name)
          (sym (ap (λ (m : Made). m.1) (both_made is.definition t is.keys 0 (pos 0) accepts is.made))) is.automatic_are;
    }
