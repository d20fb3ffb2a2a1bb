-- The index that a row of the schema table tells.
use Rattle.std.proofs.Common.{◌≡◌, refl, sym, ap, subst, ◌∙◌, ℕ, ℤ, Bool, true, false, List, [], ◌∷◌, ◌++◌, map, Option, Some, None}
use Rattle.std.specs.Prelude.{codes, filter_map, is_some}
use Rattle.sqlval.specs.Names.{folded}
use Rattle.sqlval.specs.Refusals.{Refusal, Exists, Misuse, NoSuch}
use Rattle.sqlval.specs.declared.collation.Collation.{Collation}
use Rattle.sql_syntax.specs.declared.create.IndexDefinition.{IndexDefinition}
use Rattle.sql_syntax.specs.declared.create.NewObject.TheVariants as new
use Rattle.catalog.specs.Database as database
use Rattle.catalog.specs.Database.{Name, Database, Object, ATable, AnIndex, AView, ATrigger, object, with_object}
use Rattle.catalog.specs.Listed.{is_reserved}
use Rattle.catalog.specs.declared.tables.Index.{Index}
use Rattle.catalog.specs.declared.tables.IndexColumn.{IndexColumn}
use Rattle.query_names.specs.Checked.{Checked, Meant, bad, faults, good, known_all, known_map, ◌and_then◌, unless}
use Rattle.query_names.specs.Expressions.{resolve_collation}
use Rattle.query_names.specs.Schema.{create, index_made, resolve_index_column}
use Rattle.query_names.specs.Scopes.{is_doubled}
use Rattle.query_bind.specs.Indexed.{key_of, names_in}
use Rattle.db_files.specs.Schema.{SchemaRow, IsIndexRow}
use Rattle.db_pages.specs.Language.{others, language}
use Rattle.db_pages.specs.Schema.{IsCreateOf}

-- ---- the index of a definition

abbrev pub Keys : Type 0
Keys = List (ℕ × Collation)

-- the column of a key
abbrev pub key_for : ℕ × Collation → IndexColumn
key_for key = record { place = key.0; collation = key.1 }

-- the index of a definition, of these keys, whose tree begins at this page, and whose row has this rowid
abbrev pub index_of : IndexDefinition → Keys → ℕ → ℤ → Index
index_of d keys root rowid = record { name = d.name; columns = map key_for keys; is_unique = d.is_unique; is_automatic = false; root = root; rowid = rowid }

-- the index of a row without a text: it has the folded name of the row, and the keys of the index that the database has
abbrev pub index_of_row : SchemaRow → database.Index → ℤ → Index
index_of_row row i rowid = record { name = folded row.name; columns = map key_for i.columns; is_unique = i.is_unique; is_automatic = i.is_automatic; root = row.root; rowid = rowid }

pub same_keys : (keys : Keys) → map key_of (map key_for keys) ≡ keys
same_keys [] = refl
same_keys (key ∷ keys) = ap (λ ks. key ∷ ks) (same_keys keys)

-- ---- what its row says

-- an index on the table of a definition, of these keys
abbrev pub index_on : IndexDefinition → Keys → database.Index
index_on d keys = record { table = folded d.table; is_unique = d.is_unique; is_automatic = false; columns = keys }

-- The row has the text of a CREATE INDEX that isn't refused; it makes this index, on a table of the database.
pub record IsIndexTold (db : Database) (row : SchemaRow) (i : database.Index) : Type 0 where
  pub definition : IndexDefinition
  pub sql : List ℕ
  pub sql_is : row.sql ≡ Some sql
  pub kind_is : row.kind ≡ codes "index"
  pub name_is : folded row.name ≡ folded definition.name
  pub table_is : folded row.table ≡ folded definition.table
  pub creates : IsCreateOf sql (new.Index definition)
  pub free : is_reserved definition.name ≡ false
  pub once : is_doubled (names_in definition.columns) ≡ false
  pub t : database.Table
  pub on : object db definition.table ≡ Some (ATable t)
  pub known : known_all (map (resolve_index_column definition.table t) definition.columns) ≡ good i.columns
  pub index_is : i ≡ index_on definition i.columns

-- ---- definitions that aren't refused

pub quiet : {A : Type 0} (b : Bool) (r : Refusal) (k : Checked A) → faults (unless b r k) ≡ [] → (b ≡ false) × (faults k ≡ [])
quiet true r (Meant x rs) none = absurd cc
quiet false r (Meant x rs) none = (refl, none)

-- the name may be given, and no column stands twice
accepted : (db : Database) (d : IndexDefinition) → faults (create db (new.Index d)) ≡ [] → (is_reserved d.name ≡ false) × (is_doubled (names_in d.columns) ≡ false)
accepted db d none =
    let first = quiet (is_doubled (names_in d.columns)) Misuse _ none in
    let then_free = quiet (is_reserved d.name) Misuse (unless (is_some (object db d.name)) Exists (known_map (with_object db d.name) (index_made (object db d.table) d))) first.1 in
    (then_free.0, first.0)

-- ---- what is made

abbrev index_over : IndexDefinition → Keys → Object
index_over d keys = AnIndex (record { table = folded d.table; is_unique = d.is_unique; is_automatic = false; columns = keys })

-- it is made on a table
record IsMadeOn (found : Option Object) (d : IndexDefinition) (i : database.Index) : Type 0 where
  t : database.Table
  on : found ≡ Some (ATable t)
  known : known_map (index_over d) (known_all (map (resolve_index_column d.table t) d.columns)) ≡ good (AnIndex i)

not_empty : {A : Type 0} {B : Type 0} (xs : List A) (x : A) → xs ++ x ∷ [] ≡ [] → B
not_empty [] x e = absurd cc
not_empty (y ∷ xs) x e = absurd cc

refused : {A B : Type 0} (k : Checked A) (o : Object) (i : database.Index) → (k and_then λ _. bad o NoSuch) ≡ good (AnIndex i) → B
refused {B = B} (Meant x rs) o i e = not_empty rs NoSuch (ap (faults {A = Object}) e)

made_on : (found : Option Object) (d : IndexDefinition) (i : database.Index) → index_made found d ≡ good (AnIndex i) → IsMadeOn found d i
made_on (Some (ATable t)) d i e = record { t = t; on = refl; known = e }
made_on None d i e = refused (known_all (map resolve_collation (filter_map (λ c. c.collation) d.columns))) (index_over d []) i e
made_on (Some (AnIndex j)) d i e = refused (known_all (map resolve_collation (filter_map (λ c. c.collation) d.columns))) (index_over d []) i e
made_on (Some (AView v)) d i e = refused (known_all (map resolve_collation (filter_map (λ c. c.collation) d.columns))) (index_over d []) i e
made_on (Some (ATrigger g)) d i e = refused (known_all (map resolve_collation (filter_map (λ c. c.collation) d.columns))) (index_over d []) i e

-- the index of an object that is one
abbrev index_in : database.Index → Object → database.Index
index_in other (AnIndex i) = i
index_in other _ = other

-- what is made has these keys
made_of : (d : IndexDefinition) (i : database.Index) (k : Checked Keys) → known_map (index_over d) k ≡ good (AnIndex i)
    → (k ≡ good i.columns) × (record { table = folded d.table; is_unique = d.is_unique; is_automatic = false; columns = i.columns } ≡ i)
made_of d i (Meant keys rs) e =
    let same : record { table = folded d.table; is_unique = d.is_unique; is_automatic = false; columns = keys } ≡ i = ap (λ (o : Checked Object). index_in i (value_of o)) e in
    let none : rs ≡ [] = ap (faults {A = Object}) e in
    let keys_are : keys ≡ i.columns = ap (λ (j : database.Index). j.columns) same in (
      ap (λ ks. Meant ks rs) keys_are ∙ ap (λ (ss : List Refusal). Meant i.columns ss) none,
      subst (λ ks. record { table = folded d.table; is_unique = d.is_unique; is_automatic = false; columns = ks } ≡ i) keys_are same,
    )
  where
    value_of : Checked Object → Object
    value_of (Meant x rs) = x

pub index_told : (db : Database) (row : SchemaRow) (i : database.Index) → IsIndexRow language db row i → IsIndexTold db row i
index_told db row i is =
    let d = is.definition in
    let quiet_is = accepted (others db d.name) d is.text.accepts in
    let made = made_on (object db d.table) d i is.made in
    let of = made_of d i (known_all (map (resolve_index_column d.table made.t) d.columns)) made.known in
    record {
      definition = d;
      sql = is.text.text;
      sql_is = is.text.sql_is;
      kind_is = is.kind;
      name_is = is.name;
      table_is = is.table;
      creates = is.text.creates;
      free = quiet_is.0;
      once = quiet_is.1;
      t = made.t;
      on = made.on;
      known = of.0;
      index_is = sym of.1;
    }
