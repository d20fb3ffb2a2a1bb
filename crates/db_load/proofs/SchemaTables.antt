-- The tables that rows of the schema table tell, and what is read of the texts of rows.
use Rattle.std.proofs.Common.{◌≡◌, ◌⊎◌, ◌≤◌, ◌<◌, ◌+◌, inl, inr, refl, sym, ap, subst, ◌∙◌, ℕ, zero, suc, true, false, List, [], ◌∷◌, ◌++◌, length, map, Option, Some, drop, take, slice_index_or, arith}
use Rattle.std.specs.Prelude.{Result, Ok, Err, IfErr, IsErrAnd, MatchResult, OnOk}
use Rattle.std.specs.List.{Contains}
use Rattle.std.proofs.lemmas.Bool.{false≢true}
use Rattle.std.proofs.lemmas.List.{take_more}
use Rattle.sqlval.specs.Faults.{IsOrMemory}
use Rattle.sqlval.specs.Gives.{Refuses}
use Rattle.sqlval.specs.declared.fault.Fault.{Fault}
use Rattle.sqlval.specs.declared.fault.Fault.TheVariants as fault
use Rattle.sqlval.specs.declared.fault.Misuse.TheVariants.{DoubledColumn}
use Rattle.sqlval.specs.Lists.{any_twice}
use Rattle.sqlval.specs.Names.{is_same_name}
use Rattle.sqlval.specs.Refusals.{Refusal, refusal_of}
use Rattle.sqlval.specs.declared.collation.Collation.{Collation}
use Rattle.tree_leaf.specs.Leaf.{Entry}
use Rattle.sql_syntax.specs.declared.create.Create.{Create}
use Rattle.sql_syntax.specs.declared.create.NewObject.{NewObject}
use Rattle.sql_syntax.specs.declared.create.ColumnDefinition.{ColumnDefinition}
use Rattle.sql_syntax.specs.declared.create.TableDefinition.{TableDefinition}
use Rattle.sql_syntax.specs.declared.statement.Statement.{Statement}
use Rattle.sql_syntax.specs.declared.statement.Statement.TheVariants as statement
use Rattle.sql_grammar.specs.Statements.{is_statement_within}
use Rattle.sql_grammar.specs.Texts.{IsStatementText}
use Rattle.catalog.specs.Database.{TableColumn}
use Rattle.catalog.specs.Listed.{Listed, is_name_of}
use Rattle.catalog.specs.declared.tables.Column.{Column}
use Rattle.catalog.specs.declared.tables.Table.{Table}
use Rattle.query_terms.specs.Terms.{Term}
use Rattle.query_names.specs.Bound.{IsFaultOf, is_twice_named}
use Rattle.query_names.specs.Checked.{Checked, faults, good, known_all, meant}
use Rattle.query_names.specs.Creating.{as_keys, checks_known, defined, described, has_doubled, table_keys_known}
use Rattle.query_names.specs.Tables.{column_of}
use Rattle.query_names.specs.declared.keys.BoundKeys.{BoundKeys}
use Rattle.query_names.proofs.CreatedTables.{known_columns, named_columns}
use Rattle.db_pages.specs.Schema.{IsCreateOf, TableTold}
use Rattle.db_load.specs.Loading.{IsOfRow, IsTextOf, TellsTable, bare, text_of}
use Rattle.db_load.specs.Reading.{AddsTold, FindsParts}
use Rattle.db_load.specs.declared.schema.SchemaKind.TheVariants as kind
use Rattle.db_load.specs.declared.schema.SchemaRow.{SchemaRow}
use Rattle.db_load.proofs.KeyColumns.{keys_are}
use Rattle.db_load.proofs.ToldAdded.{table_adds}

-- ---- refusals

pub ok_is : {A E : Type 0} (a b : A) → ◌≡◌ {A = Result A E} (Ok a) (Ok b) → a ≡ b
ok_is a b h = cc

pub err_not_ok : {A B : Type 0} (f : Fault) (x : A) → ◌≡◌ {A = Result A Fault} (Err f) (Ok x) → B
err_not_ok f x h = absurd cc

pub refused_alone : {Y : Type 0} (f : Fault) (y : Y) → Refuses f (Ok y) → f ≡ fault.Memory
refused_alone fault.Memory y h = refl
refused_alone f y h = not_ok f y h
  where
    not_ok : {A Y : Type 0} (f : Fault) (y : Y) → ◌≡◌ {A = Result Y Fault} (Ok y) (Err f) → A
    not_ok f y h = err_not_ok f y (sym h)

-- ---- texts

-- the text of a CREATE
pub created : (sql : List ℕ) (s : Statement) (made : Create) (o : NewObject) → s ≡ statement.Create made → made.object ≡ o
    → IsStatementText sql s → is_statement_within s ≡ true → length sql ≤ 65536 → IsCreateOf sql o
created sql s made o is of text within short = record {
  sql = made.sql;
  is = subst (IsStatementText sql) whole text;
  within = sym (ap is_statement_within whole) ∙ within;
  short = short;
}
  where
    whole : s ≡ statement.Create (record { sql = made.sql; object = o })
    whole = is ∙ ap (λ (x : NewObject). statement.Create (record { sql = made.sql; object = x })) of

-- the statement of a row's text, within the limits
pub within_text : (row : SchemaRow) (text : List ℕ) (o : NewObject) → text_of row ≡ Some text → (made : IsCreateOf text o) → IsTextOf row (statement.Create (record { sql = made.sql; object = o }))
within_text row text o is made = record { text = text; text_is = is; is = made.is; within = made.within; short = made.short }

-- what it creates
pub text_creates : (row : SchemaRow) (s : Statement) (made : Create) (o : NewObject) → (it : IsTextOf row s) → s ≡ statement.Create made → made.object ≡ o → IsCreateOf it.text o
text_creates row s made o it is of = created it.text s made o is of it.is it.within it.short

-- ---- columns

none_among : {A : Type 0} (r : Refusal) → Contains [] r → A
none_among r among = absurd (omega (arith, among.1))

-- nothing refuses a definition whose columns are listed
pub columns_refused : (ds : List ColumnDefinition) (ts : List Column) (f : Fault)
    → (f ≡ fault.Memory) ⊎ (f ≡ fault.Misuse DoubledColumn) × (has_doubled ds ≡ true) ⊎ Contains (faults (known_all (map column_of ds))) (refusal_of f)
    → has_doubled ds ≡ false → map described ts ≡ map defined ds → f ≡ fault.Memory
columns_refused ds ts f (inl memory) once same = memory
columns_refused ds ts f (inr (inl doubled)) once same = absurd (false≢true (sym once ∙ doubled.1))
columns_refused ds ts f (inr (inr among)) once same =
    none_among (refusal_of f) (subst (λ (rs : List Refusal). Contains rs (refusal_of f)) (ap (faults {A = List TableColumn}) (known_columns ds ts same)) among)

-- nor CHECKs or keys that are known
pub checks_refused : {A : Type 0} (k : Checked A) (ts : A) (f : Fault) → IsFaultOf (faults k) f → k ≡ good ts → f ≡ fault.Memory
checks_refused k ts f (inl memory) is = memory
checks_refused {A} k ts f (inr among) is = none_among (refusal_of f) (subst (λ (rs : List Refusal). Contains rs (refusal_of f)) (ap (faults {A = A}) is) among)

pub checks_are : (k : Checked (List Term)) (found ts : List Term) → k ≡ good found → k ≡ good ts → found ≡ ts
checks_are k found ts one other = ap (meant {A = List Term}) (sym one ∙ other)

-- what the keys of a definition ask for
abbrev Asked : Type 0
Asked = Option ℕ × List (List (ℕ × Collation))

pub keys_found : (k : Checked Asked) (found ts : BoundKeys) → k ≡ good (as_keys found) → k ≡ good (as_keys ts) → found ≡ ts
keys_found k found ts one other =
    let asked : as_keys found ≡ as_keys ts = ap (meant {A = Asked}) (sym one ∙ other) in
    let own : found.rowid_column ≡ ts.rowid_column = ap (λ (a : Asked). a.0) asked in
    let indexes : found.indexes ≡ ts.indexes = keys_are found.indexes ts.indexes (ap (λ (a : Asked). a.1) asked) in
    λ i. record { rowid_column = own i; indexes = indexes i }

-- the columns of a definition that names none twice have different names
pub columns_differ : (ds : List ColumnDefinition) (columns : List Column) → has_doubled ds ≡ false → map described columns ≡ map defined ds → is_twice_named columns ≡ false
columns_differ ds columns once same = ap (any_twice is_same_name) (named_columns ds columns same) ∙ once

-- ---- results

pub passed_on : {Y : Type 0} (P : Y → Type 0) (result : Result Y Fault) (f : Fault) → IsErrAnd result (λ e. e ≡ f) → f ≡ fault.Memory → IsOrMemory P result
passed_on P (Ok y) f is why = absurd is
passed_on P (Err e) f is why = is ∙ why

pub memory_of : {X : Type 0} (P : X → Type 0) (r : Result X Fault) (f : Fault) → IsErrAnd r (λ e. e ≡ f) → f ≡ fault.Memory → MatchResult r P (λ e. e ≡ fault.Memory)
memory_of P (Ok x) f is why = absurd is
memory_of P (Err e) f is why = is ∙ why

-- the rows up to a place
pub up_to : (rows : List Entry) (index : ℕ) (row : Entry) → index < length rows → ((d : Entry) → row ≡ slice_index_or rows index d) → take (index + 1) rows ≡ take index rows ++ row ∷ []
up_to rows index row lt is = take_more rows index row lt ∙ ap (λ (e : Entry). take index rows ++ e ∷ []) (sym (is row))

-- the rows from a place on
one_more : (index : ℕ) → suc (index + 1) ≡ suc index + 1
one_more index = omega arith

pub at_place : (rows : List Entry) (index : ℕ) (row : Entry) → index < length rows → ((d : Entry) → row ≡ slice_index_or rows index d) → drop index rows ≡ row ∷ drop (index + 1) rows
at_place [] index row lt is = absurd (omega (arith, lt))
at_place (x ∷ rows) zero row lt is = ap (λ (e : Entry). e ∷ rows) (sym (is row))
at_place (x ∷ rows) (suc index) row lt is = at_place rows index row (omega (arith, lt)) is ∙ ap (λ (n : ℕ). row ∷ drop n (x ∷ rows)) (one_more index)

pub past_all : (rows : List Entry) (index : ℕ) → length rows ≤ index → drop index rows ≡ []
past_all [] zero le = refl
past_all [] (suc index) le = refl
past_all (x ∷ rows) zero le = absurd (omega (arith, le))
past_all (x ∷ rows) (suc index) le = past_all rows index (omega (arith, le))

-- ---- a table

module _ (table : Table) (row : SchemaRow) (tells : TellsTable table row) where
  pub names_of : (d : TableDefinition) → d ≡ tells.definition → IsOfRow row d.name
  names_of d same = subst (λ (x : TableDefinition). IsOfRow row x.name) (sym same) tells.names

  pub columns_premise : (d : TableDefinition) → d ≡ tells.definition → (has_doubled d.columns ≡ false) × (map described table.columns ≡ map defined d.columns)
  columns_premise d same = (
    subst (λ (x : TableDefinition). has_doubled x.columns ≡ false) (sym same) tells.makes.once,
    subst (λ (x : TableDefinition). map described table.columns ≡ map defined x.columns) (sym same) tells.makes.columns,
  )

  -- CHECKs over the same columns
  pub checks_premise : (d : TableDefinition) (columns : List Column) → d ≡ tells.definition → columns ≡ table.columns → checks_known d columns ≡ good table.checks
  checks_premise d columns same are = ap (λ (x : TableDefinition). checks_known x columns) same ∙ ap (checks_known tells.definition) are ∙ tells.makes.checks

  -- and keys
  abbrev pub keys_of : BoundKeys
  keys_of = record { rowid_column = table.rowid_column; indexes = table.keys }

  pub keys_premise : (d : TableDefinition) (columns : List Column) → d ≡ tells.definition → columns ≡ table.columns
      → (is_twice_named columns ≡ false) × (table_keys_known d columns ≡ good (as_keys keys_of))
  keys_premise d columns same are = (
    subst (λ (cs : List Column). is_twice_named cs ≡ false) (sym are) (columns_differ tells.definition.columns table.columns tells.makes.once tells.makes.columns),
    ap (λ (x : TableDefinition). table_keys_known x columns) same ∙ ap (table_keys_known tells.definition) are ∙ tells.makes.keys,
  )

  -- a table with the parts of the row
  pub table_is : (d : TableDefinition) (found : Table) (keys : BoundKeys) → d ≡ tells.definition → found.name ≡ d.name → found.columns ≡ table.columns → found.checks ≡ table.checks → keys ≡ keys_of → found.rowid_column ≡ keys.rowid_column → found.keys ≡ keys.indexes → found.indexes ≡ [] → found.root ≡ row.root → found.rowid ≡ row.rowid → found ≡ bare table
  table_is d found keys same name columns checks asked own_is keys_is none root rowid =
      let n : found.name ≡ table.name = name ∙ (ap (λ (x : TableDefinition). x.name) same ∙ sym tells.makes.name_is) in
      let r : found.root ≡ table.root = root ∙ sym tells.root_is in
      let id : found.rowid ≡ table.rowid = rowid ∙ sym tells.rowid_is in
      let own : found.rowid_column ≡ table.rowid_column = own_is ∙ ap (λ (k : BoundKeys). k.rowid_column) asked in
      let ks : found.keys ≡ table.keys = keys_is ∙ ap (λ (k : BoundKeys). k.indexes) asked in
      λ i. record { name = n i; columns = columns i; rowid_column = own i; checks = checks i; keys = ks i; indexes = none i; root = r i; rowid = id i }

-- the table of a row is listed after the others
pub table_listed : {Y : Type 0} (t found : Table) (old new : Listed) (result : Result Y Fault) → found ≡ bare t → is_name_of old t.name ≡ false
    → OnOk result (new ≡ record old { tables = old.tables ++ found ∷ [] }) → IfErr result (λ f. f ≡ fault.Memory)
    → MatchResult result (λ done. AddsTold (TableTold t) old new) (λ f. f ≡ fault.Memory)
table_listed t found old new (Ok y) is fresh added refused =
    table_adds t found old new (ap (λ (u : Table). u.indexes) is) (ap bare is) fresh added
table_listed t found old new (Err f) is fresh added refused = refused

-- and the row tells it
pub table_found : {Y : Type 0} (row : SchemaRow) (found : Table) (old new : Listed) (result : Result Y Fault) → row.kind ≡ kind.Table → TellsTable found row → found.indexes ≡ []
    → is_name_of old found.name ≡ false → OnOk result (new ≡ record old { tables = old.tables ++ found ∷ [] }) → OnOk result (FindsParts true row old new)
table_found row found old new (Ok y) its_kind tells none fresh added = record {
  item = TableTold found;
  pass = refl;
  tells = (its_kind, tells);
  due = tt;
  adds = table_adds found found old new none refl fresh added;
}
table_found row found old new (Err f) its_kind tells none fresh added = tt
