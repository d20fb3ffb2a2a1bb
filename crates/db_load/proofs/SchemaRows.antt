-- What the rows of the schema table tell is read of them, and nothing else.
use Rattle.std.proofs.Common.{◌≡◌, ◌⊎◌, ◌≤◌, ◌<◌, inl, inr, refl, sym, ap, subst, ◌∙◌, ℕ, ℤ, Bool, true, not, List, Option, Some, None, arith}
use Rattle.std.specs.Prelude.{Result, Ok, Err, OnOk}
use Rattle.sqlval.specs.declared.fault.Fault.{Fault}
use Rattle.sqlval.specs.Names.{folded, is_same_name}
use Rattle.sqlval.specs.declared.value.Value.{Value}
use Rattle.record.specs.Record.{IsRecord}
use Rattle.tree_leaf.specs.Leaf.{Entry}
use Rattle.catalog.specs.Database.{Name}
use Rattle.catalog.specs.Listed.{Listed}
use Rattle.db_pages.specs.Schema.{HasRowOf, IndexTold, TableTold, Tells, Told, TriggerTold, ViewTold, schema_row}
use Rattle.db_load.specs.Loading.{AreRowValues, HasParts, IsRootFor, kind_text, text_of}
use Rattle.db_load.specs.Reading.{AreSound, FindsParts, FindsRow, FindsTold, IsKind, TellsParts, is_kind_first}
use Rattle.db_load.specs.declared.schema.SchemaKind.{SchemaKind}
use Rattle.db_load.specs.declared.schema.SchemaKind.TheVariants as kind
use Rattle.db_load.specs.declared.schema.SchemaRow.{SchemaRow}
use Rattle.db_load.proofs.ToldParts.{is_folded, is_named}

-- ---- a row

-- the parts of the row of what is told
pub record HasSaid (size : ℕ) (item : Told) (entry : Entry) : Type 0 where
  pub its_kind : SchemaKind
  pub name : List ℕ
  pub table_name : List ℕ
  pub root : ℕ
  pub sql : Option (List ℕ)
  pub rooted : IsRootFor size its_kind root
  pub row_is : IsRecord entry.payload (schema_row (kind_text its_kind) name table_name root sql)
  pub tells : (row : SchemaRow) → HasParts entry.rowid its_kind name table_name root sql row → TellsParts item row

pub said : (size : ℕ) (item : Told) (entry : Entry) → Tells size item entry → HasSaid size item entry
said size (TableTold t) entry is = record {
  its_kind = kind.Table;
  name = is.row_is.name;
  table_name = is.row_is.table_name;
  root = t.root;
  sql = Some is.sql;
  rooted = (is.row_is.above, is.row_is.within);
  row_is = is.row_is.row_is;
  tells = λ row parts. (
    parts.kind_is,
    record {
      text = is.sql;
      text_is = parts.sql_is;
      definition = is.definition;
      creates = is.creates;
      names = record {
        name_is = is_named is.definition.name row.name.now (ap folded parts.name_is ∙ is.row_is.name_is);
        table_name_is = is_named is.definition.name row.table_name.now (ap folded parts.table_name_is ∙ is.row_is.table_name_is);
        free = is.makes.free;
      };
      makes = is.makes;
      root_is = sym parts.root_is;
      rowid_is = sym is.rowid_is ∙ sym parts.rowid_is;
    },
  );
}
said size (IndexTold t i) entry (inl is) = record {
  its_kind = kind.Index;
  name = is.row_is.name;
  table_name = is.row_is.table_name;
  root = i.root;
  sql = Some is.sql;
  rooted = (is.row_is.above, is.row_is.within);
  row_is = is.row_is.row_is;
  tells = λ row parts. (
    parts.kind_is,
    inl (record {
      text = is.sql;
      text_is = parts.sql_is;
      definition = is.definition;
      creates = is.creates;
      names = record {
        name_is = is_named is.definition.name row.name.now (ap folded parts.name_is ∙ is.row_is.name_is);
        table_name_is = is_named is.definition.table row.table_name.now (ap folded parts.table_name_is ∙ is.row_is.table_name_is);
      };
      makes = is.makes;
      root_is = sym parts.root_is;
      rowid_is = sym is.rowid_is ∙ sym parts.rowid_is;
    }),
  );
}
said size (IndexTold t i) entry (inr is) = record {
  its_kind = kind.Index;
  name = is.row_is.name;
  table_name = is.row_is.table_name;
  root = i.root;
  sql = None;
  rooted = (is.row_is.above, is.row_is.within);
  row_is = is.row_is.row_is;
  tells = λ row parts. (
    parts.kind_is,
    inr (record {
      automatic = is.automatic;
      no_text = parts.sql_is;
      name_is = is_named i.name row.name.now (ap folded parts.name_is ∙ is.row_is.name_is);
      table_name_is = is_named t.name row.table_name.now (ap folded parts.table_name_is ∙ is.row_is.table_name_is);
      root_is = sym parts.root_is;
      rowid_is = sym is.rowid_is ∙ sym parts.rowid_is;
    }),
  );
}
said size (ViewTold v) entry is = record {
  its_kind = kind.View;
  name = is.name;
  table_name = is.table_name;
  root = 0;
  sql = Some is.sql;
  rooted = refl;
  row_is = is.row_is;
  tells = λ row parts. (
    parts.kind_is,
    record {
      text = is.sql;
      text_is = parts.sql_is;
      creates = is.creates;
      names = record {
        name_is = is_named v.definition.name row.name.now (ap folded parts.name_is ∙ is.name_is);
        table_name_is = is_named v.definition.name row.table_name.now (ap folded parts.table_name_is ∙ is.table_name_is);
        free = is.free;
      };
      once = is.once;
      rowid_is = sym is.rowid_is ∙ sym parts.rowid_is;
    },
  );
}
said size (TriggerTold g) entry is = record {
  its_kind = kind.Trigger;
  name = is.name;
  table_name = is.target_name;
  root = 0;
  sql = Some is.sql;
  rooted = refl;
  row_is = is.row_is;
  tells = λ row parts. (
    parts.kind_is,
    record {
      text = is.sql;
      text_is = parts.sql_is;
      creates = is.creates;
      names = record {
        name_is = is_named g.definition.name row.name.now (ap folded parts.name_is ∙ is.name_is);
        target_name_is = is_named g.definition.target row.table_name.now (ap folded parts.table_name_is ∙ is.target_name_is);
        free = is.free;
      };
      rowid_is = sym is.rowid_is ∙ sym parts.rowid_is;
    },
  );
}

-- what is read of the record of a row
pub read_as : (size : ℕ) (item : Told) (entry : Entry) (payload : List ℕ) → (s : HasSaid size item entry) → entry.payload ≡ payload
    → IsRecord payload (schema_row (kind_text s.its_kind) s.name s.table_name s.root s.sql)
read_as size item entry payload s is = subst (λ (b : List ℕ). IsRecord b (schema_row (kind_text s.its_kind) s.name s.table_name s.root s.sql)) is s.row_is

pub parts_at : (size : ℕ) (item : Told) (entry : Entry) (s : HasSaid size item entry) (rowid : ℤ) (row : SchemaRow) → entry.rowid ≡ rowid → HasParts rowid s.its_kind s.name s.table_name s.root s.sql row
    → TellsParts item row
parts_at size item entry s rowid row at parts = s.tells row (subst (λ (id : ℤ). HasParts id s.its_kind s.name s.table_name s.root s.sql row) (sym at) parts)

module _ (size : ℕ) (entry : Entry) (payload : List ℕ) (row : SchemaRow) (values : List Value) (at : entry.rowid ≡ row.rowid) (is : entry.payload ≡ payload) (bytes : IsRecord payload values)
    (parts : AreRowValues size row values) where
  row_bytes : IsRecord entry.payload (schema_row (kind_text row.kind) row.name.now row.table_name.now row.root (text_of row))
  row_bytes =
      subst (λ (b : List ℕ). IsRecord b (schema_row (kind_text row.kind) row.name.now row.table_name.now row.root (text_of row))) (sym is) (subst (IsRecord payload) parts.values_are bytes)

  row_of_kind : (its_kind : SchemaKind) (root : ℕ) (sql : Option (List ℕ)) → row.kind ≡ its_kind → root ≡ row.root → text_of row ≡ sql
      → IsRecord entry.payload (schema_row (kind_text its_kind) row.name.now row.table_name.now root sql)
  row_of_kind its_kind root sql same there text =
      subst (λ (o : Option (List ℕ)). IsRecord entry.payload (schema_row (kind_text its_kind) row.name.now row.table_name.now root o)) text
      (subst (λ (n : ℕ). IsRecord entry.payload (schema_row (kind_text its_kind) row.name.now row.table_name.now n (text_of row))) (sym there)
      (subst (λ (k : SchemaKind). IsRecord entry.payload (schema_row (kind_text k) row.name.now row.table_name.now row.root (text_of row))) same row_bytes))

  -- where the tree begins
  rooted_as : (its_kind : SchemaKind) → row.kind ≡ its_kind → IsRootFor size its_kind row.root
  rooted_as its_kind same = subst (λ (k : SchemaKind). IsRootFor size k row.root) same parts.rooted

  -- the row of these parts
  has_row : (its_kind : SchemaKind) (own_name on_table : Name) (root : ℕ) (sql : Option (List ℕ)) → row.kind ≡ its_kind → (1 < row.root) × (row.root ≤ size) → is_same_name own_name row.name.now ≡ true
      → is_same_name on_table row.table_name.now ≡ true → root ≡ row.root → text_of row ≡ sql → HasRowOf size (kind_text its_kind) own_name on_table root sql entry
  has_row its_kind own_name on_table root sql same at_page name table_name there text = record {
    above = let a = at_page.0 in omega (arith, there, a);
    within = let a = at_page.1 in omega (arith, there, a);
    name = row.name.now;
    name_is = is_folded own_name row.name.now name;
    table_name = row.table_name.now;
    table_name_is = is_folded on_table row.table_name.now table_name;
    row_is = row_of_kind its_kind root sql same there text;
  }

  -- what the parts of a row tell, the row does
  pub row_told : (item : Told) → TellsParts item row → Tells size item entry
  row_told (TableTold t) (same, tells) = record {
    sql = tells.text;
    definition = tells.definition;
    creates = tells.creates;
    makes = tells.makes;
    rowid_is = at ∙ sym tells.rowid_is;
    row_is = has_row kind.Table tells.definition.name tells.definition.name t.root (Some tells.text) same (rooted_as kind.Table same) tells.names.name_is tells.names.table_name_is tells.root_is tells.text_is;
  }
  row_told (IndexTold t i) (same, inl tells) = inl (record {
    sql = tells.text;
    definition = tells.definition;
    creates = tells.creates;
    makes = tells.makes;
    rowid_is = at ∙ sym tells.rowid_is;
    row_is = has_row kind.Index tells.definition.name tells.definition.table i.root (Some tells.text) same (rooted_as kind.Index same) tells.names.name_is tells.names.table_name_is tells.root_is tells.text_is;
  })
  row_told (IndexTold t i) (same, inr tells) = inr (record {
    automatic = tells.automatic;
    rowid_is = at ∙ sym tells.rowid_is;
    row_is = has_row kind.Index i.name t.name i.root None same (rooted_as kind.Index same) tells.name_is tells.table_name_is tells.root_is tells.no_text;
  })
  row_told (ViewTold v) (same, tells) = record {
    sql = tells.text;
    creates = tells.creates;
    free = tells.names.free;
    once = tells.once;
    rowid_is = at ∙ sym tells.rowid_is;
    name = row.name.now;
    name_is = is_folded v.definition.name row.name.now tells.names.name_is;
    table_name = row.table_name.now;
    table_name_is = is_folded v.definition.name row.table_name.now tells.names.table_name_is;
    row_is = row_of_kind kind.View 0 (Some tells.text) same (sym (rooted_as kind.View same)) tells.text_is;
  }
  row_told (TriggerTold g) (same, tells) = record {
    sql = tells.text;
    creates = tells.creates;
    free = tells.names.free;
    rowid_is = at ∙ sym tells.rowid_is;
    name = row.name.now;
    name_is = is_folded g.definition.name row.name.now tells.names.name_is;
    target_name = row.table_name.now;
    target_name_is = is_folded g.definition.target row.table_name.now tells.names.target_name_is;
    row_is = row_of_kind kind.Trigger 0 (Some tells.text) same (sym (rooted_as kind.Trigger same)) tells.text_is;
  }

  -- what was found by the parts, was by the row
  pub row_found : {Y : Type 0} (first : Bool) (old new : Listed) (result : Result Y Fault)
      → (AreSound old → OnOk result (FindsParts first row old new ⊎ (is_kind_first row.kind ≡ not first) × (new ≡ old))) → OnOk result (FindsRow first size entry old new)
  row_found first old new (Err f) found = tt
  row_found first old new (Ok y) found = λ sound. by_case (found sound)
    where
      by_case : FindsParts first row old new ⊎ (is_kind_first row.kind ≡ not first) × (new ≡ old) → FindsTold first size entry old new ⊎ IsKind (not first) entry × (new ≡ old)
      by_case (inl f) = inl (record { item = f.item; pass = f.pass; tells = row_told f.item f.tells; due = f.due; adds = f.adds })
      by_case (inr (other, same)) = inr ((row.kind, other, _, row_of_kind row.kind row.root (text_of row) refl refl refl), same)
