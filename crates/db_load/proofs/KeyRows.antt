-- The automatic index that a row of the schema table tells, on a listed table.
use Rattle.std.proofs.Common.{◌≡◌, ◌∙◌, ◌≤◌, ◌<◌, ◌+◌, inl, inr, refl, sym, ap, subst, ℕ, zero, suc, Bool, true, false, ◌&&◌, List, [], ◌∷◌, length, map, drop, slice_index_or, Some, None, Ok, Err, arith}
use Rattle.std.specs.Prelude.{Result, IfOk}
use Rattle.std.specs.declared.rc.Rc.{Rc}
use Rattle.std.specs.declared.alloc.Global.{Global}
use Rattle.std.specs.List.{list_all, list_any}
use Rattle.std.proofs.lemmas.Bool.{false≢true}
use Rattle.std.specs.Str.{bytes_eq}
use Rattle.sqlval.specs.Faults.{IsOrMemory}
use Rattle.sqlval.specs.Names.{folded, is_same_name}
use Rattle.sqlval.specs.declared.fault.Fault.{Fault}
use Rattle.catalog.specs.Database as database
use Rattle.catalog.specs.Database.{AnIndex, Name, Object}
use Rattle.catalog.specs.Listed.{Listed, as_index, is_name_of, key_columns, shared, table_named}
use Rattle.catalog.specs.NewIndexes.{with_index}
use Rattle.catalog.specs.declared.tables.Index.{Index}
use Rattle.catalog.specs.declared.tables.IndexColumn.{IndexColumn}
use Rattle.catalog.specs.declared.tables.Table.{Table}
use Rattle.catalog.proofs.NamedDatabases.{folded_twice}
use Rattle.query_names.specs.Schema.{automatic, automatic_name}
use Rattle.db_pages.specs.Schema.{all_told, due_objects}
use Rattle.db_load.specs.Loading.{TellsKeyIndex, text_of}
use Rattle.db_load.specs.Reading.{AreDueOnce, CanGrow, GrowsBy, IsDue, IsGrown, StandsIn, due_object}
use Rattle.db_load.specs.declared.schema.SchemaRow.{SchemaRow}
use Rattle.db_load.proofs.DueItems.{only_one}
use Rattle.db_load.proofs.KeyColumns.{key_is}
use Rattle.db_load.proofs.KeyIndexes.{due_form, the_index}
use Rattle.db_load.proofs.ToldAdded.{named_folded}
use Rattle.db_load.proofs.ToldIndexes.{named_so}
use Rattle.db_load.proofs.ToldParts.{is_folded, is_named, name_taken, names_told}

-- ---- the key of a name

-- the keys from a place on
pub key_at : (keys : List (List IndexColumn)) (place : ℕ) → place < length keys → drop place keys ≡ slice_index_or keys place [] ∷ drop (place + 1) keys
key_at [] place there = absurd (omega (arith, there))
key_at (k ∷ keys) zero there = refl
key_at (k ∷ keys) (suc place) there = key_at keys place (omega (arith, there)) ∙ ap (λ (n : ℕ). slice_index_or (k ∷ keys) (suc place) [] ∷ drop n (k ∷ keys)) (one_more place)
  where
    one_more : (n : ℕ) → suc (n + 1) ≡ suc n + 1
    one_more n = omega arith

-- the same of the key that was found there
pub key_found : (keys : List (List IndexColumn)) (place : ℕ) (key : List IndexColumn) → place < length keys → key ≡ slice_index_or keys place key → drop place keys ≡ key ∷ drop (place + 1) keys
key_found keys place key there is = key_at keys place there ∙ ap (λ (k : List IndexColumn). k ∷ drop (place + 1) keys) (any_default keys place [] key there ∙ sym is)
  where
    any_default : (keys : List (List IndexColumn)) (place : ℕ) (d e : List IndexColumn) → place < length keys → slice_index_or keys place d ≡ slice_index_or keys place e
    any_default [] place d e there = absurd (omega (arith, there))
    any_default (k ∷ keys) zero d e there = refl
    any_default (k ∷ keys) (suc place) d e there = any_default keys place d e (omega (arith, there))

past_keys : (keys : List (List IndexColumn)) (place : ℕ) → length keys ≤ place → drop place keys ≡ []
past_keys [] zero past = refl
past_keys [] (suc place) past = refl
past_keys (k ∷ keys) zero past = absurd (omega (arith, past))
past_keys (k ∷ keys) (suc place) past = past_keys keys place (omega (arith, past))

module _ (t : Table) (name : Name) where
  -- the indexes that the keys from a place on ask for
  abbrev pub due_from : ℕ → List (Name × Object)
  due_from place = automatic t.name (place + 1) (map key_columns (drop place t.keys))

  -- none of the keys before has an index of the name
  pub record AreBefore (place : ℕ) : Type 0 where
    pub named : (o : Object) → StandsIn (folded name, o) (due_objects t) → StandsIn (folded name, o) (due_from place)
    pub due : (x : Name × Object) → StandsIn x (due_from place) → StandsIn x (due_objects t)

  pub none_before : AreBefore 0
  none_before = record { named = λ o is. is; due = λ x is. is }

  module _ (place : ℕ) (before : AreBefore place) where
    module _ (key : List IndexColumn) (at : drop place t.keys ≡ key ∷ drop (place + 1) t.keys) where
      here : due_from place ≡ (folded (automatic_name t.name (place + 1)), due_object t key) ∷ due_from (place + 1)
      here =
          ap (λ (ks : List (List IndexColumn)). automatic t.name (place + 1) (map key_columns ks)) at
          ∙ ap (λ (n : ℕ). (folded (automatic_name t.name (place + 1)), due_object t key) ∷ automatic t.name n (map key_columns (drop (place + 1) t.keys))) (more (place + 1))
        where
          more : (n : ℕ) → suc n ≡ n + 1
          more n = omega arith

      -- the name is that of the key at the place
      pub found_here : is_same_name (automatic_name t.name (place + 1)) name ≡ true → StandsIn (folded name, due_object t key) (due_objects t)
      found_here same =
          before.due (folded name, due_object t key)
          (subst (λ (ls : List (Name × Object)). StandsIn (folded name, due_object t key) ls) (sym here)
          (inl (ap (λ (n : Name). (n, due_object t key)) (sym (is_folded (automatic_name t.name (place + 1)) name same)))))

      -- or not
      pub not_here : is_same_name (automatic_name t.name (place + 1)) name ≡ false → AreBefore (place + 1)
      not_here other = record {
        named = λ o is. (let there = before.named o is in behind o (subst (λ (ls : List (Name × Object)). StandsIn (folded name, o) ls) here there));
        due = λ x is. before.due x (subst (λ (ls : List (Name × Object)). StandsIn x ls) (sym here) (inr is));
      }
        where
          behind : (o : Object) → StandsIn (folded name, o) ((folded (automatic_name t.name (place + 1)), due_object t key) ∷ due_from (place + 1)) → StandsIn (folded name, o) (due_from (place + 1))
          behind o (inl same) =
              absurd (false≢true (sym other ∙ is_named (automatic_name t.name (place + 1)) name (sym (ap (λ (x : Name × Object). x.0) same))))
          behind o (inr later) = later

    -- at the end there is none
    pub nowhere : {B : Type 0} (o : Object) → length t.keys ≤ place → StandsIn (folded name, o) (due_objects t) → B
    nowhere o past is =
        absurd (subst (λ (ks : List (List IndexColumn)). StandsIn (folded name, o) (automatic t.name (place + 1) (map key_columns ks))) (past_keys t.keys place past) (before.named o is))

  -- one key has the name
  pub the_key : (a b : List IndexColumn) → AreDueOnce t → StandsIn (folded name, due_object t a) (due_objects t) → StandsIn (folded name, due_object t b) (due_objects t) → a ≡ b
  the_key a b once first second =
      key_is a b (ap (λ (i : database.Index). i.columns)
      (the_index _ _ (ap (λ (o : Name × Object). o.1) (only_one (λ (o : Name × Object). o.0) (folded name, due_object t a) (folded name, due_object t b) (due_objects t) once first second refl))))

-- ---- all tables

-- what holds of the tables that handles share
pub all_shared : (p : Table → Bool) (handles : List (Rc Table Global)) → list_all (λ (handle : Rc Table Global). p handle.value) handles ≡ list_all p (shared handles)
all_shared p [] = refl
all_shared p (handle ∷ handles) = ap (λ b. p handle.value && b) (all_shared p handles)

-- ---- the index of a row

module _ (t : Table) (row : SchemaRow) where
  module _ (i : Index) (tells : TellsKeyIndex t i row) (due : IsDue t i) where
    low_name : folded row.name.now ≡ i.name
    low_name = is_folded i.name row.name.now tells.name_is ∙ (due_form t.name 1 (map key_columns t.keys) i.name (as_index t i) (due tells.automatic)).low

    is_one : i.is_unique ≡ true
    is_one = (due_form t.name 1 (map key_columns t.keys) i.name (as_index t i) (due tells.automatic)).unique

    -- its columns are those of the key of its name
    pub due_stands : StandsIn (folded row.name.now, due_object t i.columns) (due_objects t)
    due_stands =
        let n = sym low_name in
        let one = is_one in
        let auto = tells.automatic in
        subst (λ (x : Name × Object). StandsIn x (due_objects t))
        (λ j. (n j, AnIndex (record { table = folded t.name; is_unique = one j; is_automatic = auto j; columns = key_columns i.columns }))) (due tells.automatic)

    -- an index with the parts of the row
    pub key_index_is : (found : Index) → found.name ≡ folded row.name.now → found.columns ≡ i.columns → found.is_unique ≡ true → found.is_automatic ≡ true → found.root ≡ row.root → found.rowid ≡ row.rowid → found ≡ i
    key_index_is found name columns unique automatic root rowid =
        let n : found.name ≡ i.name = name ∙ low_name in
        let one : found.is_unique ≡ i.is_unique = unique ∙ sym is_one in
        let auto : found.is_automatic ≡ i.is_automatic = automatic ∙ sym tells.automatic in
        let r : found.root ≡ i.root = root ∙ sym tells.root_is in
        let id : found.rowid ≡ i.rowid = rowid ∙ sym tells.rowid_is in
        λ j. record { name = n j; columns = columns j; is_unique = one j; is_automatic = auto j; root = r j; rowid = id j }

  -- the row tells it
  pub key_index_told : (found : Index) (key : List IndexColumn) → text_of row ≡ None → is_same_name t.name row.table_name.now ≡ true → StandsIn (folded row.name.now, due_object t key) (due_objects t)
      → found.name ≡ folded row.name.now → found.columns ≡ key → found.is_unique ≡ true → found.is_automatic ≡ true → found.root ≡ row.root → found.rowid ≡ row.rowid
      → TellsKeyIndex t found row × IsDue t found
  key_index_told found key none on stands name columns unique automatic root rowid = (
    record {
      automatic = automatic;
      no_text = none;
      name_is = is_named found.name row.name.now (sym (ap folded name ∙ folded_twice row.name.now));
      table_name_is = on;
      root_is = root;
      rowid_is = rowid;
    },
    λ is. (let n = sym name in
        let cs = sym columns in
        let one = sym unique in
        let auto = sym automatic in
        subst (λ (x : Name × Object). StandsIn x (due_objects t))
        (λ j. (n j, AnIndex (record { table = folded t.name; is_unique = one j; is_automatic = auto j; columns = key_columns (cs j) }))) stands),
  )

-- ---- the table

-- a name is taken in letters of either case
taken_folded : (l : Listed) (a b : Name) → folded a ≡ folded b → is_name_of l a ≡ is_name_of l b
taken_folded l a b same =
    name_taken l a ∙ (ap (λ (n : Name). list_any (λ (m : Name). bytes_eq n (folded m)) (names_told (all_told l))) same ∙ sym (name_taken l b))

module _ (l : Listed) (t : Table) (i : Index) (row : SchemaRow) (tells : TellsKeyIndex t i row) (can : CanGrow l t i) where
  -- the row's table is listed, and its name is new
  pub owner_there : table_named row.table_name.now l.tables ≡ Some can.other
  owner_there = named_folded l.tables row.table_name.now t.name (is_folded t.name row.table_name.now tells.table_name_is) ∙ can.listed

  pub name_new : is_name_of l row.name.now ≡ false
  name_new = taken_folded l row.name.now i.name (is_folded i.name row.name.now tells.name_is) ∙ can.fresh

  -- what is so of the table is so of the listed one
  tells_other : TellsKeyIndex can.other i row
  tells_other = record {
    automatic = tells.automatic;
    no_text = tells.no_text;
    name_is = tells.name_is;
    table_name_is = subst (λ (u : Table). is_same_name u.name row.table_name.now ≡ true) (sym can.alike) tells.table_name_is;
    root_is = tells.root_is;
    rowid_is = tells.rowid_is;
  }

  due_other : IsDue can.other i
  due_other automatic = subst (λ (u : Table). StandsIn (i.name, AnIndex (as_index u i)) (due_objects u)) (sym can.alike) (can.due automatic)

  once_other : AreDueOnce can.other
  once_other = subst AreDueOnce (sym can.alike) can.due_once

  pub at_owner : (owner : Table) → owner ≡ can.other → TellsKeyIndex owner i row × IsDue owner i × AreDueOnce owner
  at_owner owner same = subst (λ (u : Table). TellsKeyIndex u i row × IsDue u i × AreDueOnce u) (sym same) (tells_other, due_other, once_other)

  -- with the index it is grown
  pub key_grown : (owner : Table) (found : Index) (result : Result Table Fault) → owner ≡ can.other → found ≡ i → IsOrMemory (λ copy. copy ≡ with_index found owner) result → IsOrMemory (IsGrown l.tables t i) result
  key_grown owner found (Err f) same is by = by
  key_grown owner found (Ok grown) same is by = record {
    name = row.table_name.now;
    other = can.other;
    listed = owner_there;
    alike = can.alike;
    grown_is = by ∙ (ap (λ (x : Index). with_index x owner) is ∙ ap (with_index i) same);
  }

pub key_grown_found : (l : Listed) (row : SchemaRow) (owner : Table) (found : Index) (result : Result Table Fault) → table_named row.table_name.now l.tables ≡ Some owner → is_name_of l row.name.now ≡ false
    → (is_same_name owner.name row.table_name.now ≡ true → TellsKeyIndex owner found row × IsDue owner found) → IsOrMemory (λ copy. copy ≡ with_index found owner) result → IfOk result (GrowsBy l row)
key_grown_found l row owner found (Err f) listed new told by = tt
key_grown_found l row owner found (Ok grown) listed new told by =
    let both = told (named_so row.table_name.now l.tables owner listed) in record {
      table = owner;
      index = found;
      tells = inr both.0;
      due = both.1;
      name = row.table_name.now;
      listed = listed;
      fresh = taken_folded l found.name row.name.now (sym (is_folded found.name row.name.now both.0.name_is)) ∙ new;
      grown_is = by;
    }
