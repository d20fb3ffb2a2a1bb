-- The index that a row of the schema table tells, on a listed table.
use Rattle.std.proofs.Common.{◌≡◌, ◌⊎◌, inl, inr, refl, sym, ap, subst, ◌∙◌, ℕ, Bool, true, false, cond, List, [], ◌∷◌, map, Some, None, arith}
use Rattle.std.specs.Prelude.{Result, Ok, Err, IfErr, IfOk, MatchResult, OnOk}
use Rattle.std.specs.List.{Contains}
use Rattle.std.proofs.lemmas.Bool.{false≢true}
use Rattle.sqlval.specs.Faults.{IsOrMemory}
use Rattle.sqlval.specs.Names.{is_same_name}
use Rattle.sqlval.specs.Refusals.{Refusal, refusal_of}
use Rattle.sqlval.specs.declared.fault.Fault.{Fault}
use Rattle.sqlval.specs.declared.fault.Fault.TheVariants as fault
use Rattle.sql_syntax.specs.declared.create.IndexDefinition.{IndexDefinition}
use Rattle.catalog.specs.Database.{Name}
use Rattle.catalog.specs.Listed.{Listed, is_name_of, is_table, table_named}
use Rattle.catalog.specs.NewIndexes.{replacing, with_index}
use Rattle.catalog.specs.declared.tables.Index.{Index}
use Rattle.catalog.specs.declared.tables.IndexColumn.{IndexColumn}
use Rattle.catalog.specs.declared.tables.Table.{Table}
use Rattle.query_names.specs.Checked.{faults, good}
use Rattle.query_bind.specs.Indexed.{IsIndexOn, IsIndexRefusal, key_of, keys_known}
use Rattle.sql_syntax.specs.declared.create.NewObject.TheVariants as new
use Rattle.db_pages.specs.Schema.{IndexTold, IsCreateOf, IsIndexOf}
use Rattle.db_load.specs.Loading.{IsOfIndexRow, TellsIndex, bare, text_of}
use Rattle.db_load.specs.Reading.{AddsTold, AreSound, CanGrow, FindsParts, GrowsBy, IsGrown}
use Rattle.db_load.specs.declared.schema.SchemaKind.TheVariants as kind
use Rattle.db_load.specs.declared.schema.SchemaRow.{SchemaRow}
use Rattle.db_load.proofs.KeyColumns.{key_is}
use Rattle.db_load.proofs.ToldAdded.{index_adds, named_folded}
use Rattle.db_load.proofs.ToldParts.{is_folded}

-- ---- columns

good_is : {A : Type 0} (x y : A) → good x ≡ good y → x ≡ y
good_is x y h = cc

-- what the columns stand for depends on the table without its indexes
pub keys_bare : (t u : Table) (d : IndexDefinition) → bare t ≡ bare u → keys_known t d ≡ keys_known u d
keys_bare t u d alike = ap (λ (x : Table). keys_known x d) alike

pub columns_same : (t u : Table) (d : IndexDefinition) (them bs : List IndexColumn) → bare t ≡ bare u → keys_known t d ≡ good (map key_of them) → keys_known u d ≡ good (map key_of bs) → them ≡ bs
columns_same t u d them bs alike one other = key_is them bs (good_is (map key_of them) (map key_of bs) (sym one ∙ (keys_bare t u d alike ∙ other)))

-- ---- the table

some_is : (t u : Table) → Some t ≡ Some u → t ≡ u
some_is t u h = cc

none_is : {B : Type 0} (t : Table) → Some t ≡ None → B
none_is t h = absurd cc

pub table_there : (l : Listed) (t : Table) (i : Index) (d : IndexDefinition) (can : CanGrow l t i) → IsIndexOf d t i → table_named d.table l.tables ≡ Some can.other
table_there l t i d can is = named_folded l.tables d.table t.name is.on ∙ can.listed

-- nothing is in the way of an index that can be listed
pub not_refused : (l : Listed) (t : Table) (i : Index) (d : IndexDefinition) (f : Fault) (can : CanGrow l t i) → IsIndexOf d t i → (f ≡ fault.Memory) ⊎ IsIndexRefusal l d (refusal_of f)
    → f ≡ fault.Memory
not_refused l t i d f can is (inl memory) = memory
not_refused l t i d f can is (inr (inl reserved)) = absurd (false≢true (sym is.free ∙ reserved.1))
not_refused l t i d f can is (inr (inr (inl taken))) = absurd (false≢true (sym can.fresh ∙ (ap (is_name_of l) is.name_is ∙ taken.1)))
not_refused l t i d f can is (inr (inr (inr (inl doubled)))) = absurd (false≢true (sym is.once ∙ doubled.1))
not_refused l t i d f can is (inr (inr (inr (inr (inl none))))) = none_is can.other (sym (table_there l t i d can is) ∙ none.1)
not_refused l t i d f can is (inr (inr (inr (inr (inr (u, named, has)))))) = nothing (subst (λ (rs : List Refusal). Contains rs (refusal_of f)) none has)
  where
    same : bare u ≡ bare t
    same = ap bare (some_is u can.other (sym named ∙ table_there l t i d can is)) ∙ can.alike

    none : faults (keys_known u d) ≡ []
    none = ap faults (keys_bare u t d same ∙ is.columns)

    nothing : {B : Type 0} → Contains [] (refusal_of f) → B
    nothing has = absurd (omega (arith, has.1))

-- ---- the index

-- the index of a row is the one that the row tells
pub is_grown : (l : Listed) (t u : Table) (i found : Index) (row : SchemaRow) (d : IndexDefinition) (grown : Table) (can : CanGrow l t i) (tells : TellsIndex t i row) → d ≡ tells.definition
    → IsIndexOn l d u found.columns → found.name ≡ d.name → found.is_unique ≡ d.is_unique → found.is_automatic ≡ false → found.root ≡ row.root → found.rowid ≡ row.rowid → grown ≡ with_index found u → IsGrown l.tables t i grown
is_grown l t u i found row d grown can tells same on name unique automatic root rowid by = record {
  name = d.table;
  other = u;
  listed = on.on;
  alike = alike;
  grown_is = by ∙ ap (λ (x : Index). with_index x u) index_is;
}
  where
    makes : IsIndexOf d t i
    makes = subst (λ (x : IndexDefinition). IsIndexOf x t i) (sym same) tells.makes

    alike : bare u ≡ bare t
    alike = ap bare (some_is u can.other (sym on.on ∙ table_there l t i d can makes)) ∙ can.alike

    index_is : found ≡ i
    index_is =
        let n : found.name ≡ i.name = name ∙ sym makes.name_is in
        let cs : found.columns ≡ i.columns = columns_same u t d found.columns i.columns alike on.known makes.columns in
        let one : found.is_unique ≡ i.is_unique = unique ∙ sym makes.unique in
        let auto : found.is_automatic ≡ i.is_automatic = automatic ∙ sym makes.written in
        let r : found.root ≡ i.root = root ∙ sym tells.root_is in
        let id : found.rowid ≡ i.rowid = rowid ∙ sym tells.rowid_is in
        λ j. record { name = n j; columns = cs j; is_unique = one j; is_automatic = auto j; root = r j; rowid = id j }

-- the table that is found has the name
pub named_so : (n : Name) (ts : List Table) (t : Table) → table_named n ts ≡ Some t → is_same_name t.name n ≡ true
named_so n [] t found = absurd cc
named_so n (u ∷ us) t found = by_test (named_so n us t) (is_table n u) refl found
  where
    by_test : (table_named n us ≡ Some t → is_same_name t.name n ≡ true) → (b : Bool) → is_table n u ≡ b → cond b (Some u) (table_named n us) ≡ Some t → is_same_name t.name n ≡ true
    by_test later true e is = subst (λ (x : Table). is_same_name x.name n ≡ true) (some_is u t is) e
    by_test later false e is = later is

pub makes_index : (l : Listed) (t : Table) (i : Index) (d : IndexDefinition) → IsIndexOn l d t i.columns → i.name ≡ d.name → i.is_unique ≡ d.is_unique → i.is_automatic ≡ false → IsIndexOf d t i
makes_index l t i d on name unique automatic = record {
  free = on.free;
  once = on.once;
  name_is = name;
  on = is_folded t.name d.table (named_so d.table l.tables t on.on);
  unique = unique;
  written = automatic;
  columns = on.known;
}

-- ---- the catalog

-- the index of a row is listed with its table
pub index_listed : {Y : Type 0} (t : Table) (i : Index) (grown : Table) (old new : Listed) (result : Result Y Fault) → CanGrow old t i → IsGrown old.tables t i grown
    → OnOk result (new ≡ replacing grown old) → IfErr result (λ f. f ≡ fault.Memory) → MatchResult result (λ done. AddsTold (IndexTold t i) old new) (λ f. f ≡ fault.Memory)
index_listed t i grown old new (Ok y) can is by refused = index_adds t i grown old new can.sound.named can.fresh is by
index_listed t i grown old new (Err f) can is by refused = refused

-- and the row tells it
pub index_found : (row : SchemaRow) (grown : Table) (old new : Listed) → row.kind ≡ kind.Index → AreSound old → GrowsBy old row grown → new ≡ replacing grown old → FindsParts false row old new
index_found row grown old new its_kind sound by now = record {
  item = IndexTold by.table by.index;
  pass = refl;
  tells = (its_kind, by.tells);
  due = by.due;
  adds = index_adds by.table by.index grown old new sound.named by.fresh (record { name = by.name; other = by.table; listed = by.listed; alike = refl; grown_is = by.grown_is }) now;
}

-- ---- a copy

pub grown_as_told : (l : Listed) (t u : Table) (i found : Index) (row : SchemaRow) (d : IndexDefinition) (result : Result Table Fault) (can : CanGrow l t i) (tells : TellsIndex t i row) → d ≡ tells.definition
    → IsIndexOn l d u found.columns → found.name ≡ d.name → found.is_unique ≡ d.is_unique → found.is_automatic ≡ false → found.root ≡ row.root → found.rowid ≡ row.rowid → IsOrMemory (λ copy. copy ≡ with_index found u) result
    → IsOrMemory (IsGrown l.tables t i) result
grown_as_told l t u i found row d (Ok grown) can tells same on name unique automatic root rowid by = is_grown l t u i found row d grown can tells same on name unique automatic root rowid by
grown_as_told l t u i found row d (Err f) can tells same on name unique automatic root rowid by = by

pub grown_found : (l : Listed) (u : Table) (found : Index) (row : SchemaRow) (d : IndexDefinition) (result : Result Table Fault) (text : List ℕ) → text_of row ≡ Some text → IsCreateOf text (new.Index d) → IsOfIndexRow row d
    → IsIndexOn l d u found.columns → found.name ≡ d.name → found.is_unique ≡ d.is_unique → found.is_automatic ≡ false → found.root ≡ row.root → found.rowid ≡ row.rowid → IsOrMemory (λ copy. copy ≡ with_index found u) result → IfOk result (GrowsBy l row)
grown_found l u found row d (Err f) text text_is creates names on name unique automatic root rowid by = tt
grown_found l u found row d (Ok grown) text text_is creates names on name unique automatic root rowid by = record {
  table = u;
  index = found;
  tells = inl (record { text = text; text_is = text_is; definition = d; creates = creates; names = names; makes = makes_index l u found d on name unique automatic; root_is = root; rowid_is = rowid });
  due = λ is. absurd (false≢true (sym automatic ∙ is));
  name = d.table;
  listed = on.on;
  fresh = subst (λ (n : Name). is_name_of l n ≡ false) (sym name) on.new;
  grown_is = by;
}
