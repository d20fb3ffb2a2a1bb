-- The columns of views, and what is found by a name.
use Rattle.std.proofs.Common.{◌≡◌, ◌⊎◌, inl, inr, refl, sym, ap, subst, ◌∙◌, ℕ, zero, suc, ◌<◌, ◌≤◌, ◌+◌, Bool, false, not, ◌&&◌, ◌==◌, if◌then◌else◌, List, [], ◌∷◌, ◌++◌, length, map, take, get_or, Some, None, Result, Ok, Err, ℤ, arith}
use Rattle.std.specs.Prelude.{nat_lt, slice_get}
use Rattle.std.specs.List.{list_any}
use Rattle.std.proofs.lemmas.List.{take_all, take_more}
use Rattle.sqlval.specs.Faults.{IsOrMemory}
use Rattle.sqlval.specs.Names.{folded, is_same_name}
use Rattle.sqlval.specs.Refusals.{Misuse, NoSuch, refusal_of}
use Rattle.sqlval.specs.declared.fault.Fault.{Fault}
use Rattle.sqlval.specs.declared.fault.Fault.TheVariants.{Memory}
use Rattle.sqlval.specs.declared.value.Value.{Value}
use Rattle.sql_syntax.specs.declared.query.Query.{Query}
use Rattle.catalog.specs.Database as database
use Rattle.catalog.specs.Database.{Database, Name}
use Rattle.catalog.specs.Listed.{Listed, Lists, as_view, table_named, view_named}
use Rattle.catalog.specs.declared.tables.Table.{Table}
use Rattle.catalog.specs.declared.tables.View.{View}
use Rattle.query_names.specs.Bound.{IsFaultOf, columns_seen}
use Rattle.query_names.specs.Checked.{Checked, Meant, bad, good, faults, known_map, unless}
use Rattle.query_names.specs.Known.{columns_in, columns_listed}
use Rattle.query_names.specs.Laws.{KnowsListed}
use Rattle.query_names.specs.Named.{Names, NamesBy}
use Rattle.query_names.specs.Queries.{Lookup, resolve_query}
use Rattle.query_names.specs.Scopes.{source_of}
use Rattle.query_names.specs.Views.{columns_of, renamed, view_columns}
use Rattle.query_names.specs.declared.reading.Reading.{Reading}
use Rattle.query_names.specs.declared.scope.ScopeColumn.{ScopeColumn}
use Rattle.query_names.specs.declared.scope.ScopeSource.{ScopeSource}
use Rattle.query_names.proofs.PartRefusals.{mapped}
use Rattle.query_bind.specs.Named.{column_renamed, view_in}
use Rattle.query_bind.proofs.Chains.{refused_first}

abbrev Seen : Type 0
Seen = Checked (List ScopeColumn × Bool)

-- ---- names over columns

as_many : (ns : List Name) (cs : List ScopeColumn) → length (renamed ns cs) ≡ length cs
as_many [] cs = refl
as_many (n ∷ ns) [] = refl
as_many (n ∷ ns) (c ∷ cs) = ap suc (as_many ns cs)

renamed_at : (ns : List Name) (cs : List ScopeColumn) (i : ℕ) (c d : ScopeColumn) → i < length cs → c ≡ get_or cs i c → get_or (renamed (map folded ns) cs) i d ≡ column_renamed (slice_get ns i) c
renamed_at ns [] i c d lt is = absurd (omega (arith, lt))
renamed_at [] (x ∷ cs) zero c d lt is = sym is
renamed_at [] (x ∷ cs) (suc i) c d lt is = renamed_at [] cs i c d (omega (arith, lt)) is
renamed_at (n ∷ ns) (x ∷ cs) zero c d lt is = ap (column_renamed (Some n)) (sym is)
renamed_at (n ∷ ns) (x ∷ cs) (suc i) c d lt is = renamed_at ns cs i c d (omega (arith, lt)) is

-- one more column has its name
pub renamed_more : (ns : List Name) (cs : List ScopeColumn) (i : ℕ) (c : ScopeColumn) → i < length cs → c ≡ get_or cs i c
    → take (i + 1) (renamed (map folded ns) cs) ≡ take i (renamed (map folded ns) cs) ++ column_renamed (slice_get ns i) c ∷ []
renamed_more ns cs i c lt is =
    take_more (renamed (map folded ns) cs) i c (subst (λ n. i < n) (sym (as_many (map folded ns) cs)) lt)
    ∙ ap (λ s. take i (renamed (map folded ns) cs) ++ s ∷ []) (renamed_at ns cs i c c lt is)

-- and in the end all have
pub all_renamed : (ns : List Name) (cs : List ScopeColumn) (i : ℕ) → length cs ≤ i → take i (renamed (map folded ns) cs) ≡ renamed (map folded ns) cs
all_renamed ns cs i past = take_all i (renamed (map folded ns) cs) (subst (λ n. n ≤ i) (sym (as_many (map folded ns) cs)) past)

-- ---- a view

-- the columns under a view's list
abbrev under_list : database.View → Reading → Seen
under_list v q = unless (nat_lt 0 (length v.columns) && not q.is_open && not (length v.columns == length q.columns)) Misuse (good (renamed v.columns q.columns, false))

pub view_as : (room n : ℕ) (l : Listed) (around within : List Name) (name : Name) (v : View) → room ≡ suc n → list_any (is_same_name name) around ≡ false → within ≡ folded name ∷ around
    → view_in room l around name v ≡ view_columns (as_view v) (resolve_query (columns_in n l within) [] v.definition.query)
view_as room n l around within name v is none names =
    ap (λ m. view_in m l around name v) is
    ∙ (ap (λ b. if b then bad ([], false) Misuse else view_columns (as_view v) (resolve_query (columns_in n l (folded name ∷ around)) [] v.definition.query)) none
    ∙ ap (λ names. view_columns (as_view v) (resolve_query (columns_in n l names) [] v.definition.query)) (sym names))

pub view_refused : (v : database.View) (k : Checked Reading) (fault : Fault) → IsFaultOf (faults k) fault → IsFaultOf (faults (view_columns v k)) fault
view_refused v k fault h = refused_first k (under_list v) fault h

-- ---- what is found

columns_as : (n : ℕ) (l : Listed) (around : List Name) (name : Name) → columns_in n l around name ≡ columns_listed (view_in n l around name) (table_named name l.tables) (view_named name l.views)
columns_as zero l around name = refl
columns_as (suc n) l around name = refl

pub table_is : {X : Type 0} (view : X → List ScopeColumn × Bool) (n : ℕ) (l : Listed) (around : List Name) (name : Name) (t : Table) (result : Result X Fault)
    → Some t ≡ table_named name l.tables → IsOrMemory (λ found. view found ≡ columns_seen t) result → NamesBy view (columns_in n l around name) result
table_is view n l around name t result is h =
    subst (λ k. NamesBy view k result) (sym (columns_as n l around name ∙ ap (λ o. columns_listed (view_in n l around name) o (view_named name l.views)) (sym is))) (of_table view t result h)
  where
    of_table : {X : Type 0} (view : X → List ScopeColumn × Bool) (t : Table) (result : Result X Fault) → IsOrMemory (λ found. view found ≡ columns_seen t) result → NamesBy view (good (columns_seen t)) result
    of_table view t (Ok x) h = ap good (sym h)
    of_table view t (Err f) h = inl h

pub view_is : {X : Type 0} (view : X → List ScopeColumn × Bool) (n : ℕ) (l : Listed) (around : List Name) (name : Name) (v : View) (result : Result X Fault)
    → None ≡ table_named name l.tables → Some v ≡ view_named name l.views → NamesBy view (view_in n l around name v) result → NamesBy view (columns_in n l around name) result
view_is view n l around name v result none is h =
    subst (λ k. NamesBy view k result)
    (sym (columns_as n l around name
    ∙ (ap (λ o. columns_listed (view_in n l around name) o (view_named name l.views)) (sym none) ∙ ap (λ o. columns_listed (view_in n l around name) None o) (sym is)))) h

pub none_is : (n : ℕ) (l : Listed) (around : List Name) (name : Name) (fault : Fault) → None ≡ table_named name l.tables → None ≡ view_named name l.views
    → (fault ≡ Memory) ⊎ (refusal_of fault ≡ NoSuch) → IsFaultOf (faults (columns_in n l around name)) fault
none_is n l around name fault none neither why =
    subst (λ k. IsFaultOf (faults k) fault)
    (sym (columns_as n l around name
    ∙ (ap (λ o. columns_listed (view_in n l around name) o (view_named name l.views)) (sym none) ∙ ap (λ o. columns_listed (view_in n l around name) None o) (sym neither))))
    (either why)
  where
    either : (fault ≡ Memory) ⊎ (refusal_of fault ≡ NoSuch) → IsFaultOf (NoSuch ∷ []) fault
    either (inl m) = inl m
    either (inr is) = inr (0, omega arith, sym is)

-- ---- on a database

-- what a query's names stand for on a database of which this is listed
pub query_on : {X : Type 0} → KnowsListed → (view : X → Reading) (n : ℕ) (rows_at : ℕ → List (ℤ × List Value)) (l : Listed) (db : Database) → Lists rows_at l db → (around : List Name) (outer : List ScopeSource) (q : Query) (result : Result X Fault)
    → NamesBy view (resolve_query (columns_in n l around) outer q) result → NamesBy view (resolve_query (columns_of n db around) outer q) result
query_on knows view n rows_at l db lists around outer q result h =
    let same : columns_of n db around ≡ columns_in n l around = λ i name. knows rows_at l db lists n around name i in
    subst (λ (look : Lookup). NamesBy view (resolve_query look outer q) result) (sym same) h

-- what was found, as a source of this name
abbrev pub as_source : Name → List ScopeColumn × Bool → ScopeSource
as_source name found = source_of (folded name) (good found)

pub source_on : KnowsListed → (n : ℕ) (rows_at : ℕ → List (ℤ × List Value)) (l : Listed) (db : Database) → Lists rows_at l db → (around : List Name) (name : Name) (x : List ScopeColumn × Bool) (result : Result ScopeSource Fault)
    → columns_in n l around name ≡ Meant x [] → IsOrMemory (λ source. source ≡ as_source name x) result → NamesBy (λ source. source) (known_map (as_source name) (columns_of n db around name)) result
source_on knows n rows_at l db lists around name x result is h =
    subst (λ k. Names (known_map (as_source name) k) result) (sym (knows rows_at l db lists n around name ∙ is)) (so result h)
  where
    so : (result : Result ScopeSource Fault) → IsOrMemory (λ source. source ≡ as_source name x) result → Names (good (as_source name x)) result
    so (Ok s) h = ap good (sym h)
    so (Err f) h = inl h

pub source_refused_on : KnowsListed → (n : ℕ) (rows_at : ℕ → List (ℤ × List Value)) (l : Listed) (db : Database) → Lists rows_at l db → (around : List Name) (name : Name) (fault : Fault)
    → IsFaultOf (faults (columns_in n l around name)) fault → IsFaultOf (faults (known_map (as_source name) (columns_of n db around name))) fault
source_refused_on knows n rows_at l db lists around name fault h =
    mapped (as_source name) (columns_of n db around name) fault (subst (λ k. IsFaultOf (faults k) fault) (sym (knows rows_at l db lists n around name)) h)
