-- One source after another.
use Rattle.std.proofs.Common.{◌≡◌, refl, sym, ap, subst, ◌∙◌, ℕ, zero, suc, ◌<◌, ◌≤◌, ◌+◌, Bool, true, false, not, ◌||◌, List, [], ◌∷◌, ◌++◌, length, drop, take, map, get_or, Option, Some, None, append_assoc, arith}
use Rattle.std.specs.Prelude.{OnOk, Result, Ok, Err, is_some, option_map}
use Rattle.std.specs.List.{find}
use Rattle.std.specs.Option.{option_eq}
use Rattle.std.proofs.Math.Dec.{eqb, eqb-suc-suc, eqb-suc-zero, eqb-zero-suc}
use Rattle.query_names.proofs.ColumnNames.{same_folded}
use Rattle.query_names.proofs.PartRefusals.{mapped}
use Rattle.std.proofs.lemmas.List.{append-nil, at_drop_more, length-map, take_all, take_more}
use Rattle.std.proofs.lemmas.List.Folds.{list_any-append}
use Rattle.sqlval.specs.Names.{folded}
use Rattle.sqlval.specs.Refusals.{Refusal}
use Rattle.sqlval.specs.declared.fault.Fault.{Fault}
use Rattle.sql_syntax.specs.Tree.{Tree}
use Rattle.sql_syntax.specs.declared.query.Join.{Join}
use Rattle.sql_syntax.specs.declared.query.JoinKind.{JoinKind}
use Rattle.sql_syntax.specs.declared.query.Source.{Source}
use Rattle.catalog.specs.Database.{Name}
use Rattle.catalog.specs.Listed.{Listed, as_column, own_column, table_named, view_named}
use Rattle.catalog.specs.declared.tables.Column.{Column}
use Rattle.catalog.specs.declared.tables.Table.{Table}
use Rattle.catalog.specs.declared.tables.View.{View}
use Rattle.query_names.specs.Bound.{EachOf, IsFaultOf, columns_seen, column_seen}
use Rattle.query_names.specs.Checked.{Checked, Meant, good, meant, faults, noted, also, known_map, ◌and_then◌}
use Rattle.query_names.specs.Queries.{Lookup, resolve_join, resolve_sources, source_name}
use Rattle.query_names.specs.Scopes.{column_scope, source_of, with_rowid_at}
use Rattle.query_names.specs.declared.queries.Origin.{Origin}
use Rattle.query_names.specs.declared.queries.Origin.TheVariants as origin
use Rattle.query_names.specs.declared.reading.Condition.{Condition}
use Rattle.query_names.specs.declared.scope.ScopeColumn.{ScopeColumn}
use Rattle.query_names.specs.declared.scope.ScopeSource.{ScopeSource}
use Rattle.query_bind.specs.Named.{AreTables, ArePlaced, IsOriginOf, IsPlaced, onto_source, onto_sources, place_seen, resolve_source, source_joined}
use Rattle.query_bind.proofs.Chains.{in_front, refused_first, then_good}

-- a table's columns, as their own type has them
abbrev pub all_seen : Option ℕ → List Column → List ScopeColumn
all_seen own cs = with_rowid_at own (map column_seen cs)

columns_are : (t : Table) → all_seen (own_column t) t.columns ≡ (columns_seen t).0
columns_are t = ap (λ (cs : List ScopeColumn). with_rowid_at (own_column t) cs) (each t.columns)
  where
    each : (cs : List Column) → map column_seen cs ≡ map column_scope (map as_column cs)
    each [] = refl
    each (c ∷ cs) = ap (λ xs. column_seen c ∷ xs) (each cs)

-- the column at a place, which is that of the rowid or isn't
abbrev pub marked : Bool → Column → ScopeColumn
marked own c = record (column_seen c) { is_rowid = own }

abbrev pub is_place : Option ℕ → ℕ → Bool
is_place own i = option_eq eqb own (Some i)

marked_at : (own : Option ℕ) (cs : List Column) (i : ℕ) (c : Column) (d : ScopeColumn) → i < length cs → c ≡ get_or cs i c → get_or (all_seen own cs) i d ≡ marked (is_place own i) c
marked_at own [] i c d lt is = absurd (omega (arith, lt))
marked_at None (x ∷ cs) zero c d lt is = ap column_seen (sym is)
marked_at (Some zero) (x ∷ cs) zero c d lt is = ap (marked true) (sym is)
marked_at (Some (suc place)) (x ∷ cs) zero c d lt is = ap column_seen (sym is) ∙ ap (λ b. marked b c) (sym (eqb-suc-zero place))
marked_at None (x ∷ cs) (suc i) c d lt is = marked_at None cs i c d (omega (arith, lt)) is
marked_at (Some zero) (x ∷ cs) (suc i) c d lt is = marked_at None cs i c d (omega (arith, lt)) is ∙ ap (λ b. marked b c) (sym (eqb-zero-suc i))
marked_at (Some (suc place)) (x ∷ cs) (suc i) c d lt is = marked_at (Some place) cs i c d (omega (arith, lt)) is ∙ ap (λ b. marked b c) (sym (eqb-suc-suc place i))

pub as_many : (own : Option ℕ) (cs : List Column) → length (all_seen own cs) ≡ length cs
as_many None cs = length-map cs column_seen
as_many (Some place) [] = refl
as_many (Some zero) (c ∷ cs) = ap suc (length-map cs column_seen)
as_many (Some (suc place)) (c ∷ cs) = ap suc (as_many (Some place) cs)

-- one more column is seen
pub seen_more : (own : Option ℕ) (cs : List Column) (i : ℕ) (c : Column) → i < length cs → c ≡ get_or cs i c
    → take (i + 1) (all_seen own cs) ≡ take i (all_seen own cs) ++ marked (is_place own i) c ∷ []
seen_more own cs i c lt is =
    take_more (all_seen own cs) i (column_seen c) (subst (λ n. i < n) (sym (as_many own cs)) lt)
    ∙ ap (λ s. take i (all_seen own cs) ++ s ∷ []) (marked_at own cs i c (column_seen c) lt is)

-- and in the end all are
pub all_taken : (t : Table) (i : ℕ) → length t.columns ≤ i → take i (all_seen (own_column t) t.columns) ≡ (columns_seen t).0
all_taken t i past = take_all i (all_seen (own_column t) t.columns) (subst (λ n. n ≤ i) (sym (as_many (own_column t) t.columns)) past) ∙ columns_are t

pub begins : (k : Checked (List ScopeSource × List (Name × Condition))) → onto_sources [] k ≡ k
begins (Meant x rs) = refl

pub ends : (scope : List ScopeSource) (joined : List (Name × Condition)) → onto_sources joined (Meant (scope, []) []) ≡ Meant (scope, joined) []
ends scope joined = ap (λ js. Meant (scope, js) []) (append-nil joined)

-- ---- one source

-- what a source makes of its condition
abbrev of_condition : List ScopeSource → Name → List (Name × Condition) → Checked Condition → Checked (List ScopeSource × List (Name × Condition))
of_condition here name joined k = known_map (λ c. (here, joined ++ (name, c) ∷ [])) k

pub source_made : (joined : List (Name × Condition)) (before : List ScopeSource) (kind : JoinKind) (s : Source) (on : Option Tree) (found : Checked (List ScopeColumn × Bool))
    → onto_source joined (source_joined before kind s on found)
    ≡ of_condition (before ++ source_of (source_name s) found ∷ []) (folded s.name) joined (resolve_join (before ++ source_of (source_name s) found ∷ []) kind on)
source_made joined before kind s on found = twice (before ++ source_of (source_name s) found ∷ []) (resolve_join (before ++ source_of (source_name s) found ∷ []) kind on)
  where
    twice : (here : List ScopeSource) (k : Checked Condition) → onto_source joined (known_map (λ c. (here, (folded s.name, c))) k) ≡ of_condition here (folded s.name) joined k
    twice here (Meant c rs) = refl

pub condition_refused : (joined : List (Name × Condition)) (before here : List ScopeSource) (kind : JoinKind) (s : Source) (on : Option Tree) (found : Checked (List ScopeColumn × Bool)) (fault : Fault)
    → here ≡ before ++ source_of (source_name s) found ∷ [] → IsFaultOf (faults (resolve_join here kind on)) fault → IsFaultOf (faults (onto_source joined (source_joined before kind s on found))) fault
condition_refused joined before here kind s on found fault is refused =
    subst (λ k. IsFaultOf (faults k) fault) (sym (source_made joined before kind s on found ∙ ap (λ x. of_condition x (folded s.name) joined (resolve_join x kind on)) (sym is)))
    (mapped (λ c. (here, joined ++ (folded s.name, c) ∷ [])) (resolve_join here kind on) fault refused)

pub condition_known : (joined : List (Name × Condition)) (before here : List ScopeSource) (kind : JoinKind) (s : Source) (on : Option Tree) (found : Checked (List ScopeColumn × Bool)) (c : Condition)
    → here ≡ before ++ source_of (source_name s) found ∷ [] → resolve_join here kind on ≡ Meant c []
    → onto_source joined (source_joined before kind s on found) ≡ Meant (here, joined ++ (folded s.name, c) ∷ []) []
condition_known joined before here kind s on found c is known =
    source_made joined before kind s on found
    ∙ (ap (λ x. of_condition x (folded s.name) joined (resolve_join x kind on)) (sym is) ∙ ap (of_condition here (folded s.name) joined) known)

-- a source that is looked up and isn't refused
pub source_known : (look : Lookup) (joined : List (Name × Condition)) (before : List ScopeSource) (kind : JoinKind) (s : Source) (on : Option Tree) (x : List ScopeColumn × Bool) → look s.name ≡ Meant x []
    → onto_source joined (resolve_source look before kind s on) ≡ onto_source joined (source_joined before kind s on (good x))
source_known look joined before kind s on x h =
    ap (onto_source joined) (then_good (noted (look s.name)) (source_joined before kind s on) (good x) (ap noted h))

pub source_refused : (look : Lookup) (joined : List (Name × Condition)) (before : List ScopeSource) (kind : JoinKind) (s : Source) (on : Option Tree) (fault : Fault) → IsFaultOf (faults (look s.name)) fault
    → IsFaultOf (faults (onto_source joined (resolve_source look before kind s on))) fault
source_refused look joined before kind s on fault h =
    mapped (λ (x : List ScopeSource × (Name × Condition)). (x.0, joined ++ x.1 ∷ [])) (resolve_source look before kind s on) fault (refused_first (noted (look s.name)) (source_joined before kind s on) fault h)

-- ---- a source, and the rest

-- where nothing is refused up to a source, the rest decides
split : (joined after : List (Name × Condition)) (x : Name × Condition) (here seen : List ScopeSource) (rs ss : List Refusal) (rest : List ScopeSource → Checked (List ScopeSource × List (Name × Condition)))
    → ◌≡◌ {A = Checked (List ScopeSource × List (Name × Condition))} (Meant (here, joined ++ x ∷ []) (rs ++ ss)) (Meant (seen, after) [])
    → onto_sources joined (also rs (also ss (known_map (λ r. (r.0, x ∷ r.1)) (rest here)))) ≡ onto_sources after (rest seen)
split joined after x here seen rs ss rest h =
    ap (λ s. onto_sources joined (also rs (also ss (known_map (λ r. (r.0, x ∷ r.1)) (rest s))))) (ap (λ (k : Checked (List ScopeSource × List (Name × Condition))). (meant k).0) h)
    ∙ flat (rest seen)
  where
    flat : (k : Checked (List ScopeSource × List (Name × Condition))) → onto_sources joined (also rs (also ss (known_map (λ r. (r.0, x ∷ r.1)) k))) ≡ onto_sources after k
    flat (Meant r ts) =
        ap (λ us. Meant (r.0, joined ++ x ∷ r.1) us) (sym (append_assoc rs ss ts))
        ∙ (ap (λ us. Meant (r.0, joined ++ x ∷ r.1) (us ++ ts)) (ap faults h)
        ∙ ap (λ js. Meant (r.0, js) ts) (sym (append_assoc joined (x ∷ []) r.1) ∙ ap (λ js. js ++ r.1) (ap (λ (k : Checked (List ScopeSource × List (Name × Condition))). (meant k).1) h)))

pub joined_more : (look : Lookup) (before seen : List ScopeSource) (j : Join) (js : List Join) (joined after : List (Name × Condition))
    → onto_source joined (resolve_source look before j.kind j.source j.condition) ≡ Meant (seen, after) []
    → onto_sources joined (resolve_sources look before (j ∷ js)) ≡ onto_sources after (resolve_sources look seen js)
joined_more look before seen j js joined after h = of_look (look j.source.name) h
  where
    of_join : (here : List ScopeSource) (rs : List Refusal) (k : Checked Condition)
        → onto_source joined (also rs (known_map (λ c. (here, (folded j.source.name, c))) k)) ≡ Meant (seen, after) []
        → onto_sources joined (also rs (k and_then λ c. known_map (λ rest. (rest.0, (folded j.source.name, c) ∷ rest.1)) (resolve_sources look here js))) ≡ onto_sources after (resolve_sources look seen js)
    of_join here rs (Meant c ss) e = split joined after (folded j.source.name, c) here seen rs ss (λ s. resolve_sources look s js) e

    of_look : (k : Checked (List ScopeColumn × Bool))
        → onto_source joined (noted k and_then λ found. known_map (λ c. (before ++ source_of (source_name j.source) found ∷ [], (folded j.source.name, c))) (resolve_join (before ++ source_of (source_name j.source) found ∷ []) j.kind j.condition)) ≡ Meant (seen, after) []
        → onto_sources joined (noted k and_then λ found. resolve_join (before ++ source_of (source_name j.source) found ∷ []) j.kind j.condition and_then λ c. known_map (λ rest. (rest.0, (folded j.source.name, c) ∷ rest.1)) (resolve_sources look (before ++ source_of (source_name j.source) found ∷ []) js))
        ≡ onto_sources after (resolve_sources look seen js)
    of_look (Meant x rs) e =
        of_join (before ++ source_of (source_name j.source) (Meant x rs) ∷ []) rs (resolve_join (before ++ source_of (source_name j.source) (Meant x rs) ∷ []) j.kind j.condition) e

pub joined_refused : (look : Lookup) (before : List ScopeSource) (j : Join) (js : List Join) (joined : List (Name × Condition)) (fault : Fault)
    → IsFaultOf (faults (onto_source joined (resolve_source look before j.kind j.source j.condition))) fault
    → IsFaultOf (faults (onto_sources joined (resolve_sources look before (j ∷ js)))) fault
joined_refused look before j js joined fault h = of_look (look j.source.name) h
  where
    of_rest : (here : List ScopeSource) (c : Condition) (rs ss : List Refusal) (k : Checked (List ScopeSource × List (Name × Condition))) → IsFaultOf (rs ++ ss) fault
        → IsFaultOf (faults (onto_sources joined (also rs (also ss (known_map (λ rest. (rest.0, (folded j.source.name, c) ∷ rest.1)) k))))) fault
    of_rest here c rs ss (Meant r ts) e = subst (λ us. IsFaultOf us fault) (append_assoc rs ss ts) (in_front (rs ++ ss) ts fault e)

    of_join : (here : List ScopeSource) (rs : List Refusal) (k : Checked Condition)
        → IsFaultOf (faults (onto_source joined (also rs (known_map (λ c. (here, (folded j.source.name, c))) k)))) fault
        → IsFaultOf (faults (onto_sources joined (also rs (k and_then λ c. known_map (λ rest. (rest.0, (folded j.source.name, c) ∷ rest.1)) (resolve_sources look here js))))) fault
    of_join here rs (Meant c ss) e = of_rest here c rs ss (resolve_sources look here js) e

    of_look : (k : Checked (List ScopeColumn × Bool))
        → IsFaultOf (faults (onto_source joined (noted k and_then λ found. known_map (λ c. (before ++ source_of (source_name j.source) found ∷ [], (folded j.source.name, c))) (resolve_join (before ++ source_of (source_name j.source) found ∷ []) j.kind j.condition)))) fault
        → IsFaultOf (faults (onto_sources joined (noted k and_then λ found. resolve_join (before ++ source_of (source_name j.source) found ∷ []) j.kind j.condition and_then λ c. known_map (λ rest. (rest.0, (folded j.source.name, c) ∷ rest.1)) (resolve_sources look (before ++ source_of (source_name j.source) found ∷ []) js)))) fault
    of_look (Meant x rs) e =
        of_join (before ++ source_of (source_name j.source) (Meant x rs) ∷ []) rs (resolve_join (before ++ source_of (source_name j.source) (Meant x rs) ∷ []) j.kind j.condition) e

-- ---- the sources are known, and each is placed

pub source_added : (scope : List ScopeSource) (name : Name) (x : List ScopeColumn × Bool) → AreTables scope → AreTables (scope ++ source_of name (good x) ∷ [])
source_added scope name x h = list_any-append (λ s. not s.is_known) scope (source_of name (good x) ∷ []) ∙ ap (λ b. b || false) h

-- a table or a view has a name, whichever letters are large
same_table : (name : Name) (tables : List Table) → table_named (folded name) tables ≡ table_named name tables
same_table name tables = ap (λ p. find p tables) (λ i t. same_folded t.name name i)

same_view : (name : Name) (views : List View) → view_named (folded name) views ≡ view_named name views
same_view name views = ap (λ p. find p views) (λ i v. same_folded v.definition.name name i)

folded_origin : (l : Listed) (name : Name) (o : Origin) → IsOriginOf l name o → IsOriginOf l (folded name) o
folded_origin l name (origin.Tree place) h = ap (option_map place_seen) (same_table name l.tables) ∙ h
folded_origin l name origin.View h = (same_table name l.tables ∙ h.0, ap is_some (same_view name l.views) ∙ h.1)

pub each_more : {A B : Type 0} (P : A → B → Type 0) (xs : List A) (ys : List B) (x : A) (y : B) → EachOf P xs ys → P x y → EachOf P (xs ++ x ∷ []) (ys ++ y ∷ [])
each_more P [] [] x y h p = (p, tt)
each_more P (a ∷ xs) (b ∷ ys) x y (q, h) p = (q, each_more P xs ys x y h p)
each_more P [] (b ∷ ys) x y h p = absurd h
each_more P (a ∷ xs) [] x y h p = absurd h

-- ---- the sources of a list

next_source : (look : Lookup) (before : List ScopeSource) (js : List Join) (i : ℕ) (j : Join) (joined : List (Name × Condition)) → i < length js → j ≡ get_or js i j
    → onto_sources joined (resolve_sources look before (drop i js)) ≡ onto_sources joined (resolve_sources look before (j ∷ drop (i + 1) js))
next_source look before js i j joined lt is =
    at_drop_more (λ ks. onto_sources joined (resolve_sources look before ks)) js i j lt
    ∙ ap (λ k. onto_sources joined (resolve_sources look before (k ∷ drop (i + 1) js))) (sym is)

pub next_join : (look : Lookup) (before seen : List ScopeSource) (js : List Join) (i : ℕ) (j : Join) (joined after : List (Name × Condition)) → i < length js → j ≡ get_or js i j
    → onto_source joined (resolve_source look before j.kind j.source j.condition) ≡ Meant (seen, after) []
    → onto_sources after (resolve_sources look seen (drop (i + 1) js)) ≡ onto_sources joined (resolve_sources look before (drop i js))
next_join look before seen js i j joined after lt is h =
    sym (next_source look before js i j joined lt is ∙ joined_more look before seen j (drop (i + 1) js) joined after h)

pub next_refused : (look : Lookup) (before : List ScopeSource) (js : List Join) (i : ℕ) (j : Join) (joined : List (Name × Condition)) (fault : Fault) → i < length js → j ≡ get_or js i j
    → IsFaultOf (faults (onto_source joined (resolve_source look before j.kind j.source j.condition))) fault
    → IsFaultOf (faults (onto_sources joined (resolve_sources look before (drop i js)))) fault
next_refused look before js i j joined fault lt is h =
    subst (λ k. IsFaultOf (faults k) fault) (sym (next_source look before js i j joined lt is)) (joined_refused look before j (drop (i + 1) js) joined fault h)

placed_more : (l : Listed) (joined : List (Name × Condition)) (origins : List Origin) (name : Name) (o : Origin) (c : Condition) → IsOriginOf l name o
    → ArePlaced l joined origins → ArePlaced l (joined ++ (folded name, c) ∷ []) (origins ++ o ∷ [])
placed_more l joined origins name o c h placed = each_more (IsPlaced l) joined origins (folded name, c) o placed (folded_origin l name o h)

pub placed_then : {X E : Type 0} (result : Result X E) (l : Listed) (joined after : List (Name × Condition)) (origins more : List Origin) (name : Name) (o : Origin) (c : Condition) → IsOriginOf l name o
    → OnOk result (after ≡ joined ++ (folded name, c) ∷ []) → OnOk result (more ≡ origins ++ o ∷ []) → ArePlaced l joined origins → OnOk result (ArePlaced l after more)
placed_then (Ok x) l joined after origins more name o c h hj hp placed =
    subst (λ js. ArePlaced l js more) (sym hj) (subst (λ ps. ArePlaced l (joined ++ (folded name, c) ∷ []) ps) (sym hp) (placed_more l joined origins name o c h placed))
placed_then (Err e) l joined after origins more name o c h hj hp placed = tt
