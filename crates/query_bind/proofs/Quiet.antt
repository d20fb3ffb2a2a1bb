-- No refusal of a query comes from a disk.
use Rattle.std.proofs.Common.{◌≡◌, refl, ap, ℕ, zero, suc, Bool, true, false, not, ◌&&◌, ◌||◌, ◌==◌, if◌then◌else◌, List, [], ◌∷◌, ◌++◌, map, length, Option, Some, None}
use Rattle.std.specs.Prelude.{IfErr, Result, Ok, Err, nat_lt, slice_get, unwrap_or}
use Rattle.sqlval.specs.Names.{folded, is_same_name}
use Rattle.std.specs.List.{list_any}
use Rattle.sqlval.specs.Faults.{IsNotDiskFault}
use Rattle.sqlval.specs.Refusals.{Refusal, NoSuch, Misuse, TooLong}
use Rattle.sqlval.specs.declared.fault.Fault.{Fault}
use Rattle.sqlval.specs.declared.value.Value.TheVariants.{Null}
use Rattle.sql_syntax.specs.Tree as tree
use Rattle.sql_syntax.specs.Tree.{Tree, Trees}
use Rattle.sql_syntax.specs.declared.query.Join.{Join}
use Rattle.sql_syntax.specs.declared.query.JoinKind.{JoinKind}
use Rattle.sql_syntax.specs.declared.query.JoinKind.TheVariants as join
use Rattle.sql_syntax.specs.declared.query.OrderTerm.{OrderTerm}
use Rattle.sql_syntax.specs.declared.query.Query.{Query}
use Rattle.sql_syntax.specs.declared.query.ResultItem.{ResultItem}
use Rattle.sql_syntax.specs.declared.query.ResultItem.TheVariants.{All, AllOf, Of}
use Rattle.catalog.specs.Database.{Name}
use Rattle.catalog.specs.Database as database
use Rattle.catalog.specs.Listed.{Listed, as_view, table_named, view_named}
use Rattle.catalog.specs.declared.tables.Table.{Table}
use Rattle.catalog.specs.declared.tables.View.{View}
use Rattle.query_names.specs.Known.{columns_in, columns_listed}
use Rattle.query_names.specs.Checked.{Checked, good, faults, noted, known_map, known_all, ◌and_then◌, unless, bad}
use Rattle.query_names.specs.Expressions.{resolve}
use Rattle.query_names.specs.Queries.{Lookup, as_named, as_reading, is_open_item, is_own, resolve_filter, resolve_item, resolve_items, resolve_join, resolve_order, resolve_query, resolve_sources, result_column, source_name, sources_of, stars_from}
use Rattle.query_names.specs.Scopes.{place_of, places_from, source_of}
use Rattle.query_names.specs.Views.{renamed, unless_around, view_columns}
use Rattle.query_names.specs.declared.reading.Condition.{Condition}
use Rattle.query_names.specs.declared.reading.Condition.TheVariants.{Where, OrNulls}
use Rattle.query_names.specs.declared.reading.Reading.{Reading}
use Rattle.query_names.specs.declared.scope.ScopeColumn.{ScopeColumn}
use Rattle.query_names.specs.Named.{Names, NamesBy}
use Rattle.query_names.specs.declared.scope.ScopeSource.{ScopeSource}
use Rattle.query_terms.specs.Terms.{Term, Const}
use Rattle.query_bind.specs.Assigned.{set_known, sets_known}
use Rattle.sql_syntax.specs.declared.change.Assignment.{Assignment}
use Rattle.catalog.specs.declared.tables.Column.{Column}
use Rattle.query_bind.specs.Named.{order_given, orders_checked, resolve_clauses}
use Rattle.query_names.proofs.QuietNames.{Quiet, is_loud, not_disk, of_both, of_known, of_map, of_one, of_then, of_tree, of_unless, quiet_or}
use Rattle.query_bind.proofs.Readings.{astray, mixed, three}
use Rattle.query_bind.proofs.Whole.{seen_of}

-- ---- queries

of_join : (scope : List ScopeSource) (kind : JoinKind) (on : Option Tree) → Quiet (resolve_join scope kind on)
of_join scope kind None = refl
of_join scope join.Left (Some e) = of_map OrNulls (resolve false scope e) (of_tree false scope e)
of_join scope join.Comma (Some e) = of_map Where (resolve false scope e) (of_tree false scope e)
of_join scope join.Inner (Some e) = of_map Where (resolve false scope e) (of_tree false scope e)

abbrev rest_of : Lookup → Join → List Join → List ScopeSource → Checked (List ScopeSource × List (Name × Condition))
rest_of look j js here = resolve_join here j.kind j.condition and_then λ c. known_map (λ rest. (rest.0, (folded j.source.name, c) ∷ rest.1)) (resolve_sources look here js)

of_sources : (look : Lookup) → ((name : Name) → Quiet (look name)) → (js : List Join) (before : List ScopeSource) → Quiet (resolve_sources look before js)
of_sources look each [] before = refl
of_sources look each (j ∷ js) before =
    of_then (noted (look j.source.name)) (λ known. rest_of look j js (before ++ source_of (source_name j.source) known ∷ [])) (each j.source.name)
    (λ known.
    of_then (resolve_join (before ++ source_of (source_name j.source) known ∷ []) j.kind j.condition)
    (λ c. known_map (λ rest. (rest.0, (folded j.source.name, c) ∷ rest.1)) (resolve_sources look (before ++ source_of (source_name j.source) known ∷ []) js))
    (of_join (before ++ source_of (source_name j.source) known ∷ []) j.kind j.condition)
    (λ c. of_map (λ rest. (rest.0, (folded j.source.name, c) ∷ rest.1)) (resolve_sources look (before ++ source_of (source_name j.source) known ∷ []) js)
    (of_sources look each js (before ++ source_of (source_name j.source) known ∷ []))))

of_filter : (scope : List ScopeSource) (condition : Option Tree) → Quiet (resolve_filter scope condition)
of_filter scope None = refl
of_filter scope (Some e) = of_map Some (resolve false scope e) (of_tree false scope e)

of_item : (scope : List ScopeSource) (i : ResultItem) → Quiet (resolve_item scope i)
of_item scope All = of_unless (not (list_any (is_own None) scope)) Misuse (good (stars_from 0 (λ n. true) scope)) refl refl
of_item scope (AllOf q) =
    of_unless (not (list_any (is_own None) scope)) Misuse (unless (not (list_any (is_own (Some q)) scope)) NoSuch (good (stars_from 0 (is_same_name (folded q)) scope))) refl
    (of_unless (not (list_any (is_own (Some q)) scope)) NoSuch (good (stars_from 0 (is_same_name (folded q)) scope)) refl refl)
of_item scope (Of e n) = of_map (λ t. result_column e n t ∷ []) (resolve true scope e) (of_tree true scope e)

of_items : (scope : List ScopeSource) (items : List ResultItem) → Quiet (resolve_items scope items)
of_items scope [] = refl
of_items scope (i ∷ is) = of_both (λ x y. x ++ y) (resolve_item scope i) (resolve_items scope is) (of_item scope i) (of_items scope is)

of_place : (b : Bool) (r : Option (Term × ScopeColumn)) (t : Term) → Quiet (elim r [ None ↦ unless b Misuse (good t) | Some s ↦ good s.0 ])
of_place b None t = of_unless b Misuse (good t) refl refl
of_place b (Some s) t = refl

of_order : (scope : List ScopeSource) (items : List ResultItem) (results : List (Term × ScopeColumn)) (e : Tree) → Quiet (resolve_order scope items results e)
of_order scope items results (tree.Integer zero) = refl
of_order scope items results (tree.Integer (suc k)) = of_place (not (list_any (is_open_item scope) items)) (slice_get results k) (Const Null)
of_order scope items results (tree.Column None n) = of_tree true scope (unwrap_or (as_named n items) (tree.Column None n))
of_order scope items results e = of_tree true scope e

of_orders : (scope : List ScopeSource) (items : List ResultItem) (results : List (Term × ScopeColumn)) (os : List OrderTerm) → Quiet (orders_checked (map (order_given scope items results) os))
of_orders scope items results [] = refl
of_orders scope items results (o ∷ os) =
    quiet_or (faults (resolve_order scope items results o.expression)) (faults (orders_checked (map (order_given scope items results) os))) (of_order scope items results o.expression) (of_orders scope items results os)

quiet_if : (b : Bool) (r : Refusal) → is_loud r ≡ false → list_any is_loud (if b then (r ∷ []) else []) ≡ false
quiet_if true r h = ap (λ b. b || false) h
quiet_if false r h = refl

quiet_three : (a b c : Bool) (fs : List Refusal) → list_any is_loud fs ≡ false → list_any is_loud (three a b c fs) ≡ false
quiet_three a b c fs h =
    quiet_or (if a then (Misuse ∷ []) else []) ((if b then (Misuse ∷ []) else []) ++ ((if c then (TooLong ∷ []) else []) ++ (fs ++ []))) (quiet_if a Misuse refl)
    (quiet_or (if b then (Misuse ∷ []) else []) ((if c then (TooLong ∷ []) else []) ++ (fs ++ [])) (quiet_if b Misuse refl)
    (quiet_or (if c then (TooLong ∷ []) else []) (fs ++ []) (quiet_if c TooLong refl) (quiet_or fs [] h refl)))

of_reading : (n : ℕ) (q : Query) (is_open : Bool) (joined : List (Name × Condition)) (filter : Option Term) (keys : List Term) (results : List (Term × ScopeColumn)) (orders : List (Checked Term × Bool))
    → Quiet (orders_checked orders) → Quiet (as_reading n q is_open joined filter keys results orders)
of_reading n q is_open joined filter keys results orders h =
    quiet_three (mixed n keys results orders) (astray q is_open results orders) (nat_lt 64 (length results)) (faults (orders_checked orders)) h

abbrev read : ℕ → List ScopeSource → List (Name × Condition) → Query → Option Term → List Term → List (Term × ScopeColumn) → Checked Reading
read outer scope joined q filter keys results = as_reading outer q (list_any (is_open_item scope) q.results) joined filter keys results (map (order_given scope q.results results) q.order)

of_clauses : (outer : ℕ) (scope : List ScopeSource) (joined : List (Name × Condition)) (q : Query) → Quiet (resolve_clauses outer scope joined q)
of_clauses outer scope joined q =
    of_then (resolve_filter scope q.condition)
    (λ filter. known_all (map (resolve false scope) q.groups) and_then λ keys. resolve_items scope q.results and_then λ results. read outer scope joined q filter keys results) (of_filter scope q.condition)
    (λ filter. of_then (known_all (map (resolve false scope) q.groups)) (λ keys. resolve_items scope q.results and_then λ results. read outer scope joined q filter keys results) (of_known (resolve false scope) q.groups (of_tree false scope))
    (λ keys. of_then (resolve_items scope q.results) (λ results. read outer scope joined q filter keys results) (of_items scope q.results)
    (λ results. of_reading outer q (list_any (is_open_item scope) q.results) joined filter keys results (map (order_given scope q.results results) q.order) (of_orders scope q.results results q.order))))

of_query : (look : Lookup) → ((name : Name) → Quiet (look name)) → (outer : List ScopeSource) (q : Query) → Quiet (resolve_query look outer q)
of_query look each outer q =
    of_then (resolve_sources look (seen_of outer q) (sources_of q)) (λ s. resolve_clauses (length outer) s.0 s.1 q) (of_sources look each (sources_of q) (seen_of outer q)) (λ s. of_clauses (length outer) s.0 s.1 q)

-- ---- tables and views

of_listed : (view : View → Checked (List ScopeColumn × Bool)) → ((v : View) → Quiet (view v)) → (t : Option Table) (v : Option View) → Quiet (columns_listed view t v)
of_listed view each (Some t) v = refl
of_listed view each None (Some v) = each v
of_listed view each None None = refl

of_around : (b : Bool) (k : Checked (List ScopeColumn × Bool)) → Quiet k → Quiet (if b then bad ([], false) Misuse else k)
of_around true k h = refl
of_around false k h = h

-- the columns under a view's list
abbrev under_list : database.View → Reading → Checked (List ScopeColumn × Bool)
under_list v q = unless (nat_lt 0 (length v.columns) && not q.is_open && not (length v.columns == length q.columns)) Misuse (good (renamed v.columns q.columns, false))

of_view : (v : database.View) (k : Checked Reading) → Quiet k → Quiet (view_columns v k)
of_view v k h =
    of_then k (under_list v) h
    (λ q. of_unless {A = List ScopeColumn × Bool} (nat_lt 0 (length v.columns) && not q.is_open && not (length v.columns == length q.columns)) Misuse (good (renamed v.columns q.columns, false)) refl refl)

pub of_names : (n : ℕ) (l : Listed) (around : List Name) (name : Name) → Quiet (columns_in n l around name)
of_names zero l around name =
    of_listed (λ v. unless_around around name (bad ([], false) TooLong)) (λ v. of_around (list_any (is_same_name name) around) (bad ([], false) TooLong) refl) (table_named name l.tables) (view_named name l.views)
of_names (suc n) l around name =
    of_listed (λ v. unless_around around name (view_columns (as_view v) (resolve_query (columns_in n l (folded name ∷ around)) [] v.definition.query)))
    (λ v. of_around (list_any (is_same_name name) around) (view_columns (as_view v) (resolve_query (columns_in n l (folded name ∷ around)) [] v.definition.query))
    (of_view (as_view v) (resolve_query (columns_in n l (folded name ∷ around)) [] v.definition.query) (of_query (columns_in n l (folded name ∷ around)) (of_names n l (folded name ∷ around)) [] v.definition.query)))
    (table_named name l.tables) (view_named name l.views)

pub of_listed_query : (n : ℕ) (l : Listed) (around : List Name) (outer : List ScopeSource) (q : Query) → Quiet (resolve_query (columns_in n l around) outer q)
of_listed_query n l around outer q = of_query (columns_in n l around) (of_names n l around) outer q

-- rows of expressions
pub of_rows : (s : List ScopeSource) (rows : List (List Tree)) → Quiet (known_all (map (λ row. known_all (map (resolve false s) row)) rows))
of_rows s rows = of_known (λ row. known_all (map (resolve false s) row)) rows (λ row. of_known (resolve false s) row (of_tree false s))

-- ---- faults

pub refused_calm : {X A : Type 0} (view : X → A) (k : Checked A) (result : Result X Fault) → Quiet k → NamesBy view k result → IfErr result (λ fault. IsNotDiskFault fault)
refused_calm view k (Ok x) q is = tt
refused_calm view k (Err f) q is = not_disk k f q is

-- nor of a WHERE
pub filter_calm : (scope : List ScopeSource) (condition : Option Tree) (result : Result (Option Term) Fault) → Names (resolve_filter scope condition) result → IfErr result (λ fault. IsNotDiskFault fault)
filter_calm scope condition (Ok x) is = tt
filter_calm scope condition (Err f) is = not_disk (resolve_filter scope condition) f (of_filter scope condition) is

-- nor of SET
pub sets_calm : {X : Type 0} (view : X → List (ℕ × Term)) (columns : List Column) (scope : List ScopeSource) (sets : List Assignment) (result : Result X Fault) → NamesBy view (sets_known columns scope sets) result → IfErr result (λ fault. IsNotDiskFault fault)
sets_calm view columns scope sets (Ok x) is = tt
sets_calm view columns scope sets (Err f) is =
    not_disk (sets_known columns scope sets) f (of_known (set_known columns scope) sets (λ a. of_map _ (resolve false scope a.value) (of_tree false scope a.value))) is

-- nor of the places of columns
pub places_calm : {X : Type 0} (view : X → List ℕ) (s : ScopeSource) (names : List Name) (result : Result X Fault) → NamesBy view (known_all (map (place_of s) names)) result → IfErr result (λ fault. IsNotDiskFault fault)
places_calm view s names result is =
    refused_calm view (known_all (map (place_of s) names)) result (of_known (place_of s) names (λ n. of_one (not s.is_known) 0 (places_from 0 n s.columns))) is
