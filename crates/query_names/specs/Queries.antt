-- Queries whose names are looked up: which rows they read, and what each result is (SQL As Understood By SQLite, "SELECT").
use Rattle.std.specs.Prelude.{ℕ, zero, suc, Bool, true, false, not, ◌&&◌, ◌||◌, List, [], ◌∷◌, ◌++◌, map, length, Option, Some, None, unwrap_or, if◌then◌else◌, nat_lt, slice_get, flat_map, option_map}
use Rattle.std.specs.List.{list_any}
use Rattle.std.specs.Option.{option_or}
use Rattle.sqlval.specs.Names.{folded, is_same_name}
use Rattle.sqlval.specs.Refusals.{NoSuch, Misuse, TooLong}
use Rattle.sqlval.specs.declared.value.Value.TheVariants.{Null}
use Rattle.sql_syntax.specs.Tree as tree
use Rattle.sql_syntax.specs.Tree.{Tree}
use Rattle.sql_syntax.specs.declared.query.Join.{Join}
use Rattle.sql_syntax.specs.declared.query.JoinKind.{JoinKind}
use Rattle.sql_syntax.specs.declared.query.JoinKind.TheVariants as join
use Rattle.sql_syntax.specs.declared.query.Limit.{Limit}
use Rattle.sql_syntax.specs.declared.query.Query.{Query}
use Rattle.sql_syntax.specs.declared.query.ResultItem.{ResultItem}
use Rattle.sql_syntax.specs.declared.query.ResultItem.TheVariants.{All, AllOf, Of}
use Rattle.sql_syntax.specs.declared.query.Source.{Source}
use Rattle.catalog.specs.Database.{Name}
use Rattle.query_names.specs.Expressions.{resolve}
use Rattle.query_names.specs.Grouping.{has, has_total, is_own_cell, keyed}
use Rattle.query_names.specs.Checked.{Checked, good, bad, meant, faults, is_good, noted, also, both, known_map, known_all, ◌and_then◌, unless}
use Rattle.query_names.specs.declared.reading.Reading.{Reading}
use Rattle.query_names.specs.declared.reading.Condition.{Condition}
use Rattle.query_names.specs.declared.reading.Condition.TheVariants.{Always, Where, OrNulls}
use Rattle.query_names.specs.Scopes.{source_of, beside, place_meant}
use Rattle.query_names.specs.declared.scope.ScopeColumn.{ScopeColumn}
use Rattle.query_names.specs.declared.scope.ScopeSource.{ScopeSource}
use Rattle.query_terms.specs.Terms.{Term, Const, Cell, affinity, collation, same_term}

-- what a table's or view's name stands for: its columns, and whether it has a rowid
abbrev pub Lookup : Type 0
Lookup = Name → Checked (List ScopeColumn × Bool)

abbrev pub source_name : Source → Name
source_name s = folded (unwrap_or s.alias s.name)

-- the sources of a query in the order of their text, the first as though after a comma
abbrev pub sources_of : Query → List Join
sources_of q = elim q.from [ None ↦ [] | Some f ↦ record { kind = join.Comma; source = f.first; condition = None } ∷ f.joins ]

abbrev pub resolve_join : List ScopeSource → JoinKind → Option Tree → Checked Condition
resolve_join scope kind None = good Always
resolve_join scope join.Left (Some e) = known_map OrNulls (resolve false scope e)
resolve_join scope kind (Some e) = known_map Where (resolve false scope e)

-- the sources that are seen, and each with its condition
abbrev pub resolve_sources : Lookup → List ScopeSource → List Join → Checked (List ScopeSource × List (Name × Condition))
resolve_sources look before [] = good (before, [])
resolve_sources look before (j ∷ js) =
    noted (look j.source.name) and_then λ found.
    let here : List ScopeSource = before ++ source_of (source_name j.source) found ∷ [] in
    resolve_join here j.kind j.condition and_then λ c.
    known_map (λ rest. (rest.0, (folded j.source.name, c) ∷ rest.1)) (resolve_sources look here js)

-- the columns of the i-th source, as results
abbrev pub cells_from : ℕ → ℕ → List ScopeColumn → List (Term × ScopeColumn)
cells_from s i [] = []
cells_from s i (c ∷ cs) = (Cell s (place_meant i c) c.affinity c.collation, record c { is_rowid = false }) ∷ cells_from s (suc i) cs

-- the columns of the sources of these names, as results
abbrev pub stars_from : ℕ → (Name → Bool) → List ScopeSource → List (Term × ScopeColumn)
stars_from i p [] = []
stars_from i p (s ∷ ss) = (if p s.name && not s.needs_name then cells_from i 0 s.columns else []) ++ stars_from (suc i) p ss

-- the name of a result that is a plain column
abbrev pub plain_name : Tree → Option Name
plain_name (tree.Column q n) = Some (folded n)
plain_name _ = None

-- a result of an expression, and the column that it is
abbrev pub result_column : Tree → Option Name → Term → Term × ScopeColumn
result_column e as_name t =
    (t, record { name = option_or (option_map folded as_name) (plain_name e); affinity = affinity t; collation = collation t; is_rowid = false })

-- a source of the query itself, and of that name
abbrev pub is_own : Option Name → ScopeSource → Bool
is_own None s = not s.needs_name
is_own (Some q) s = not s.needs_name && is_same_name q s.name

-- the number of its columns isn't known
abbrev pub is_open_item : List ScopeSource → ResultItem → Bool
is_open_item scope All = list_any (λ s. is_own None s && not s.is_known) scope
is_open_item scope (AllOf q) = list_any (λ s. is_own (Some q) s && not s.is_known) scope
is_open_item scope (Of e n) = false

-- a result, which may stand for several
abbrev pub resolve_item : List ScopeSource → ResultItem → Checked (List (Term × ScopeColumn))
resolve_item scope All = unless (not (list_any (is_own None) scope)) Misuse (good (stars_from 0 (λ n. true) scope))
resolve_item scope (AllOf q) =
    unless (not (list_any (is_own None) scope)) Misuse
    (unless (not (list_any (is_own (Some q)) scope)) NoSuch (good (stars_from 0 (is_same_name (folded q)) scope)))
resolve_item scope (Of e n) = known_map (λ t. result_column e n t ∷ []) (resolve true scope e)

-- the results in the order of their text
abbrev pub resolve_items : List ScopeSource → List ResultItem → Checked (List (Term × ScopeColumn))
resolve_items scope [] = good []
resolve_items scope (i ∷ is) = both (λ x y. x ++ y) (resolve_item scope i) (resolve_items scope is)

-- the result of that AS name
abbrev pub as_named : Name → List ResultItem → Option Tree
as_named n [] = None
as_named n (Of e (Some m) ∷ is) = if is_same_name n m then Some e else as_named n is
as_named n (_ ∷ is) = as_named n is

-- a place among the results, an AS name of theirs, or an expression
abbrev pub resolve_order : List ScopeSource → List ResultItem → List (Term × ScopeColumn) → Tree → Checked Term
resolve_order scope items results (tree.Integer zero) = bad (Const Null) Misuse
resolve_order scope items results (tree.Integer (suc k)) =
    elim (slice_get results k) [ None ↦ unless (not (list_any (is_open_item scope) items)) Misuse (good (Const Null)) | Some r ↦ good r.0 ]
resolve_order scope items results (tree.Column None n) = resolve true scope (unwrap_or (as_named n items) (tree.Column None n))
resolve_order scope items results e = resolve true scope e

-- a WHERE, in which no aggregate may stand
abbrev pub resolve_filter : List ScopeSource → Option Tree → Checked (Option Term)
resolve_filter scope None = good None
resolve_filter scope (Some e) = known_map Some (resolve false scope e)

-- an ORDER BY expression that is none of the results
abbrev pub is_other : List (Term × ScopeColumn) → Checked Term → Bool
is_other results k = is_good k && not (list_any (λ r. same_term r.0 (meant k)) results)

abbrev pub offset_of : Option Limit → ℕ
offset_of None = 0
offset_of (Some l) = unwrap_or l.offset 0

-- the reading of a query, where its sources and expressions are looked up; so many sources of a trigger stand before its own
abbrev pub as_reading : ℕ → Query → Bool → List (Name × Condition) → Option Term → List Term → List (Term × ScopeColumn) → List (Checked Term × Bool) → Checked Reading
as_reading outer q is_open sources filter keys results orders =
    let order : List (Term × Bool) = map (λ o. (meant o.0, o.1)) orders in
    let all : List Term = map (λ r. r.0) results ++ map (λ o. o.0) order in
    let is_grouped : Bool = list_any has_total all || nat_lt 0 (length keys) in
    let mark : Term → Term = λ t. if is_grouped then keyed keys t else t in
    unless (is_grouped && list_any (λ t. has false (is_own_cell outer) (mark t)) all) Misuse
    (unless (q.is_distinct && not is_open && list_any (λ o. is_other results o.0) orders) Misuse
    (unless (nat_lt 64 (length results)) TooLong
    (also (flat_map (λ o. faults o.0) orders) (good (record {
      sources = sources;
      filter = filter;
      is_grouped = is_grouped;
      keys = keys;
      results = map (λ r. mark r.0) results;
      columns = map (λ r. r.1) results;
      is_open = is_open;
      order = map (λ o. (mark o.0, o.1)) order;
      distinct = q.is_distinct;
      limit = option_map (λ l. l.count) q.limit;
      offset = offset_of q.limit;
    })))))

-- a query, where tables and views are looked up; a trigger's NEW and OLD stand before its sources
abbrev pub resolve_query : Lookup → List ScopeSource → Query → Checked Reading
resolve_query look outer q =
    resolve_sources look (beside outer (map (λ j. source_name j.source) (sources_of q))) (sources_of q) and_then λ s.
    resolve_filter s.0 q.condition and_then λ filter.
    known_all (map (resolve false s.0) q.groups) and_then λ keys.
    resolve_items s.0 q.results and_then λ results.
    as_reading (length outer) q (list_any (is_open_item s.0) q.results) s.1 filter keys results
    (map (λ o. (resolve_order s.0 q.results results o.expression, o.is_descending)) q.order)
