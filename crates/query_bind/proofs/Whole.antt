-- A query's sources, and the rest of it.
use Rattle.std.proofs.Common.{◌≡◌, sym, subst, List, [], length, map}
use Rattle.sqlval.specs.declared.fault.Fault.{Fault}
use Rattle.sql_syntax.specs.declared.query.Query.{Query}
use Rattle.catalog.specs.Database.{Name}
use Rattle.query_names.specs.Bound.{IsFaultOf}
use Rattle.query_names.specs.Checked.{Meant, faults}
use Rattle.query_names.specs.Queries.{Lookup, resolve_query, resolve_sources, source_name, sources_of}
use Rattle.query_names.specs.Scopes.{beside}
use Rattle.query_names.specs.declared.reading.Condition.{Condition}
use Rattle.query_names.specs.declared.scope.ScopeSource.{ScopeSource}
use Rattle.query_bind.specs.Named.{resolve_clauses}
use Rattle.query_bind.proofs.Chains.{refused_first, then_good}

-- NEW and OLD as a query sees them
abbrev pub seen_of : List ScopeSource → Query → List ScopeSource
seen_of outer q = beside outer (map (λ j. source_name j.source) (sources_of q))

pub query_named : (look : Lookup) (outer : List ScopeSource) (q : Query) (scope : List ScopeSource) (joined : List (Name × Condition))
    → resolve_sources look (seen_of outer q) (sources_of q) ≡ Meant (scope, joined) [] → resolve_query look outer q ≡ resolve_clauses (length outer) scope joined q
query_named look outer q scope joined h = then_good (resolve_sources look (seen_of outer q) (sources_of q)) (λ s. resolve_clauses (length outer) s.0 s.1 q) (scope, joined) h

pub sources_refused : (look : Lookup) (outer : List ScopeSource) (q : Query) (fault : Fault)
    → IsFaultOf (faults (resolve_sources look (seen_of outer q) (sources_of q))) fault → IsFaultOf (faults (resolve_query look outer q)) fault
sources_refused look outer q fault h = refused_first (resolve_sources look (seen_of outer q) (sources_of q)) (λ s. resolve_clauses (length outer) s.0 s.1 q) fault h

pub clauses_refused : (look : Lookup) (outer : List ScopeSource) (q : Query) (scope : List ScopeSource) (joined : List (Name × Condition)) (fault : Fault)
    → resolve_sources look (seen_of outer q) (sources_of q) ≡ Meant (scope, joined) [] → IsFaultOf (faults (resolve_clauses (length outer) scope joined q)) fault → IsFaultOf (faults (resolve_query look outer q)) fault
clauses_refused look outer q scope joined fault named h =
    subst (λ k. IsFaultOf (faults k) fault) (sym (query_named look outer q scope joined named)) h
