-- A query beside NEW and OLD: each of its sources is known, and what it comes to.
use Rattle.std.proofs.Common.{◌≡◌, ◌⊎◌, inl, inr, sym, ap, subst, ◌∙◌, List, [], Result, Ok, Err, if◌then◌else◌}
use Rattle.std.specs.Prelude.{⊤, Contains, IsErrAnd}
use Rattle.sqlval.specs.Faults.{IsOutside}
use Rattle.sqlval.specs.Refusals.{Answer, Refusal, ◌then◌, refusal_of}
use Rattle.sqlval.specs.declared.fault.Fault.{Fault}
use Rattle.sqlval.specs.declared.value.Value.{Value}
use Rattle.sql_syntax.specs.declared.query.Query.{Query}
use Rattle.catalog.specs.Database.{Database}
use Rattle.query_names.specs.Bound.{IsFaultOf}
use Rattle.query_names.specs.Checked.{Checked, Meant, faults, known_then, meant}
use Rattle.query_names.specs.Queries.{resolve_query}
use Rattle.query_names.specs.Views.{answer_of, look_up}
use Rattle.query_names.specs.declared.reading.Reading.{Reading}
use Rattle.query_names.specs.declared.scope.ScopeSource.{ScopeSource}
use Rattle.row_change.specs.Changes.{Outer}
use Rattle.row_scan.specs.Trees.{AnswersOrFails}
use Rattle.executor_programs.specs.Querying.{AreKnownSources}
use Rattle.executor_programs.proofs.Holding.{nothing}
use Rattle.executor_programs.proofs.KnownGiven.{sources_in}

-- the sources of a query that isn't refused are known, beside whatever is seen
pub known_beside : (db : Database) (outer : List ScopeSource) (q : Query) (reading : Reading) → resolve_query (look_up db) outer q ≡ Meant reading [] → AreKnownSources db reading.sources
known_beside db outer q reading h = subst (λ (k : Checked Reading). AreKnownSources db (meant k).sources) h (sources_in db outer q (ap faults h))

-- ---- what it comes to

module _ (db : Database) (seen : Outer) (q : Query) where
  abbrev left_of : Checked Reading → Answer Database
  left_of k = known_then k λ r. answer_of db seen.rows r then λ rows. Ok db

  abbrev pub Left : Result ⊤ Fault → Type 0
  Left result = AnswersOrFails (λ (done : ⊤). db) (left_of (resolve_query (look_up db) seen.scope q)) result

  -- a query whose names are known is bound, or memory is short
  pub unbound : (scope : List ScopeSource) (f : Fault) (result : Result ⊤ Fault) → IsErrAnd result (λ e. e ≡ f) → scope ≡ seen.scope → faults (resolve_query (look_up db) seen.scope q) ≡ []
      → IsFaultOf (faults (resolve_query (look_up db) scope q)) f → Left result
  unbound scope f (Ok done) same is good why = absurd same
  unbound scope f (Err e) same is good (inl memory) = inl (inl (same ∙ memory))
  unbound scope f (Err e) same is good (inr has) =
      absurd (nothing (refusal_of f) (subst (λ (rs : List Refusal). Contains rs (refusal_of f)) (ap (λ (s : List ScopeSource). faults (resolve_query (look_up db) s q)) is ∙ good) has))

  pub named_beside : (scope : List ScopeSource) (reading : Reading) → scope ≡ seen.scope → resolve_query (look_up db) scope q ≡ Meant reading [] → resolve_query (look_up db) seen.scope q ≡ Meant reading []
  named_beside scope reading is named = ap (λ (s : List ScopeSource). resolve_query (look_up db) s q) (sym is) ∙ named

  module _ (reading : Reading) (named : resolve_query (look_up db) seen.scope q ≡ Meant reading []) where
    comes_to : left_of (resolve_query (look_up db) seen.scope q) ≡ (answer_of db seen.rows reading then λ rows. Ok db)
    comes_to = ap left_of named

    pub unread : (f : Fault) (result : Result ⊤ Fault) → IsErrAnd result (λ e. e ≡ f) → IsOutside f ⊎ (answer_of db seen.rows reading ≡ Err (refusal_of f)) → Left result
    unread f (Ok done) same why = absurd same
    unread f (Err e) same why = subst (λ (g : Fault). Left (Err g)) (sym same) (by why)
      where
        by : IsOutside f ⊎ (answer_of db seen.rows reading ≡ Err (refusal_of f)) → Left (Err f)
        by (inl outside) = inl outside
        by (inr refused) = inr (comes_to ∙ ap (λ (a : Answer (List (List Value))). a then λ rows. Ok db) refused)

    pub was_read : (rows : List (List Value)) → answer_of db seen.rows reading ≡ Ok rows → Left (Ok tt)
    was_read rows answered = comes_to ∙ ap (λ (a : Answer (List (List Value))). a then λ rows. Ok db) answered
