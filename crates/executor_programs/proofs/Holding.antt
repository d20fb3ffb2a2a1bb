-- Whether what stands after WHEN is true beside NEW and OLD.
use Rattle.std.proofs.Common.{◌≡◌, ◌∙◌, inl, inr, refl, sym, ap, subst, Bool, true, false, List, [], Option, Some, None, Result, Ok, Err, arith}
use Rattle.std.specs.Prelude.{Contains, IsErrAnd, unwrap_or}
use Rattle.sqlval.specs.Refusals.{Answer, Refusal, ◌then◌, refusal_of}
use Rattle.sqlval.specs.declared.fault.Fault.{Fault}
use Rattle.sql_syntax.specs.Tree.{Tree}
use Rattle.query_names.specs.Bound.{IsFaultOf}
use Rattle.query_names.specs.Checked.{Checked, Meant, faults, known_map, known_then}
use Rattle.query_names.specs.Expressions.{resolve}
use Rattle.query_names.specs.Queries.{resolve_filter}
use Rattle.query_names.specs.Readings.{holds}
use Rattle.query_names.specs.declared.scope.ScopeSource.{ScopeSource}
use Rattle.query_terms.specs.Outcome.{AnswersBy}
use Rattle.query_terms.specs.Terms.{Term}
use Rattle.row_change.specs.Changes.{Outer}
use Rattle.trigger.specs.Binding.{when_faults}
use Rattle.trigger.specs.Triggers.{when_holds}
use Rattle.executor_programs.specs.Outer.{is_true}

abbrev pub meant_as : {A : Type 0} → A → Checked A
meant_as x = Meant x []

the_meant : {A : Type 0} (d x y : A) (rs : List Refusal) → Meant x rs ≡ meant_as y → x ≡ y
the_meant d x y rs e = cc

no_faults : {A : Type 0} (x y : A) (rs : List Refusal) → Meant x rs ≡ meant_as y → rs ≡ []
no_faults x y rs e = cc

pub nothing : (r : Refusal) → Contains [] r → ⊥
nothing r h = absurd (omega (arith, h.1))

module _ (outer : Outer) where
  truth_of : (t : Term) → (holds t outer.rows then elim [ Some true ↦ Ok true | _ ↦ Ok false ]) ≡ is_true (Some t) outer.rows
  truth_of t = by (holds t outer.rows)
    where
      by : (a : Answer (Option Bool)) → (a then elim [ Some true ↦ Ok true | _ ↦ Ok false ]) ≡ (a then λ test. Ok (unwrap_or test false))
      by (Err e) = refl
      by (Ok None) = refl
      by (Ok (Some true)) = refl
      by (Ok (Some false)) = refl

  bound_tree : (e : Tree) (k : Checked Term) (bound : Option Term) → resolve false outer.scope e ≡ k → known_map Some k ≡ meant_as bound → when_holds outer (Some e) ≡ is_true bound outer.rows
  bound_tree e (Meant t rs) bound is h =
      ap (λ (k : Checked Term). known_then k λ t. holds t outer.rows then elim [ Some true ↦ Ok true | _ ↦ Ok false ]) (is ∙ ap (Meant t) (no_faults (Some t) bound rs h))
      ∙ (truth_of t ∙ ap (λ (b : Option Term). is_true b outer.rows) (the_meant bound (Some t) bound rs h))

  pub bound_as : (condition : Option Tree) (bound : Option Term) → resolve_filter outer.scope condition ≡ meant_as bound → when_holds outer condition ≡ is_true bound outer.rows
  bound_as None bound h = ap (λ (b : Option Term). is_true b outer.rows) (the_meant bound None bound [] h)
  bound_as (Some e) bound h = bound_tree e (resolve false outer.scope e) bound refl h

  mapped_faults : (k : Checked Term) → faults (known_map Some k) ≡ faults k
  mapped_faults (Meant t rs) = refl

  pub same_faults : (condition : Option Tree) → faults (resolve_filter outer.scope condition) ≡ when_faults outer condition
  same_faults None = refl
  same_faults (Some e) = mapped_faults (resolve false outer.scope e)

  -- a condition whose names are known is refused for memory alone
  pub unbound : (scope : List ScopeSource) (condition : Option Tree) (f : Fault) (result : Result Bool Fault) → IsErrAnd result (λ e. e ≡ f) → scope ≡ outer.scope → when_faults outer condition ≡ []
      → IsFaultOf (faults (resolve_filter scope condition)) f → AnswersBy (λ test. test) (when_holds outer condition) result
  unbound scope condition f (Ok test) same is good why = absurd same
  unbound scope condition f (Err e) same is good (inl memory) = inl (same ∙ memory)
  unbound scope condition f (Err e) same is good (inr has) = absurd (none_has (same_faults condition ∙ good) is has)
    where
      none_has : faults (resolve_filter outer.scope condition) ≡ [] → scope ≡ outer.scope → Contains (faults (resolve_filter scope condition)) (refusal_of f) → ⊥
      none_has none same_scope has =
          nothing (refusal_of f) (subst (λ (rs : List Refusal). Contains rs (refusal_of f)) (ap (λ (s : List ScopeSource). faults (resolve_filter s condition)) same_scope ∙ none) has)

  pub held_beside : (scope : List ScopeSource) (condition : Option Tree) (bound : Option Term) (result : Result Bool Fault) → scope ≡ outer.scope → resolve_filter scope condition ≡ meant_as bound
      → AnswersBy (λ test. test) (is_true bound outer.rows) result → AnswersBy (λ test. test) (when_holds outer condition) result
  held_beside scope condition bound result is named answers =
      subst (λ (a : Answer Bool). AnswersBy (λ (test : Bool). test) a result)
      (sym (bound_as condition bound (ap (λ (s : List ScopeSource). resolve_filter s condition) (sym is) ∙ named))) answers
