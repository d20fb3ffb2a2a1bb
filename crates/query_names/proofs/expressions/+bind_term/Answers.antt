use Rattle.std.proofs.Common.{◌≡◌, ◌∙◌, ◌+◌, ◌&&◌, [], drop, length, not, ap, arith, rules, subst, sym}
use Rattle.std.proofs.lemmas.List.{drop_all}
use Rattle.sql_syntax.specs.Tree.{trees}
use Rattle.query_terms.specs.Terms.{Term, Terms, terms}
use Rattle.query_names.specs.Bound.{IsFaultOf}
use Rattle.query_names.specs.Checked.{Meant, faults}
use Rattle.query_names.specs.Expressions.{called, count_of, function_named, is_aggregate, resolve_all}
use Rattle.query_names.proofs.BoundLists.{before_all, called_with, counted_more, found_at, handed_on, onto, refused_at}
use Rattle.query_names.proofs.PartRefusals.{right}
use Rattle.query_names.proofs.expressions.+bind_term.Goals as goal

pub bind_all-returns-in_err-term-clause-found : goal.bind_all-returns-in_err-term-clause-found
bind_all-returns-in_err-term-clause-found t c =
    handed_on (λ found. terms found.items) (resolve_all c.args.totals c.args.scope.now (trees c.args.list.now)) c.in_err-term.field-0.0 c.from_residual.result c.from_residual.ensures.1
    (subst (λ k. IsFaultOf (faults k) c.in_err-term.field-0.0) c.trees.invariant.0
    (refused_at c.args.totals c.args.scope.now c.args.list.now c.trees.tree-index c.tree-item.result c.trees.found.items c.in_err-term.field-0.0
    (omega (arith, c.trees-test.true)) c.tree-item.is c.in_err-term.ensures))

pub bind_all-trees-preserved : goal.bind_all-trees-preserved
bind_all-trees-preserved t c = (
  ap (λ es. onto es (resolve_all c.args.totals c.args.scope.now (trees (drop (c.trees.tree-index + 1) c.args.list.now)))) c.in_ok-push.ensures.items
      ∙ (found_at c.args.totals c.args.scope.now c.args.list.now c.trees.tree-index c.tree-item.result c.trees.found.items c.in_ok-term.term
      (omega (arith, c.trees-test.true)) c.tree-item.is c.in_ok-term.ensures
      ∙ c.trees.invariant.0),
  ap (λ es. length es + count_of (trees (drop (c.trees.tree-index + 1) c.args.list.now))) c.in_ok-push.ensures.items
      ∙ (counted_more c.trees.found.items c.in_ok-term.term c.args.list.now c.trees.tree-index c.tree-item.result (omega (arith, c.trees-test.true)) ∙ c.trees.invariant.1),
)

pub bind_all-returns-clause-found : goal.bind_all-returns-clause-found
bind_all-returns-clause-found t c =
    sym c.trees.invariant.0
    ∙ (ap (λ es. onto c.trees.found.items (resolve_all c.args.totals c.args.scope.now (trees es))) (drop_all c.trees.tree-index c.args.list.now (omega (arith, c.trees-test.false)))
    ∙ ap (λ ts. Meant ts []) (before_all c.trees.found.items))

pub bind_call-returns-in_err-arguments : goal.bind_call-returns-in_err-arguments
bind_call-returns-in_err-arguments t c =
    let inner = c.may_hold_totals.ensures ∙ ap (λ g. c.args.totals && not (is_aggregate g)) c.function_named-called.ensures in
    let h =
    right {A = Terms → Term} (λ call es. call es) (called c.args.totals (function_named c.args.name.now) (count_of (trees c.args.list.now)))
    (resolve_all (c.args.totals && not (is_aggregate (function_named c.args.name.now))) c.args.scope.now (trees c.args.list.now)) c.in_err-arguments.field-0.0
    (subst (λ b. IsFaultOf (faults (resolve_all b c.args.scope.now (trees c.args.list.now))) c.in_err-arguments.field-0.0) inner c.in_err-arguments.ensures.found) in
    search rules

pub bind_call-returns : goal.bind_call-returns
bind_call-returns t c =
    let inner = c.may_hold_totals.ensures ∙ ap (λ g. c.args.totals && not (is_aggregate g)) c.function_named-called.ensures in
    called_with (called c.args.totals (function_named c.args.name.now) (count_of (trees c.args.list.now)))
    (resolve_all (c.args.totals && not (is_aggregate (function_named c.args.name.now))) c.args.scope.now (trees c.args.list.now))
    (terms c.in_ok-arguments.arguments.items) c.call_of.result
    (subst (λ b. resolve_all b c.args.scope.now (trees c.args.list.now) ≡ Meant (terms c.in_ok-arguments.arguments.items) []) inner c.in_ok-arguments.ensures.found)
    (rw (sym c.function_named-called.ensures, sym c.in_ok-arguments.ensures.counted) c.call_of.ensures)
