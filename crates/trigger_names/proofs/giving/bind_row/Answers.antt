use Rattle.std.proofs.Common.{false, map, arith, subst}
use Rattle.query_names.specs.Bound.{IsFaultOf}
use Rattle.query_names.specs.Checked.{faults, known_all}
use Rattle.query_names.specs.Expressions.{resolve}
use Rattle.query_bind.proofs.Chains.{handed_on}
use Rattle.query_bind.proofs.Grown.{item_refused}
use Rattle.trigger_names.proofs.giving.bind_row.Goals as goal

pub returns-in_err-term : goal.returns-in_err-term
returns-in_err-term c =
    handed_on (λ terms. terms) (known_all (map (resolve false c.args.scope.now) c.args.row.now)) c.in_err-term.field-0.0 c.from_residual.result c.from_residual.ensures.1
    (subst (λ k. IsFaultOf (faults k) c.in_err-term.field-0.0) c.trees.invariant
    (item_refused (resolve false c.args.scope.now) c.args.row.now c.trees.tree-index c.tree-item.result c.trees.terms c.in_err-term.field-0.0
    (omega (arith, c.trees-test.true)) c.tree-item.is c.in_err-term.ensures))
