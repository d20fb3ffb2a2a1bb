use Rattle.std.proofs.Common.{false, map, arith, rules, subst}
use Rattle.sql_syntax.specs.declared.change.Assignment.{Assignment}
use Rattle.query_names.specs.Bound.{IsFaultOf}
use Rattle.query_names.specs.Checked.{faults, known_all}
use Rattle.query_names.specs.Expressions.{resolve}
use Rattle.query_names.proofs.QuietNames.{not_disk, of_tree}
use Rattle.query_bind.proofs.Chains.{handed_on}
use Rattle.query_bind.proofs.Grown.{item_refused}
use Rattle.query_bind.proofs.changing.bind_values.Goals as goal

pub returns-in_err-term-clause-named : goal.returns-in_err-term-clause-named
returns-in_err-term-clause-named c =
    handed_on (λ terms. terms.items) (known_all (map (λ (a : Assignment). resolve false c.args.scope.now a.value) c.args.assignments.now)) c.in_err-term.field-0.0 c.from_residual.result c.from_residual.ensures.1
    (subst (λ k. IsFaultOf (faults k) c.in_err-term.field-0.0) c.assignments.invariant
    (item_refused (λ (a : Assignment). resolve false c.args.scope.now a.value) c.args.assignments.now c.assignments.assignment-index c.assignment-item.result c.assignments.terms.items c.in_err-term.field-0.0
    (omega (arith, c.assignments-test.true)) c.assignment-item.is c.in_err-term.ensures))

pub returns-in_err-term-clause-not_disk : goal.returns-in_err-term-clause-not_disk
returns-in_err-term-clause-not_disk c =
    let h = not_disk (resolve false c.args.scope.now c.assignment-item.result.value) c.in_err-term.field-0.0 (of_tree false c.args.scope.now c.assignment-item.result.value) c.in_err-term.ensures in
    search rules
