use Rattle.std.proofs.Common.{arith, flat_map, subst}
use Rattle.query_names.specs.Bound.{IsFaultOf}
use Rattle.query_names.specs.Checked.{faults}
use Rattle.query_names.specs.Creating.{known_after}
use Rattle.query_names.specs.Tables.{table_check}
use Rattle.query_names.proofs.BoundChecks.{check_refused}
use Rattle.query_names.proofs.BoundLists.{handed_on}
use Rattle.query_names.proofs.checks.push_of_table.Goals as goal

pub returns-in_err-push_check : goal.returns-in_err-push_check
returns-in_err-push_check c =
    handed_on _ (known_after c.args.scope.now c.args.found.now.items (flat_map table_check c.args.rules.now)) c.in_err-push_check.field-0.0 c.from_residual.result c.from_residual.ensures.1
    (subst (λ k. IsFaultOf (faults k) c.in_err-push_check.field-0.0) c.rules.invariant
    (check_refused c.args.scope.now table_check c.args.rules.now c.rules.rule-index c.rule-item.result c.rules.found.items (omega (arith, c.rules-test.true)) c.rule-item.is
    c.in-Some.tree.now c.in_err-push_check.field-0.0 c.in-Some.ensures c.in_err-push_check.ensures))
