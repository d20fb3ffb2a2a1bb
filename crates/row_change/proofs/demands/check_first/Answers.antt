use Rattle.std.proofs.Common.{inr, ap, ◌∙◌, Ok}
use Rattle.query_terms.specs.Rows.{row_at}
use Rattle.row_change.proofs.Checks.{all_checked, check_fails, check_passes, check_refused}
use Rattle.row_change.proofs.demands.check_first.Goals as goal

pub returns-in_err-passes : goal.returns-in_err-passes
returns-in_err-passes c =
    check_refused (row_at c.args.rows.now 0) c.args.checks.now c.checks.check-index c.check-item.result c.checks-test.true c.check-item.is c.checks.invariant
    c.in_err-passes.field-0.0 c.from_residual.result c.from_residual.ensures.1 c.in_err-passes.ensures

pub returns-then-not-branch : goal.returns-then-not-branch
returns-then-not-branch c =
    inr (check_fails (row_at c.args.rows.now 0) c.args.checks.now c.checks.check-index c.check-item.result c.checks-test.true c.check-item.is c.checks.invariant (c.in_ok-passes.ensures ∙ ap (λ b. Ok b) c.if-not-branch.true))

pub checks-preserved : goal.checks-preserved
checks-preserved c =
    check_passes (row_at c.args.rows.now 0) c.args.checks.now c.checks.check-index c.check-item.result c.checks-test.true c.check-item.is c.checks.invariant (c.in_ok-passes.ensures ∙ ap (λ b. Ok b) c.if-not-branch.false)

pub returns : goal.returns
returns c = all_checked (row_at c.args.rows.now 0) c.args.checks.now c.checks.check-index c.checks-test.false c.checks.invariant
