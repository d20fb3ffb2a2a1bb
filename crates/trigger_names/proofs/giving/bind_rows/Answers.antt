use Rattle.std.proofs.Common.{map, arith, subst}
use Rattle.query_names.specs.Bound.{IsFaultOf}
use Rattle.query_names.specs.Checked.{faults, known_all}
use Rattle.query_bind.proofs.Chains.{handed_on}
use Rattle.query_bind.proofs.Grown.{item_refused}
use Rattle.trigger_names.proofs.GivenRows.{row_known}
use Rattle.trigger_names.proofs.giving.bind_rows.Goals as goal

pub returns-in_err-terms : goal.returns-in_err-terms
returns-in_err-terms c =
    handed_on (λ found. found) (known_all (map (row_known c.args.scope.now) c.args.rows.now)) c.in_err-terms.field-0.0 c.from_residual.result c.from_residual.ensures.1
    (subst (λ k. IsFaultOf (faults k) c.in_err-terms.field-0.0) c.rows.invariant
    (item_refused (row_known c.args.scope.now) c.args.rows.now c.rows.row-index c.row-item.result c.rows.found c.in_err-terms.field-0.0
    (omega (arith, c.rows-test.true)) c.row-item.is (subst (λ r. IsFaultOf (faults (row_known c.args.scope.now r)) c.in_err-terms.field-0.0) c.as_slice.ensures c.in_err-terms.ensures)))
