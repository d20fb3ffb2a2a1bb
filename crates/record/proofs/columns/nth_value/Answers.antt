use Rattle.std.proofs.Common.{◌≡◌, ◌∙◌, ap, arith, length, ◌-◌, ℕ}
use Rattle.record.specs.Columns.{values_from}
use Rattle.record.proofs.InPlace.{nth, nth_here, nth_on}
use Rattle.record.proofs.columns.nth_value.Goals as goal

pub columns-preserved : goal.columns-preserved
columns-preserved c =
    let shorter = c.in-Some.ensures.shorter in
    let so_far = c.columns.invariant.1 in (
      nth_on (length c.args.types.now) c.args.index c.columns.counter c.columns.types_left.now c.columns.bodies_left.now c.in-Some.types_after.now c.in-Some.bodies_after.now _
          (omega (arith, c.columns-test.true)) (omega (arith, shorter, so_far)) c.in-Some.ensures.left c.columns.invariant.0,
      omega (arith, shorter, so_far),
    )

pub returns : goal.returns
returns c =
    let at_end : c.args.index - c.columns.counter ≡ 0 = omega (arith, c.columns-test.false) in
    c.first_value.ensures
    ∙ (nth_here (length c.args.types.now - c.columns.counter) c.columns.types_left.now c.columns.bodies_left.now (omega (arith, c.columns.invariant.1))
    ∙ (ap (λ (place : ℕ). nth (values_from (length c.args.types.now - c.columns.counter) c.columns.types_left.now c.columns.bodies_left.now) place) (omega (arith, at_end)) ∙ c.columns.invariant.0))
