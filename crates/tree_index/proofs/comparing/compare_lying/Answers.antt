use Rattle.std.proofs.Common.{refl, sym, ◌∙◌, arith}
use Rattle.tree_index.proofs.Comparisons.{found_other, goes_on}
use Rattle.tree_index.proofs.Lying.{past_all, past_entry, is_next}
use Rattle.tree_index.proofs.comparing.compare_lying.Goals as goal

pub values-init : goal.values-init
values-init c = λ entry read. ((_, read), refl)

pub returns-in_default : goal.returns-in_default
returns-in_default c = λ entry read.
    (let so_far = c.values.invariant entry read in
    sym (past_entry c.args.key.columns.now c.args.key.values.now entry c.values.place c.values.types_left.now c.values.bodies_left.now _ so_far.0 c.in_default.ensures) ∙ so_far.1)

pub returns-then-is_ne : goal.returns-then-is_ne
returns-then-is_ne c = λ entry read.
    (let so_far = c.values.invariant entry read in
    let next = is_next entry c.values.place c.values.types_left.now c.values.bodies_left.now _ c.in-Ok.types_after.now c.in-Ok.bodies_after.now so_far.0 c.in-Ok.ensures in
    found_other c.args.key.columns.now c.args.key.values.now entry c.values.place (omega (arith, c.values-test.true, c.min-most.ensures)) (omega (arith, c.values-test.true, c.min-most.ensures)) next.within
    c.collation_at-collation.result c.collation_at-collation.ensures _ _ c.index-key-place.result refl next.here
    c.compare_field-order.result c.compare_field-order.ensures so_far.1 (sym c.is_ne.ensures ∙ c.if-is_ne.true))

pub values-preserved : goal.values-preserved
values-preserved c = λ entry read.
    (let so_far = c.values.invariant entry read in
    let next = is_next entry c.values.place c.values.types_left.now c.values.bodies_left.now _ c.in-Ok.types_after.now c.in-Ok.bodies_after.now so_far.0 c.in-Ok.ensures in (
      next.after,
      goes_on c.args.key.columns.now c.args.key.values.now entry c.values.place (omega (arith, c.values-test.true, c.min-most.ensures)) (omega (arith, c.values-test.true, c.min-most.ensures)) next.within
          c.collation_at-collation.result c.collation_at-collation.ensures _ _ c.index-key-place.result refl next.here
          c.compare_field-order.result c.compare_field-order.ensures so_far.1 (sym c.is_ne.ensures ∙ c.if-is_ne.false),
    ))

pub returns : goal.returns
returns c = λ entry read.
    (let so_far = c.values.invariant entry read in
    sym (past_all c.args.key.columns.now c.args.key.values.now entry c.values.place (omega (arith, c.values-test.false, c.min-most.ensures))) ∙ so_far.1)
