use Rattle.std.proofs.Common.{refl, sym, ◌∙◌, arith}
use Rattle.tree_index.proofs.Comparisons.{past_keys, past_values, found_other, goes_on}
use Rattle.tree_index.proofs.comparing.compare_entry.Goals as goal

pub returns-then-place-key : goal.returns-then-place-key
returns-then-place-key c = sym (past_keys _ _ _ _ c.if-place-key.true) ∙ c.values.invariant

pub returns-then-is_ne : goal.returns-then-is_ne
returns-then-is_ne c =
    found_other c.args.key.columns.now c.args.key.values.now c.args.entry.now c.values.place (omega (arith, c.if-place-key.false))
    (omega (arith, c.values-test.true, c.min-most.ensures, c.len.ensures)) (omega (arith, c.values-test.true, c.min-most.ensures, c.len.ensures))
    c.collation_at-collation.result c.collation_at-collation.ensures _ _ c.index-key-place.result refl c.column.ensures c.compare_field-order.result c.compare_field-order.ensures c.values.invariant (sym c.is_ne.ensures ∙ c.if-is_ne.true)

pub values-preserved : goal.values-preserved
values-preserved c =
    goes_on c.args.key.columns.now c.args.key.values.now c.args.entry.now c.values.place (omega (arith, c.if-place-key.false))
    (omega (arith, c.values-test.true, c.min-most.ensures, c.len.ensures)) (omega (arith, c.values-test.true, c.min-most.ensures, c.len.ensures))
    c.collation_at-collation.result c.collation_at-collation.ensures _ _ c.index-key-place.result refl c.column.ensures c.compare_field-order.result c.compare_field-order.ensures c.values.invariant (sym c.is_ne.ensures ∙ c.if-is_ne.false)

pub returns : goal.returns
returns c =
    sym (past_values c.args.key.columns.now c.args.key.values.now c.args.entry.now c.values.place (omega (arith, c.values-test.false, c.min-most.ensures, c.len.ensures))) ∙ c.values.invariant
