use Rattle.std.proofs.Common.{sym, ◌∙◌, arith}
use Rattle.tree_index.proofs.Comparisons.{past_keys, past_values, found_other, goes_on}
use Rattle.tree_index.proofs.comparing.compare_records.Goals as goal

pub returns-then-place-columns : goal.returns-then-place-columns
returns-then-place-columns c = sym (past_keys _ _ _ _ c.if-place-columns.true) ∙ c.values.invariant

pub returns-then-is_ne : goal.returns-then-is_ne
returns-then-is_ne c =
    found_other c.args.columns.now c.args.a.now c.args.b.now c.values.place (omega (arith, c.if-place-columns.false))
    (omega (arith, c.values-test.true, c.min-most.ensures, c.len.ensures, c.len-2.ensures)) (omega (arith, c.values-test.true, c.min-most.ensures, c.len.ensures, c.len-2.ensures))
    c.collation_at-collation.result c.collation_at-collation.ensures _ _ _ c.column.ensures c.column-in-values.ensures c.compare_fields-order.result c.compare_fields-order.ensures c.values.invariant (sym c.is_ne.ensures ∙ c.if-is_ne.true)

pub values-preserved : goal.values-preserved
values-preserved c =
    goes_on c.args.columns.now c.args.a.now c.args.b.now c.values.place (omega (arith, c.if-place-columns.false))
    (omega (arith, c.values-test.true, c.min-most.ensures, c.len.ensures, c.len-2.ensures)) (omega (arith, c.values-test.true, c.min-most.ensures, c.len.ensures, c.len-2.ensures))
    c.collation_at-collation.result c.collation_at-collation.ensures _ _ _ c.column.ensures c.column-in-values.ensures c.compare_fields-order.result c.compare_fields-order.ensures c.values.invariant (sym c.is_ne.ensures ∙ c.if-is_ne.false)

pub returns : goal.returns
returns c =
    sym (past_values c.args.columns.now c.args.a.now c.args.b.now c.values.place (omega (arith, c.values-test.false, c.min-most.ensures, c.len.ensures, c.len-2.ensures))) ∙ c.values.invariant
