use Rattle.std.proofs.Common.{◌≡◌, ◌⊎◌, rules, None, Ok, Err, slice_index_or, arith}
use Rattle.sqlval.specs.Conversion.{converted}
use Rattle.sqlval.specs.Refusals as refusal
use Rattle.sqlval.specs.declared.fault.Fault.TheVariants.{Memory, RealRefused}
use Rattle.row_change.specs.Inserting.{given_for, row_stored}
use Rattle.row_change.proofs.StoredRows.{Stores, all_stored, column_refused}
use Rattle.row_change.proofs.StoredValues.{in_list, one_more}
use Rattle.row_change.proofs.inserting.stored_values.Goals as goal

pub returns-in_err-stored_value-clause-refused : goal.returns-in_err-stored_value-clause-refused
returns-in_err-stored_value-clause-refused c =
    let h : (c.in_err-stored_value.field-0.0 ≡ Memory) ⊎ ((c.in_err-stored_value.field-0.0 ≡ RealRefused) × (row_stored c.args.columns.now c.args.places.now c.args.given.now ≡ Err refusal.RealRefused)) =
    column_refused c.args.columns.now c.args.places.now c.args.given.now c.columns.values.items c.columns.index c.index-columns-index.result c.place_of-place.result c.in_err-stored_value.field-0.0 c.columns.invariant.0 c.columns.invariant.1
    (omega (arith, c.columns-test.true)) c.index-columns-index.is c.place_of-place.ensures c.in_err-stored_value.ensures.refused in
    search rules

pub columns-preserved : goal.columns-preserved
columns-preserved c =
    rw (c.in_ok-push.ensures.items)
    (one_more (Stores c.args.columns.now c.args.places.now c.args.given.now) c.columns.values.items c.in_ok-stored_value.field-0 c.columns.index
    c.columns.invariant.0 c.columns.invariant.1
    (λ column. in_list c.args.columns.now c.columns.index c.index-columns-index.result column _ (omega (arith, c.columns-test.true)) c.index-columns-index.is
    (λ d. converted d.affinity (given_for d c.args.given.now (slice_index_or c.args.places.now c.columns.index None)) ≡ Ok c.in_ok-stored_value.field-0) (rw (c.place_of-place.ensures) at c.in_ok-stored_value.ensures.stored)))

pub returns-clause-stored : goal.returns-clause-stored
returns-clause-stored c =
    all_stored c.args.columns.now c.args.places.now c.args.given.now c.columns.values.items (omega (arith, c.columns-test.false, c.columns.invariant.0))
    (λ i d lt. c.columns.invariant.1 i d (omega (arith, lt, c.columns-test.false)))
