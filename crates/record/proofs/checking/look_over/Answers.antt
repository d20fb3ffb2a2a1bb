use Rattle.std.proofs.Common.{rules, ◌≡◌, ◌&&◌, length, refl, sym, Err}
use Rattle.std.proofs.lemmas.Bool.{eqb-false, eqb-true}
use Rattle.record.specs.Reading.{columns_at}
use Rattle.record.proofs.ColumnLemmas.{column_shorter}
use Rattle.record.proofs.RowChecks.{all_seen, one_seen, one_wrong, some_left}
use Rattle.record.proofs.checking.look_over.Goals as goal

pub returns-in_err-passed-clause-why : goal.returns-in_err-passed-clause-why
returns-in_err-passed-clause-why c =
    let is = c.columns in
    let h : columns_at (length c.args.types.now) c.args.types.now c.args.bodies.now ≡ Err c.in_err-passed.field-0.0 =
    one_wrong c.args.types.now c.args.bodies.now c.args.own is.types_left.now is.bodies_left.now is.count is.has_null is.is_storable is.invariant c.in_err-passed.field-0.0 (eqb-false (length is.types_left.now) 0 (sym c.columns-test.ensures)) c.in_err-passed.ensures.why in
    search rules

pub columns-smaller : goal.columns-smaller
columns-smaller c =
    let found = c.in_ok-passed.ensures.found in
    column_shorter c.columns.types_left.now c.columns.bodies_left.now found.0 c.in_ok-passed.passed.types.now c.in_ok-passed.passed.bodies.now found.1

pub columns-preserved : goal.columns-preserved
columns-preserved c =
    let is = c.columns in
    let passed = c.in_ok-passed.passed in
    let found = c.in_ok-passed.ensures.found in
    one_seen c.args.types.now c.args.bodies.now c.args.own is.types_left.now is.bodies_left.now is.count is.has_null is.is_storable is.invariant found.0 passed.types.now passed.bodies.now
    c.has_null_after-has_null.result passed.is_storable (is.is_storable && passed.is_storable) found.1 (c.has_null_after-has_null.ensures is.invariant.values found.0 is.invariant.count_is is.invariant.null_is found.2) found.3 refl

pub returns-then-not-is_empty-clause-why : goal.returns-then-not-is_empty-clause-why
returns-then-not-is_empty-clause-why c =
    let is = c.columns in
    some_left c.args.types.now c.args.bodies.now c.args.own is.types_left.now is.bodies_left.now is.count is.has_null is.is_storable is.invariant (eqb-true (length is.types_left.now) 0 (sym c.columns-test.ensures))
    (eqb-false (length is.bodies_left.now) 0 (sym c.if-not-is_empty.ensures))

pub returns-clause-found : goal.returns-clause-found
returns-clause-found c =
    let is = c.columns in (
      is.invariant.values,
      all_seen c.args.types.now c.args.bodies.now c.args.own is.types_left.now is.bodies_left.now is.count is.has_null is.is_storable is.invariant (eqb-true (length is.types_left.now) 0 (sym c.columns-test.ensures))
          (eqb-true (length is.bodies_left.now) 0 (sym c.if-not-is_empty.ensures)),
      is.invariant.count_is,
      is.invariant.null_is,
      (is.invariant.yes, is.invariant.no),
    )
