use Rattle.std.proofs.Common.{◌+◌, ◌-◌, ◌/◌, ℕ, sym, subst, ◌∙◌, arith}
use Rattle.sqlval.specs.Faults.{IsOutside}
use Rattle.tree_page.specs.Node.{IsNode}
use Rattle.tree_index.proofs.Halving.{all_places, asked, unread_in, above_in, under_in, placed_in}
use Rattle.tree_index.proofs.Readings.{entries_counted, on_bytes, opened, placed_outside, says_it}
use Rattle.tree_index.proofs.placing.place_in.Goals as goal

pub returns-in-Err-clause-found : goal.returns-in-Err-clause-found
returns-in-Err-clause-found c = λ pages size read most node entries whole has first.
    absurd (c.in-Err.ensures.only node (subst (λ (n : ℕ). IsNode c.args.bytes.now n node) (sym c.start_of.ensures) (says_it pages c.args.number c.args.bytes.now node has.says read)))

pub halves-init : goal.halves-init
halves-init c = record {
  ordered = omega arith;
  bounds = λ pages size read most. all_places pages size c.args.number c.args.after c.args.key.columns.now c.args.key.values.now c.len-high.result
      (λ node entries whole has. c.len-high.ensures node (on_bytes pages c.args.number c.in-Ok.page node has.says (opened pages c.args.number c.start_of.result c.args.bytes.now c.in-Ok.page c.in-Ok.ensures.place c.start_of.ensures read)) ∙ entries_counted pages size c.args.number node entries has);
}

pub returns-in-Err-2-clause-found : goal.returns-in-Err-2-clause-found
returns-in-Err-2-clause-found c = λ pages size read most node entries whole has first.
    (let middle = c.halves.low + (c.halves.high - c.halves.low) / 2 in
    let fault = c.in-Err-2.fault in
    let page = opened pages c.args.number c.start_of.result c.args.bytes.now c.in-Ok.page c.in-Ok.ensures.place c.start_of.ensures read in
    subst IsOutside (sym c.at_page-in-Err-2.ensures) (placed_outside c.args.number fault
    (unread_in pages size c.args.number c.args.after c.args.key.columns.now c.args.key.values.now c.halves.low c.halves.high middle (c.halves.invariant.bounds pages size read most)
    (omega (arith, c.halves-test.true)) fault (asked pages size c.args.number middle c.args.key.columns.now c.args.key.values.now _ _ c.in-Err-2.is (c.in_ok-order.ensures.found pages size c.args.number page most))
    node entries whole has first)))

pub halves-preserved-then-is_past : goal.halves-preserved-then-is_past
halves-preserved-then-is_past c =
    (let middle = c.halves.low + (c.halves.high - c.halves.low) / 2 in
    record {
      ordered = omega (arith, c.halves-test.true);
      bounds = λ pages size read most. above_in pages size c.args.number c.args.after c.args.key.columns.now c.args.key.values.now c.halves.low c.halves.high middle
          (c.halves.invariant.bounds pages size read most) (omega (arith, c.halves-test.true)) c.in-Ok-2.order (asked pages size c.args.number middle c.args.key.columns.now c.args.key.values.now _ _ c.in-Ok-2.is (c.in_ok-order.ensures.found pages size c.args.number (opened pages c.args.number c.start_of.result c.args.bytes.now c.in-Ok.page c.in-Ok.ensures.place c.start_of.ensures read) most)) (sym c.is_past.ensures ∙ c.if-is_past.true);
    })

pub halves-preserved : goal.halves-preserved
halves-preserved c =
    (let middle = c.halves.low + (c.halves.high - c.halves.low) / 2 in
    record {
      ordered = omega arith;
      bounds = λ pages size read most. under_in pages size c.args.number c.args.after c.args.key.columns.now c.args.key.values.now c.halves.low c.halves.high middle
          (c.halves.invariant.bounds pages size read most) (omega (arith, c.halves-test.true)) c.in-Ok-2.order (asked pages size c.args.number middle c.args.key.columns.now c.args.key.values.now _ _ c.in-Ok-2.is (c.in_ok-order.ensures.found pages size c.args.number (opened pages c.args.number c.start_of.result c.args.bytes.now c.in-Ok.page c.in-Ok.ensures.place c.start_of.ensures read) most)) (sym c.is_past.ensures ∙ c.if-is_past.false);
    })

pub returns-clause-found : goal.returns-clause-found
returns-clause-found c = λ pages size read most.
    placed_in pages size c.args.number c.args.after c.args.key.columns.now c.args.key.values.now c.halves.low c.halves.high (c.halves.invariant.bounds pages size read most) (omega (arith, c.halves-test.false))
