use Rattle.std.proofs.Common.{◌+◌, ◌-◌, ◌/◌, sym, ◌∙◌, arith}
use Rattle.tree_index.proofs.Halving.{begins, unread, above, under}
use Rattle.tree_index.proofs.Readings.{refused}
use Rattle.tree_index.proofs.placing.place_over_chains.Goals as goal

pub halves-init : goal.halves-init
halves-init g c =
    (let gs = g.P.Pages in
    begins gs.below gs.tells gs.limits gs.map gs.count gs.failures c.args.pages.now c.len_of.new.pages c.args.number c.args.after c.args.key.columns.now c.args.key.values.now c.in_ok-high.high c.in_ok-high.ensures.stays c.in_ok-high.ensures.counted)

pub returns-in_err-order-clause-found : goal.returns-in_err-order-clause-found
returns-in_err-order-clause-found g c = λ told node entries whole has first.
    (let gs = g.P.Pages in
    let middle = c.halves.low + (c.halves.high - c.halves.low) / 2 in
    refused _ _ c.in_err-order.field-0.0 c.from_residual-in_err-order.ensures.1
    (unread gs.below gs.tells gs.limits gs.map gs.count gs.failures c.args.pages.now c.halves.pages c.order.new.pages c.args.number c.args.after c.args.key.columns.now c.args.key.values.now c.halves.low c.halves.high middle c.halves.invariant
    (omega arith) (omega (arith, c.halves-test.true)) c.in_err-order.field-0.0 c.in_err-order.ensures.found told node entries whole has first))

pub halves-preserved-then-is_past : goal.halves-preserved-then-is_past
halves-preserved-then-is_past g c =
    (let gs = g.P.Pages in
    let middle = c.halves.low + (c.halves.high - c.halves.low) / 2 in
    above gs.below gs.tells gs.limits gs.map gs.count gs.failures c.args.pages.now c.halves.pages c.order.new.pages c.args.number c.args.after c.args.key.columns.now c.args.key.values.now c.halves.low c.halves.high middle c.halves.invariant
    (omega arith) (omega (arith, c.halves-test.true)) c.in_ok-order.order c.in_ok-order.ensures.found c.in_ok-order.ensures.stays (sym c.is_past.ensures ∙ c.if-is_past.true))

pub halves-preserved : goal.halves-preserved
halves-preserved g c =
    (let gs = g.P.Pages in
    let middle = c.halves.low + (c.halves.high - c.halves.low) / 2 in
    under gs.below gs.tells gs.limits gs.map gs.count gs.failures c.args.pages.now c.halves.pages c.order.new.pages c.args.number c.args.after c.args.key.columns.now c.args.key.values.now c.halves.low c.halves.high middle c.halves.invariant
    (omega arith) (omega (arith, c.halves-test.true)) c.in_ok-order.order c.in_ok-order.ensures.found c.in_ok-order.ensures.stays (sym c.is_past.ensures ∙ c.if-is_past.false))
