use Rattle.std.proofs.Common.{Ok, Err, arith}
use Rattle.tree_index.specs.Comparing.{ComparesEntry}
use Rattle.tree_index.proofs.Inserts.{found_equal, nothing}
use Rattle.tree_index.proofs.Readings.{refused, since}
use Rattle.tree_index.proofs.placing.is_equal_at.Goals as goal

pub returns-in_err-order-clause-found : goal.returns-in_err-order-clause-found
returns-in_err-order-clause-found g c = λ told node entries whole has.
    (let gs = g.P.Pages in
    let stays = c.in_ok-len_of.ensures.stays in
    let all = c.in_ok-len_of.ensures.counted told node entries whole has in
    let asks = since gs.below gs.tells gs.limits gs.map (λ m n. ComparesEntry m n c.args.number c.args.place c.args.key.columns.now c.args.key.values.now (Err c.in_err-order.field-0.0)) c.args.pages.now c.len_of.new.pages stays.kept stays.same c.in_err-order.ensures.found told in
    refused _ _ c.in_err-order.field-0.0 c.from_residual-in_err-order.ensures.1 (asks node entries nothing whole has (omega (arith, all, c.if-branch.false))))

pub returns-clause-found : goal.returns-clause-found
returns-clause-found g c = λ told node entries whole has.
    (let gs = g.P.Pages in
    let stays = c.in_ok-len_of.ensures.stays in
    let all = c.in_ok-len_of.ensures.counted told node entries whole has in
    let asks = since gs.below gs.tells gs.limits gs.map (λ m n. ComparesEntry m n c.args.number c.args.place c.args.key.columns.now c.args.key.values.now (Ok c.in_ok-order.field-0)) c.args.pages.now c.len_of.new.pages stays.kept stays.same c.in_ok-order.ensures.found told in
    found_equal c.args.key.columns.now c.args.key.values.now entries c.args.place c.in_ok-order.field-0 c.is_eq.result c.is_eq.ensures (omega (arith, all, c.if-branch.false))
    (λ d. asks node entries d whole has (omega (arith, all, c.if-branch.false))))
