use Rattle.std.proofs.Common.{◌≡◌, ◌<◌, ◌∙◌, ℕ, Ok, Err, length, sym, subst, arith}
use mathlib.Core.Bool.{true≢false}
use Rattle.tree_page.specs.Node.{IsNode}
use Rattle.sqlval.specs.Faults.{IsOutside}
use Rattle.tree_index.proofs.Halving.{asked}
use Rattle.tree_index.proofs.Inserts.{found_equal, nothing}
use Rattle.tree_index.proofs.Readings.{entries_counted, on_bytes, opened, placed_outside, says_it}
use Rattle.tree_index.proofs.placing.is_equal_in.Goals as goal

pub returns-in-Err-clause-found : goal.returns-in-Err-clause-found
returns-in-Err-clause-found c = λ pages size read most node entries whole has.
    absurd (c.in-Err.ensures.only node (subst (λ (n : ℕ). IsNode c.args.bytes.now n node) (sym c.start_of.ensures) (says_it pages c.args.number c.args.bytes.now node has.says read)))

pub returns-then-place-len-clause-found : goal.returns-then-place-len-clause-found
returns-then-place-len-clause-found c = λ pages size read most node entries whole has.
    (let page = opened pages c.args.number c.start_of.result c.args.bytes.now c.in-Ok.page c.in-Ok.ensures.place c.start_of.ensures read in
    let all : c.len.result ≡ length entries = c.len.ensures node (on_bytes pages c.args.number c.in-Ok.page node has.says page) ∙ entries_counted pages size c.args.number node entries has in
    (λ e. absurd (true≢false (sym e)), λ e equal. omega (arith, all, c.if-place-len.true, equal.0)))

pub returns-in-Ok-2-clause-found : goal.returns-in-Ok-2-clause-found
returns-in-Ok-2-clause-found c = λ pages size read most node entries whole has.
    (let page = opened pages c.args.number c.start_of.result c.args.bytes.now c.in-Ok.page c.in-Ok.ensures.place c.start_of.ensures read in
    let all : c.len.result ≡ length entries = c.len.ensures node (on_bytes pages c.args.number c.in-Ok.page node has.says page) ∙ entries_counted pages size c.args.number node entries has in
    let lt : c.args.place < length entries = omega (arith, all, c.if-place-len.false) in
    let asks = asked pages size c.args.number c.args.place c.args.key.columns.now c.args.key.values.now _ _ c.in-Ok-2.is (c.in_ok-order.ensures.found pages size c.args.number page most) in
    found_equal c.args.key.columns.now c.args.key.values.now entries c.args.place c.in-Ok-2.order c.is_eq.result c.is_eq.ensures lt (λ d. asks node entries d whole has lt))

pub returns-in-Err-2-clause-found : goal.returns-in-Err-2-clause-found
returns-in-Err-2-clause-found c = λ pages size read most node entries whole has.
    (let page = opened pages c.args.number c.start_of.result c.args.bytes.now c.in-Ok.page c.in-Ok.ensures.place c.start_of.ensures read in
    let all : c.len.result ≡ length entries = c.len.ensures node (on_bytes pages c.args.number c.in-Ok.page node has.says page) ∙ entries_counted pages size c.args.number node entries has in
    let lt : c.args.place < length entries = omega (arith, all, c.if-place-len.false) in
    let asks = asked pages size c.args.number c.args.place c.args.key.columns.now c.args.key.values.now _ _ c.in-Err-2.is (c.in_ok-order.ensures.found pages size c.args.number page most) in
    subst IsOutside (sym c.at_page-in-Err-2.ensures) (placed_outside c.args.number c.in-Err-2.fault (asks node entries nothing whole has lt)))
