use Rattle.std.proofs.Common.{◌≤◌, ◌+◌, length, refl, sym, ap, subst, arith}
use Rattle.pager.specs.Undo.{NumbersRise}
use Rattle.pager.specs.Writers.{AreBelow, EndsFrom, IsAt, IsGapFor}
use Rattle.pager.proofs.Searching.{below_more, found_here, gap_here, here_rises, length_more, piece_fits}
use Rattle.pager.proofs.saved.place_in.Goals as goal

pub overflow_add-result : goal.overflow_add-result
overflow_add-result c =
    let p = c.piece-item.result in
    let found = subst (λ xs. IsAt xs c.args.number c.in-Ok.at) c.deref-then-reaches.ensures.value c.in-Ok.ensures.found in
    let within = found.within in
    let fits = piece_fits c.args.pieces.now c.loop-piece.piece-index p c.loop-piece-test.true c.piece-item.is in
    let before = c.loop-piece.invariant.before in
    let all = c.requires in
    let most = c.ranges.len.fits in
    omega (arith, within, fits, before, all, most)

pub overflow_add-result-in-Err : goal.overflow_add-result-in-Err
overflow_add-result-in-Err c =
    let p = c.piece-item.result in
    let within = subst (λ xs. c.in-Err.at ≤ length xs) c.deref-then-reaches.ensures.value c.in-Err.ensures.within in
    let fits = piece_fits c.args.pieces.now c.loop-piece.piece-index p c.loop-piece-test.true c.piece-item.is in
    let before = c.loop-piece.invariant.before in
    let all = c.requires in
    let most = c.ranges.len.fits in
    omega (arith, within, fits, before, all, most)

pub returns-in-Ok-clause-found : goal.returns-in-Ok-clause-found
returns-in-Ok-clause-found c =
    let p = c.piece-item.result in
    let found = subst (λ xs. IsAt xs c.args.number c.in-Ok.at) c.deref-then-reaches.ensures.value c.in-Ok.ensures.found in
    let place = ap (λ n. n + c.in-Ok.at) c.loop-piece.invariant.before in
    found_here c.args.pieces.now c.loop-piece.piece-index p c.loop-piece-test.true c.piece-item.is c.args.number c.in-Ok.at (c.loop-piece.before + c.in-Ok.at) place found

pub returns-in-Err-clause-gap : goal.returns-in-Err-clause-gap
returns-in-Err-clause-gap c rises =
    let ps = c.args.pieces.now in
    let k = c.loop-piece.piece-index in
    let p = c.piece-item.result in
    let own = here_rises ps k p c.loop-piece-test.true c.piece-item.is rises in
    let gap = subst (λ xs. IsGapFor xs c.args.number c.in-Err.at) c.deref-then-reaches.ensures.value (c.in-Err.ensures.gap (subst (NumbersRise 0) (sym c.deref-then-reaches.ensures.value) own)) in
    let ends = subst (EndsFrom c.args.number) c.deref.ensures.value (c.if-reaches.ensures.reached refl) in
    let place = ap (λ n. n + c.in-Err.at) c.loop-piece.invariant.before in
    gap_here ps k p c.loop-piece-test.true c.piece-item.is c.args.number c.in-Err.at (c.loop-piece.before + c.in-Err.at) place rises (c.loop-piece.invariant.below rises) ends gap

pub overflow_add-before : goal.overflow_add-before
overflow_add-before c =
    let p = c.piece-item.result in
    let long = p.ok.0 in
    let count = c.len-before.ensures in
    let fits = piece_fits c.args.pieces.now c.loop-piece.piece-index p c.loop-piece-test.true c.piece-item.is in
    let before = c.loop-piece.invariant.before in
    let all = c.requires in
    let most = c.ranges.len.fits in
    omega (arith, long, count, fits, before, all, most)

pub loop-piece-preserved : goal.loop-piece-preserved
loop-piece-preserved c =
    let ps = c.args.pieces.now in
    let k = c.loop-piece.piece-index in
    let p = c.piece-item.result in
    let long = p.ok.0 in
    let count = c.len-before.ensures in
    let before = c.loop-piece.invariant.before in
    let more = length_more ps k p c.loop-piece-test.true c.piece-item.is in
    record {
      before = omega (arith, long, count, before, more);
      below = λ rises.
          let own = subst (NumbersRise 0) (sym c.deref.ensures.value) (here_rises ps k p c.loop-piece-test.true c.piece-item.is rises) in
          let here = subst (AreBelow c.args.number) c.deref.ensures.value (c.if-reaches.ensures.below own refl) in
          below_more ps k p c.loop-piece-test.true c.piece-item.is c.args.number (c.loop-piece.invariant.below rises) here;
    }
