use Rattle.std.proofs.Common.{◌∙◌, ◌≤◌, length, arith}
use Rattle.wal_frame.proofs.Carrying.{carried_step}
use Rattle.wal_frame.proofs.sums.Sum.step.Goals as goal

pub pairs-preserved : goal.pairs-preserved
pairs-preserved c =
    let one = c.in-Some.ensures.cases in
    let other = c.in-Some-split_first_chunk.ensures.cases in
    let long : 8 ≤ length c.pairs.rest.now = omega (arith, one.2, other.2) in
    carried_step c.args.order c.pairs.sum c.pair-sum.result c.pairs.rest.now c.in-Some.one.now c.in-Some.after.now c.in-Some-split_first_chunk.other.now c.in-Some-split_first_chunk.more.now
    c.word.result c.word-in-Some.result long one.0 one.1 other.0 other.1 c.word.ensures c.word-in-Some.ensures c.pair-sum.ensures
    ∙ c.pairs.invariant
