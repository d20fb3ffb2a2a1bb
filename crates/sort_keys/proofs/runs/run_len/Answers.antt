use Rattle.std.proofs.Common.{◌≢◌, arith, get_or}
use Rattle.sort_keys.proofs.Escapes.{run_more}
use Rattle.sort_keys.proofs.runs.run_len.Goals as goal

pub loop-end-preserved : goal.loop-end-preserved
loop-end-preserved c =
    let nonzero : get_or c.args.bytes.now c.loop-end.end 0 ≢ 0 = λ e. absurd (omega arith) in
    (omega arith, run_more c.args.bytes.now c.loop-end.end (omega arith) nonzero c.loop-end.invariant.1)
