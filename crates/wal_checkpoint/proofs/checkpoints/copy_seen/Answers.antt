use Rattle.std.proofs.Common.{◌<◌, arith}
use Rattle.wal.specs.LogState.{state_of}
use Rattle.wal_checkpoint.proofs.Passing.{copied_header, copied_ok, copy_refused, meanwhile, nothing_left}
use Rattle.wal_checkpoint.proofs.checkpoints.copy_seen.Goals as goal

pub returns-then-frame_count-eq0-clause-crash : goal.returns-then-frame_count-eq0-clause-crash
returns-then-frame_count-eq0-clause-crash g c may = nothing_left c.args.log.now c.args.target may

pub returns-clause-done : goal.returns-clause-done
returns-clause-done g c may =
    let some : 0 < (state_of c.args.log.now).frames = omega (arith, c.frame_count.ensures, c.if-frame_count-eq0.false) in
    copied_ok c.args.log.now c.args.target c.copy.new.self c.copy.result may some c.copy.ensures.known c.copy.ensures.kept.0 c.copy.ensures.kept.1 (c.copy.ensures.done may.told.db may.told.log)
    (c.copy.ensures.crash may.told.whole may.told.db may.told.log may.db_synced)

pub returns-clause-crash : goal.returns-clause-crash
returns-clause-crash g c may =
    let some : 0 < (state_of c.args.log.now).frames = omega (arith, c.frame_count.ensures, c.if-frame_count-eq0.false) in
    meanwhile c.args.log.now c.args.target c.copy.new.self may some (c.copy.ensures.kept.1.same may.told.log) (c.copy.ensures.crash may.told.whole may.told.db may.told.log may.db_synced)

pub returns-clause-refused : goal.returns-clause-refused
returns-clause-refused g c = copy_refused c.args.log.now c.args.target c.copy.new.self c.copy.result c.copy.ensures.known c.copy.ensures.refused

pub returns-clause-kept : goal.returns-clause-kept
returns-clause-kept g c = copied_header c.copy.result c.args.target (state_of c.args.log.now) (state_of c.copy.new.self) c.copy.ensures.known
