use Rattle.std.proofs.Common.{◌∙◌}
use Rattle.wal.proofs.Halting.{write_then_synced}
use Rattle.wal.proofs.Lefts.{failed_write_left, write_then_left}
use Rattle.wal.proofs.committing.write_frames.Goals as goal

pub returns-clause-crash : goal.returns-clause-crash
returns-clause-crash g c told synced =
    let old = g.D.Disk.file c.args.log.now in
    let mid = g.D.Disk.file c.write_at.new.self in
    let told_mid = c.write_at.ensures.tells ∙ told in
    write_then_synced c.sync_log.result old mid (g.D.Disk.file c.sync_log.new.log) c.args.at c.args.bytes.now (c.in_ok-write_at.ensures.done told) (c.sync_log.ensures.done told_mid) (c.sync_log.ensures.failed told_mid) synced

pub returns-in_err-write_at-clause-left : goal.returns-in_err-write_at-clause-left
returns-in_err-write_at-clause-left g c told synced =
    failed_write_left (g.D.Disk.file c.args.log.now) (g.D.Disk.file c.write_at.new.self) c.args.at c.args.bytes.now (c.in_err-write_at.ensures.failed told) synced

pub returns-clause-left : goal.returns-clause-left
returns-clause-left g c told synced =
    let told_mid = c.write_at.ensures.tells ∙ told in
    write_then_left c.sync_log.result (g.D.Disk.file c.args.log.now) (g.D.Disk.file c.write_at.new.self) (g.D.Disk.file c.sync_log.new.log) c.args.at c.args.bytes.now
    (c.in_ok-write_at.ensures.done told) (c.sync_log.ensures.done told_mid) (c.sync_log.ensures.failed told_mid)
