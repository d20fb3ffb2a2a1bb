use Rattle.std.proofs.Common.{◌∙◌}
use Rattle.wal.specs.Stands.{kept_at}
use Rattle.wal.proofs.AnewCommits.{renewing, rewriting, rewritten}
use Rattle.wal.proofs.restarting.write_anew.Goals as goal

pub returns-in_err-clean_and_renew-clause-crash : goal.returns-in_err-clean_and_renew-clause-crash
returns-in_err-clean_and_renew-clause-crash g c told synced =
    renewing c.args.header.now c.args.is_clean c.args.end c.args.bytes.now (g.D.Disk.file c.args.log.now) (g.D.Disk.file c.clean_and_renew.new.log) (c.clean_and_renew.ensures.crash told synced)

pub returns-clause-written : goal.returns-clause-written
returns-clause-written g c told synced =
    let begun = g.D.Disk.file c.clean_and_renew.new.log in
    let told_begun = c.clean_and_renew.ensures.touches.tells_same ∙ told in
    rewritten c.write_frames.result c.args.header.now (kept_at c.args.is_clean c.args.end (g.D.Disk.file c.args.log.now).content) c.args.bytes.now begun (g.D.Disk.file c.write_frames.new.log) (c.in_ok-clean_and_renew.ensures.written told)
    (c.in_ok-clean_and_renew.ensures.synced told synced) (c.write_frames.ensures.written told_begun) (c.write_frames.ensures.synced told_begun)

pub returns-clause-crash : goal.returns-clause-crash
returns-clause-crash g c told synced =
    let begun = g.D.Disk.file c.clean_and_renew.new.log in
    let told_begun = c.clean_and_renew.ensures.touches.tells_same ∙ told in
    rewriting c.args.header.now c.args.is_clean c.args.end c.args.bytes.now (g.D.Disk.file c.args.log.now) begun (g.D.Disk.file c.write_frames.new.log) (c.clean_and_renew.ensures.crash told synced) (c.in_ok-clean_and_renew.ensures.written told)
    (c.write_frames.ensures.crash told_begun (c.in_ok-clean_and_renew.ensures.synced told synced))
