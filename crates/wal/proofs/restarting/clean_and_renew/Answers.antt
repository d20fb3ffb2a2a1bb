use Rattle.std.proofs.Common.{◌∙◌}
use Rattle.wal.proofs.Renewing.{cleaned, cleaned_renewed}
use Rattle.wal.proofs.restarting.clean_and_renew.Goals as goal

pub returns-in_err-truncate_tail-clause-crash : goal.returns-in_err-truncate_tail-clause-crash
returns-in_err-truncate_tail-clause-crash g c told synced =
    cleaned c.args.header.now c.args.is_clean c.args.end (g.D.Disk.file c.args.log.now) (g.D.Disk.file c.truncate_tail.new.log) (c.truncate_tail.ensures.crash told synced)

pub returns-clause-crash : goal.returns-clause-crash
returns-clause-crash g c told synced =
    cleaned_renewed c.args.header.now c.args.is_clean c.args.end (g.D.Disk.file c.args.log.now) (g.D.Disk.file c.truncate_tail.new.log) (g.D.Disk.file c.renew.new.log) (c.truncate_tail.ensures.crash told synced) (c.in_ok-truncate_tail.ensures.cut told)
    (c.renew.ensures.crash (c.truncate_tail.ensures.touches.tells_same ∙ told) (c.in_ok-truncate_tail.ensures.synced told synced))
