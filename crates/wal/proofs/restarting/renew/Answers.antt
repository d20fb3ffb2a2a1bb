use Rattle.std.proofs.Common.{◌∙◌}
use Rattle.std.proofs.lemmas.Bool.{eq-eqb, ne_eqb}
use Rattle.wal.proofs.Renewing.{renew_cut, renew_headed, renew_over}
use Rattle.wal.proofs.restarting.renew.Goals as goal

pub returns-in_err-truncate_tail-clause-crash : goal.returns-in_err-truncate_tail-clause-crash
returns-in_err-truncate_tail-clause-crash g c told synced =
    renew_cut c.args.header.now (g.D.Disk.file c.args.log.now) (g.D.Disk.file c.truncate_tail.new.log) (c.truncate_tail.ensures.crash told synced)

pub returns-then-header-eq0-clause-crash : goal.returns-then-header-eq0-clause-crash
returns-then-header-eq0-clause-crash g c told synced =
    let told_cut = c.truncate_tail.ensures.touches.tells_same ∙ told in
    renew_headed c.args.header.now (g.D.Disk.file c.args.log.now) (g.D.Disk.file c.truncate_tail.new.log) (g.D.Disk.file c.give_header.new.log) (eq-eqb c.args.header.now.salts.first 0 c.if-header-eq0.true) (c.truncate_tail.ensures.crash told synced)
    (c.in_ok-truncate_tail.ensures.cut told) (c.give_header.ensures.crash told_cut (c.in_ok-truncate_tail.ensures.synced told synced))

pub returns-clause-crash : goal.returns-clause-crash
returns-clause-crash g c told synced =
    renew_over c.args.header.now (g.D.Disk.file c.args.log.now) (g.D.Disk.file c.rewrite_header.new.log) (ne_eqb c.args.header.now.salts.first 0 c.if-header-eq0.false) (c.rewrite_header.ensures.crash told synced)
