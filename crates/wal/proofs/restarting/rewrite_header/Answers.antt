use Rattle.std.proofs.Common.{◌≡◌, ◌⊎◌, ◌∙◌, ℕ, List, subst}
use Rattle.disk.specs.Calls.{Writes, FailsToWrite}
use Rattle.wal.proofs.Lefts.{failed_write_left, write_then_left}
use Rattle.wal.proofs.Renewing.{rewrite_failed, rewrite_then_synced}
use Rattle.wal.proofs.restarting.rewrite_header.Goals as goal

pub returns-in_err-write_at-clause-crash : goal.returns-in_err-write_at-clause-crash
returns-in_err-write_at-clause-crash g c told synced =
    let old = g.D.Disk.file c.args.log.now in
    let new = g.D.Disk.file c.write_at.new.self in
    rewrite_failed c.args.header.now old new
    (subst (λ (bytes : List ℕ). (new ≡ old) ⊎ FailsToWrite 0 bytes old new) c.write.ensures.bytes (c.in_err-write_at.ensures.failed told)) synced (c.requires told)

pub returns-clause-crash : goal.returns-clause-crash
returns-clause-crash g c told synced =
    let old = g.D.Disk.file c.args.log.now in
    let mid = g.D.Disk.file c.write_at.new.self in
    let told_mid = c.write_at.ensures.tells ∙ told in
    rewrite_then_synced c.sync_log.result c.args.header.now old mid (g.D.Disk.file c.sync_log.new.log)
    (subst (λ (bytes : List ℕ). Writes 0 bytes old mid) c.write.ensures.bytes (c.in_ok-write_at.ensures.done told)) (c.sync_log.ensures.done told_mid) (c.sync_log.ensures.failed told_mid) synced (c.requires told)

pub returns-in_err-write_at-clause-left : goal.returns-in_err-write_at-clause-left
returns-in_err-write_at-clause-left g c told synced = failed_write_left (g.D.Disk.file c.args.log.now) (g.D.Disk.file c.write_at.new.self) 0 _ (c.in_err-write_at.ensures.failed told) synced

pub returns-clause-left : goal.returns-clause-left
returns-clause-left g c told synced =
    let told_mid = c.write_at.ensures.tells ∙ told in
    write_then_left c.sync_log.result (g.D.Disk.file c.args.log.now) (g.D.Disk.file c.write_at.new.self) (g.D.Disk.file c.sync_log.new.log) 0 _
    (c.in_ok-write_at.ensures.done told) (c.sync_log.ensures.done told_mid) (c.sync_log.ensures.failed told_mid)
