use Rattle.std.proofs.Common.{◌≡◌, ◌⊎◌, ◌∙◌, ℕ, List, subst, refl}
use Rattle.disk.specs.Calls.{Writes, FailsToWrite}
use Rattle.wal.proofs.Halting.{header_still, header_failed, header_then_synced}
use Rattle.wal.proofs.Lefts.{as_it_was, failed_write_left, write_then_left}
use Rattle.wal.proofs.committing.give_header.Goals as goal

pub returns-then-is_begun-clause-crash : goal.returns-then-is_begun-clause-crash
returns-then-is_begun-clause-crash g c told synced = header_still c.args.header.now c.args.is_begun (g.D.Disk.file c.args.log.now) (g.D.Disk.file c.args.log.now) refl synced

pub returns-in_err-write_at-clause-crash : goal.returns-in_err-write_at-clause-crash
returns-in_err-write_at-clause-crash g c told synced =
    let old = g.D.Disk.file c.args.log.now in
    let new = g.D.Disk.file c.write_at.new.self in
    header_failed c.args.header.now c.args.is_begun old new
    (subst (λ (bytes : List ℕ). (new ≡ old) ⊎ FailsToWrite 0 bytes old new) c.write.ensures.bytes (c.in_err-write_at.ensures.failed told)) c.if-is_begun.false synced (c.requires told c.if-is_begun.false)

pub returns-clause-crash : goal.returns-clause-crash
returns-clause-crash g c told synced =
    let old = g.D.Disk.file c.args.log.now in
    let mid = g.D.Disk.file c.write_at.new.self in
    let told_mid = c.write_at.ensures.tells ∙ told in
    header_then_synced c.sync_log.result c.args.header.now c.args.is_begun old mid (g.D.Disk.file c.sync_log.new.log)
    (subst (λ (bytes : List ℕ). Writes 0 bytes old mid) c.write.ensures.bytes (c.in_ok-write_at.ensures.done told)) (c.sync_log.ensures.done told_mid) (c.sync_log.ensures.failed told_mid) c.if-is_begun.false synced (c.requires told c.if-is_begun.false)

pub returns-then-is_begun-clause-left : goal.returns-then-is_begun-clause-left
returns-then-is_begun-clause-left g c told synced = as_it_was (g.D.Disk.file c.args.log.now) (g.D.Disk.file c.args.log.now) refl synced

pub returns-in_err-write_at-clause-left : goal.returns-in_err-write_at-clause-left
returns-in_err-write_at-clause-left g c told synced = failed_write_left (g.D.Disk.file c.args.log.now) (g.D.Disk.file c.write_at.new.self) 0 _ (c.in_err-write_at.ensures.failed told) synced

pub returns-clause-left : goal.returns-clause-left
returns-clause-left g c told synced =
    let told_mid = c.write_at.ensures.tells ∙ told in
    write_then_left c.sync_log.result (g.D.Disk.file c.args.log.now) (g.D.Disk.file c.write_at.new.self) (g.D.Disk.file c.sync_log.new.log) 0 _
    (c.in_ok-write_at.ensures.done told) (c.sync_log.ensures.done told_mid) (c.sync_log.ensures.failed told_mid)
