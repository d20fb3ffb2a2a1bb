use Rattle.std.proofs.Common.{◌≡◌, ◌⊎◌, ◌∙◌, subst, refl}
use Rattle.disk.specs.File.{File}
use Rattle.disk.specs.Calls.{CutsFile, FailsToCut}
use Rattle.wal.proofs.Halting.{not_cut, cut_failed, cut_then_synced, cut_failed_left, cut_then_left}
use Rattle.wal.proofs.committing.truncate_tail.Goals as goal

pub returns-then-is_clean-clause-crash : goal.returns-then-is_clean-clause-crash
returns-then-is_clean-clause-crash g c told synced = not_cut (g.D.Disk.file c.args.log.now) (g.D.Disk.file c.args.log.now) c.args.end refl synced

pub returns-in_err-len-clause-crash : goal.returns-in_err-len-clause-crash
returns-in_err-len-clause-crash g c told synced = not_cut (g.D.Disk.file c.args.log.now) (g.D.Disk.file c.len.new.self) c.args.end (c.len.ensures.same told) synced

pub returns-then-branch-end-clause-crash : goal.returns-then-branch-end-clause-crash
returns-then-branch-end-clause-crash g c told synced = not_cut (g.D.Disk.file c.args.log.now) (g.D.Disk.file c.len.new.self) c.args.end (c.len.ensures.same told) synced

pub returns-in_err-cut-clause-crash : goal.returns-in_err-cut-clause-crash
returns-in_err-cut-clause-crash g c told synced =
    let new = g.D.Disk.file c.cut.new.self in
    cut_failed (g.D.Disk.file c.args.log.now) new c.args.end
    (subst (λ (f : File). (new ≡ f) ⊎ FailsToCut c.args.end f new) (c.len.ensures.same told) (c.in_err-cut.ensures.failed (c.len.ensures.tells ∙ told))) synced (c.requires told)

pub returns-in_err-cut-clause-left : goal.returns-in_err-cut-clause-left
returns-in_err-cut-clause-left g c told synced =
    let new = g.D.Disk.file c.cut.new.self in
    cut_failed_left (g.D.Disk.file c.args.log.now) new c.args.end (subst (λ (f : File). (new ≡ f) ⊎ FailsToCut c.args.end f new) (c.len.ensures.same told) (c.in_err-cut.ensures.failed (c.len.ensures.tells ∙ told))) synced

pub returns-clause-left : goal.returns-clause-left
returns-clause-left g c told synced =
    let told_cut = c.len.ensures.tells ∙ told in
    let told_mid = c.cut.ensures.tells ∙ told_cut in
    cut_then_left c.sync_log.result (g.D.Disk.file c.len.new.self) (g.D.Disk.file c.cut.new.self) (g.D.Disk.file c.sync_log.new.log) c.args.end (c.in_ok-cut.ensures.done told_cut) (c.sync_log.ensures.done told_mid) (c.sync_log.ensures.failed told_mid)

pub returns-clause-crash : goal.returns-clause-crash
returns-clause-crash g c told synced =
    let mid = g.D.Disk.file c.cut.new.self in
    let told_cut = c.len.ensures.tells ∙ told in
    let told_mid = c.cut.ensures.tells ∙ told_cut in
    cut_then_synced c.sync_log.result (g.D.Disk.file c.args.log.now) mid (g.D.Disk.file c.sync_log.new.log) c.args.end
    (subst (λ (f : File). CutsFile c.args.end f mid) (c.len.ensures.same told) (c.in_ok-cut.ensures.done told_cut)) (c.sync_log.ensures.done told_mid) (c.sync_log.ensures.failed told_mid) synced (c.requires told)
