use Rattle.std.proofs.Common.{◌∙◌, ℕ, subst}
use Rattle.disk.specs.Calls.{overwritten}
use Rattle.disk.specs.File.{Always}
use Rattle.wal.specs.Crashes.{AreEither}
use Rattle.wal.proofs.Halting.{after_trim, after_header, after_append}
use Rattle.wal.proofs.committing.write_out.Goals as goal

pub returns-in_err-truncate_tail-clause-crash : goal.returns-in_err-truncate_tail-clause-crash
returns-in_err-truncate_tail-clause-crash g c told synced =
    after_trim c.args.header c.args.is_begun c.args.is_clean c.args.end c.args.bytes.now (g.D.Disk.file c.args.log.now) (g.D.Disk.file c.truncate_tail.new.log) (c.truncate_tail.ensures.crash told synced)

pub returns-in_err-give_header-clause-crash : goal.returns-in_err-give_header-clause-crash
returns-in_err-give_header-clause-crash g c told synced =
    let told_cut = c.truncate_tail.ensures.touches.tells_same ∙ told in
    after_header c.args.header c.args.is_begun c.args.is_clean c.args.end c.args.bytes.now (g.D.Disk.file c.args.log.now) (g.D.Disk.file c.truncate_tail.new.log) (g.D.Disk.file c.give_header.new.log)
    (c.truncate_tail.ensures.crash told synced) (c.in_ok-truncate_tail.ensures.cut told) (c.give_header.ensures.crash told_cut (c.in_ok-truncate_tail.ensures.synced told synced))

pub returns-in_err-truncate_tail-clause-left : goal.returns-in_err-truncate_tail-clause-left
returns-in_err-truncate_tail-clause-left g c told synced = c.truncate_tail.ensures.left told synced

pub returns-in_err-give_header-clause-left : goal.returns-in_err-give_header-clause-left
returns-in_err-give_header-clause-left g c told synced = c.give_header.ensures.left (c.truncate_tail.ensures.touches.tells_same ∙ told) (c.in_ok-truncate_tail.ensures.synced told synced)

pub returns-clause-crash : goal.returns-clause-crash
returns-clause-crash g c told synced =
    let told_cut = c.truncate_tail.ensures.touches.tells_same ∙ told in
    let told_given = c.give_header.ensures.touches.tells_same ∙ told_cut in
    let synced_cut = c.in_ok-truncate_tail.ensures.synced told synced in
    let given = g.D.Disk.file c.give_header.new.log in
    let new = g.D.Disk.file c.write_frames.new.log in
    after_append c.args.header c.args.is_begun c.args.is_clean c.args.end c.args.bytes.now (g.D.Disk.file c.args.log.now) (g.D.Disk.file c.truncate_tail.new.log) given new
    (c.truncate_tail.ensures.crash told synced) (c.in_ok-truncate_tail.ensures.cut told) (c.give_header.ensures.crash told_cut synced_cut) (c.in_ok-give_header.ensures.given told_cut)
    (subst (λ (n : ℕ). Always given new (AreEither given.content (overwritten n c.args.bytes.now given.content))) c.place_of.ensures
    (c.write_frames.ensures.crash told_given (c.in_ok-give_header.ensures.synced told_cut synced_cut)))
