use Rattle.std.proofs.Common.{◌∙◌, ◌+◌, ◌*◌, ◌≤◌, ℕ, ap, sym, subst, refl, arith, length}
use Rattle.std.specs.Prelude.{IsTrue, ◌==◌}
use Rattle.std.proofs.Math.Nat.{mul-le-mul_right}
use Rattle.std.proofs.lemmas.Bool.{eqb-true}
use Rattle.disk.proofs.Current.{current_left, synced_current}
use Rattle.disk.proofs.Moments.{syncs_synced}
use Rattle.wal.specs.Copies.{CopiesMeanwhile, HasCopied, frames_seen}
use Rattle.wal.specs.Copying.{CopiesTo, copied_len}
use Rattle.wal.specs.LogState.{state_in}
use Rattle.wal.proofs.Fetched.{size_low}
use Rattle.wal.proofs.LeftOut.{cut_has, left_whole}
use Rattle.wal.proofs.Results.{at_ok_or_err, on_ok_from}
use Rattle.wal.proofs.Shown.{all_size, cut_is_current, cut_reached, has_copied, kept_begin, kept_cut, kept_over, kept_uncut, length_copied, shown_kept, shown_synced, uncut_left}
use Rattle.wal.proofs.state.State.copy_frames.Goals as goal

pub returns-in_err-cut_file-clause-crash : goal.returns-in_err-cut_file-clause-crash
returns-in_err-cut_file-clause-crash g c told told_log synced =
    let s = c.args.self.now in
    let known = state_in s in
    let log = (g.D.Disk.file c.args.log.now).content in
    let old = g.D.Disk.file c.args.db.now in
    let mid = g.D.Disk.file c.cut_file.new.db in
    let end = c.copied_size-size.result * s.page_size in
    let is_all = c.args.target.mark == s.mark in
    let frames = frames_seen known c.args.target log in
    let now = synced_current old synced in
    let failed = c.in_err-cut_file.ensures.failed told in
    shown_kept known c.args.target log old c.requires.seen.1 mid
    (kept_uncut s.page_size s.size frames old is_all end old mid (omega (arith, size_low s.page_size s.size_is))
    (λ all. ap (λ (n : ℕ). n * s.page_size) (c.copied_size-size.ensures.is ∙ all_size known c.args.target (eqb-true c.args.target.mark s.mark all)))
    (kept_begin s.page_size s.size frames old synced) now failed)
    (uncut_left is_all end old mid now failed)

pub copy_pages-requires-clause-there : goal.copy_pages-requires-clause-there
copy_pages-requires-clause-there g c told_now number low high left =
    let s = c.args.self.now in
    let told = sym c.cut_file.ensures.touches.tells_same ∙ told_now in
    let within : number * s.page_size ≤ c.copied_size-size.result * s.page_size = mul-le-mul_right s.page_size high in
    let there = left_whole s c.args.target.mark number (c.requires.there number low (omega (arith, high, c.copied_size-size.ensures.is))) left in
    cut_reached (c.args.target.mark == s.mark) (c.copied_size-size.result * s.page_size) (number * s.page_size) (g.D.Disk.file c.args.db.now) (g.D.Disk.file c.cut_file.new.db) (c.in_ok-cut_file.ensures.cut told)
    (omega (arith, there, c.requires.long told)) within

pub copy_pages-requires-clause-copied : goal.copy_pages-requires-clause-copied
copy_pages-requires-clause-copied g c told_now told_log number low high most k newest =
    let s = c.args.self.now in
    let told : IsTrue (g.D.Disk.tells c.args.db.now) = sym c.cut_file.ensures.touches.tells_same ∙ told_now in
    let within : number * s.page_size ≤ c.copied_size-size.result * s.page_size = mul-le-mul_right s.page_size high in
    cut_has (c.args.target.mark == s.mark) (c.copied_size-size.result * s.page_size) s.page_size number (g.D.Disk.file c.args.db.now) (g.D.Disk.file c.cut_file.new.db) _ (c.in_ok-cut_file.ensures.cut told) low within
    (c.requires.copied told told_log number low most most k newest)

pub returns-in_err-copy_pages-clause-crash : goal.returns-in_err-copy_pages-clause-crash
returns-in_err-copy_pages-clause-crash g c told told_log synced =
    let s = c.args.self.now in
    let known = state_in s in
    let log = (g.D.Disk.file c.args.log.now).content in
    let old = g.D.Disk.file c.args.db.now in
    let mid = g.D.Disk.file c.cut_file.new.db in
    let new = g.D.Disk.file c.copy_pages.new.db in
    let end = c.copied_size-size.result * s.page_size in
    let is_all = c.args.target.mark == s.mark in
    let frames = frames_seen known c.args.target log in
    let now = synced_current old synced in
    let told_mid = c.cut_file.ensures.touches.tells_same ∙ told in
    let cuts = c.in_ok-cut_file.ensures.cut told in
    let now_mid = cut_is_current is_all end old mid now cuts in
    let kept = kept_cut s.page_size s.size frames old is_all end old mid (omega (arith, size_low s.page_size s.size_is))
    (λ all. ap (λ (n : ℕ). n * s.page_size) (c.copied_size-size.ensures.is ∙ all_size known c.args.target (eqb-true c.args.target.mark s.mark all)))
    (kept_begin s.page_size s.size frames old synced) now cuts in
    shown_kept known c.args.target log old c.requires.seen.1 new
    (kept_over s.page_size s.size frames old (IsTrue (g.D.Disk.tells c.args.log.now)) mid new told_log kept now_mid (c.copy_pages.ensures.crash told_mid))
    (c.in_err-copy_pages.ensures.left told_mid now_mid)

pub returns-clause-done : goal.returns-clause-done
returns-clause-done g c told told_log =
    let s = c.args.self.now in
    let known = state_in s in
    let Told = IsTrue (g.D.Disk.tells c.args.log.now) in
    let log = (g.D.Disk.file c.args.log.now).content in
    let old = g.D.Disk.file c.args.db.now in
    let mid = g.D.Disk.file c.cut_file.new.db in
    let new = g.D.Disk.file c.copy_pages.new.db in
    let told_mid = c.cut_file.ensures.touches.tells_same ∙ told in
    let told_new = c.copy_pages.ensures.kept.0 ∙ told_mid in
    let frames = frames_seen known c.args.target log in
    let copies = subst (λ (n : ℕ). CopiesTo Told s.page_size frames n (n + 1) mid.content new.content) c.copied_size-size.ensures.is (c.in_ok-copy_pages.ensures.copied told_mid) in
    let all = has_copied known c.args.target log (c.args.target.mark == s.mark) refl (c.copied_size-size.result * s.page_size) (ap (λ (n : ℕ). n * s.page_size) c.copied_size-size.ensures.is) old mid new (c.in_ok-cut_file.ensures.cut told) Told copies told_log in
    on_ok_from c.sync_db.result _ _ (λ syncs. subst (HasCopied known c.args.target log old.content) (sym syncs.content) all) (c.sync_db.ensures.done told_new)

pub returns-clause-synced : goal.returns-clause-synced
returns-clause-synced g c told =
    let s = c.args.self.now in
    let known = state_in s in
    let Told = IsTrue (g.D.Disk.tells c.args.log.now) in
    let log = (g.D.Disk.file c.args.log.now).content in
    let old = g.D.Disk.file c.args.db.now in
    let mid = g.D.Disk.file c.cut_file.new.db in
    let new = g.D.Disk.file c.copy_pages.new.db in
    let told_mid = c.cut_file.ensures.touches.tells_same ∙ told in
    let told_new = c.copy_pages.ensures.kept.0 ∙ told_mid in
    let frames = frames_seen known c.args.target log in
    let copies = subst (λ (n : ℕ). CopiesTo Told s.page_size frames n (n + 1) mid.content new.content) c.copied_size-size.ensures.is (c.in_ok-copy_pages.ensures.copied told_mid) in
    let long = length_copied known c.args.target log (c.args.target.mark == s.mark) refl (c.copied_size-size.result * s.page_size) (ap (λ (n : ℕ). n * s.page_size) c.copied_size-size.ensures.is) old mid new (c.in_ok-cut_file.ensures.cut told) Told copies in
    on_ok_from c.sync_db.result _ _
    (λ syncs. (syncs_synced new (g.D.Disk.file c.sync_db.new.db) syncs, ap length syncs.content ∙ long ∙ ap (copied_len known c.args.target) (sym (c.requires.long told))))
    (c.sync_db.ensures.done told_new)

pub returns-clause-crash : goal.returns-clause-crash
returns-clause-crash g c told told_log synced =
    let s = c.args.self.now in
    let known = state_in s in
    let log = (g.D.Disk.file c.args.log.now).content in
    let old = g.D.Disk.file c.args.db.now in
    let mid = g.D.Disk.file c.cut_file.new.db in
    let new = g.D.Disk.file c.copy_pages.new.db in
    let end = c.copied_size-size.result * s.page_size in
    let is_all = c.args.target.mark == s.mark in
    let frames = frames_seen known c.args.target log in
    let now = synced_current old synced in
    let told_mid = c.cut_file.ensures.touches.tells_same ∙ told in
    let told_new = c.copy_pages.ensures.kept.0 ∙ told_mid in
    let cuts = c.in_ok-cut_file.ensures.cut told in
    let now_mid = cut_is_current is_all end old mid now cuts in
    let kept = kept_cut s.page_size s.size frames old is_all end old mid (omega (arith, size_low s.page_size s.size_is))
    (λ all. ap (λ (n : ℕ). n * s.page_size) (c.copied_size-size.ensures.is ∙ all_size known c.args.target (eqb-true c.args.target.mark s.mark all)))
    (kept_begin s.page_size s.size frames old synced) now cuts in
    let kept_new = kept_over s.page_size s.size frames old (IsTrue (g.D.Disk.tells c.args.log.now)) mid new told_log kept now_mid (c.copy_pages.ensures.crash told_mid) in
    let now_new = c.in_ok-copy_pages.ensures.left told_mid now_mid in
    at_ok_or_err c.sync_db.result _ _ (CopiesMeanwhile known c.args.target log old (g.D.Disk.file c.sync_db.new.db))
    (λ syncs. shown_synced known c.args.target log old c.requires.seen.1 new (g.D.Disk.file c.sync_db.new.db) kept_new now_new syncs)
    (λ failed. subst (CopiesMeanwhile known c.args.target log old) (sym failed) (shown_kept known c.args.target log old c.requires.seen.1 new kept_new (current_left new now_new)))
    (c.sync_db.ensures.done told_new) (c.sync_db.ensures.failed told_new)
