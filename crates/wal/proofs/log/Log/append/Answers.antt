use Rattle.sqlval.specs.PageSizes.{is_size}
use Rattle.std.proofs.Common.{◌≡◌, ◌∙◌, ◌+◌, ◌++◌, ℕ, List, [], length, ap, sym, subst, arith, true, refl}
use Rattle.std.specs.Prelude.{IsTrue}
use Rattle.wal_frame.specs.Written.{Framed, written}
use Rattle.wal.specs.LogState.{LogState, state_in}
use Rattle.wal.specs.Pages.{ArePages, framed}
use Rattle.disk.specs.Calls.{overwritten}
use Rattle.wal.specs.Stale.{IsStaleFrom}
use Rattle.wal.specs.Stands.{log_front, base_at, place_at}
use Rattle.wal.specs.Commits.{Commits}
use Rattle.wal.specs.Crashes.{WritesCommit}
use Rattle.wal.proofs.Appending.{front_of, grows, commit_of, committed, wrote, commits}
use Rattle.sqlval.proofs.PageSizeLemmas.{size_is}
use Rattle.wal.proofs.CommitLemmas.{framed_fits, pages_len}
use Rattle.wal.proofs.Staling.{base_is, place_is, clean_as, clean_begun}
use Rattle.wal.proofs.Rooms.{strict_pages}
use Rattle.wal.proofs.Standing.{copied_same, copies_after, copies_same, uncopied}
use Rattle.wal.proofs.Same.{stands_as, known_same, reserved}
use Rattle.wal.proofs.CommitCrashes.{writes_commit, writes_nothing}
use Rattle.wal.proofs.log.Log.append.Goals as goal

pub invariant_of-self : goal.invariant_of-self
invariant_of-self g c =
    let old = c.args.self.now.state in
    let s = c.reserve.new.self in
    let same = c.reserve.ensures.same in
    let log = (g.D.Disk.file c.args.self.now.log).content in
    record {
      db_there = λ ok told. omega (arith, same.db_len, c.args.self.now.db_there c.requires.whole told);
      db_copied = λ ok told told_log. copied_same old s (g.D.Disk.file c.args.self.now.db).content log same (c.args.self.now.db_copied c.requires.whole told told_log);
      db_pages = λ ok told told_log. copies_same old s (g.D.Disk.file c.args.self.now.db).content log same (c.args.self.now.db_pages c.requires.whole told told_log);
      log_clean = λ ok told clean. clean_as old.header s.header old.is_begun s.is_begun old.mark s.mark log same.header same.is_begun same.mark (c.args.self.now.log_clean c.requires.whole told (sym same.is_clean ∙ clean));
      log_synced = λ ok told. c.args.self.now.log_synced c.requires.whole told;
      log_there = λ ok told. reserved old s log same (c.args.self.now.log_there c.requires.whole told);
    }

pub invariant_of-self-in-Break-branch-3 : goal.invariant_of-self-in-Break-branch-3
invariant_of-self-in-Break-branch-3 g c =
    let old = c.args.self.now.state in
    let s = c.reserve.new.self in
    let same = c.reserve.ensures.same in
    let log = (g.D.Disk.file c.args.self.now.log).content in
    record {
      db_there = λ ok told. omega (arith, same.db_len, c.args.self.now.db_there c.requires.whole told);
      db_copied = λ ok told told_log. copied_same old s (g.D.Disk.file c.args.self.now.db).content log same (c.args.self.now.db_copied c.requires.whole told told_log);
      db_pages = λ ok told told_log. copies_same old s (g.D.Disk.file c.args.self.now.db).content log same (c.args.self.now.db_pages c.requires.whole told told_log);
      log_clean = λ ok told clean. clean_as old.header s.header old.is_begun s.is_begun old.mark s.mark log same.header same.is_begun same.mark (c.args.self.now.log_clean c.requires.whole told (sym same.is_clean ∙ clean));
      log_synced = λ ok told. c.args.self.now.log_synced c.requires.whole told;
      log_there = λ ok told. reserved old s log same (c.args.self.now.log_there c.requires.whole told);
    }

pub advance-requires-clause-rising : goal.advance-requires-clause-rising
advance-requires-clause-rising g c = strict_pages 0 c.args.size c.args.self.now.state.page_size c.args.pages.now c.requires.pages

pub invariant_of-self-6 : goal.invariant_of-self-6
invariant_of-self-6 g c =
    let old = c.args.self.now.state in
    let s = c.reserve.new.self in
    let same = c.reserve.ensures.same in
    let admits = c.advance.ensures in
    let made = c.advance.new.self in
    let log = (g.D.Disk.file c.args.self.now.log).content in
    let new = (g.D.Disk.file c.write_out.new.log).content in
    let fs = framed c.args.pages.now c.args.size in
    let front_bytes = log_front s.header s.is_begun s.mark log in
    let are = subst (λ (n : ℕ). ArePages 0 c.args.size n c.args.pages.now) (sym (s.same_size ∙ same.page_size)) c.requires.pages in
    let before = λ (told : IsTrue (g.D.Disk.tells c.args.self.now.log)). reserved old s log same (c.args.self.now.log_there c.requires.whole told) in
    let front = λ (told : IsTrue (g.D.Disk.tells c.args.self.now.log)). front_of s.header s.is_begun s.mark s.sum s.index log (λ not_begun. c.write_out.ensures.fits) (before told) in
    let base = λ (told : IsTrue (g.D.Disk.tells c.args.self.now.log)). base_is s.header s.is_begun s.is_clean s.mark c.end-end.result log (before told).inside (before told).none
    (λ clean. clean_as old.header s.header old.is_begun s.is_begun old.mark s.mark log same.header same.is_begun same.mark (c.args.self.now.log_clean c.requires.whole told (sym same.is_clean ∙ clean))) c.end-end.ensures in
    let grown = λ (told : IsTrue (g.D.Disk.tells c.args.self.now.log)). grows s.header s.mark front_bytes fs (base_at s.header s.is_begun s.is_clean c.end-end.result log) new (front told).is (size_is s.header.page_size (ap is_size s.same_size ∙ s.size_is))
    (c.in_ok-bytes.ensures.fits c.requires.some) (framed_fits s.header 0 c.args.size c.args.pages.now c.ranges.size.fits are) (commit_of c.args.pages.now c.args.size s.header.page_size are c.requires.some) (base told).stale
    (wrote s.header s.is_begun s.is_clean s.mark c.end-end.result s.sum fs log new c.deref.result.now [] (written s.header s.sum fs) (front told) (base told)
    (c.in_ok-write_out.ensures.written told) (place_is s.header s.is_begun s.mark c.end-end.result (before told).none c.end-end.ensures) (c.deref.ensures.value ∙ c.in_ok-bytes.ensures.bytes) refl refl) in
    record {
      db_there = λ ok told. omega (arith, admits.db_len, same.db_len, c.args.self.now.db_there c.requires.whole told);
      db_copied = λ ok told told_log. uncopied made (g.D.Disk.file c.args.self.now.db).content new (λ some all. omega (arith, all, admits.copied, admits.mark, s.copied_few, c.requires.some));
      db_pages = λ ok told told_now.
          let told_log : IsTrue (g.D.Disk.tells c.args.self.now.log) = sym c.in_ok-write_out.ensures.touches.tells_same ∙ told_now in
          copies_after s made (g.D.Disk.file c.args.self.now.db).content log new fs admits.page_size admits.header admits.is_begun admits.copied admits.copied_pages ((grown told_log).frames_are ∙ ap (λ (l : List Framed). l ++ fs) (front told_log).frames_are)
          (copies_same old s (g.D.Disk.file c.args.self.now.db).content log same (c.args.self.now.db_pages c.requires.whole told told_log));
      log_clean = λ ok told_now clean. clean_as s.header made.header true made.is_begun (s.mark + length c.args.pages.now) made.mark new admits.header admits.is_begun admits.mark
          (clean_begun s.header (s.mark + length c.args.pages.now) new (subst (λ (n : ℕ). IsStaleFrom s.header (s.mark + n) new) (pages_len c.args.pages.now c.args.size) (grown (sym c.in_ok-write_out.ensures.touches.tells_same ∙ told_now)).stale));
      log_synced = λ ok told_now. c.in_ok-write_out.ensures.synced (sym c.in_ok-write_out.ensures.touches.tells_same ∙ told_now);
      log_there = λ ok told_now.
          let told : IsTrue (g.D.Disk.tells c.args.self.now.log) = sym c.in_ok-write_out.ensures.touches.tells_same ∙ told_now in
          stands_as s.header made.header true made.is_begun (s.mark + length c.args.pages.now) made.mark c.in_ok-bytes.sum_now made.sum made.index new
          admits.header admits.is_begun admits.mark admits.sum_is
          (committed s.header s.is_begun s.mark c.args.size s.sum c.in_ok-bytes.sum_now s.index made.index c.args.pages.now log new (before told) (front told) s.indexed (grown told) c.in_ok-bytes.ensures.sum admits.frames admits.added admits.kept);
    }

pub returns-clause-done : goal.returns-clause-done
returns-clause-done g c told =
    let old = c.args.self.now.state in
    let s = c.reserve.new.self in
    let same = c.reserve.ensures.same in
    let old_file = g.D.Disk.file c.args.self.now.log in
    let log = old_file.content in
    let new = (g.D.Disk.file c.write_out.new.log).content in
    let fs = framed c.args.pages.now c.args.size in
    let front_bytes = log_front s.header s.is_begun s.mark log in
    let are = subst (λ (n : ℕ). ArePages 0 c.args.size n c.args.pages.now) (sym (s.same_size ∙ same.page_size)) c.requires.pages in
    let before = reserved old s log same (c.args.self.now.log_there c.requires.whole told) in
    let front = front_of s.header s.is_begun s.mark s.sum s.index log (λ not_begun. c.write_out.ensures.fits) before in
    let base = base_is s.header s.is_begun s.is_clean s.mark c.end-end.result log before.inside before.none
    (λ clean. clean_as old.header s.header old.is_begun s.is_begun old.mark s.mark log same.header same.is_begun same.mark (c.args.self.now.log_clean c.requires.whole told (sym same.is_clean ∙ clean))) c.end-end.ensures in
    let place = place_is s.header s.is_begun s.mark c.end-end.result before.none c.end-end.ensures in
    let under = base_at s.header s.is_begun s.is_clean c.end-end.result log in
    let is_new = wrote s.header s.is_begun s.is_clean s.mark c.end-end.result s.sum fs log new c.deref.result.now [] (written s.header s.sum fs) front base
    (c.in_ok-write_out.ensures.written told) place (c.deref.ensures.value ∙ c.in_ok-bytes.ensures.bytes) refl refl in
    let all_fit = framed_fits s.header 0 c.args.size c.args.pages.now c.ranges.size.fits are in
    let grown = grows s.header s.mark front_bytes fs under new front.is (size_is s.header.page_size (ap is_size s.same_size ∙ s.size_is))
    (c.in_ok-bytes.ensures.fits c.requires.some) all_fit (commit_of c.args.pages.now c.args.size s.header.page_size are c.requires.some) base.stale is_new in
    subst (λ (k : LogState). Commits k fs old_file (g.D.Disk.file c.write_out.new.log)) (known_same old s same)
    (commits (state_in s) s.sum s.index fs under old_file (g.D.Disk.file c.write_out.new.log) before front base all_fit grown is_new (c.in_ok-write_out.ensures.synced told)
    (omega (arith, c.in_ok-check_limits.ensures.room, same.mark, pages_len c.args.pages.now c.args.size)))

pub returns-in_err-check_limits-clause-crash : goal.returns-in_err-check_limits-clause-crash
returns-in_err-check_limits-clause-crash g c told =
    let s = c.args.self.now.state in
    let file = g.D.Disk.file c.args.self.now.log in
    writes_nothing (state_in s) s.sum s.index (framed c.args.pages.now c.args.size) file (c.args.self.now.log_synced c.requires.whole told) (c.args.self.now.log_there c.requires.whole told) s.same_size

pub returns-in_err-reserve-clause-crash : goal.returns-in_err-reserve-clause-crash
returns-in_err-reserve-clause-crash g c told =
    let s = c.args.self.now.state in
    let file = g.D.Disk.file c.args.self.now.log in
    writes_nothing (state_in s) s.sum s.index (framed c.args.pages.now c.args.size) file (c.args.self.now.log_synced c.requires.whole told) (c.args.self.now.log_there c.requires.whole told) s.same_size

pub returns-in_err-bytes-clause-crash : goal.returns-in_err-bytes-clause-crash
returns-in_err-bytes-clause-crash g c told =
    let s = c.args.self.now.state in
    let file = g.D.Disk.file c.args.self.now.log in
    writes_nothing (state_in s) s.sum s.index (framed c.args.pages.now c.args.size) file (c.args.self.now.log_synced c.requires.whole told) (c.args.self.now.log_there c.requires.whole told) s.same_size

pub returns-in_err-write_out-clause-crash : goal.returns-in_err-write_out-clause-crash
returns-in_err-write_out-clause-crash g c told =
    let old = c.args.self.now.state in
    let s = c.reserve.new.self in
    let same = c.reserve.ensures.same in
    let old_file = g.D.Disk.file c.args.self.now.log in
    let new_file = g.D.Disk.file c.write_out.new.log in
    let log = old_file.content in
    let out = c.deref.result.now in
    let fs = framed c.args.pages.now c.args.size in
    let front_bytes = log_front s.header s.is_begun s.mark log in
    let are = subst (λ (n : ℕ). ArePages 0 c.args.size n c.args.pages.now) (sym (s.same_size ∙ same.page_size)) c.requires.pages in
    let before = reserved old s log same (c.args.self.now.log_there c.requires.whole told) in
    let front = front_of s.header s.is_begun s.mark s.sum s.index log (λ not_begun. c.write_out.ensures.fits) before in
    let is_commit = commit_of c.args.pages.now c.args.size s.header.page_size are c.requires.some in
    let is_out : out ≡ written s.header s.sum fs = c.deref.ensures.value ∙ c.in_ok-bytes.ensures.bytes in
    let base = base_is s.header s.is_begun s.is_clean s.mark c.end-end.result log before.inside before.none
    (λ clean. clean_as old.header s.header old.is_begun s.is_begun old.mark s.mark log same.header same.is_begun same.mark (c.args.self.now.log_clean c.requires.whole told (sym same.is_clean ∙ clean))) c.end-end.ensures in
    let place = place_is s.header s.is_begun s.mark c.end-end.result before.none c.end-end.ensures in
    let under = base_at s.header s.is_begun s.is_clean c.end-end.result log in
    let is_new = wrote s.header s.is_begun s.is_clean s.mark c.end-end.result s.sum fs log (overwritten (place_at s.is_begun c.end-end.result) out under) out [] (written s.header s.sum fs) front base
    refl place (c.deref.ensures.value ∙ c.in_ok-bytes.ensures.bytes) refl refl in
    let grown = grows s.header s.mark front_bytes fs under (overwritten (place_at s.is_begun c.end-end.result) out under) front.is (size_is s.header.page_size (ap is_size s.same_size ∙ s.size_is))
    (c.in_ok-bytes.ensures.fits c.requires.some) (framed_fits s.header 0 c.args.size c.args.pages.now c.ranges.size.fits are) is_commit base.stale is_new in
    subst (λ (k : LogState). WritesCommit k fs old_file new_file) (known_same old s same)
    (writes_commit (state_in s) s.is_clean c.end-end.result s.sum s.index fs out old_file new_file before front base s.same_size grown is_commit c.end-end.ensures place is_out
    (c.write_out.ensures.crash told (c.args.self.now.log_synced c.requires.whole told)) (c.write_out.ensures.left told (c.args.self.now.log_synced c.requires.whole told)))

pub returns-clause-crash : goal.returns-clause-crash
returns-clause-crash g c told =
    let old = c.args.self.now.state in
    let s = c.reserve.new.self in
    let same = c.reserve.ensures.same in
    let old_file = g.D.Disk.file c.args.self.now.log in
    let new_file = g.D.Disk.file c.write_out.new.log in
    let log = old_file.content in
    let out = c.deref.result.now in
    let fs = framed c.args.pages.now c.args.size in
    let front_bytes = log_front s.header s.is_begun s.mark log in
    let are = subst (λ (n : ℕ). ArePages 0 c.args.size n c.args.pages.now) (sym (s.same_size ∙ same.page_size)) c.requires.pages in
    let before = reserved old s log same (c.args.self.now.log_there c.requires.whole told) in
    let front = front_of s.header s.is_begun s.mark s.sum s.index log (λ not_begun. c.write_out.ensures.fits) before in
    let is_commit = commit_of c.args.pages.now c.args.size s.header.page_size are c.requires.some in
    let is_out : out ≡ written s.header s.sum fs = c.deref.ensures.value ∙ c.in_ok-bytes.ensures.bytes in
    let base = base_is s.header s.is_begun s.is_clean s.mark c.end-end.result log before.inside before.none
    (λ clean. clean_as old.header s.header old.is_begun s.is_begun old.mark s.mark log same.header same.is_begun same.mark (c.args.self.now.log_clean c.requires.whole told (sym same.is_clean ∙ clean))) c.end-end.ensures in
    let place = place_is s.header s.is_begun s.mark c.end-end.result before.none c.end-end.ensures in
    let under = base_at s.header s.is_begun s.is_clean c.end-end.result log in
    let is_new = wrote s.header s.is_begun s.is_clean s.mark c.end-end.result s.sum fs log (overwritten (place_at s.is_begun c.end-end.result) out under) out [] (written s.header s.sum fs) front base
    refl place (c.deref.ensures.value ∙ c.in_ok-bytes.ensures.bytes) refl refl in
    let grown = grows s.header s.mark front_bytes fs under (overwritten (place_at s.is_begun c.end-end.result) out under) front.is (size_is s.header.page_size (ap is_size s.same_size ∙ s.size_is))
    (c.in_ok-bytes.ensures.fits c.requires.some) (framed_fits s.header 0 c.args.size c.args.pages.now c.ranges.size.fits are) is_commit base.stale is_new in
    subst (λ (k : LogState). WritesCommit k fs old_file new_file) (known_same old s same)
    (writes_commit (state_in s) s.is_clean c.end-end.result s.sum s.index fs out old_file new_file before front base s.same_size grown is_commit c.end-end.ensures place is_out
    (c.write_out.ensures.crash told (c.args.self.now.log_synced c.requires.whole told)) (c.write_out.ensures.left told (c.args.self.now.log_synced c.requires.whole told)))
