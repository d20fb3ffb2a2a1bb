use Rattle.std.proofs.Common.{◌∙◌, ap, sym, subst, arith, length, rules}
use Rattle.std.specs.Prelude.{IsTrue}
use Rattle.wal_frame.specs.declared.sums.Sum.{Sum}
use Rattle.wal_frame.specs.Written.{written, sum_after}
use Rattle.wal.specs.Anew.{CommitsAnew, WritesAnew}
use Rattle.wal.specs.LogState.{LogState, state_in}
use Rattle.wal.specs.Pages.{framed}
use Rattle.wal.specs.Refusals.{IsWithin}
use Rattle.wal.specs.Restarts.{restarted}
use Rattle.wal.proofs.AnewCommits.{anew_commit, anew_grown, anew_stands, anew_clean, commits_anew, end_within, nothing_anew, writes_anew}
use Rattle.wal.proofs.CommitLemmas.{pages_len}
use Rattle.wal.proofs.Rooms.{strict_pages}
use Rattle.wal.proofs.Standing.{copied_same, copies_same, no_copies, uncopied}
use Rattle.wal.proofs.Same.{known_same, reserved}
use Rattle.wal.proofs.Staling.{clean_as}
use Rattle.wal.proofs.log.Log.commit_anew.Goals as goal

pub returns-in_err-check_limits-clause-crash : goal.returns-in_err-check_limits-clause-crash
returns-in_err-check_limits-clause-crash g c told =
    let s = c.args.self.now.state in
    nothing_anew (state_in s) s.sum s.index (framed c.args.pages.now c.args.size) (g.D.Disk.file c.args.self.now.log) (c.args.self.now.log_synced c.requires.whole told) (c.args.self.now.log_there c.requires.whole told) s.same_size

pub invariant_of-self : goal.invariant_of-self
invariant_of-self g c =
    let old = c.args.self.now.state in
    let s = c.reserve.new.self in
    let same = c.reserve.ensures.same in
    let log = (g.D.Disk.file c.args.self.now.log).content in
    record {
      db_there = λ ok told. omega (arith, same.db_len, c.args.self.now.db_there c.requires.whole told);
      db_copied = λ ok told told_log. copied_same old s (g.D.Disk.file c.args.self.now.db).content log same (c.args.self.now.db_copied c.requires.whole told told_log);
      db_pages = λ ok told told_log. copies_same old s (g.D.Disk.file c.args.self.now.db).content log same (c.args.self.now.db_pages c.requires.whole told told_log);
      log_clean = λ ok told clean. clean_as old.header s.header old.is_begun s.is_begun old.mark s.mark log same.header same.is_begun same.mark (c.args.self.now.log_clean c.requires.whole told (sym same.is_clean ∙ clean));
      log_synced = λ ok told. c.args.self.now.log_synced c.requires.whole told;
      log_there = λ ok told. reserved old s log same (c.args.self.now.log_there c.requires.whole told);
    }

pub returns-in_err-reserve-clause-crash : goal.returns-in_err-reserve-clause-crash
returns-in_err-reserve-clause-crash g c told =
    let s = c.args.self.now.state in
    nothing_anew (state_in s) s.sum s.index (framed c.args.pages.now c.args.size) (g.D.Disk.file c.args.self.now.log) (c.args.self.now.log_synced c.requires.whole told) (c.args.self.now.log_there c.requires.whole told) s.same_size

pub invariant_of-self-in-Break-branch-3 : goal.invariant_of-self-in-Break-branch-3
invariant_of-self-in-Break-branch-3 g c =
    let old = c.args.self.now.state in
    let s = c.reserve.new.self in
    let same = c.reserve.ensures.same in
    let log = (g.D.Disk.file c.args.self.now.log).content in
    record {
      db_there = λ ok told. omega (arith, same.db_len, c.args.self.now.db_there c.requires.whole told);
      db_copied = λ ok told told_log. copied_same old s (g.D.Disk.file c.args.self.now.db).content log same (c.args.self.now.db_copied c.requires.whole told told_log);
      db_pages = λ ok told told_log. copies_same old s (g.D.Disk.file c.args.self.now.db).content log same (c.args.self.now.db_pages c.requires.whole told told_log);
      log_clean = λ ok told clean. clean_as old.header s.header old.is_begun s.is_begun old.mark s.mark log same.header same.is_begun same.mark (c.args.self.now.log_clean c.requires.whole told (sym same.is_clean ∙ clean));
      log_synced = λ ok told. c.args.self.now.log_synced c.requires.whole told;
      log_there = λ ok told. reserved old s log same (c.args.self.now.log_there c.requires.whole told);
    }

pub returns-in_err-bytes-clause-crash : goal.returns-in_err-bytes-clause-crash
returns-in_err-bytes-clause-crash g c told =
    let s = c.args.self.now.state in
    nothing_anew (state_in s) s.sum s.index (framed c.args.pages.now c.args.size) (g.D.Disk.file c.args.self.now.log) (c.args.self.now.log_synced c.requires.whole told) (c.args.self.now.log_there c.requires.whole told) s.same_size

pub write_anew-requires-clause-inside : goal.write_anew-requires-clause-inside
write_anew-requires-clause-inside g c told =
    let old = c.args.self.now.state in
    let s = c.reserve.new.self in
    let log = (g.D.Disk.file c.args.self.now.log).content in
    end_within s.header s.is_begun s.mark c.end-end.result s.sum s.index log (reserved old s log c.reserve.ensures.same (c.args.self.now.log_there c.requires.whole told)) c.end-end.ensures

pub returns-in_err-write_anew-clause-crash : goal.returns-in_err-write_anew-clause-crash
returns-in_err-write_anew-clause-crash g c told =
    let old = c.args.self.now.state in
    let s = c.reserve.new.self in
    let next = c.next_header-header.result in
    let old_file = g.D.Disk.file c.args.self.now.log in
    let new_file = g.D.Disk.file c.write_anew.new.log in
    let fs = framed c.args.pages.now c.args.size in
    let out = c.deref.result.now in
    let is = anew_commit old s next c.end-end.result c.args.size c.args.pages.now old_file.content out c.reserve.ensures.same c.requires.copied (c.args.self.now.log_there c.requires.whole told) (λ clean. c.args.self.now.log_clean c.requires.whole told clean)
    c.end-end.ensures c.next_header-header.ensures.is c.next_header-header.ensures.salts c.next_header-header.ensures.fits (c.in_ok-bytes.ensures.fits c.requires.some) c.requires.pages c.requires.some c.ranges.size.fits
    (c.deref.ensures.value ∙ c.in_ok-bytes.ensures.bytes ∙ ap (λ (m : Sum). written next m fs) c.sum-sum.ensures) in
    subst (λ (k : LogState). WritesAnew k fs old_file new_file) (known_same old s c.reserve.ensures.same)
    (writes_anew (state_in s) next s.is_clean c.end-end.result s.sum s.index fs out old_file new_file is (c.write_anew.ensures.crash told (c.args.self.now.log_synced c.requires.whole told)) (c.write_anew.ensures.left told (c.args.self.now.log_synced c.requires.whole told)))

pub returns-in_err-write_anew-clause-refused : goal.returns-in_err-write_anew-clause-refused
returns-in_err-write_anew-clause-refused g c =
    let within : IsWithin (restarted (state_in c.args.self.now.state)) (length c.args.pages.now) c.args.size = record { few = omega (arith, c.in_ok-check_limits.ensures.room); served = c.in_ok-check_limits.ensures.size } in
    search rules

pub advance-requires-clause-rising : goal.advance-requires-clause-rising
advance-requires-clause-rising g c = strict_pages 0 c.args.size c.args.self.now.state.page_size c.args.pages.now c.requires.pages

pub invariant_of-self-4 : goal.invariant_of-self-4
invariant_of-self-4 g c =
    let old = c.args.self.now.state in
    let s = c.reserve.new.self in
    let next = c.next_header-header.result in
    let old_file = g.D.Disk.file c.args.self.now.log in
    let new_file = g.D.Disk.file c.write_anew.new.log in
    let fs = framed c.args.pages.now c.args.size in
    let out = c.deref.result.now in
    let r = c.restart.new.self in
    let made = c.advance.new.self in
    let told_before = λ (now : IsTrue (g.D.Disk.tells c.write_anew.new.log)). (let told : IsTrue (g.D.Disk.tells c.args.self.now.log) = sym c.write_anew.ensures.touches.tells_same ∙ now in told) in
    let rewritten = λ (told : IsTrue (g.D.Disk.tells c.args.self.now.log)). c.in_ok-write_anew.ensures.written told (c.args.self.now.log_synced c.requires.whole told) in
    let all = λ (told : IsTrue (g.D.Disk.tells c.args.self.now.log)). anew_grown (state_in s) next s.is_clean c.end-end.result s.sum s.index old_file.content fs out r.index new_file (anew_commit old s next c.end-end.result c.args.size c.args.pages.now old_file.content out c.reserve.ensures.same c.requires.copied (c.args.self.now.log_there c.requires.whole told) (λ clean. c.args.self.now.log_clean c.requires.whole told clean)
    c.end-end.ensures c.next_header-header.ensures.is c.next_header-header.ensures.salts c.next_header-header.ensures.fits (c.in_ok-bytes.ensures.fits c.requires.some) c.requires.pages c.requires.some c.ranges.size.fits
    (c.deref.ensures.value ∙ c.in_ok-bytes.ensures.bytes ∙ ap (λ (m : Sum). written next m fs) c.sum-sum.ensures))
    c.restart.ensures.none (rewritten told) in
    let after_is = c.in_ok-bytes.ensures.sum ∙ ap (λ (m : Sum). sum_after next m fs) c.sum-sum.ensures in
    record {
      db_there = λ ok told. omega (arith, c.advance.ensures.db_len, c.restart.ensures.db_len, c.reserve.ensures.same.db_len, c.args.self.now.db_there c.requires.whole told);
      db_copied = λ ok told now. uncopied made (g.D.Disk.file c.args.self.now.db).content new_file.content (λ some all. omega (arith, all, c.advance.ensures.copied, c.advance.ensures.mark, c.restart.ensures.copied, c.requires.some));
      db_pages = λ ok told now. no_copies made (g.D.Disk.file c.args.self.now.db).content new_file.content (c.advance.ensures.copied_pages ∙ c.restart.ensures.copied_pages);
      log_clean = λ ok now clean. anew_clean next c.args.size c.in_ok-bytes.sum_now c.args.pages.now _ r made (rewritten (told_before now)).begun.content new_file.content c.restart.ensures c.advance.ensures (all (told_before now));
      log_synced = λ ok now. (rewritten (told_before now)).synced;
      log_there = λ ok now. anew_stands next c.args.size c.in_ok-bytes.sum_now c.args.pages.now _ r made (rewritten (told_before now)).begun.content new_file.content c.restart.ensures c.advance.ensures after_is (all (told_before now));
    }

pub returns-clause-done : goal.returns-clause-done
returns-clause-done g c told =
    let old = c.args.self.now.state in
    let s = c.reserve.new.self in
    let next = c.next_header-header.result in
    let old_file = g.D.Disk.file c.args.self.now.log in
    let new_file = g.D.Disk.file c.write_anew.new.log in
    let fs = framed c.args.pages.now c.args.size in
    let out = c.deref.result.now in
    let is = anew_commit old s next c.end-end.result c.args.size c.args.pages.now old_file.content out c.reserve.ensures.same c.requires.copied (c.args.self.now.log_there c.requires.whole told) (λ clean. c.args.self.now.log_clean c.requires.whole told clean)
    c.end-end.ensures c.next_header-header.ensures.is c.next_header-header.ensures.salts c.next_header-header.ensures.fits (c.in_ok-bytes.ensures.fits c.requires.some) c.requires.pages c.requires.some c.ranges.size.fits
    (c.deref.ensures.value ∙ c.in_ok-bytes.ensures.bytes ∙ ap (λ (m : Sum). written next m fs) c.sum-sum.ensures) in
    subst (λ (k : LogState). CommitsAnew k fs new_file) (known_same old s c.reserve.ensures.same)
    (commits_anew (state_in s) next s.is_clean c.end-end.result s.sum s.index old_file.content fs out c.restart.new.self.index new_file is c.restart.ensures.none
    (c.in_ok-write_anew.ensures.written told (c.args.self.now.log_synced c.requires.whole told)) (omega (arith, c.in_ok-check_limits.ensures.room, pages_len c.args.pages.now c.args.size)))

pub returns-clause-crash : goal.returns-clause-crash
returns-clause-crash g c told =
    let old = c.args.self.now.state in
    let s = c.reserve.new.self in
    let next = c.next_header-header.result in
    let old_file = g.D.Disk.file c.args.self.now.log in
    let new_file = g.D.Disk.file c.write_anew.new.log in
    let fs = framed c.args.pages.now c.args.size in
    let out = c.deref.result.now in
    let is = anew_commit old s next c.end-end.result c.args.size c.args.pages.now old_file.content out c.reserve.ensures.same c.requires.copied (c.args.self.now.log_there c.requires.whole told) (λ clean. c.args.self.now.log_clean c.requires.whole told clean)
    c.end-end.ensures c.next_header-header.ensures.is c.next_header-header.ensures.salts c.next_header-header.ensures.fits (c.in_ok-bytes.ensures.fits c.requires.some) c.requires.pages c.requires.some c.ranges.size.fits
    (c.deref.ensures.value ∙ c.in_ok-bytes.ensures.bytes ∙ ap (λ (m : Sum). written next m fs) c.sum-sum.ensures) in
    subst (λ (k : LogState). WritesAnew k fs old_file new_file) (known_same old s c.reserve.ensures.same)
    (writes_anew (state_in s) next s.is_clean c.end-end.result s.sum s.index fs out old_file new_file is (c.write_anew.ensures.crash told (c.args.self.now.log_synced c.requires.whole told)) (c.write_anew.ensures.left told (c.args.self.now.log_synced c.requires.whole told)))
