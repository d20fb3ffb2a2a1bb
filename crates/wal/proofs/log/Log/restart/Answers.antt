use Rattle.std.proofs.Common.{◌≡◌, inl, ◌∙◌, true, false, ap, refl, sym, subst, arith}
use Rattle.std.specs.Prelude.{IsTrue, nat_lt, ◌==◌}
use Rattle.disk.proofs.Current.{synced_left}
use Rattle.disk.proofs.Moments.{always_weaker}
use Rattle.wal_frame.specs.declared.log_header.LogHeader.{LogHeader}
use Rattle.wal_frame.specs.Log.{header_sum}
use Rattle.wal.specs.Commits.{commits_of}
use Rattle.wal.specs.LogState.{state_in}
use Rattle.wal.specs.Restarts.{LeavesOrNone}
use Rattle.wal.specs.Stale.{IsStaleFrom}
use Rattle.wal.specs.Stands.{LogStands, kept_at}
use Rattle.wal.proofs.Crashing.{log_commits, still_commits}
use Rattle.wal.proofs.Renewing.{IsNext, anew_known, anew_leaves, anew_stale, begins_anew, copied_begun, stands_anew}
use Rattle.wal.proofs.Same.{stands_as}
use Rattle.wal.proofs.Standing.{no_copies, uncopied}
use Rattle.wal.proofs.Staling.{clean_as, clean_begun}
use Rattle.wal.proofs.log.Log.restart.Goals as goal

pub returns-then-not-is_copied-clause-crash : goal.returns-then-not-is_copied-clause-crash
returns-then-not-is_copied-clause-crash g c whole told =
    let s = c.args.self.now.state in
    let file = g.D.Disk.file c.args.self.now.log in
    let these = commits_of (state_in s) file.content in
    always_weaker file file (LeavesOrNone s.page_size these) _ (λ vs all l left. inl (all l left))
    (still_commits s.page_size these file (c.args.self.now.log_synced c.if-self.false told) (log_commits s.header s.is_begun s.mark s.page_size s.sum s.index file.content (c.args.self.now.log_there c.if-self.false told) s.same_size))

pub returns-then-not-is_copied-clause-left : goal.returns-then-not-is_copied-clause-left
returns-then-not-is_copied-clause-left g c whole told = synced_left (g.D.Disk.file c.args.self.now.log) (c.args.self.now.log_synced c.if-self.false told)

pub returns-in_err-clean_and_renew-clause-crash : goal.returns-in_err-clean_and_renew-clause-crash
returns-in_err-clean_and_renew-clause-crash g c whole told =
    let s = c.args.self.now.state in
    let old = g.D.Disk.file c.args.self.now.log in
    let new = g.D.Disk.file c.clean_and_renew.new.log in
    let next = c.next_header-header.result in
    let begun : s.is_begun ≡ true = copied_begun s.is_begun (nat_lt 0 s.mark) (s.copied == s.mark) (sym c.is_copied.ensures ∙ c.if-not-is_copied.false) in
    let is_next : IsNext s.header next = record { page_size = ap (λ (h : LogHeader). h.page_size) c.next_header-header.ensures.is; first = c.next_header-header.ensures.salts } in
    let before = c.args.self.now.log_there c.if-self.false told in
    always_weaker old new (LeavesOrNone s.page_size (commits_of (state_in s) old.content)) _
    (λ vs. anew_leaves s.header next s.is_begun s.is_clean s.mark c.end-end.result s.page_size s.sum s.index old.content vs begun before (λ clean. c.args.self.now.log_clean c.if-self.false told clean) c.end-end.ensures is_next s.same_size c.next_header-header.ensures.fits)
    (c.clean_and_renew.ensures.crash told (c.args.self.now.log_synced c.if-self.false told))

pub invariant_of-self-3 : goal.invariant_of-self-3
invariant_of-self-3 g c =
    let s = c.args.self.now.state in
    let made = c.restart.new.self in
    let is = c.restart.ensures in
    let log = (g.D.Disk.file c.args.self.now.log).content in
    let new = (g.D.Disk.file c.clean_and_renew.new.log).content in
    let next = c.next_header-header.result in
    let kept = kept_at s.is_clean c.end-end.result log in
    let begun : s.is_begun ≡ true = copied_begun s.is_begun (nat_lt 0 s.mark) (s.copied == s.mark) (sym c.is_copied.ensures ∙ c.if-not-is_copied.false) in
    let is_next : IsNext s.header next = record { page_size = ap (λ (h : LogHeader). h.page_size) c.next_header-header.ensures.is; first = c.next_header-header.ensures.salts } in
    let told_before = λ (now : IsTrue (g.D.Disk.tells c.clean_and_renew.new.log)). (let told : IsTrue (g.D.Disk.tells c.args.self.now.log) = sym c.clean_and_renew.ensures.touches.tells_same ∙ now in told) in
    let stale = λ (now : IsTrue (g.D.Disk.tells c.clean_and_renew.new.log)). anew_stale s.header next s.is_begun s.is_clean s.mark c.end-end.result s.sum s.index log begun (c.args.self.now.log_there c.if-self.false (told_before now))
    (λ clean. c.args.self.now.log_clean c.if-self.false (told_before now) clean) c.end-end.ensures is_next in
    let written = λ (now : IsTrue (g.D.Disk.tells c.clean_and_renew.new.log)). c.in_ok-clean_and_renew.ensures.written (told_before now) in
    record {
      db_there = λ ok told. omega (arith, is.db_len, c.args.self.now.db_there c.if-self.false told);
      db_copied = λ ok told now. uncopied made (g.D.Disk.file c.args.self.now.db).content new (λ some all. omega (arith, some, is.mark));
      db_pages = λ ok told now. no_copies made (g.D.Disk.file c.args.self.now.db).content new is.copied_pages;
      log_clean = λ ok now clean. clean_as next made.header true made.is_begun 0 made.mark new is.header_is is.is_begun is.mark (clean_begun next 0 new (subst (IsStaleFrom next 0) (sym (written now)) (stale now)));
      log_synced = λ ok now. c.in_ok-clean_and_renew.ensures.synced (told_before now) (c.args.self.now.log_synced c.if-self.false (told_before now));
      log_there = λ ok now. stands_as next made.header true made.is_begun 0 made.mark (header_sum next) made.sum made.index new is.header_is is.is_begun is.mark is.sum_is
          (subst (LogStands next true 0 (header_sum next) made.index) (sym (written now)) (stands_anew next (header_sum next) made.index kept c.next_header-header.ensures.fits refl is.none (stale now)));
    }

pub returns-clause-done : goal.returns-clause-done
returns-clause-done g c told =
    let s = c.args.self.now.state in
    let log = (g.D.Disk.file c.args.self.now.log).content in
    let next = c.next_header-header.result in
    let kept = kept_at s.is_clean c.end-end.result log in
    let copied = sym c.is_copied.ensures ∙ c.if-not-is_copied.false in
    let begun : s.is_begun ≡ true = copied_begun s.is_begun (nat_lt 0 s.mark) (s.copied == s.mark) copied in
    let is_next : IsNext s.header next = record { page_size = ap (λ (h : LogHeader). h.page_size) c.next_header-header.ensures.is; first = c.next_header-header.ensures.salts } in
    let stale = anew_stale s.header next s.is_begun s.is_clean s.mark c.end-end.result s.sum s.index log begun (c.args.self.now.log_there c.if-self.false told)
    (λ clean. c.args.self.now.log_clean c.if-self.false told clean) c.end-end.ensures is_next in
    record {
      anew = λ yes. begins_anew (state_in s) next kept (g.D.Disk.file c.clean_and_renew.new.log) c.next_header-header.ensures.is c.next_header-header.ensures.fits (is_next.page_size ∙ s.same_size) stale
          (c.in_ok-clean_and_renew.ensures.written told) (c.in_ok-clean_and_renew.ensures.synced told (c.args.self.now.log_synced c.if-self.false told));
      same = λ no. absurd (let bad : true ≡ false = sym copied ∙ no in cc);
    }

pub returns-clause-known : goal.returns-clause-known
returns-clause-known g c =
    let s = c.args.self.now.state in
    let is = c.restart.ensures in
    let copied = sym c.is_copied.ensures ∙ c.if-not-is_copied.false in
    let begun : s.is_begun ≡ true = copied_begun s.is_begun (nat_lt 0 s.mark) (s.copied == s.mark) copied in
    anew_known s c.restart.new.self c.next_header-header.result begun copied is.page_size is.header_is c.next_header-header.ensures.is is.is_begun is.mark is.copied is.size (is.is_failed ∙ sym c.if-self.false)

pub returns-clause-crash : goal.returns-clause-crash
returns-clause-crash g c whole told =
    let s = c.args.self.now.state in
    let old = g.D.Disk.file c.args.self.now.log in
    let new = g.D.Disk.file c.clean_and_renew.new.log in
    let next = c.next_header-header.result in
    let begun : s.is_begun ≡ true = copied_begun s.is_begun (nat_lt 0 s.mark) (s.copied == s.mark) (sym c.is_copied.ensures ∙ c.if-not-is_copied.false) in
    let is_next : IsNext s.header next = record { page_size = ap (λ (h : LogHeader). h.page_size) c.next_header-header.ensures.is; first = c.next_header-header.ensures.salts } in
    let before = c.args.self.now.log_there c.if-self.false told in
    always_weaker old new (LeavesOrNone s.page_size (commits_of (state_in s) old.content)) _
    (λ vs. anew_leaves s.header next s.is_begun s.is_clean s.mark c.end-end.result s.page_size s.sum s.index old.content vs begun before (λ clean. c.args.self.now.log_clean c.if-self.false told clean) c.end-end.ensures is_next s.same_size c.next_header-header.ensures.fits)
    (c.clean_and_renew.ensures.crash told (c.args.self.now.log_synced c.if-self.false told))

pub returns-clause-left : goal.returns-clause-left
returns-clause-left g c whole told = c.clean_and_renew.ensures.left told (c.args.self.now.log_synced c.if-self.false told)
