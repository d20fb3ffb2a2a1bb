use Rattle.std.proofs.Common.{◌≡◌, inl, ◌∙◌, [], false, refl, sym, subst, arith}
use Rattle.std.specs.Prelude.{IsTrue}
use Rattle.disk.proofs.Current.{synced_left}
use Rattle.disk.proofs.Moments.{always_weaker}
use Rattle.wal_frame.specs.Log.{header_sum}
use Rattle.wal.specs.Commits.{commits_of}
use Rattle.wal.specs.LogState.{state_in}
use Rattle.wal.specs.Restarts.{LeavesOrNone}
use Rattle.wal.specs.Stale.{HasCleanTail}
use Rattle.wal.specs.Stands.{LogStands}
use Rattle.wal.proofs.Crashing.{log_commits, still_commits}
use Rattle.wal.proofs.Renewing.{cut_leaves_none, stands_cut_off}
use Rattle.wal.proofs.Same.{stands_as}
use Rattle.wal.proofs.Standing.{no_copies, uncopied}
use Rattle.wal.proofs.Staling.{clean_as, cut_clean}
use Rattle.wal.proofs.log.Log.truncate.Goals as goal

pub returns-then-self-2-clause-crash : goal.returns-then-self-2-clause-crash
returns-then-self-2-clause-crash g c whole told =
    let s = c.args.self.now.state in
    let file = g.D.Disk.file c.args.self.now.log in
    let these = commits_of (state_in s) file.content in
    always_weaker file file (LeavesOrNone s.page_size these) _ (λ vs all l left. inl (all l left))
    (still_commits s.page_size these file (c.args.self.now.log_synced c.if-self.false told) (log_commits s.header s.is_begun s.mark s.page_size s.sum s.index file.content (c.args.self.now.log_there c.if-self.false told) s.same_size))

pub returns-then-self-2-clause-left : goal.returns-then-self-2-clause-left
returns-then-self-2-clause-left g c whole told = synced_left (g.D.Disk.file c.args.self.now.log) (c.args.self.now.log_synced c.if-self.false told)

pub returns-in_err-truncate_tail-clause-crash : goal.returns-in_err-truncate_tail-clause-crash
returns-in_err-truncate_tail-clause-crash g c whole told =
    let s = c.args.self.now.state in
    let old = g.D.Disk.file c.args.self.now.log in
    always_weaker old (g.D.Disk.file c.truncate_tail.new.log) (LeavesOrNone s.page_size (commits_of (state_in s) old.content)) _
    (λ vs. cut_leaves_none s.header s.is_begun s.mark s.page_size s.sum s.index old.content vs (c.args.self.now.log_there c.if-self.false told) s.same_size)
    (c.truncate_tail.ensures.crash told (c.args.self.now.log_synced c.if-self.false told))

pub invariant_of-self-3 : goal.invariant_of-self-3
invariant_of-self-3 g c =
    let made = c.restart.new.self in
    let is = c.restart.ensures in
    let new = (g.D.Disk.file c.truncate_tail.new.log).content in
    let next = c.header_after_cut-header.result in
    let told_before = λ (now : IsTrue (g.D.Disk.tells c.truncate_tail.new.log)). (let told : IsTrue (g.D.Disk.tells c.args.self.now.log) = sym c.truncate_tail.ensures.touches.tells_same ∙ now in told) in
    let none = λ (now : IsTrue (g.D.Disk.tells c.truncate_tail.new.log)). (let empty : new ≡ [] = c.in_ok-truncate_tail.ensures.cut (told_before now) in empty) in
    record {
      db_there = λ ok told. omega (arith, is.db_len, c.args.self.now.db_there c.if-self.false told);
      db_copied = λ ok told now. uncopied made (g.D.Disk.file c.args.self.now.db).content new (λ some all. omega (arith, some, is.mark));
      db_pages = λ ok told now. no_copies made (g.D.Disk.file c.args.self.now.db).content new is.copied_pages;
      log_clean = λ ok now clean. clean_as next made.header false made.is_begun 0 made.mark new is.header_is is.is_begun is.mark (subst (HasCleanTail next false 0) (sym (none now)) (cut_clean next false 0 [] refl));
      log_synced = λ ok now. c.in_ok-truncate_tail.ensures.synced (told_before now) (c.args.self.now.log_synced c.if-self.false (told_before now));
      log_there = λ ok now. stands_as next made.header false made.is_begun 0 made.mark (header_sum next) made.sum made.index new is.header_is is.is_begun is.mark is.sum_is
          (subst (LogStands next false 0 (header_sum next) made.index) (sym (none now)) (stands_cut_off next (header_sum next) made.index refl is.none));
    }

pub returns-clause-crash : goal.returns-clause-crash
returns-clause-crash g c whole told =
    let s = c.args.self.now.state in
    let old = g.D.Disk.file c.args.self.now.log in
    always_weaker old (g.D.Disk.file c.truncate_tail.new.log) (LeavesOrNone s.page_size (commits_of (state_in s) old.content)) _
    (λ vs. cut_leaves_none s.header s.is_begun s.mark s.page_size s.sum s.index old.content vs (c.args.self.now.log_there c.if-self.false told) s.same_size)
    (c.truncate_tail.ensures.crash told (c.args.self.now.log_synced c.if-self.false told))
