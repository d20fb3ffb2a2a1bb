use Rattle.std.proofs.Common.{◌∙◌, ℕ, List, length, ap, sym, subst}
use Rattle.std.specs.Prelude.{IsTrue}
use Rattle.wal.specs.Stands.{LogStands}
use Rattle.wal.proofs.Standing.{copied_cut, copies_cut}
use Rattle.wal.proofs.Staling.{cut_clean}
use Rattle.wal.proofs.Cutting.{stands_cut, cut_end, cut_crash, was_cut}
use Rattle.wal.proofs.log.Log.cut_tail.Goals as goal

pub returns-in_err-truncate_tail-clause-crash : goal.returns-in_err-truncate_tail-clause-crash
returns-in_err-truncate_tail-clause-crash g c whole told =
    let s = c.args.self.now.state in
    cut_crash s.header s.is_begun s.mark c.end-end.result s.page_size s.sum s.index (g.D.Disk.file c.args.self.now.log) (g.D.Disk.file c.truncate_tail.new.log) (c.args.self.now.log_there c.if-self.false told) s.same_size c.end-end.ensures
    (c.truncate_tail.ensures.crash told (c.args.self.now.log_synced c.if-self.false told))

pub invariant_of-self-4 : goal.invariant_of-self-4
invariant_of-self-4 g c =
    let s = c.args.self.now.state in
    let log = (g.D.Disk.file c.args.self.now.log).content in
    let before = λ (told_now : IsTrue (g.D.Disk.tells c.truncate_tail.new.log)). (let told : IsTrue (g.D.Disk.tells c.args.self.now.log) = sym c.truncate_tail.ensures.touches.tells_same ∙ told_now in told) in
    record {
      db_there = λ ok told. c.args.self.now.db_there c.if-self.false told;
      db_copied = λ ok told told_now. copied_cut s c.end-end.result (g.D.Disk.file c.args.self.now.db).content log (g.D.Disk.file c.truncate_tail.new.log).content
          (c.args.self.now.log_there c.if-self.false (before told_now)) c.end-end.ensures (c.in_ok-truncate_tail.ensures.cut (before told_now)) (c.args.self.now.db_copied c.if-self.false told (before told_now));
      db_pages = λ ok told told_now. copies_cut s c.end-end.result (g.D.Disk.file c.args.self.now.db).content log (g.D.Disk.file c.truncate_tail.new.log).content
          (c.args.self.now.log_there c.if-self.false (before told_now)) c.end-end.ensures (c.in_ok-truncate_tail.ensures.cut (before told_now)) (c.args.self.now.db_pages c.if-self.false told (before told_now));
      log_clean = λ ok told_now clean. cut_clean s.header s.is_begun s.mark (g.D.Disk.file c.truncate_tail.new.log).content
          (ap (λ (l : List ℕ). length l) (c.in_ok-truncate_tail.ensures.cut (before told_now)) ∙ cut_end s.header s.is_begun s.mark c.end-end.result s.sum s.index log (c.args.self.now.log_there c.if-self.false (before told_now)) c.end-end.ensures);
      log_synced = λ ok told_now. c.in_ok-truncate_tail.ensures.synced (before told_now) (c.args.self.now.log_synced c.if-self.false (before told_now));
      log_there = λ ok told_now. subst (λ (l : List ℕ). LogStands s.header s.is_begun s.mark s.sum s.index l) (sym (c.in_ok-truncate_tail.ensures.cut (before told_now)))
          (stands_cut s.header s.is_begun s.mark c.end-end.result s.sum s.index log (c.args.self.now.log_there c.if-self.false (before told_now)) s.indexed c.end-end.ensures);
    }

pub returns-clause-crash : goal.returns-clause-crash
returns-clause-crash g c whole told =
    let s = c.args.self.now.state in
    cut_crash s.header s.is_begun s.mark c.end-end.result s.page_size s.sum s.index (g.D.Disk.file c.args.self.now.log) (g.D.Disk.file c.truncate_tail.new.log) (c.args.self.now.log_there c.if-self.false told) s.same_size c.end-end.ensures
    (c.truncate_tail.ensures.crash told (c.args.self.now.log_synced c.if-self.false told))

pub returns-clause-done : goal.returns-clause-done
returns-clause-done g c told =
    let s = c.args.self.now.state in
    was_cut s c.end-end.result (g.D.Disk.file c.args.self.now.log) (g.D.Disk.file c.truncate_tail.new.log) (c.args.self.now.log_there c.if-self.false told) c.end-end.ensures (c.in_ok-truncate_tail.ensures.cut told)
    (c.in_ok-truncate_tail.ensures.synced told (c.args.self.now.log_synced c.if-self.false told))
