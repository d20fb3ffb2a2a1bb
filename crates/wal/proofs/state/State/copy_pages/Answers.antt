use Rattle.std.proofs.Common.{◌∙◌, ◌+◌, ap, subst, sym, arith}
use Rattle.std.specs.Prelude.{IsTrue}
use Rattle.disk.specs.File.{File}
use Rattle.wal.specs.Alone.{HasCopiedPage}
use Rattle.wal.specs.Copying.{frames_to}
use Rattle.wal.proofs.Fetched.{size_low}
use Rattle.wal.proofs.Filling.{copies_more, copies_told, current_more, fails_told, keeps_on, left_torn, overwrites_more, overwrites_torn}
use Rattle.wal.proofs.Results.{at_err}
use Rattle.wal.proofs.state.State.copy_pages.Goals as goal

pub copy_page-requires-clause-reaches : goal.copy_page-requires-clause-reaches
copy_page-requires-clause-reaches g c told =
    let inv = c.pages.invariant in
    let before = sym inv.tells ∙ told in (
      (inv.copies before).reaches,
      λ left.
          let there = c.requires.there before (c.pages.i + 1) (omega arith) (omega (arith, c.pages-test.true)) left in
          omega (arith, there, (inv.copies before).grows),
    )

pub copy_page-requires-clause-copied : goal.copy_page-requires-clause-copied
copy_page-requires-clause-copied g c told told_log =
    let inv = c.pages.invariant in
    let before : IsTrue (g.D.Disk.tells c.args.db.now) = sym inv.tells ∙ told in
    let before_log : IsTrue (g.D.Disk.tells c.args.log.now) = sym inv.log.tells_same ∙ told_log in
    let number = c.pages.i + 1 in
    let was = c.requires.copied before before_log number (omega arith) (omega (arith, c.pages-test.true)) in
    subst (λ (f : File). HasCopiedPage c.args.self.now number (g.D.Disk.file c.pages.db).content f.content) (sym (inv.log.same before_log))
    (λ within k newest. (inv.copies before).ahead number _ (omega arith) (omega arith) (was within k newest))

pub returns-in_err-copy_page-clause-crash : goal.returns-in_err-copy_page-clause-crash
returns-in_err-copy_page-clause-crash g c told =
    let s = c.args.self.now in
    let inv = c.pages.invariant in
    let Told = IsTrue (g.D.Disk.tells c.args.log.now) in
    let old = g.D.Disk.file c.args.db.now in
    let mid = g.D.Disk.file c.pages.db in
    let new = g.D.Disk.file c.copy_page.new.db in
    let frames = frames_to s c.args.mark (g.D.Disk.file c.args.log.now).content in
    let number = c.pages.i + 1 in
    let torn = fails_told Told (IsTrue (g.D.Disk.tells c.pages.log)) s.page_size frames (frames_to s c.args.mark (g.D.Disk.file c.pages.log).content) (λ is. inv.log.tells_same ∙ is)
    (λ is. ap (λ (f : File). frames_to s c.args.mark f.content) (inv.log.same is)) number mid new (c.in_err-copy_page.ensures.failed (inv.tells ∙ told)) in
    overwrites_torn Told s.page_size frames (omega (arith, size_low s.page_size s.size_is)) number (omega arith) old mid new (inv.copies told).reaches (inv.over told) (inv.keeps told) torn

pub returns-in_err-copy_page-clause-left : goal.returns-in_err-copy_page-clause-left
returns-in_err-copy_page-clause-left g c told current =
    let s = c.args.self.now in
    let inv = c.pages.invariant in
    let Other = IsTrue (g.D.Disk.tells c.pages.log) in
    let mid = g.D.Disk.file c.pages.db in
    let new = g.D.Disk.file c.copy_page.new.db in
    let frames = frames_to s c.args.mark (g.D.Disk.file c.pages.log).content in
    at_err c.from_residual.result c.in_err-copy_page.field-0.0 _ _ c.from_residual.ensures.1
    (left_torn Other s.page_size frames (omega (arith, size_low s.page_size s.size_is)) (c.pages.i + 1) (omega arith) (g.D.Disk.file c.args.db.now) mid new (inv.copies told).reaches (inv.current told current)
    (c.in_err-copy_page.ensures.failed (inv.tells ∙ told)))

pub pages-preserved : goal.pages-preserved
pages-preserved g c =
    let s = c.args.self.now in
    let inv = c.pages.invariant in
    let Told = IsTrue (g.D.Disk.tells c.args.log.now) in
    let Other = IsTrue (g.D.Disk.tells c.pages.log) in
    let old = g.D.Disk.file c.args.db.now in
    let mid = g.D.Disk.file c.pages.db in
    let new = g.D.Disk.file c.copy_page.new.db in
    let frames = frames_to s c.args.mark (g.D.Disk.file c.args.log.now).content in
    let others = frames_to s c.args.mark (g.D.Disk.file c.pages.log).content in
    let number = c.pages.i + 1 in
    let copied = λ (told : IsTrue (g.D.Disk.tells c.args.db.now)). copies_told Told Other s.page_size frames others (λ is. inv.log.tells_same ∙ is)
    (λ is. ap (λ (f : File). frames_to s c.args.mark f.content) (inv.log.same is)) number mid new (c.in_ok-copy_page.ensures.copied (inv.tells ∙ told)) in
    record {
      tells = c.copy_page.ensures.tells ∙ inv.tells;
      log = record {
        tells_same = c.copy_page.ensures.log.tells_same ∙ inv.log.tells_same;
        same = λ told. c.copy_page.ensures.log.same (inv.log.tells_same ∙ told) ∙ inv.log.same told;
      };
      db_counts = c.in_ok-copy_page.ensures.causes.none_failed.0 ∙ inv.db_counts;
      log_counts = c.in_ok-copy_page.ensures.causes.none_failed.1 ∙ inv.log_counts;
      room = omega (arith, c.copy_page.auto.page, inv.room);
      copies = λ told. copies_more Told s.page_size frames c.args.size old.content number (omega arith) (omega (arith, c.pages-test.true)) mid new (inv.copies told) (copied told);
      keeps = λ told. keeps_on Told s.page_size frames (omega (arith, size_low s.page_size s.size_is)) number (omega arith) old mid new (inv.copies told).reaches (inv.keeps told) (copied told);
      over = λ told. overwrites_more Told s.page_size frames (omega (arith, size_low s.page_size s.size_is)) number (omega arith) old mid new (inv.copies told).reaches (inv.over told) (inv.keeps told) (copied told);
      current = λ told is. current_more Told s.page_size frames (omega (arith, size_low s.page_size s.size_is)) number (omega arith) old mid new (inv.copies told).reaches (inv.current told is) (copied told);
    }
