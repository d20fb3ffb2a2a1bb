use Rattle.std.proofs.Common.{◌∙◌, sym}
use Rattle.wal.specs.LogState.{state_in}
use Rattle.wal.specs.Pages.{framed}
use Rattle.wal.proofs.AnewCommits.{nothing_over, over_anew}
use Rattle.wal.proofs.log.Log.commit.Goals as goal

pub returns-in_err-check_pages-clause-crash : goal.returns-in_err-check_pages-clause-crash
returns-in_err-check_pages-clause-crash g c whole told =
    let s = c.args.self.now.state in
    nothing_over (state_in s) c.args.may_restart s.sum s.index (framed c.args.pages.now c.args.size) (g.D.Disk.file c.args.self.now.log) (c.args.self.now.log_synced c.if-self.false told) (c.args.self.now.log_there c.if-self.false told) s.same_size

pub returns-then-begins_anew-clause-crash : goal.returns-then-begins_anew-clause-crash
returns-then-begins_anew-clause-crash g c whole told =
    over_anew (state_in c.args.self.now.state) c.args.may_restart (framed c.args.pages.now c.args.size) (g.D.Disk.file c.args.self.now.log) (g.D.Disk.file c.commit_anew.new.self.log) (sym c.begins_anew.ensures ∙ c.if-begins_anew.true)
    (c.commit_anew.ensures.crash told)
