use Rattle.std.proofs.Common.{subst, arith}
use Rattle.pager.specs.Views.{changes_of}
use Rattle.pager.specs.Writers.{IsGapFor}
use Rattle.pager.proofs.PageWrites.{no_first_gap, no_gap_past}
use Rattle.pager.proofs.writer.Writer.write.Goals as goal
use Rattle.pager.proofs.writer.Writer.write.Goals.{then-index-eq0-via-then-index-eq0, then-index-eq0-via-else-index-eq0+then-number-shown}

pub returns-then-index-eq0-clause-there : goal.returns-then-index-eq0-clause-there
returns-then-index-eq0-clause-there c sound low last long = elim c.then-index-eq0.branch [
  | then-index-eq0-via-then-index-eq0 w ↦ absurd (no_first_gap c.args.self.now c.args.number sound.consistent low
      (subst (IsGapFor (changes_of c.args.self.now) c.args.number) w.if-index-eq0.true c.in-Err.ensures.gap))
  | then-index-eq0-via-else-index-eq0+then-number-shown w ↦ absurd (no_gap_past c.args.self.now c.args.number c.in-Err.index sound (omega (arith, w.if-number-shown.true, c.requires)) last c.in-Err.ensures.gap)
]
