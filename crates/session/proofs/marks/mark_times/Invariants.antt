-- so many marks are set
use Rattle.std.proofs.Common.{◌≡◌, ◌++◌}
use Rattle.std.specs.Prelude.{replicate}
use Rattle.pager.specs.Marks.{IsOverTheSame, marks_of, now_of}
use Rattle.session.proofs.marks.mark_times.Given as goal

abbrev pub invariant-marks : goal.invariant-marks
invariant-marks l =
    (marks_of l.writer ≡ marks_of l.fn.writer ++ replicate l.counter (now_of l.fn.writer)) × (now_of l.writer ≡ now_of l.fn.writer) × IsOverTheSame l.fn.writer l.writer
