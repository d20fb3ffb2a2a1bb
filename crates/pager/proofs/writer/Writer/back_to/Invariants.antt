use Rattle.std.proofs.Common.{◌≡◌, ◌≤◌, ◌+◌, length, take}
use Rattle.pager.specs.Marks.{IsOverTheSame, marks_of}
use Rattle.pager.proofs.writer.Writer.back_to.Given as goal

abbrev pub invariant-changes : goal.invariant-changes
invariant-changes l = record {
  same : l.self.marks.items ≡ take (l.mark + 1) l.fn.self.marks.items;
  all : marks_of l.self ≡ take (l.mark + 1) (marks_of l.fn.self);
  stands : IsOverTheSame l.fn.self l.self;
  within : l.saved ≤ length l.self.saved.items;
}

abbrev pub decreases-changes : goal.decreases-changes
decreases-changes l = length l.self.saved.items
