use Rattle.std.proofs.Common.{◌+◌, ◌-◌, ◌≤◌, length}
use Rattle.wal_index.specs.Index.{SameFrames, KeepsRoom}
use Rattle.wal_index.proofs.index.Index.reserve.Given as goal

abbrev pub invariant-lists : goal.invariant-lists
invariant-lists l = record {
  same : SameFrames l.fn.self l.self;
  kept : KeepsRoom l.fn.self l.self;
  few : length l.fn.self.lists.items ≤ 65536 → length l.self.lists.items ≤ 65536;
}

abbrev pub decreases-lists : goal.decreases-lists
decreases-lists l = l.at + 1 - length l.self.lists.items
