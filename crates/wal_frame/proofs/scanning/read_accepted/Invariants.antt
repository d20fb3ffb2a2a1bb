use Rattle.sqlval.specs.PageSizes.{IsPageSize}
use Rattle.std.proofs.Common.{◌≡◌, ◌+◌, ◌-◌, ◌≤◌, length}
use Rattle.std.specs.Prelude.{IsTrue}
use Rattle.wal_frame.specs.Accepted.{KeepsFile}
use Rattle.wal_frame.specs.Progress.{IsMeasured, IsRead}
use Rattle.wal_frame.proofs.scanning.read_accepted.Given as goal

abbrev pub invariant-frames : goal.invariant-frames
invariant-frames g l = record {
  kept : KeepsFile g.D.Disk.tells g.D.Disk.file l.fn.disk l.disk;
  counts : g.D.Disk.failures l.disk ≡ g.D.Disk.failures l.fn.disk;
  size : l.size ≡ 24 + l.header.page_size;
  page : IsPageSize l.header.page_size;
  frame : length l.frame.items ≡ l.size;
  inside : l.so_far.at ≤ l.len;
  measured : IsMeasured l.header l.so_far;
  read : IsTrue (g.D.Disk.tells l.fn.disk) → IsRead l.header (g.D.Disk.file l.fn.disk).content l.so_far;
}

abbrev pub decreases-frames : goal.decreases-frames
decreases-frames g l = l.len - l.so_far.at
