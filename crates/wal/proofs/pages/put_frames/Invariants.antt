use Rattle.std.proofs.Common.{◌≡◌, ◌++◌, ◌<◌, ◌≤◌, length}
use Rattle.wal_frame.specs.Written.{written, sum_after, SaltsFit}
use Rattle.wal.specs.Pages.{framed}
use Rattle.wal.proofs.pages.put_frames.Given as goal

abbrev pub invariant-pages : goal.invariant-pages
invariant-pages l = record {
  bytes : l.bytes.items ++ written l.header l.sum (framed l.left l.size) ≡ l.fn.bytes.items ++ written l.header l.fn.before (framed l.pages l.size);
  fits : length l.left < length l.pages → SaltsFit l.header.salts;
  within : length l.left ≤ length l.pages;
  sum : sum_after l.header l.sum (framed l.left l.size) ≡ sum_after l.header l.fn.before (framed l.pages l.size);
}

abbrev pub decreases-pages : goal.decreases-pages
decreases-pages l = length l.left
