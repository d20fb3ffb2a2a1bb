use Rattle.std.proofs.Common.{length}
use Rattle.wal.specs.Pages.{ArePages}
use Rattle.wal.proofs.pages.check_pages.Given as goal

abbrev pub invariant-pages : goal.invariant-pages
invariant-pages l = (ArePages l.last l.size l.page_size l.left → ArePages 0 l.size l.page_size l.pages) × (ArePages 0 l.size l.page_size l.pages → ArePages l.last l.size l.page_size l.left)

abbrev pub decreases-pages : goal.decreases-pages
decreases-pages l = length l.left
