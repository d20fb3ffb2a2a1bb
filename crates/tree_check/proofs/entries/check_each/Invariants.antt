use Rattle.std.proofs.Common.{◌≡◌, List, length, drop}
use Rattle.pages.specs.Counting.{start_of}
use Rattle.tree_page.specs.Node.{Local, Entries, IsNode}
use Rattle.tree_check.proofs.EntryChecks.{ChecksEntries}
use Rattle.tree_check.proofs.Going.{HasChecked}
use Rattle.tree_check.proofs.Turns.{marks_kept}
use Rattle.tree_check.proofs.entries.check_each.Given as goal

abbrev pub invariant-entries : goal.invariant-entries
invariant-entries g l =
    HasChecked g.P.Pages.below g.P.Pages.tells g.P.Pages.limits g.P.Pages.map g.P.Pages.count g.P.Pages.failures marks_kept l.fn.pages l.pages (l.fn.marks.items, l.fn.last) (l.marks.items, l.last)
    (λ map size old new result. (said : List Local) → IsNode l.bytes (start_of l.page) (Entries said) → length l.bytes ≡ size → ChecksEntries map size said l.columns old.1 new.1 old.0 new.0 result)
    (λ map size old new result. (said : List Local) → IsNode l.bytes (start_of l.page) (Entries said) → length l.bytes ≡ size → ChecksEntries map size (drop l.index said) l.columns old.1 new.1 old.0 new.0 result)
