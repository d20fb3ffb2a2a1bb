-- What is left decides; and where no row has other values in the indexed columns, the pages are as they were.
use Rattle.std.proofs.Common.{◌≡◌, List, length, map}
use Rattle.index_entries.specs.Entries.{Row}
use Rattle.index_entries.specs.Keeping.{columns_in, row_in}
use Rattle.index_entries.specs.Replacing.{HaveSameKeys, ReplacesEntries}
use Rattle.index_entries.proofs.Looping.{IsOn}
use Rattle.index_entries.proofs.replacements.replace_entries.Given as goal

abbrev pub invariant-rows : goal.invariant-rows
invariant-rows g l = (IsOn g.P.Pages.below g.P.Pages.tells g.P.Pages.limits g.P.Pages.map g.P.Pages.failures
    (λ old new size (both : List Row × List Row) result. ReplacesEntries old new size l.root (columns_in l.columns) both.0 both.1 result)
    l.fn.pages l.pages (map row_in l.gone, map row_in l.come) (map row_in l.left, map row_in l.next))
    × (HaveSameKeys (columns_in l.columns) (map row_in l.gone) (map row_in l.come)
    → (l.pages ≡ l.fn.pages) × HaveSameKeys (columns_in l.columns) (map row_in l.left) (map row_in l.next))

abbrev pub decreases-rows : goal.decreases-rows
decreases-rows g l = length l.left
