-- what is left decides
use Rattle.std.proofs.Common.{length, map}
use Rattle.query_terms.specs.Rows.{row_at}
use Rattle.catalog.specs.Rows.{as_row}
use Rattle.index_entries.specs.Keeping.{TakesEntries, columns_in}
use Rattle.index_entries.proofs.Looping.{IsOn}
use Rattle.index_entries.proofs.keeping.take_entries.Given as goal

abbrev pub invariant-batches : goal.invariant-batches
invariant-batches g l = IsOn g.P.Pages.below g.P.Pages.tells g.P.Pages.limits g.P.Pages.map g.P.Pages.failures
    (λ old new size rows result. TakesEntries old new size l.root (columns_in l.columns) rows result) l.fn.pages l.pages (map (λ place. as_row (row_at l.rows place)) l.places) (map (λ place. as_row (row_at l.rows place)) l.left)

abbrev pub decreases-batches : goal.decreases-batches
decreases-batches g l = length l.left
