-- the rowids so far, and those that come
use Rattle.std.proofs.Common.{length, ◌-◌, ◌^◌}
use Rattle.std.specs.Prelude.{option_map}
use Rattle.row_search.proofs.Batches.{HasAdded}
use Rattle.row_search.proofs.entries.add_sought.Given as goal

abbrev pub invariant-batches : goal.invariant-batches
invariant-batches g l =
    HasAdded g.P.Pages.below g.P.Pages.tells g.P.Pages.limits g.P.Pages.map g.P.Pages.count g.P.Pages.failures l.fn.pages l.pages l.fn.root l.cursor.root l.fn.key.columns.now l.fn.key.values.now (option_map (λ r. r.now) l.fn.range) l.cursor.ended l.cursor.after
    l.cursor.key.items l.fn.rowids.items l.rowids.items

abbrev pub decreases-batches : goal.decreases-batches
decreases-batches g l = 2 ^ 63 - length l.rowids.items
