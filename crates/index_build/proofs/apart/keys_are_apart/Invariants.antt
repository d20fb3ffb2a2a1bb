-- what was read last and what comes decide
use Rattle.std.proofs.Common.{map}
use Rattle.index_build.proofs.KeysApart.{HasRead}
use Rattle.index_build.proofs.apart.keys_are_apart.Given as goal

abbrev pub invariant-batches : goal.invariant-batches
invariant-batches g l =
    HasRead g.P.Pages.below g.P.Pages.tells g.P.Pages.limits g.P.Pages.map g.P.Pages.count g.P.Pages.failures l.fn.pages l.pages l.fn.root l.cursor.root l.columns l.under l.cursor.ended l.cursor.after l.cursor.key.items
    (map (λ bytes. bytes.items) l.seen.items)
