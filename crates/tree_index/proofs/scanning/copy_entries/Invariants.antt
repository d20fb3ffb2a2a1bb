use Rattle.std.proofs.Common.{map}
use Rattle.tree_index.proofs.Batches.{HasCopied}
use Rattle.tree_index.proofs.scanning.copy_entries.Given as goal

abbrev pub invariant-entries : goal.invariant-entries
invariant-entries g l = HasCopied g.P.Pages.below g.P.Pages.tells g.P.Pages.limits g.P.Pages.map g.P.Pages.count g.P.Pages.failures l.fn.pages l.pages l.number l.place l.count l.at
    (map (λ bytes. bytes.items) l.fn.batch.items) (map (λ bytes. bytes.items) l.batch.items)
