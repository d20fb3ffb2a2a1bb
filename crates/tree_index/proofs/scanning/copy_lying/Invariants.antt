-- the records so far were put
use Rattle.std.proofs.Common.{◌-◌, map}
use Rattle.tree_index.proofs.Batches.{IsCopying}
use Rattle.tree_index.proofs.scanning.copy_lying.Given as goal

abbrev pub invariant-entries : goal.invariant-entries
invariant-entries l = IsCopying l.page l.most l.from l.upto l.at (map (λ bytes. bytes.items) l.fn.batch.items) (map (λ bytes. bytes.items) l.batch.items)

abbrev pub decreases-entries : goal.decreases-entries
decreases-entries l = l.upto - l.at
