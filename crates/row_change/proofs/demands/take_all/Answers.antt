use Rattle.std.proofs.Common.{◌∙◌, ◌≤◌, sym, subst}
use Rattle.row_change.proofs.Demanded.{all_taken}
use Rattle.row_change.proofs.demands.take_all.Goals as goal

pub returns : goal.returns
returns c = sym (all_taken c.args.columns.now c.args.values.now c.columns.index (subst (λ n. n ≤ c.columns.index) c.min-most.ensures c.columns-test.false)) ∙ c.columns.invariant
