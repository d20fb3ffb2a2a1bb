use Rattle.std.proofs.Common.{sym, subst, ℕ}
use Rattle.tree_page.specs.Node.{IsNode}
use Rattle.tree_index.proofs.Readings.{says_it}
use Rattle.tree_index.proofs.scanning.copy_first.Goals as goal

pub returns-in-Err-clause-copied : goal.returns-in-Err-clause-copied
returns-in-Err-clause-copied c = λ pages size bytes_are most_is node entries has within.
    (let is = says_it pages c.args.number c.args.bytes.now node has.says bytes_are in
    absurd (c.in-Err.ensures.only node (subst (λ (n : ℕ). IsNode c.args.bytes.now n node) (sym c.start_of.ensures) is)))
