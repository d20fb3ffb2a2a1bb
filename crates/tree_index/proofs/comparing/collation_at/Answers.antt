use Rattle.std.proofs.Common.{refl}
use Rattle.tree_index.proofs.Comparisons.{collation_there, collation_last}
use Rattle.tree_index.proofs.comparing.collation_at.Goals as goal

pub returns-then-place-columns : goal.returns-then-place-columns
returns-then-place-columns c = collation_there c.args.columns.now c.args.place _ c.if-place-columns.true refl

pub returns : goal.returns
returns c = collation_last c.args.columns.now c.args.place c.if-place-columns.false
