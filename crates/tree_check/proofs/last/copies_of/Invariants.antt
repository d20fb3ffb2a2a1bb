use Rattle.std.proofs.Common.{◌≡◌, take}
use Rattle.tree_check.proofs.last.copies_of.Given as goal

abbrev pub invariant-values : goal.invariant-values
invariant-values l = l.copies.items ≡ take l.place l.entry
