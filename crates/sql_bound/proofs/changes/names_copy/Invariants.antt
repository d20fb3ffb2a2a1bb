-- each name so far is copied
use Rattle.std.proofs.Common.{◌≡◌, take}
use Rattle.sql_bound.proofs.changes.names_copy.Given as goal

abbrev pub invariant-names : goal.invariant-names
invariant-names l = l.copies.items ≡ take l.name-index l.names
