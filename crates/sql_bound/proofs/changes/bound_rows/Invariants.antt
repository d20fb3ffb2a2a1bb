-- each row so far is copied
use Rattle.std.proofs.Common.{◌≡◌, map, take}
use Rattle.sql_bound.specs.Bound.{bound_tree}
use Rattle.sql_bound.proofs.changes.bound_rows.Given as goal

abbrev pub invariant-rows : goal.invariant-rows
invariant-rows l = l.copies.items ≡ map (map (bound_tree l.values)) (take l.row-index l.rows)
