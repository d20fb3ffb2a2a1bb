-- the best of those from this place on
use Rattle.std.proofs.Common.{◌≡◌, ◌≤◌, drop, length, map}
use Rattle.query_terms.specs.Rows.{best_of, datum, held}
use Rattle.query_terms.proofs.totals.best.Given as goal

abbrev pub invariant-values : goal.invariant-values
invariant-values l =
    (held l.best ≡ best_of l.is_max l.collation (map datum (drop l.index l.values)))
    × (l.index ≤ length l.values)

abbrev pub decreases-values : goal.decreases-values
decreases-values l = l.index
