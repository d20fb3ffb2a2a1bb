-- what is left is counted still
use Rattle.std.proofs.Common.{◌≡◌, ◌+◌, ◌≤◌, count_by, drop, map}
use Rattle.std.specs.Prelude.{not}
use Rattle.query_terms.specs.Rows.{datum}
use Rattle.query_terms.specs.Values.{is_null}
use Rattle.query_terms.proofs.totals.count.Given as goal

abbrev pub invariant-values : goal.invariant-values
invariant-values l =
    (l.count + count_by (λ v. not (is_null v)) (map datum (drop l.index l.values)) ≡ count_by (λ v. not (is_null v)) (map datum l.values))
    × (l.count ≤ l.index)
