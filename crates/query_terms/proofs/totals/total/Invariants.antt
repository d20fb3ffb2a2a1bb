-- what is left is added still; each number has 64 bits
use Rattle.std.proofs.Common.{◌≡◌, ◌*◌, ◌^◌, ◌≤◌, drop, map}
use Rattle.std.specs.Prelude.{◌+ℤ◌}
use Rattle.std.specs.Int.RustNames.{unsigned_abs}
use Rattle.query_terms.specs.Rows.{datum}
use Rattle.query_terms.specs.Values.{total}
use Rattle.query_terms.proofs.totals.total.Given as goal

abbrev pub invariant-values : goal.invariant-values
invariant-values l =
    (l.total +ℤ total (map datum (drop l.index l.values)) ≡ total (map datum l.values))
    × (unsigned_abs l.total ≤ l.index * 2 ^ 63)
