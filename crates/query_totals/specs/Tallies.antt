-- What is kept of the arguments of an aggregate (Built-in Aggregate Functions).
use Rattle.std.specs.Prelude.{ℤ, pos, ◌+◌, ◌+ℤ◌, Bool, true, false, not, if◌then◌else◌, ◌==◌, List, [], ◌∷◌, length, count_by, Ok, Option, Some, None, unwrap_or}
use Rattle.sqlval.specs.Conversion.{word}
use Rattle.sqlval.specs.Order.{order}
use Rattle.sqlval.specs.Refusals.{Answer, ◌then◌}
use Rattle.sqlval.specs.declared.collation.Collation.{Collation}
use Rattle.sqlval.specs.declared.value.Value.{Value}
use Rattle.sqlval.specs.declared.value.Value.TheVariants.{Null}
use Rattle.query_terms.specs.Rows.{before_of, best_of, better_of}
use Rattle.query_terms.specs.Values.{counted, is_null, number_in, total}
use Rattle.query_terms.specs.declared.tree.Aggregate.{Aggregate}
use Rattle.query_terms.specs.declared.tree.Aggregate.TheVariants.{CountAll, Count, Sum, Min, Max}
use Rattle.query_totals.specs.declared.tally.Tally.{Tally}
use Rattle.query_totals.specs.declared.tally.Tally.TheVariants as kept

-- the sum of the integers, none where all is NULL
abbrev pub sum_so_far : List Value → Option ℤ
sum_so_far vs = if count_by (λ v. not (is_null v)) vs == 0 then None else Some (total vs)

-- what is kept of an aggregate over its arguments in the order of their rows
abbrev pub tally_of : Aggregate → Collation → List Value → Tally
tally_of CountAll c vs = kept.Rows (length vs)
tally_of Count c vs = kept.Values (count_by (λ v. not (is_null v)) vs)
tally_of Sum c vs = kept.Sum (sum_so_far vs)
tally_of Min c vs = kept.Best false c (best_of false c vs)
tally_of Max c vs = kept.Best true c (best_of true c vs)

-- whether a value is before the least or the greatest so far, where NULL is none
abbrev pub improves : Bool → Collation → Value → Value → Bool
improves is_max c Null w = false
improves is_max c v Null = true
improves is_max c v w = before_of is_max (order c v w)

-- the sum with one more value
abbrev pub sum_with : Option ℤ → Value → Option ℤ
sum_with sum Null = sum
sum_with sum v = Some (unwrap_or sum (pos 0) +ℤ number_in v)

-- what is kept with one more argument, if it isn't refused
abbrev pub tally_with : Tally → Value → Answer Tally
tally_with (kept.Rows n) v = Ok (kept.Rows (n + 1))
tally_with (kept.Values n) v = Ok (kept.Values (n + count_by (λ w. not (is_null w)) (v ∷ [])))
tally_with (kept.Sum s) v = counted Sum v then λ w. Ok (kept.Sum (sum_with s w))
tally_with (kept.Best m c b) v = Ok (kept.Best m c (better_of m c b v))

-- what the aggregate gives of which this is kept
abbrev pub given_by : Tally → Answer Value
given_by (kept.Rows n) = word (pos n)
given_by (kept.Values n) = word (pos n)
given_by (kept.Sum None) = Ok Null
given_by (kept.Sum (Some z)) = word z
given_by (kept.Best m c b) = Ok b
