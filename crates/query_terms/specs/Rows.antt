-- What the code holds of values and rows, as the definitions see it.
use Rattle.std.specs.Prelude.{ℕ, Bool, true, false, not, ◌==◌, if◌then◌else◌, count_by, filter, Some, None, Ok, List, [], ◌∷◌, map, Option, unwrap_or, slice_get, option_and_then, neg_ℤ}
use Rattle.std.specs.declared.cmp.Ordering.{Ordering}
use Rattle.std.specs.Ordering.{is_lt, is_gt}
use Rattle.sqlval.specs.Conversion.{word}
use Rattle.sqlval.specs.Fields.{value_of}
use Rattle.sqlval.specs.Order.{order}
use Rattle.sqlval.specs.Refusals.{Answer, ◌then◌, all_answers}
use Rattle.sqlval.specs.declared.collation.Collation.{Collation}
use Rattle.sqlval.specs.declared.value.Field.{Field}
use Rattle.sqlval.specs.declared.value.Value.{Value}
use Rattle.sqlval.specs.declared.value.Value.TheVariants.{Null}
use Rattle.query_terms.specs.Terms.{Term, affinity, collation, collation_of_two}
use Rattle.query_terms.specs.Values.{Row, Environment, applied_to_one, best, both_hold, compare, is_null, negated, on_number, total, truth, value}
use Rattle.query_terms.specs.declared.comparing.Manner.{Manner}
use Rattle.query_terms.specs.declared.datum.Datum.{Datum}
use Rattle.query_terms.specs.declared.datum.Datum.TheVariants.{Lent, Made}
use Rattle.query_terms.specs.declared.operands.Sides.{Sides}
use Rattle.query_terms.specs.declared.operands.Single.{Single}
use Rattle.query_terms.specs.declared.operands.Single.TheVariants.{Minus, Not, Of}
use Rattle.query_terms.specs.declared.rows.Env.{Env}
use Rattle.query_terms.specs.declared.tree.Comparison.{Comparison}

-- the value of a datum
abbrev pub datum : Datum → Value
datum (Lent f) = value_of f
datum (Made v) = v

-- the values of two operands
abbrev pub pair : Sides → Value × Value
pair s = (datum s.left, datum s.right)

-- both values, or the first refusal
abbrev pub pair_of : Answer Value → Answer Value → Answer (Value × Value)
pair_of a b = a then λ v. b then λ w. Ok (v, w)

-- what is made of a value
abbrev pub made_of : Single → Value → Answer Value
made_of Minus = on_number (λ z. word (neg_ℤ z))
made_of Not = negated
made_of (Of f) = applied_to_one f

-- ---- rows

-- the row at a place; a row of NULLs past the last
abbrev pub row_at : List Row → ℕ → Row
row_at rows i = unwrap_or (slice_get rows i) (record { rowid = Null; values = [] })

-- the row of each source that is reached
abbrev pub picked_rows : List (List Row) → List ℕ → List Row
picked_rows (s ∷ ss) (i ∷ is) = row_at s i ∷ picked_rows ss is
picked_rows _ _ = []

-- a source's row, if it has one
abbrev pub row_of : List (List Row) → List ℕ → ℕ → Option Row
row_of sources picked s = option_and_then (λ rows. option_and_then (λ i. slice_get rows i) (slice_get picked s)) (slice_get sources s)

-- what the code's environment stands for
abbrev pub seen : Env → Environment
seen env = record {
  rows = picked_rows env.sources.now env.picked.now;
  group = map (picked_rows env.sources.now) env.group.now;
  keys = env.keys.now;
}

-- a term's value at each row of a group, up to the first refusal
abbrev pub at_each : Term → List (List Row) → Answer (List Value)
at_each e group = all_answers (map (λ rows. value e (record { rows = rows; group = []; keys = [] })) group)

-- ---- comparison

-- how a value stands to what another expression answers
abbrev pub compared_to : Comparison → Manner → Value → Answer Value → Answer (Option Bool)
compared_to o m v other = other then λ w. compare o m.collation m.left m.right v w then truth

-- how two expressions are compared
abbrev pub manner_of : Term → Term → Manner
manner_of a b = record { collation = collation_of_two a b; left = affinity a; right = affinity b }

-- how an expression is compared with what has neither affinity nor collation
abbrev pub alone : Term → Manner
alone a = record { collation = collation a; left = affinity a; right = None }

-- where the first side decides, the second isn't met
abbrev pub and_truth : Option Bool → Answer (Option Bool) → Answer (Option Bool)
and_truth (Some false) second = Ok (Some false)
and_truth t second = second then λ u. Ok (both_hold t u)

abbrev pub both_sides : Answer (Option Bool) → Answer (Option Bool) → Answer (Option Bool)
both_sides first second = first then λ t. and_truth t second

-- ---- aggregates

-- whether one value is before another, for the least or the greatest
abbrev pub before_of : Bool → Ordering → Bool
before_of false = is_lt
before_of true = is_gt

-- the better of a value and of the best of those after it, where NULL is none
abbrev pub better_of : Bool → Collation → Value → Value → Value
better_of m c Null w = w
better_of m c v Null = v
better_of m c v w = if before_of m (order c w v) then w else v

-- the value that is lent, or NULL
abbrev pub held : Option Field → Value
held None = Null
held (Some f) = value_of f

-- the first of those that none is before, NULLs left out
abbrev pub best_of : Bool → Collation → List Value → Value
best_of m c vs = best (before_of m) c (filter (λ v. not (is_null v)) vs)

-- NULL where all is NULL, else the sum of the integers
abbrev pub sum_of : List Value → Answer Value
sum_of vs = if count_by (λ v. not (is_null v)) vs == 0 then Ok Null else word (total vs)
