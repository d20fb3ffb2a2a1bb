-- The order of rows by their keys is total.
use Rattle.std.proofs.Common.{refl, subst, ℕ, ◌+◌, Bool, true, false, cond, List, [], ◌∷◌}
use Rattle.std.specs.Prelude.{slice_get, unwrap_or}
use Rattle.std.specs.Cmp.{IsTotalOrder, back_total, on_total, then_total}
use Rattle.std.specs.Ordering.{ordering_reverse}
use Rattle.std.specs.declared.cmp.Ordering.TheVariants.{Equal}
use Rattle.sqlval.specs.Order.{order}
use Rattle.sqlval.specs.declared.collation.Collation.{Collation}
use Rattle.sqlval.specs.declared.value.Value.{Value}
use Rattle.sqlval.specs.declared.value.Value.TheVariants.{Null}
use Rattle.sqlval.proofs.Ordering as values
use Rattle.query_answer.specs.Sorting.{ordered, padded}
use Rattle.query_answer.specs.declared.sorting.SortOrder.{SortOrder}

all_tie : {X : Type 0} → IsTotalOrder {K = X} (λ x y. Equal)
all_tie = record { antisymm = λ x y. refl; trans = λ x y z p q. p; congr = λ x y z p. refl }

turned : (c : Collation) → IsTotalOrder (λ v w. ordering_reverse (order c v w))
turned c = subst IsTotalOrder (λ i v w. (values.total c).antisymm w v i) (back_total (values.total c))

by_key : (k : SortOrder) → IsTotalOrder (ordered k)
by_key k = by k.collation k.descending
  where
    by : (c : Collation) (b : Bool) → IsTotalOrder (λ v w. cond b (ordering_reverse (order c v w)) (order c v w))
    by c true = turned c
    by c false = values.total c

pub by_keys : (i : ℕ) (ks : List SortOrder) → IsTotalOrder (padded i ks)
by_keys i [] = all_tie
by_keys i (k ∷ ks) = then_total (on_total (λ (vs : List Value). unwrap_or (slice_get vs i) Null) (by_key k)) (by_keys (i + 1) ks)
