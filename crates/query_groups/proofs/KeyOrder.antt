-- The order of keys, a missing value being NULL, is total.
use Rattle.std.proofs.Common.{◌≡◌, refl, ap, subst, arith, Bool, true, false, cond, List, [], ◌∷◌, length}
use Rattle.std.specs.Cmp.{IsTotalOrder, back_total, on_total, then_total}
use Rattle.std.specs.Ordering.{ordering_reverse, ordering_then}
use Rattle.std.specs.declared.cmp.Ordering.{Ordering}
use Rattle.std.specs.declared.cmp.Ordering.TheVariants.{Equal}
use Rattle.sqlval.specs.Lists.{SortKey, key_cmp, keys_cmp}
use Rattle.sqlval.specs.Order.{order}
use Rattle.sqlval.specs.declared.collation.Collation.{Collation}
use Rattle.sqlval.specs.declared.value.Value.{Value}
use Rattle.sqlval.specs.declared.value.Value.TheVariants.{Null}
use Rattle.sqlval.proofs.Ordering as values
use Rattle.query_terms.specs.Terms.{Term, collation}
use Rattle.query_names.specs.Readings.{sort_keys}

all_tie : {X : Type 0} → IsTotalOrder {K = X} (λ x y. Equal)
all_tie = record { antisymm = λ x y. refl; trans = λ x y z p q. p; congr = λ x y z p. refl }

turned : (c : Collation) → IsTotalOrder (λ v w. ordering_reverse (order c v w))
turned c = subst IsTotalOrder (λ i v w. (values.total c).antisymm w v i) (back_total (values.total c))

by_key : (k : SortKey) → IsTotalOrder (key_cmp k)
by_key k = by k.collation k.descending
  where
    by : (c : Collation) (b : Bool) → IsTotalOrder (λ v w. cond b (ordering_reverse (order c v w)) (order c v w))
    by c true = turned c
    by c false = values.total c

abbrev first_of : List Value → Value
first_of [] = Null
first_of (v ∷ vs) = v

abbrev others_of : List Value → List Value
others_of [] = []
others_of (v ∷ vs) = vs

abbrev pub full_cmp : List SortKey → List Value → List Value → Ordering
full_cmp [] vs ws = Equal
full_cmp (k ∷ ks) vs ws = ordering_then (key_cmp k (first_of vs) (first_of ws)) (full_cmp ks (others_of vs) (others_of ws))

pub full_total : (ks : List SortKey) → IsTotalOrder (full_cmp ks)
full_total [] = all_tie
full_total (k ∷ ks) = then_total (on_total first_of (by_key k)) (on_total others_of (full_total ks))

-- that of as many values as there are keys
pub as_full : (ts : List Term) (vs ws : List Value) → length vs ≡ length ts → length ws ≡ length ts → keys_cmp (sort_keys ts) vs ws ≡ full_cmp (sort_keys ts) vs ws
as_full [] vs ws h k = refl
as_full (t ∷ ts) [] ws h k = absurd (omega (arith, h))
as_full (t ∷ ts) (v ∷ vs) [] h k = absurd (omega (arith, k))
as_full (t ∷ ts) (v ∷ vs) (w ∷ ws) h k = ap (ordering_then (key_cmp (record { collation = collation t; descending = false }) v w)) (as_full ts vs ws (omega (arith, h)) (omega (arith, k)))
