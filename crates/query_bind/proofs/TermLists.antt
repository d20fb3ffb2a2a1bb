-- Items of lists of terms.
use Rattle.std.proofs.Common.{ℕ, zero, suc, ◌<◌, List, [], ◌∷◌, length, get_or, arith}
use Rattle.query_terms.specs.Terms.{Term, size, size_in, terms}

-- an item is smaller than the list
pub item_falls : (es : List Term) (i : ℕ) (d : Term) → i < length es → size (get_or es i d) < size_in (terms es)
item_falls [] i d h = absurd (omega (arith, h))
item_falls (e ∷ es) zero d h = omega arith
item_falls (e ∷ es) (suc i) d h = omega (arith, item_falls es i d (omega (arith, h)))
