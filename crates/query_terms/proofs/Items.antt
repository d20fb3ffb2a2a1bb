-- Items of lists of terms.
use Rattle.std.proofs.Common.{◌≡◌, refl, ℕ, zero, suc, false, ◌==◌, ◌<◌, List, [], ◌∷◌, length, get_or, arith}
use Rattle.std.proofs.lemmas.Bool.Decides.{nat_tests}
use Rattle.query_terms.specs.Terms.{Term, same_terms, size, size_in, terms}

-- an item is smaller than the list
pub item_falls : (es : List Term) (i : ℕ) (d : Term) → i < length es → size (get_or es i d) < size_in (terms es)
item_falls [] i d h = absurd (omega (arith, h))
item_falls (e ∷ es) zero d h = omega arith
item_falls (e ∷ es) (suc i) d h = omega (arith, item_falls es i d (omega (arith, h)))

-- where one list has ended, they are the same if the other has
pub none_left : (es ds : List Term) → length es ≡ 0 → (length ds == 0) ≡ same_terms (terms es) (terms ds)
none_left [] [] h = refl
none_left [] (d ∷ ds) h = some (length ds)
  where
    some : (n : ℕ) → (suc n == 0) ≡ false
    some n = grind (arith, nat_tests)
none_left (e ∷ es) ds h = absurd (omega (arith, h))
