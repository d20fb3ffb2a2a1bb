-- The value at the place of the rowid's own column.
use Rattle.std.proofs.Common.{◌≡◌, ◌<◌, refl, ap, ℕ, zero, suc, List, [], ◌∷◌, ◌++◌, length, arith}
use Rattle.std.specs.Prelude.{Some, slice_get, slice_set, unwrap_or}
use Rattle.sqlval.specs.declared.value.Value.{Value}
use Rattle.sqlval.specs.declared.value.Value.TheVariants.{Null}
use Rattle.query_terms.specs.Stored.{with_at}

-- it stands there
pub stands : (i : ℕ) (v : Value) (vs : List Value) → slice_get (with_at i v vs) i ≡ Some v
stands zero v [] = refl
stands zero v (w ∷ ws) = refl
stands (suc i) v [] = stands i v []
stands (suc i) v (w ∷ ws) = stands i v ws

-- other places say what they said
pub others : (i j : ℕ) (v : Value) (vs : List Value) → (i ≡ j → ⊥) → unwrap_or (slice_get (with_at i v vs) j) Null ≡ unwrap_or (slice_get vs j) Null
others zero zero v vs other = absurd (other refl)
others zero (suc j) v [] other = refl
others zero (suc j) v (w ∷ ws) other = refl
others (suc i) zero v [] other = refl
others (suc i) zero v (w ∷ ws) other = refl
others (suc i) (suc j) v [] other = others i j v [] (λ same. other (ap suc same))
others (suc i) (suc j) v (w ∷ ws) other = others i j v ws (λ same. other (ap suc same))

-- where there are enough values, it takes the place of one
pub set : (i : ℕ) (v : Value) (vs : List Value) → i < length vs → slice_set vs i v ≡ with_at i v vs
set i v [] within = absurd (omega (arith, within))
set zero v (w ∷ ws) within = refl
set (suc i) v (w ∷ ws) within = ap (λ rest. w ∷ rest) (set i v ws (omega (arith, within)))

-- where there is one too few, it is the last
pub last : (v : Value) (vs : List Value) → vs ++ v ∷ [] ≡ with_at (length vs) v vs
last v [] = refl
last v (w ∷ ws) = ap (λ rest. w ∷ rest) (last v ws)

-- a NULL before it was to come anyway
pub padded : (i : ℕ) (v : Value) (vs : List Value) → length vs < i → with_at i v (vs ++ Null ∷ []) ≡ with_at i v vs
padded zero v vs within = absurd (omega (arith, within))
padded (suc i) v [] within = refl
padded (suc i) v (w ∷ ws) within = ap (λ rest. w ∷ rest) (padded i v ws (omega (arith, within)))
