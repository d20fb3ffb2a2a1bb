-- The bytes of a row's keys, one key after another.
use Rattle.std.proofs.Common.{◌≡◌, ◌<◌, ◌≤◌, ◌+◌, ◌⊎◌, inl, inr, ℕ, zero, suc, refl, sym, ap, ◌∙◌, subst, List, [], ◌∷◌, ◌++◌, append_assoc, arith, drop, false, length, slice_index_or}
use Rattle.std.specs.Prelude.{All, option_map, slice_get, unwrap_or}
use Rattle.std.proofs.lemmas.Bool.{cases_lt}
use Rattle.sqlval.specs.Lists.{SortKey}
use Rattle.sqlval.specs.declared.collation.Collation.{Collation}
use Rattle.sqlval.specs.declared.collation.Collation.TheVariants.{Binary}
use Rattle.sqlval.specs.declared.value.Value.{Value}
use Rattle.sqlval.specs.declared.value.Value.TheVariants.{Null}
use Rattle.sort_keys.specs.Keys.{IsHeld, keys_from, value_key}
use Rattle.query_terms.specs.Terms.{Term, collation}
use Rattle.query_names.specs.Readings.{sort_keys}

abbrev pub collation_in : List Term → ℕ → Collation
collation_in ts i = unwrap_or (option_map collation (slice_get ts i)) Binary

abbrev value_at : List Value → ℕ → Value
value_at vs i = unwrap_or (slice_get vs i) Null

next : (i : ℕ) → suc i ≡ i + 1
next i = omega arith

-- the collation at a place is that of the expression there
key_there : (ts : List Term) (i : ℕ) → i < length ts → drop i (sort_keys ts) ≡ record { collation = collation_in ts i; descending = false } ∷ drop (suc i) (sort_keys ts)
key_there [] i lt = absurd (omega (arith, lt))
key_there (t ∷ ts) zero lt = refl
key_there (t ∷ ts) (suc i) lt = key_there ts i (omega (arith, lt))

-- one key more is written
pub one_key : (ts : List Term) (vs : List Value) (i : ℕ) (front : List ℕ) → i < length ts
    → (front ++ value_key (record { collation = collation_in ts i; descending = false }) (value_at vs i)) ++ keys_from (i + 1) (drop (i + 1) (sort_keys ts)) vs ≡ front ++ keys_from i (drop i (sort_keys ts)) vs
one_key ts vs i front lt =
    let key : SortKey = record { collation = collation_in ts i; descending = false } in
    append_assoc front (value_key key (value_at vs i)) (keys_from (i + 1) (drop (i + 1) (sort_keys ts)) vs)
    ∙ ap (λ (bs : List ℕ). front ++ bs) (sym (ap (λ ks. keys_from i ks vs) (key_there ts i lt ∙ ap (λ n. let l : List SortKey = key ∷ drop n (sort_keys ts) in l) (next i))))

-- no key is left
pub none_left : (ts : List Term) (vs : List Value) (n : ℕ) → n ≡ length ts → keys_from n (drop n (sort_keys ts)) vs ≡ []
none_left ts vs n same = ap (λ ks. keys_from n ks vs) (past ts n same)
  where
    past : (us : List Term) (m : ℕ) → m ≡ length us → drop m (sort_keys us) ≡ []
    past [] zero e = refl
    past [] (suc m) e = refl
    past (u ∷ us) zero e = absurd (omega (arith, e))
    past (u ∷ us) (suc m) e = past us m (omega (arith, e))

pub with_none : (front rest : List ℕ) → rest ≡ [] → front ++ rest ≡ front
with_none [] rest e = e
with_none (b ∷ front) rest e = ap (λ (bs : List ℕ). b ∷ bs) (with_none front rest e)

-- the value at a place that is there
value_there : (vs : List Value) (i : ℕ) (d : Value) → i < length vs → value_at vs i ≡ slice_index_or vs i d
value_there [] i d lt = absurd (omega (arith, lt))
value_there (v ∷ vs) zero d lt = refl
value_there (v ∷ vs) (suc i) d lt = value_there vs i d (omega (arith, lt))

pub all_held : (vs : List Value) (n : ℕ) → length vs ≡ n → ((i : ℕ) → i < n → IsHeld (value_at vs i)) → All IsHeld vs
all_held vs n same h = λ i d lt. subst IsHeld (value_there vs i d lt) (h i (subst (λ m. i < m) same lt))

-- those so far, and one more
pub held_more : (vs : List Value) (n : ℕ) → ((i : ℕ) → i < n → IsHeld (value_at vs i)) → IsHeld (value_at vs n) → (i : ℕ) → i < n + 1 → IsHeld (value_at vs i)
held_more vs n h last i lt = by (cases_lt i n)
  where
    by : (i < n) ⊎ (n ≤ i) → IsHeld (value_at vs i)
    by (inl less) = h i less
    by (inr more) = let same : n ≡ i = omega (arith, lt, more) in subst (λ m. IsHeld (value_at vs m)) same last
