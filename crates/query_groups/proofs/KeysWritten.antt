-- The bytes of keys that are evaluated one after another.
use Rattle.std.proofs.Common.{◌≡◌, ◌<◌, ℕ, zero, suc, refl, sym, ap, ◌∙◌, subst, List, [], ◌∷◌, ◌++◌, append_assoc, arith, false, length, length-append, Ok, Err, slice_index_or}
use Rattle.std.specs.List.{AllByRecursion}
use Rattle.std.specs.Prelude.{All, slice_get, unwrap_or}
use Rattle.sqlval.specs.Lists.{SortKey}
use Rattle.sqlval.specs.Refusals.{Answer, ◌then◌}
use Rattle.sqlval.specs.declared.fault.Fault.{Fault}
use Rattle.sqlval.specs.declared.value.Value.{Value}
use Rattle.sqlval.specs.declared.value.Value.TheVariants.{Null}
use Rattle.sort_keys.specs.Keys.{IsHeld, keys_from, value_key, values_key}
use Rattle.query_terms.specs.Outcome.{IsRefusedBy}
use Rattle.query_terms.specs.Terms.{Term, collation}
use Rattle.query_terms.specs.Values.{Environment, value}
use Rattle.query_terms.proofs.InOrder.{refuses_on}
use Rattle.query_names.specs.Readings.{sort_keys, values}
use Rattle.query_groups.specs.Keeping.{IsHeldAt}

abbrev pub key_of : Term → SortKey
key_of t = record { collation = collation t; descending = false }

abbrev bytes : List ℕ → Answer (List ℕ)
bytes bs = Ok bs

module _ (env : Environment) where
  -- the bytes of all keys, up to the first that is refused
  abbrev pub written : List Term → Answer (List ℕ)
  written [] = Ok []
  written (t ∷ ts) = value t env then λ v. written ts then λ bs. Ok (value_key (key_of t) v ++ bs)

  abbrev pub written_on : List ℕ → List Term → Answer (List ℕ)
  written_on front ts = written ts then λ bs. Ok (front ++ bs)

  pub one_written : (front : List ℕ) (t : Term) (ts : List Term) (v : Value) → value t env ≡ Ok v → written_on front (t ∷ ts) ≡ written_on (front ++ value_key (key_of t) v) ts
  one_written front t ts v h = ap (λ (a : Answer Value). (a then λ w. written ts then λ bs. bytes (value_key (key_of t) w ++ bs)) then λ bs. bytes (front ++ bs)) h ∙ by (written ts)
    where
      by : (a : Answer (List ℕ)) → ((a then λ bs. bytes (value_key (key_of t) v ++ bs)) then λ bs. bytes (front ++ bs)) ≡ (a then λ bs. bytes ((front ++ value_key (key_of t) v) ++ bs))
      by (Ok bs) = ap bytes (sym (append_assoc front (value_key (key_of t) v) bs))
      by (Err r) = refl

  pub write_refused : (front : List ℕ) (t : Term) (ts : List Term) (fault : Fault) → IsRefusedBy (value t env) fault → IsRefusedBy (written_on front (t ∷ ts)) fault
  write_refused front t ts fault h =
      refuses_on fault (written (t ∷ ts)) (λ bs. bytes (front ++ bs)) (refuses_on fault (value t env) (λ v. written ts then λ bs. bytes (value_key (key_of t) v ++ bs)) h)

  pub all_written : (front : List ℕ) → written_on front [] ≡ Ok front
  all_written front = ap bytes (by front)
    where
      by : (bs : List ℕ) → bs ++ [] ≡ bs
      by [] = refl
      by (b ∷ bs) = ap (λ (cs : List ℕ). b ∷ cs) (by bs)

  -- ---- as the bytes of all are defined

  abbrev beside : List Term → List Value → List ℕ
  beside (t ∷ ts) (v ∷ vs) = value_key (key_of t) v ++ beside ts vs
  beside _ _ = []

  there : (front : List Value) (v : Value) (vs : List Value) → unwrap_or (slice_get (front ++ v ∷ vs) (length front)) Null ≡ v
  there [] v vs = refl
  there (f ∷ fs) v vs = there fs v vs

  more : (n : ℕ) → suc n ≡ 0 → ⊥
  more n e = omega (arith, e)

  same : (m n : ℕ) → suc m ≡ suc n → m ≡ n
  same m n e = omega (arith, e)

  beside_is : (ts : List Term) (front vs : List Value) → length vs ≡ length ts → keys_from (length front) (sort_keys ts) (front ++ vs) ≡ beside ts vs
  beside_is [] front vs h = refl
  beside_is (t ∷ ts) front [] h = absurd (more (length ts) (sym h))
  beside_is (t ∷ ts) front (v ∷ vs) h =
      (λ i. value_key (key_of t) (there front v vs i) ++ keys_from (sym (length-append front (v ∷ [])) i) (sort_keys ts) (sym (append_assoc front (v ∷ []) vs) i))
      ∙ ap (λ bs. value_key (key_of t) v ++ bs) (beside_is ts (front ++ v ∷ []) vs (same (length vs) (length ts) h))

  as_many : (ts : List Term) (vs : List Value) → values env ts ≡ Ok vs → length vs ≡ length ts
  as_many [] [] h = refl
  as_many [] (v ∷ vs) h = absurd cc
  as_many (t ∷ ts) vs h = by (value t env) (values env ts) vs (λ ws k. as_many ts ws k) h
    where
      by : (a : Answer Value) (b : Answer (List Value)) (vs : List Value) → ((ws : List Value) → b ≡ Ok ws → length ws ≡ length ts) → (a then λ x. b then λ xs. let l : Answer (List Value) = Ok (x ∷ xs) in l) ≡ Ok vs → length vs ≡ suc (length ts)
      by (Ok v) (Ok ws) vs rest e = sym (ap length (inside (v ∷ ws) vs e)) ∙ ap suc (rest ws refl)
        where
          inside : (xs ys : List Value) → (let l : Answer (List Value) = Ok xs in l) ≡ Ok ys → xs ≡ ys
          inside xs ys e = cc
      by (Ok v) (Err r) vs rest e = absurd cc
      by (Err r) b vs rest e = absurd cc

  one_by_one : (ts : List Term) → written ts ≡ (values env ts then λ vs. bytes (beside ts vs))
  one_by_one [] = refl
  one_by_one (t ∷ ts) = by (value t env) (one_by_one ts)
    where
      each : (v : Value) (b : Answer (List Value)) → ((b then λ vs. bytes (beside ts vs)) then λ bs. bytes (value_key (key_of t) v ++ bs)) ≡ ((b then λ xs. let l : Answer (List Value) = Ok (v ∷ xs) in l) then λ vs. bytes (beside (t ∷ ts) vs))
      each v (Ok vs) = refl
      each v (Err r) = refl

      by : (a : Answer Value) → written ts ≡ (values env ts then λ vs. bytes (beside ts vs)) → (a then λ v. written ts then λ bs. bytes (value_key (key_of t) v ++ bs)) ≡ ((a then λ x. values env ts then λ xs. let l : Answer (List Value) = Ok (x ∷ xs) in l) then λ vs. bytes (beside (t ∷ ts) vs))
      by (Ok v) h = ap (λ (a : Answer (List ℕ)). a then λ bs. bytes (value_key (key_of t) v ++ bs)) h ∙ each v (values env ts)
      by (Err r) h = refl

  pub written_is : (front : List ℕ) (ts : List Term) → written_on front ts ≡ (values env ts then λ vs. bytes (front ++ values_key (sort_keys ts) vs))
  written_is front ts = ap (λ (a : Answer (List ℕ)). a then λ bs. bytes (front ++ bs)) (one_by_one ts) ∙ by (values env ts) (λ vs e. beside_is ts [] vs (as_many ts vs e))
    where
      by : (a : Answer (List Value)) → ((vs : List Value) → a ≡ Ok vs → values_key (sort_keys ts) vs ≡ beside ts vs) → ((a then λ vs. bytes (beside ts vs)) then λ bs. bytes (front ++ bs)) ≡ (a then λ vs. bytes (front ++ values_key (sort_keys ts) vs))
      by (Ok vs) k = ap (λ bs. bytes (front ++ bs)) (sym (k vs refl))
      by (Err r) k = refl

  -- ---- what is known of the values

  held_each : (ts : List Term) (vs : List Value) → AllByRecursion (IsHeldAt env) ts → values env ts ≡ Ok vs → AllByRecursion IsHeld vs
  held_each [] [] h e = tt
  held_each [] (v ∷ vs) h e = absurd cc
  held_each (t ∷ ts) vs h e = by (value t env) refl (values env ts) vs (λ ws k. held_each ts ws h.1 k) e
    where
      by : (a : Answer Value) → value t env ≡ a → (b : Answer (List Value)) (vs : List Value) → ((ws : List Value) → b ≡ Ok ws → AllByRecursion IsHeld ws) → (a then λ x. b then λ xs. let l : Answer (List Value) = Ok (x ∷ xs) in l) ≡ Ok vs → AllByRecursion IsHeld vs
      by (Ok v) k (Ok ws) vs rest e = subst (AllByRecursion IsHeld) (inside (v ∷ ws) vs e) (h.0 v k, rest ws refl)
        where
          inside : (xs ys : List Value) → (let l : Answer (List Value) = Ok xs in l) ≡ Ok ys → xs ≡ ys
          inside xs ys e = cc
      by (Ok v) k (Err r) vs rest e = absurd cc
      by (Err r) k b vs rest e = absurd cc

  at_place : (vs : List Value) (i : ℕ) (d : Value) → AllByRecursion IsHeld vs → i < length vs → IsHeld (slice_index_or vs i d)
  at_place [] i d h lt = absurd (omega (arith, lt))
  at_place (v ∷ vs) zero d h lt = h.0
  at_place (v ∷ vs) (suc i) d h lt = at_place vs i d h.1 (omega (arith, lt))

  pub keys_known : (ts : List Term) (vs : List Value) → AllByRecursion (IsHeldAt env) ts → values env ts ≡ Ok vs → (length vs ≡ length ts) × All IsHeld vs
  keys_known ts vs h e = (as_many ts vs e, λ i d lt. at_place vs i d (held_each ts vs h e) lt)
