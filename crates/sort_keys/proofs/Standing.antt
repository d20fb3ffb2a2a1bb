-- Keys stand as the values.
use Rattle.std.proofs.Common.{◌≡◌, ◌<◌, ◌+◌, refl, ap, ◌∙◌, ℕ, suc, zero, Bool, true, false, List, [], ◌∷◌, take, length, Some, All, arith}
use Rattle.std.proofs.lemmas.Bool.Decides.{nat_tests}
use Rattle.std.proofs.lemmas.List.Elements.{All-head, All-tail}
use Rattle.std.specs.Prelude.{slice_get, unwrap_or, if◌then◌else◌}
use Rattle.std.specs.Char.{to_ascii_lowercase}
use Rattle.std.specs.Int.{w64, to_be_bytes}
use Rattle.std.specs.Cmp.Lexicographic.{slice_cmp}
use Rattle.std.specs.Ordering.{nat_cmp, ordering_then, ordering_reverse}
use Rattle.std.specs.declared.cmp.Ordering.TheVariants.{Equal}
use Rattle.sqlval.specs.Lists.{SortKey, key_cmp, keys_cmp}
use Rattle.sqlval.specs.Names.{folded}
use Rattle.sqlval.specs.Order.{order, seen_by}
use Rattle.sqlval.specs.declared.collation.Collation.{Collation}
use Rattle.sqlval.specs.declared.collation.Collation.TheVariants.{Binary, NoCase, RTrim}
use Rattle.sqlval.specs.declared.value.Value.{Value}
use Rattle.sqlval.specs.declared.value.Value.TheVariants.{Null, Int, Text, Blob}
use Rattle.sort_keys.specs.Keys.{AreBytes, IsHeld, above_lowest, complement, ended, keys_from, ascending_key, value_key}
use Rattle.sort_keys.specs.Laws.{FullKeysStandAsValues, KeysStandAsValues, cmp_from}
use Rattle.sort_keys.proofs.Escapes.{ended_bytes, ended_parted}
use Rattle.sort_keys.proofs.Numbers.{high_bytes, int_parted}
use Rattle.sort_keys.proofs.Parting.{before, none, one_more, parted, rest_of, turned}

-- ---- the bytes of keys

lower_byte : (b : ℕ) → b < 256 → to_ascii_lowercase b < 256
lower_byte b h = grind (arith, nat_tests)

folded_bytes : (t : List ℕ) → AreBytes t → AreBytes (folded t)
folded_bytes [] h = none
folded_bytes (b ∷ bs) h = one_more (to_ascii_lowercase b) (folded bs) (lower_byte b (h 0)) (folded_bytes bs (rest_of b bs h))

taken_bytes : (n : ℕ) (t : List ℕ) → AreBytes t → AreBytes (take n t)
taken_bytes zero t h = none
taken_bytes (suc n) [] h = none
taken_bytes (suc n) (b ∷ bs) h = one_more b (take n bs) (h 0) (taken_bytes n bs (rest_of b bs h))

seen_bytes : (c : Collation) (t : List ℕ) → AreBytes t → AreBytes (seen_by c t)
seen_bytes Binary t h = h
seen_bytes NoCase t h = folded_bytes t h
seen_bytes RTrim t h = taken_bytes _ t h

rising_bytes : (c : Collation) (v : Value) → IsHeld v → AreBytes (ascending_key c v)
rising_bytes c Null h = one_more 1 [] (omega arith) none
rising_bytes c (Int n) h = one_more 2 (to_be_bytes w64 (above_lowest n)) (omega arith) (high_bytes 8 (above_lowest n))
rising_bytes c (Text t) h = one_more 3 (ended (seen_by c t)) (omega arith) (ended_bytes (seen_by c t) (seen_bytes c t h))
rising_bytes c (Blob b) h = one_more 4 (ended b) (omega arith) (ended_bytes b h)

-- ---- one key

rising_parted : (c : Collation) (v w : Value) → IsHeld v → IsHeld w → parted (ascending_key c v) (ascending_key c w) ≡ Some (order c v w)
rising_parted c Null Null h g = refl
rising_parted c Null (Int n) h g = refl
rising_parted c Null (Text t) h g = refl
rising_parted c Null (Blob y) h g = refl
rising_parted c (Int m) Null h g = refl
rising_parted c (Int m) (Int n) h g = int_parted m n h g
rising_parted c (Int m) (Text t) h g = refl
rising_parted c (Int m) (Blob y) h g = refl
rising_parted c (Text s) Null h g = refl
rising_parted c (Text s) (Int n) h g = refl
rising_parted c (Text s) (Text t) h g = ended_parted (seen_by c s) (seen_by c t)
rising_parted c (Text s) (Blob y) h g = refl
rising_parted c (Blob x) Null h g = refl
rising_parted c (Blob x) (Int n) h g = refl
rising_parted c (Blob x) (Text t) h g = refl
rising_parted c (Blob x) (Blob y) h g = ended_parted x y

keyed : (k : SortKey) (v w : Value) → IsHeld v → IsHeld w → parted (value_key k v) (value_key k w) ≡ Some (key_cmp k v w)
keyed k v w h g = by k.descending
  where
    up : parted (ascending_key k.collation v) (ascending_key k.collation w) ≡ Some (order k.collation v w)
    up = rising_parted k.collation v w h g

    by : (d : Bool) → parted (if d then complement (ascending_key k.collation v) else ascending_key k.collation v) (if d then complement (ascending_key k.collation w) else ascending_key k.collation w)
        ≡ Some (if d then ordering_reverse (order k.collation v w) else order k.collation v w)
    by true = turned _ _ (rising_bytes k.collation v h) (rising_bytes k.collation w g) _ up
    by false = up

-- ---- several keys

-- the value at a place, or NULL
abbrev value_at : List Value → ℕ → Value
value_at vs i = unwrap_or (slice_get vs i) Null

held_at : (vs : List Value) → All IsHeld vs → (i : ℕ) → IsHeld (value_at vs i)
held_at [] h i = tt
held_at (v ∷ vs) h zero = All-head IsHeld v vs h
held_at (v ∷ vs) h (suc i) = held_at vs (All-tail IsHeld v vs h) i

stand_from : (i : ℕ) (ks : List SortKey) (vs ws : List Value) → ((j : ℕ) → IsHeld (value_at vs j)) → ((j : ℕ) → IsHeld (value_at ws j))
    → slice_cmp nat_cmp (keys_from i ks vs) (keys_from i ks ws) ≡ cmp_from i ks vs ws
stand_from i [] vs ws h g = refl
stand_from i (k ∷ ks) vs ws h g =
    let o = key_cmp k (value_at vs i) (value_at ws i) in
    before (value_key k (value_at vs i)) (value_key k (value_at ws i)) (keys_from (i + 1) ks vs) (keys_from (i + 1) ks ws) o (keyed k (value_at vs i) (value_at ws i) (h i) (g i))
    ∙ ap (ordering_then o) (stand_from (i + 1) ks vs ws h g)

pub keys_stand : KeysStandAsValues
keys_stand ks vs ws h g = stand_from 0 ks vs ws (held_at vs h) (held_at ws g)

-- ---- as many values on both sides

null_itself : (k : SortKey) → key_cmp k Null Null ≡ Equal
null_itself k = by k.descending
  where
    by : (d : Bool) → (if d then Equal else Equal) ≡ Equal
    by true = refl
    by false = refl

of_none : (i : ℕ) (ks : List SortKey) → cmp_from i ks [] [] ≡ Equal
of_none i [] = refl
of_none i (k ∷ ks) = ap (λ o. ordering_then o (cmp_from (i + 1) ks [] [])) (null_itself k) ∙ of_none (i + 1) ks

shifted : (i j : ℕ) → j ≡ suc i → (ks : List SortKey) (v w : Value) (vs ws : List Value) → cmp_from j ks (v ∷ vs) (w ∷ ws) ≡ cmp_from i ks vs ws
shifted i j e [] v w vs ws = refl
shifted i j e (k ∷ ks) v w vs ws =
    ap (λ n. ordering_then (key_cmp k (value_at (v ∷ vs) n) (value_at (w ∷ ws) n)) (cmp_from (j + 1) ks (v ∷ vs) (w ∷ ws))) e
    ∙ ap (ordering_then (key_cmp k (value_at vs i) (value_at ws i))) (shifted (i + 1) (j + 1) (omega arith) ks v w vs ws)

as_defined : (ks : List SortKey) (vs ws : List Value) → length vs ≡ length ws → cmp_from 0 ks vs ws ≡ keys_cmp ks vs ws
as_defined [] vs ws e = refl
as_defined (k ∷ ks) [] [] e = of_none 0 (k ∷ ks)
as_defined (k ∷ ks) [] (w ∷ ws) e = absurd (omega arith)
as_defined (k ∷ ks) (v ∷ vs) [] e = absurd (omega arith)
as_defined (k ∷ ks) (v ∷ vs) (w ∷ ws) e = ap (ordering_then (key_cmp k v w)) (shifted 0 1 refl ks v w vs ws ∙ as_defined ks vs ws (omega arith))

pub full_keys_stand : FullKeysStandAsValues
full_keys_stand ks vs ws h g e = keys_stand ks vs ws h g ∙ as_defined ks vs ws e
