-- Bytes with an end of their own stand as the bytes.
use Rattle.std.proofs.Common.{◌≡◌, ◌≢◌, ◌<◌, ◌+◌, ◌-◌, refl, sym, ap, ◌∙◌, subst, ℕ, suc, zero, List, [], ◌∷◌, ◌++◌, take, length, get_or, Some, arith}
use Rattle.std.proofs.lemmas.Bool.Decides.{nat_tests}
use Rattle.std.proofs.lemmas.List.{take_more}
use Rattle.std.proofs.lemmas.List.Concat.{flat_map-append}
use Rattle.std.specs.List.{flat_map, list_any}
use Rattle.std.specs.Prelude.{Bool, true, false, ◌==◌, ◌||◌, if◌then◌else◌}
use mathlib.Core.Bool.{true≢false}
use Rattle.std.specs.Char.{to_ascii_lowercase}
use Rattle.std.specs.Cmp.Lexicographic.{slice_cmp}
use Rattle.std.specs.Ordering.{nat_cmp, ordering_then}
use Rattle.std.specs.declared.cmp.Ordering.TheVariants.{Less, Greater}
use Rattle.sqlval.specs.Names.{folded}
use Rattle.sort_keys.specs.Keys.{AreBytes, ended, escape}
use Rattle.sort_keys.proofs.Parting.{none, one_more, onward, onward_of, parted, rest_of}

pub escape_of : (b : ℕ) → b ≢ 0 → escape b ≡ b ∷ []
escape_of b h = grind (arith, nat_tests)

escape_suc : (b : ℕ) → escape (suc b) ≡ suc b ∷ []
escape_suc b = grind (arith, nat_tests)

pub ended_suc : (b : ℕ) (bs : List ℕ) → ended (suc b ∷ bs) ≡ suc b ∷ ended bs
ended_suc b bs = ap (λ (e : List ℕ). (e ++ flat_map escape bs) ++ 0 ∷ 0 ∷ []) (escape_suc b)

less_suc : (b : ℕ) → nat_cmp 0 (suc b) ≡ Less
less_suc b = grind (arith, nat_tests)

greater_suc : (b : ℕ) → nat_cmp (suc b) 0 ≡ Greater
greater_suc b = grind (arith, nat_tests)

pub ended_parted : (s t : List ℕ) → parted (ended s) (ended t) ≡ Some (slice_cmp nat_cmp s t)
ended_parted [] [] = refl
ended_parted [] (zero ∷ cs) = refl
ended_parted [] (suc c ∷ cs) =
    ap (parted (ended [])) (ended_suc c cs) ∙ ap (λ r. onward r (parted (0 ∷ []) (ended cs))) (less_suc c)
ended_parted (zero ∷ bs) [] = refl
ended_parted (suc b ∷ bs) [] =
    ap (λ p. parted p (ended [])) (ended_suc b bs) ∙ ap (λ r. onward r (parted (ended bs) (0 ∷ []))) (greater_suc b)
ended_parted (zero ∷ bs) (zero ∷ cs) = ended_parted bs cs
ended_parted (zero ∷ bs) (suc c ∷ cs) =
    ap (parted (ended (0 ∷ bs))) (ended_suc c cs)
    ∙ (ap (λ r. onward r (parted (255 ∷ ended bs) (ended cs))) (less_suc c) ∙ ap (λ r. Some (ordering_then r (slice_cmp nat_cmp bs cs))) (sym (less_suc c)))
ended_parted (suc b ∷ bs) (zero ∷ cs) =
    ap (λ p. parted p (ended (0 ∷ cs))) (ended_suc b bs)
    ∙ (ap (λ r. onward r (parted (ended bs) (255 ∷ ended cs))) (greater_suc b) ∙ ap (λ r. Some (ordering_then r (slice_cmp nat_cmp bs cs))) (sym (greater_suc b)))
ended_parted (suc b ∷ bs) (suc c ∷ cs) =
    ap (λ p. parted p (ended (suc c ∷ cs))) (ended_suc b bs)
    ∙ (ap (parted (suc b ∷ ended bs)) (ended_suc c cs)
    ∙ (ap (onward (nat_cmp (suc b) (suc c))) (ended_parted bs cs) ∙ onward_of (nat_cmp (suc b) (suc c)) (slice_cmp nat_cmp bs cs)))

pub ended_bytes : (s : List ℕ) → AreBytes s → AreBytes (ended s)
ended_bytes [] h = one_more 0 (0 ∷ []) (omega arith) (one_more 0 [] (omega arith) none)
ended_bytes (zero ∷ bs) h = one_more 0 (255 ∷ ended bs) (omega arith) (one_more 255 (ended bs) (omega arith) (ended_bytes bs (rest_of 0 bs h)))
ended_bytes (suc b ∷ bs) h = subst AreBytes (sym (ended_suc b bs)) (one_more (suc b) (ended bs) (h 0) (ended_bytes bs (rest_of (suc b) bs h)))

-- ---- letters in lower case

lower_suc : (b : ℕ) → (c : ℕ) × (to_ascii_lowercase (suc b) ≡ suc c)
lower_suc b = (to_ascii_lowercase (suc b) - 1, grind (arith, nat_tests))

pub folded_ended : (s : List ℕ) → folded (ended s) ≡ ended (folded s)
folded_ended [] = refl
folded_ended (zero ∷ bs) = ap (λ (e : List ℕ). 0 ∷ 255 ∷ e) (folded_ended bs)
folded_ended (suc b ∷ bs) =
    let c = lower_suc b in
    ap folded (ended_suc b bs) ∙ (ap (λ (e : List ℕ). to_ascii_lowercase (suc b) ∷ e) (folded_ended bs)
    ∙ (ap (λ n. n ∷ ended (folded bs)) c.1 ∙ (sym (ended_suc c.0 (folded bs)) ∙ ap (λ n. ended (n ∷ folded bs)) (sym c.1))))

-- ---- a run without zeros, one byte more

pub run_more : (xs : List ℕ) (i : ℕ) → i < length xs → get_or xs i 0 ≢ 0 → flat_map escape (take i xs) ≡ take i xs → flat_map escape (take (i + 1) xs) ≡ take (i + 1) xs
run_more xs i h nonzero e =
    let more = take_more xs i 0 h in
    ap (flat_map escape) more ∙ (flat_map-append escape (take i xs) (get_or xs i 0 ∷ [])
    ∙ (ap (λ (ys : List ℕ). ys ++ (escape (get_or xs i 0) ++ [])) e ∙ (ap (λ (ys : List ℕ). take i xs ++ (ys ++ [])) (escape_of (get_or xs i 0) nonzero) ∙ sym more)))

-- bytes without zeros stay as they are
pub without_zeros : (bs : List ℕ) → list_any (λ b. b == 0) bs ≡ false → flat_map escape bs ≡ bs
without_zeros [] h = refl
without_zeros (b ∷ bs) h = by (b == 0) (without_zeros bs) h
  where
    by : (t : Bool) → (list_any (λ b. b == 0) bs ≡ false → flat_map escape bs ≡ bs) → (t || list_any (λ b. b == 0) bs) ≡ false
        → (if t then 0 ∷ 255 ∷ [] else b ∷ []) ++ flat_map escape bs ≡ b ∷ bs
    by true on h = absurd (true≢false h)
    by false on h = ap (λ (ys : List ℕ). b ∷ ys) (on h)
