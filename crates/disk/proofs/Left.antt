-- What follows from the definitions of what a crash may leave.
use Rattle.std.proofs.Common.{◌≡◌, ◌⊎◌, inl, inr, ◌<◌, ◌≤◌, ◌/◌, ℕ, zero, suc, true, false, List, [], ◌∷◌, ◌++◌, length, take, get_or, refl, sym, ◌∙◌, ap, subst, arith, length-append, length-take}
use Rattle.std.proofs.lemmas.List.{ext_get_or, get_or_append_left, get_or_at, get_or-take, take_all}
use Rattle.disk.specs.File.{Version, version_at, IsLeft, SameSector, NoCutBetween}
use Rattle.std.proofs.lemmas.Bool.{cases_lt}

-- a list begins with another
abbrev pub IsFrontOf : List ℕ → List ℕ → Type 0
IsFrontOf front bytes = take (length front) bytes ≡ front

-- each of these versions begins so
abbrev pub AllBegin : List ℕ → List Version → Type 0
AllBegin front versions = (i : ℕ) → i < length versions → IsFrontOf front (version_at versions i).bytes

begins_length : (front bytes : List ℕ) → IsFrontOf front bytes → length front ≤ length bytes
begins_length front bytes b = omega (arith, ap length b, length-take (length front) bytes)

begins_byte : (front bytes : List ℕ) (p : ℕ) → IsFrontOf front bytes → p < length front → get_or bytes p 0 ≡ get_or front p 0
begins_byte front bytes p b lt = sym (get_or-take (length front) bytes p 0 lt) ∙ ap (λ (l : List ℕ). get_or l p 0) b

-- what all versions begin with, each file that a crash leaves begins with
pub left_begins : (front : List ℕ) (versions : List Version) (c : List ℕ) → AllBegin front versions → IsLeft versions c → IsFrontOf front c
left_begins front versions c all left =
    let long : length front ≤ length c = omega (arith, left.size, begins_length front _ (all left.from left.within)) in
    ext_get_or 0 (take (length front) c) front (omega (arith, length-take (length front) c))
    (λ p lt.
    let lt' : p < length front = omega (arith, length-take (length front) c) in
    let s = left.sectors (p / 512) in
    let same : get_or c p 0 ≡ get_or (version_at versions s.source).bytes p 0 = s.same p (omega arith) (omega arith) (omega arith) in
    get_or-take (length front) c p 0 lt' ∙ same ∙ begins_byte front _ p (all s.source s.within) lt')

-- a crash leaves a synced file as it is
pub left_synced : (v : Version) (c : List ℕ) → IsLeft (v ∷ []) c → c ≡ v.bytes
left_synced v c left =
    let first : (i : ℕ) → i < 1 → version_at (v ∷ []) i ≡ v = λ i lt. (let z : i ≡ 0 = omega arith in ap (λ (n : ℕ). version_at (v ∷ []) n) z) in
    let front : IsFrontOf v.bytes c = left_begins v.bytes (v ∷ []) c (λ i lt. subst (λ (w : Version). IsFrontOf v.bytes w.bytes) (sym (first i lt)) (take_all _ _ (omega arith))) left in
    let size : length c ≡ length v.bytes = left.size ∙ ap (λ (w : Version). length w.bytes) (first left.from left.within) in
    sym (take_all (length v.bytes) c (omega (arith, size))) ∙ front

version_front : (vs : List Version) (v : Version) (i : ℕ) → i < length vs → version_at (vs ++ v ∷ []) i ≡ version_at vs i
version_front vs v i lt = get_or_append_left vs (v ∷ []) _ i lt

version_last : (vs : List Version) (v : Version) (i : ℕ) → i ≡ length vs → version_at (vs ++ v ∷ []) i ≡ v
version_last vs v i is = get_or_at vs v [] _ i (sym is)

-- what a crash may leave, it may still leave after one more write or cut
pub left_grows : (vs : List Version) (v : Version) (c : List ℕ) → IsLeft vs c → IsLeft (vs ++ v ∷ []) c
left_grows vs v c left = record {
  from = left.from;
  within = omega (arith, left.within, length-append vs (v ∷ []));
  size = left.size ∙ ap (λ (w : Version). length w.bytes) (sym (version_front vs v left.from left.within));
  sectors = λ k. (let s = left.sectors k in record {
    source = s.source;
    within = omega (arith, s.within, length-append vs (v ∷ []));
    before_cut = λ m above upto. ap (λ (w : Version). w.is_cut) (version_front vs v m (omega (arith, upto, s.within))) ∙ s.before_cut m above upto;
    same = subst (λ (w : Version). SameSector k c w.bytes) (sym (version_front vs v s.source s.within)) s.same;
  });
}

-- what holds of each version, where one more joins
pub versions_push : (P : Version → Type 0) (vs : List Version) (v : Version) → ((i : ℕ) → i < length vs → P (version_at vs i)) → P v → (i : ℕ) → i < length (vs ++ v ∷ []) → P (version_at (vs ++ v ∷ []) i)
versions_push P vs v all one i lt =
    elim (cases_lt i (length vs)) [
      | inl below ↦ subst P (sym (version_front vs v i below)) (all i below)
      | inr past ↦ subst P (sym (version_last vs v i (omega (arith, lt, past, length-append vs (v ∷ []))))) one
    ]

-- the first of a cut: what was there, or what the cut leaves
pub left_cut : (a : Version) (n : ℕ) (c : List ℕ) → n ≤ length a.bytes → IsLeft (a ∷ record { is_cut = true; bytes = take n a.bytes } ∷ []) c → (c ≡ a.bytes) ⊎ (c ≡ take n a.bytes)
left_cut a n c short left = by_from left.from refl
  where
    b : Version
    b = record { is_cut = true; bytes = take n a.bytes }

    byte_of : (j p : ℕ) → j < 2 → p < n → get_or (version_at (a ∷ b ∷ []) j).bytes p 0 ≡ get_or a.bytes p 0
    byte_of zero p lt pn = refl
    byte_of (suc zero) p lt pn = get_or-take n a.bytes p 0 pn
    byte_of (suc (suc j)) p lt pn = absurd (omega arith)

    source_zero : (j : ℕ) → j < 2 → NoCutBetween (a ∷ b ∷ []) 0 j → j ≡ 0
    source_zero zero lt none = refl
    source_zero (suc zero) lt none = let bad : true ≡ false = none 1 (omega arith) (omega arith) in cc
    source_zero (suc (suc j)) lt none = absurd (omega arith)

    by_from : (i : ℕ) → left.from ≡ i → (c ≡ a.bytes) ⊎ (c ≡ take n a.bytes)
    by_from zero is =
        inl (ext_get_or 0 c a.bytes (left.size ∙ ap (λ (k : ℕ). length (version_at (a ∷ b ∷ []) k).bytes) is) (λ p lt.
        let s = left.sectors (p / 512) in
        let first : s.source ≡ 0 = first_source (p / 512) is in
        s.same p (omega arith) (omega arith) lt ∙ ap (λ (k : ℕ). get_or (version_at (a ∷ b ∷ []) k).bytes p 0) first))
      where
        first_source : (k : ℕ) → left.from ≡ 0 → (left.sectors k).source ≡ 0
        first_source k zero_from = source_zero (left.sectors k).source (left.sectors k).within (subst (λ (i : ℕ). NoCutBetween (a ∷ b ∷ []) i (left.sectors k).source) zero_from (left.sectors k).before_cut)
    by_from (suc zero) is =
        inr (ext_get_or 0 c (take n a.bytes) (left.size ∙ ap (λ (k : ℕ). length (version_at (a ∷ b ∷ []) k).bytes) is) (λ p lt.
        let s = left.sectors (p / 512) in
        let size : length c ≡ length (take n a.bytes) = left.size ∙ ap (λ (k : ℕ). length (version_at (a ∷ b ∷ []) k).bytes) is in
        let pn : p < n = omega (arith, lt, size, length-take n a.bytes) in
        s.same p (omega arith) (omega arith) lt ∙ byte_of s.source p s.within pn ∙ sym (get_or-take n a.bytes p 0 pn)))
    by_from (suc (suc i)) is = absurd (omega (arith, left.within, is))
