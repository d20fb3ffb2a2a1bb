-- What picks choose, and what a crash may leave.
use Rattle.std.proofs.Common.{◌≡◌, ◌<◌, ◌≤◌, ◌+◌, ◌-◌, ◌/◌, ◌%◌, ◌^◌, ℕ, zero, suc, Bool, true, false, List, [], ◌∷◌, length, drop, map, get_or, inl, inr, refl, sym, ◌∙◌, ap, arith, length-drop, add-one, drop-cons}
use Rattle.std.proofs.lemmas.List.{get_or-drop}
use Rattle.std.proofs.lemmas.List.Elements.{All-from_get_or}
use Rattle.std.proofs.lemmas.List.FromFn.{fill_by_all, length-map-range_with_len, get_or-map-range_with_len}
use Rattle.std.proofs.Math.Nat.{mod-eq_of_lt}
use Rattle.std.proofs.lemmas.Bool.{cases_lt, cond-true, cond-false}
use Rattle.std.specs.List.{range_with_len}
use Rattle.disk.specs.File.{Version, version_at, blank_version, IsLeft, NoCutBetween}
use Rattle.disk.specs.Picked.{picked, before_cut, choices, length_source, sector_source, byte_left, left_by, IsPicked}

at_cut : (v : Version) (vs : List Version) → v.is_cut ≡ true → before_cut (v ∷ vs) ≡ 0
at_cut v vs cut = cond-true v.is_cut 0 (before_cut vs + 1) cut

at_write : (v : Version) (vs : List Version) → v.is_cut ≡ false → before_cut (v ∷ vs) ≡ before_cut vs + 1
at_write v vs no_cut = cond-false v.is_cut 0 (before_cut vs + 1) no_cut

pub before_end : (vs : List Version) (i : ℕ) → length vs ≤ i → before_cut (drop i vs) ≡ 0
before_end vs i past = none (drop i vs) (omega (arith, length-drop i vs))
  where
    none : (ws : List Version) → length ws ≡ 0 → before_cut ws ≡ 0
    none [] is = refl
    none (w ∷ ws) is = absurd (omega arith)

pub before_crash : (vs : List Version) (i : ℕ) → i < length vs → (version_at vs i).is_cut ≡ true → before_cut (drop i vs) ≡ 0
before_crash vs i lt cut = ap before_cut (drop-cons vs i blank_version lt) ∙ at_cut (version_at vs i) (drop (suc i) vs) cut

pub before_next : (vs : List Version) (i : ℕ) → i < length vs → (version_at vs i).is_cut ≡ false → before_cut (drop i vs) ≡ before_cut (drop (i + 1) vs) + 1
before_next vs i lt no_cut = ap before_cut (drop-cons vs i blank_version lt) ∙ at_write (version_at vs i) (drop (suc i) vs) no_cut ∙ ap (λ j. before_cut (drop j vs) + 1) (sym (add-one i))

below_step : (v : Version) (vs : List Version) (m : ℕ) → ((k : ℕ) → k < before_cut vs → (version_at vs k).is_cut ≡ false) → m < before_cut (v ∷ vs) → (b : Bool) → v.is_cut ≡ b → (version_at (v ∷ vs) m).is_cut ≡ false
below_step v vs m rest lt true is = absurd (omega (arith, at_cut v vs is))
below_step v vs zero rest lt false is = is
below_step v vs (suc m) rest lt false is = rest m (omega (arith, at_write v vs is))

-- no cut is among the versions before the first one
no_cut_below : (vs : List Version) (m : ℕ) → m < before_cut vs → (version_at vs m).is_cut ≡ false
no_cut_below [] m lt = absurd (omega arith)
no_cut_below (v ∷ vs) m lt = below_step v vs m (λ k. no_cut_below vs k) lt v.is_cut refl

within_step : (v : Version) (vs : List Version) → before_cut vs ≤ length vs → (b : Bool) → v.is_cut ≡ b → before_cut (v ∷ vs) ≤ length vs + 1
within_step v vs rest true is = omega (arith, at_cut v vs is)
within_step v vs rest false is = omega (arith, at_write v vs is)

before_within : (vs : List Version) → before_cut vs ≤ length vs
before_within [] = omega arith
before_within (v ∷ vs) = omega (arith, within_step v vs (before_within vs) v.is_cut refl)

-- versions without a cut stand before the first one
before_above : (vs : List Version) (j : ℕ) → j < length vs → ((m : ℕ) → m ≤ j → (version_at vs m).is_cut ≡ false) → j < before_cut vs
before_above [] j lt none = absurd (omega arith)
before_above (v ∷ vs) zero lt none = omega (arith, at_write v vs (none 0 (omega arith)))
before_above (v ∷ vs) (suc j) lt none = omega (arith, at_write v vs (none 0 (omega arith)), before_above vs j (omega arith) (λ m upto. none (suc m) (omega arith)))

pub choices_within : (vs : List Version) (from : ℕ) → from < length vs → choices vs from ≤ length vs
choices_within vs from lt = omega (arith, before_within (drop (from + 1) vs), length-drop (from + 1) vs)

behind : (vs : List Version) (from m : ℕ) → from < m → version_at (drop (from + 1) vs) (m - (from + 1)) ≡ version_at vs m
behind vs from m above = get_or-drop (from + 1) vs (m - (from + 1)) blank_version ∙ ap (version_at vs) (omega arith)

no_cut_choices : (vs : List Version) (from m : ℕ) → from < m → m < choices vs from → (version_at vs m).is_cut ≡ false
no_cut_choices vs from m above below = ap (λ (v : Version). v.is_cut) (sym (behind vs from m above)) ∙ no_cut_below (drop (from + 1) vs) (m - (from + 1)) (omega arith)

one_more : (k : ℕ) → 1 + k ≡ suc k
one_more k = omega arith

-- a version that no cut divides from the one that gives the length is among the choices
choices_above : (vs : List Version) (from source : ℕ) → source < length vs → NoCutBetween vs from source → source < choices vs from
choices_above vs from source within none =
    elim (cases_lt from source) [
      | inl above ↦
          (let there : source - (from + 1) < before_cut (drop (from + 1) vs) =
          before_above (drop (from + 1) vs) (source - (from + 1)) (omega (arith, length-drop (from + 1) vs)) (λ m upto. ap (λ (v : Version). v.is_cut) (get_or-drop (from + 1) vs m blank_version) ∙ none (from + 1 + m) (omega arith) (omega arith)) in
          omega arith)
      | inr below ↦ omega arith
    ]

-- picks choose what a crash may leave
pub picks_left : (vs : List Version) (picks : List ℕ) → 0 < length vs → IsLeft vs (left_by vs picks)
picks_left vs picks some =
    let from : ℕ = length_source vs picks in
    let inside : from < length vs = omega arith in
    let size : length (left_by vs picks) ≡ length (version_at vs from).bytes = length-map-range_with_len (byte_left vs picks) 0 (length (version_at vs from).bytes) in
    record {
      from = from;
      within = inside;
      size = size;
      sectors = λ k.
          let below : sector_source vs picks k < choices vs from = omega arith in
          record {
            source = sector_source vs picks k;
            within = omega (arith, choices_within vs from inside);
            before_cut = λ m above upto. no_cut_choices vs from m above (omega arith);
            same = λ p low high lt.
                let sector : p / 512 ≡ k = omega arith in
                get_or-map-range_with_len (byte_left vs picks) 0 (length (version_at vs from).bytes) p p 0 (omega arith) (omega arith) ∙ ap (λ (j : ℕ). get_or (version_at vs (sector_source vs picks j)).bytes p 0) sector;
          };
    }

-- what a crash may leave, some picks choose
pub left_picked : (vs : List Version) (c : List ℕ) → length vs < 2 ^ 32 → IsLeft vs c → IsPicked vs c
left_picked vs c many left = record {
  picks = picks;
  small = All-from_get_or (λ pick. pick < 2 ^ 32) picks 0 small;
  few = omega (arith, count);
  same = sym (fill_by_all (byte_left vs picks) c (length (version_at vs (length_source vs picks)).bytes) 0 (left.size ∙ ap (λ (i : ℕ). length (version_at vs i).bytes) (sym first)) bytes);
}
  where
    source : ℕ → ℕ
    source k = (left.sectors k).source

    sectors : ℕ
    sectors = length c / 512 + 1

    picks : List ℕ
    picks = left.from ∷ map source (range_with_len 0 sectors)

    count : length (map source (range_with_len 0 sectors)) ≡ sectors
    count = length-map-range_with_len source 0 sectors

    at : (k : ℕ) → k < sectors → get_or (map source (range_with_len 0 sectors)) k 0 ≡ source k
    at k lt = get_or-map-range_with_len source 0 sectors k k 0 lt (omega arith)

    small : (i : ℕ) → i < length picks → get_or picks i 0 < 2 ^ 32
    small zero lt = omega (arith, left.within)
    small (suc k) lt = omega (arith, at k (omega (arith, count)), (left.sectors k).within)

    first : length_source vs picks ≡ left.from
    first = mod-eq_of_lt left.within

    chosen : (k : ℕ) → k < sectors → sector_source vs picks k ≡ source k
    chosen k lt =
        let is : get_or picks (1 + k) 0 ≡ source k = ap (λ (i : ℕ). get_or picks i 0) (one_more k) ∙ at k lt in
        let below : source k < choices vs left.from = choices_above vs left.from (source k) (left.sectors k).within (left.sectors k).before_cut in
        ap (λ (n : ℕ). get_or picks (1 + k) 0 % n) (ap (choices vs) first) ∙ ap (λ (n : ℕ). n % choices vs left.from) is ∙ mod-eq_of_lt below

    bytes : (p : ℕ) → p < length (version_at vs (length_source vs picks)).bytes → get_or c p 0 ≡ byte_left vs picks p
    bytes p lt =
        let inside : p < length c = omega (arith, left.size, ap (λ (i : ℕ). length (version_at vs i).bytes) first) in
        (left.sectors (p / 512)).same p (omega arith) (omega arith) inside ∙ ap (λ (i : ℕ). get_or (version_at vs i).bytes p 0) (sym (chosen (p / 512) (omega arith)))

-- the file that these picks choose, byte by byte
pub chosen_by : (vs : List Version) (picks c : List ℕ) (from count : ℕ) → from ≡ length_source vs picks → count ≡ choices vs from → length c ≡ length (version_at vs from).bytes
    → ((p : ℕ) → p < length c → get_or c p 0 ≡ get_or (version_at vs (picked picks (1 + p / 512) count)).bytes p 0) → c ≡ left_by vs picks
chosen_by vs picks c from count first some size bytes =
    let all : count ≡ choices vs (length_source vs picks) = some ∙ ap (choices vs) first in
    let long : length c ≡ length (version_at vs (length_source vs picks)).bytes = size ∙ ap (λ (i : ℕ). length (version_at vs i).bytes) first in
    fill_by_all (byte_left vs picks) c (length (version_at vs (length_source vs picks)).bytes) 0 long (λ p lt. bytes p (omega (arith, long)) ∙ ap (λ (n : ℕ). get_or (version_at vs (picked picks (1 + p / 512) n)).bytes p 0) all)
