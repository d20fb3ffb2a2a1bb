-- How many parts there are at most, and how long what divides the pages of a table is.
use Rattle.std.proofs.Common.{◌≡◌, ◌⊎◌, inl, inr, ◌≤◌, ◌<◌, ◌+◌, ◌*◌, ℕ, suc, ℤ, Bool, true, false, List, [], ◌∷◌, length, take, drop, ap, arith}
use Rattle.std.specs.List.{AllByRecursion}
use Rattle.std.proofs.lemmas.Bool.{cases_lt, cases_eq}
use Rattle.std.proofs.lemmas.List.{length-drop, drop-drop}
use Rattle.std.proofs.Math.Nat.{mul-suc}
use Rattle.tree_page.specs.Cells.{Pairwise}
use Rattle.tree_page.specs.Node.{Local, Rows, Keys}
use Rattle.tree_page.specs.declared.items.Kind.{Kind}
use Rattle.tree_pack.specs.declared.spreading.Packed.{Packed}
use Rattle.tree_pack.specs.Parts.{total, goal_of, IsPart, AreParts, IsCut}
use Rattle.tree_pack.specs.Packing.{IsKey, divider_bytes, Packs}
use Rattle.tree_pack.proofs.Totals.{total_split}
use Rattle.tree_pack.proofs.FillingLemmas.{take_rises}
use Rattle.tree_pack.proofs.SmallLemmas.{varint_len, all_first}

-- ---- counts

-- the goal is more than the room, or half of all
abbrev IsFar : (room goal : ℕ) → List ℕ → Type 0
IsFar room goal sizes = (room < goal) ⊎ (total sizes ≤ 2 * goal)

far_drop : (room goal n : ℕ) (sizes : List ℕ) → IsFar room goal sizes → IsFar room goal (drop n sizes)
far_drop room goal n sizes (inl past) = inl past
far_drop room goal n sizes (inr half) = inr (omega (arith, half, total_split n sizes))

-- a part that has a part after it overfills a page, together with the next cell
overfills : (up room goal count next : ℕ) (sizes : List ℕ) → IsFar room goal sizes → IsPart up room goal sizes count → room < total (drop (count + up) sizes) → IsPart up room goal (drop (count + up) sizes) next
    → room < total (take (count + 1) sizes)
overfills up room goal count next sizes far part lt second = elim (part.enough) [
  | inl reached ↦ elim far [
    | inl past ↦ omega (arith, reached, past, take_rises count (count + 1) sizes (omega arith))
    | inr half ↦ omega (arith, reached, half, lt, take_rises count (count + 1) sizes (omega arith), total_split (count + up) sizes, take_rises count (count + up) sizes (omega arith))
  ]
  | inr rest ↦ elim rest [
    | inl full ↦ full
    | inr end ↦ absurd (omega (arith, end, second.some, second.behind, length-drop (count + up) sizes))
  ]
]

-- the first cells of a list, and those after them
take_two : (m n : ℕ) (sizes : List ℕ) → total (take (m + n) sizes) ≡ total (take m sizes) + total (take n (drop m sizes))
take_two m n sizes = omega (arith, total_split (m + n) sizes, total_split m sizes, total_split n (drop m sizes), ap total (drop-drop n m sizes))

few_parts : (up room goal count : ℕ) (counts sizes : List ℕ) → IsFar room goal sizes → AreParts up room goal (count ∷ counts) sizes → room * length (count ∷ counts) + total (take count sizes) ≤ 2 * total sizes
few_parts up room goal count [] sizes far parts = let lt = parts.1 in omega (arith, lt, total_split count sizes)
few_parts up room goal count (next ∷ counts) sizes far parts =
    let rest = drop (count + up) sizes in
    let second = parts.2.0 in
    let more = few_parts up room goal next counts rest (far_drop room goal (count + up) sizes far) parts.2 in
    let past = overfills up room goal count next sizes far parts.0 parts.2.1 second in
    omega (
      arith,
      more,
      past,
      mul-suc room (suc (length counts)),
      take_rises (count + 1) (count + up + next) sizes (omega (arith, second.some)),
      take_two (count + up) next sizes,
      total_split (count + up) sizes,
      take_rises count (count + up) sizes (omega arith),
    )

-- where one goes up after each part, it fills the page together with the part
fewer_parts : (up room goal count : ℕ) (counts sizes : List ℕ) → 1 ≤ up → IsFar room goal sizes → AreParts up room goal (count ∷ counts) sizes → room * length (count ∷ counts) ≤ total sizes
fewer_parts up room goal count [] sizes one far parts = let lt = parts.1 in omega (arith, lt)
fewer_parts up room goal count (next ∷ counts) sizes one far parts =
    let rest = drop (count + up) sizes in
    let more = fewer_parts up room goal next counts rest one (far_drop room goal (count + up) sizes far) parts.2 in
    let past = overfills up room goal count next sizes far parts.0 parts.2.1 parts.2.0 in
    omega (arith, more, past, mul-suc room (suc (length counts)), take_rises (count + 1) (count + up) sizes (omega (arith, one)), total_split (count + up) sizes)

far_goal : (rises : Bool) (room : ℕ) (sizes : List ℕ) → IsFar room (goal_of rises room sizes) sizes
far_goal true room sizes = inl (omega arith)
far_goal false room sizes = inr (omega arith)

parts_few : (up room goal : ℕ) (counts sizes : List ℕ) → IsFar room goal sizes → AreParts up room goal counts sizes → room * length counts ≤ 2 * total sizes
parts_few up room goal [] sizes far parts = omega arith
parts_few up room goal (count ∷ counts) sizes far parts = omega (arith, few_parts up room goal count counts sizes far parts)

parts_fewer : (up room goal : ℕ) (counts sizes : List ℕ) → 1 ≤ up → IsFar room goal sizes → AreParts up room goal counts sizes → room * length counts ≤ total sizes
parts_fewer up room goal [] sizes one far parts = omega arith
parts_fewer up room goal (count ∷ counts) sizes one far parts = fewer_parts up room goal count counts sizes one far parts

pub cut_few : (up room : ℕ) (rises : Bool) (sizes counts : List ℕ) → IsCut up room rises sizes counts → room * length counts ≤ 2 * total sizes
cut_few up room rises sizes counts cut = elim (cases_lt room (total sizes)) [
  | inl lt ↦ elim (cases_eq (length sizes) (up + 1)) [
    | inl e ↦ rw (cut.lone lt e) (omega (arith, lt))
    | inr other ↦ parts_few up room (goal_of rises room sizes) counts sizes (far_goal rises room sizes) (cut.parts lt other)
  ]
  | inr fits ↦ rw (cut.one fits) (omega arith)
]

pub cut_fewer : (up room : ℕ) (rises : Bool) (sizes counts : List ℕ) → 1 ≤ up → IsCut up room rises sizes counts → room * length counts ≤ total sizes
cut_fewer up room rises sizes counts one cut = elim (cases_lt room (total sizes)) [
  | inl lt ↦ elim (cases_eq (length sizes) (up + 1)) [
    | inl e ↦ rw (cut.lone lt e) (omega (arith, lt))
    | inr other ↦ parts_fewer up room (goal_of rises room sizes) counts sizes one (far_goal rises room sizes) (cut.parts lt other)
  ]
  | inr fits ↦ rw (cut.one fits) (omega arith)
]

-- ---- keys

keys_short : (ends : List (List ℕ)) (keys : List ℤ) → Pairwise IsKey ends keys → AllByRecursion (λ bytes. length bytes ≤ 9) ends
keys_short ends keys h = all_first IsKey (λ bytes. length bytes ≤ 9) (λ bytes key is. varint_len bytes is.number is.key_is) ends keys h

pub rows_short : (kind : Kind) (n : ℕ) (front : List ℕ) (rises : Bool) (cells : List (List ℕ)) (rows : List (ℤ × Local)) (packed : Packed) → Packs kind n front rises cells (Rows rows) packed
    → AllByRecursion (λ bytes. length bytes ≤ 9) (divider_bytes packed)
rows_short kind n front rises cells rows packed packs = keys_short (divider_bytes packed) _ packs.divide

pub kids_short : (kind : Kind) (n : ℕ) (front : List ℕ) (rises : Bool) (cells : List (List ℕ)) (kids : List (ℕ × ℤ)) (last : ℕ) (packed : Packed) → Packs kind n front rises cells (Keys kids last) packed
    → AllByRecursion (λ bytes. length bytes ≤ 9) (divider_bytes packed)
kids_short kind n front rises cells kids last packed packs = keys_short (divider_bytes packed) _ packs.divide
