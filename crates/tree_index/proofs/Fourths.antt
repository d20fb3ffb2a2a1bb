-- Pages over others are at most a fourth as many: three cells fit a page, and with each page but the last one more goes up.
use Rattle.std.proofs.Common.{◌≤◌, ◌<◌, ◌+◌, ◌*◌, ℕ, zero, suc, true, List, [], ◌∷◌, length, map, take, drop, inl, inr, arith}
use Rattle.std.proofs.lemmas.Bool.{cases_lt, cases_eq}
use Rattle.std.proofs.lemmas.List.{length-drop}
use Rattle.std.specs.List.{AllByRecursion}
use Rattle.tree_page.specs.Cells.{Pairwise}
use Rattle.tree_page.specs.Node.{Local, IsBetweenCell}
use Rattle.tree_pack.specs.Building.{cell_room}
use Rattle.tree_pack.specs.Parts.{total, IsPart, AreParts, IsCut}
use Rattle.tree_pack.proofs.FillingLemmas.{take_rises}
use Rattle.tree_index.proofs.Fans.{between_third}

-- each takes at most this
abbrev pub AreAtMost : ℕ → List ℕ → Type 0
AreAtMost most sizes = AllByRecursion (λ size. size ≤ most) sizes

module _ (room most : ℕ) (three : 3 * most ≤ room) where
  total_most : (sizes : List ℕ) → AreAtMost most sizes → length sizes ≤ 3 → total sizes ≤ room
  total_most [] all few = omega arith
  total_most (a ∷ []) all few = (let x = all.0 in omega (arith, x, three))
  total_most (a ∷ b ∷ []) all few = (let x = all.0 in let y = all.1.0 in omega (arith, x, y, three))
  total_most (a ∷ b ∷ c ∷ []) all few = (let x = all.0 in let y = all.1.0 in let z = all.1.1.0 in omega (arith, x, y, z, three))
  total_most (a ∷ b ∷ c ∷ d ∷ sizes) all few = absurd (omega (arith, few))

  -- more than a page holds are four
  four_many : (sizes : List ℕ) → AreAtMost most sizes → room < total sizes → 4 ≤ length sizes
  four_many sizes all lt = elim (cases_lt 3 (length sizes)) [
    | inl more ↦ omega (arith, more)
    | inr few ↦ absurd (let le = total_most sizes all few in omega (arith, le, lt))
  ]

  all_taken : (n : ℕ) (sizes : List ℕ) → AreAtMost most sizes → AreAtMost most (take n sizes)
  all_taken zero sizes all = tt
  all_taken (suc n) [] all = tt
  all_taken (suc n) (size ∷ sizes) all = (all.0, all_taken n sizes all.1)

  all_dropped : (n : ℕ) (sizes : List ℕ) → AreAtMost most sizes → AreAtMost most (drop n sizes)
  all_dropped zero sizes all = all
  all_dropped (suc n) [] all = tt
  all_dropped (suc n) (size ∷ sizes) all = all_dropped n sizes all.1

  taken_len : (n : ℕ) (sizes : List ℕ) → length (take n sizes) ≤ n
  taken_len zero sizes = omega arith
  taken_len (suc n) [] = omega arith
  taken_len (suc n) (size ∷ sizes) = (let e = taken_len n sizes in omega (arith, e))

  -- a part that has a part after it overfills a page, together with the cell that goes up
  part_many : (count next : ℕ) (sizes : List ℕ) → AreAtMost most sizes → IsPart 1 room (room + 1) sizes count → IsPart 1 room (room + 1) (drop (count + 1) sizes) next → 4 ≤ count + 1
  part_many count next sizes all part second =
      let many = four_many (take (count + 1) sizes) (all_taken (count + 1) sizes all) over in
      let few = taken_len (count + 1) sizes in
      omega (arith, many, few)
    where
      over : room < total (take (count + 1) sizes)
      over = elim part.enough [
        | inl reached ↦ (let rises = take_rises count (count + 1) sizes (omega arith) in omega (arith, reached, rises))
        | inr rest ↦ elim rest [
          | inl full ↦ full
          | inr end ↦ absurd (let some = second.some in let behind = second.behind in let len = length-drop (count + 1) sizes in omega (arith, end, some, behind, len))
        ]
      ]

  parts_fourth : (counts sizes : List ℕ) → AreAtMost most sizes → AreParts 1 room (room + 1) counts sizes → 4 * length counts ≤ length sizes
  parts_fourth [] sizes all parts = omega arith
  parts_fourth (count ∷ []) sizes all parts = (let many = four_many sizes all parts.1 in omega (arith, many))
  parts_fourth (count ∷ next ∷ counts) sizes all parts =
      let rest = parts_fourth (next ∷ counts) (drop (count + 1) sizes) (all_dropped (count + 1) sizes all) parts.2 in
      let many = part_many count next sizes all parts.0 parts.2.0 in
      let behind = parts.0.behind in
      let len = length-drop (count + 1) sizes in
      omega (arith, rest, many, behind, len)

  pub cut_fourth : (sizes counts : List ℕ) → AreAtMost most sizes → IsCut 1 room true sizes counts → 4 * length counts ≤ length sizes
  cut_fourth sizes counts all cut = elim (cases_lt room (total sizes)) [
    | inl lt ↦ elim (cases_eq (length sizes) (1 + 1)) [
      | inl e ↦ absurd (let many = four_many sizes all lt in omega (arith, many, e))
      | inr other ↦ parts_fourth counts sizes all (cut.parts lt other)
    ]
    | inr fits ↦ rw (cut.one fits) (omega arith)
  ]

-- a cell takes a third of a page at most
pub cells_at_most : (size most : ℕ) (cells : List (List ℕ)) (kids : List (ℕ × Local)) → 512 ≤ size → size ≤ 3 * most + 14 → Pairwise (IsBetweenCell size) cells kids → AreAtMost most (map cell_room cells)
cells_at_most size most [] kids big near say = tt
cells_at_most size most (cell ∷ cells) [] big near say = absurd say
cells_at_most size most (cell ∷ cells) (kid ∷ kids) big near say = (let small = between_third size cell kid big say.0 in omega (arith, small, near), cells_at_most size most cells kids big near say.1)

-- so three cells fit
pub few_fit : (size : ℕ) (cells : List (List ℕ)) (kids : List (ℕ × Local)) → 512 ≤ size → Pairwise (IsBetweenCell size) cells kids → length cells ≤ 3 → total (map cell_room cells) + 12 ≤ size
few_fit size [] kids big say few = omega (arith, big)
few_fit size (a ∷ []) [] big say few = absurd say
few_fit size (a ∷ []) (x ∷ kids) big say few = (let one = between_third size a x big say.0 in omega (arith, one, big))
few_fit size (a ∷ b ∷ []) [] big say few = absurd say
few_fit size (a ∷ b ∷ []) (x ∷ []) big say few = absurd say.1
few_fit size (a ∷ b ∷ []) (x ∷ y ∷ kids) big say few = (let one = between_third size a x big say.0 in let two = between_third size b y big say.1.0 in omega (arith, one, two, big))
few_fit size (a ∷ b ∷ c ∷ []) [] big say few = absurd say
few_fit size (a ∷ b ∷ c ∷ []) (x ∷ []) big say few = absurd say.1
few_fit size (a ∷ b ∷ c ∷ []) (x ∷ y ∷ []) big say few = absurd say.1.1
few_fit size (a ∷ b ∷ c ∷ []) (x ∷ y ∷ z ∷ kids) big say few =
    (let one = between_third size a x big say.0 in let two = between_third size b y big say.1.0 in let three = between_third size c z big say.1.1.0 in omega (arith, one, two, three, big))
few_fit size (a ∷ b ∷ c ∷ d ∷ cells) kids big say few = absurd (omega (arith, few))
