-- Parts of rows whose numbers rise rise, up to their keys.
use Rattle.std.proofs.Common.{◌≡◌, inl, inr, ◌≤◌, ◌+◌, ◌-◌, ℕ, zero, suc, ℤ, Bool, List, [], ◌∷◌, length, take, drop, refl, subst, arith}
use Rattle.std.proofs.lemmas.Bool.{cases_lt, cases_eq}
use Rattle.std.proofs.lemmas.Int.{ints}
use Rattle.std.proofs.lemmas.List.{length-drop}
use Rattle.tree_pack.specs.Parts.{total, goal_of, AreParts, IsCut}
use Rattle.tree_pack.specs.Lists.{row_parts}
use Rattle.tree_pack.specs.Rows.{Rises, last_number, Parted, LieWithin}

rises_cut : {X : Type 0} (n : ℕ) (low : ℤ) (rows : List (ℤ × X)) (high : ℤ) → n ≤ length rows → Rises low rows high
    → Rises low (take n rows) (last_number low (take n rows)) × Rises (last_number low (take n rows)) (drop n rows) high
rises_cut zero low rows high le rises = (omega (arith, ints), rises)
rises_cut (suc n) low [] high le rises = absurd (omega arith)
rises_cut (suc n) low (row ∷ rows) high le rises =
    let r = rises_cut n row.0 rows high (omega arith) rises.1 in ((rises.0, r.0), r.1)

same_number : {X : Type 0} (a b : ℤ) (n : ℕ) (rows : List (ℤ × X)) → 1 ≤ n → n ≤ length rows → last_number a (take n rows) ≡ last_number b (take n rows)
same_number a b zero rows some le = absurd (omega arith)
same_number a b (suc n) [] some le = absurd (omega arith)
same_number a b (suc n) (row ∷ rows) some le = refl

pub rows_parted : {X : Type 0} (none : ℤ) (counts : List ℕ) (rows : List (ℤ × X)) (low high : ℤ) → LieWithin 0 counts (length rows) → Rises low rows high
    → Parted Rises low (row_parts (last_number none) counts rows).0 (row_parts (last_number none) counts rows).1 high
rows_parted none [] rows low high within rises = rises
rows_parted {X} none (count ∷ counts) rows low high (some, le, more) rises =
    let r = rises_cut count low rows high (omega (arith, le)) rises in
    let same = same_number low none count rows some (omega (arith, le)) in
    let len : length rows - (count + 0) ≡ length (drop count rows) = omega (arith, length-drop count rows) in (
      subst (λ (z : ℤ). Rises low (take count rows) z) same r.0,
      rows_parted none counts (drop count rows) (last_number none (take count rows)) high (subst (λ (n : ℕ). LieWithin 0 counts n) len more)
          (subst (λ (z : ℤ). Rises z (drop count rows) high) same r.1),
    )

parts_within : (up room goal : ℕ) (counts sizes : List ℕ) → AreParts up room goal counts sizes → LieWithin up counts (length sizes)
parts_within up room goal [] sizes parts = tt
parts_within up room goal (count ∷ counts) sizes parts =
    let first = parts.0 in (
      first.some,
      omega (arith, first.behind),
      subst (λ (n : ℕ). LieWithin up counts n) (length-drop (count + up) sizes) (parts_within up room goal counts (drop (count + up) sizes) parts.2),
    )

pub cut_within : (up room : ℕ) (rises : Bool) (sizes counts : List ℕ) → IsCut up room rises sizes counts → LieWithin up counts (length sizes)
cut_within up room rises sizes counts cut = elim (cases_lt room (total sizes)) [
  | inl lt ↦ elim (cases_eq (length sizes) (up + 1)) [
    | inl e ↦ rw (cut.lone lt e) (omega arith, omega (arith, e), tt)
    | inr other ↦ parts_within up room (goal_of rises room sizes) counts sizes (cut.parts lt other)
  ]
  | inr fits ↦ rw (cut.one fits) tt
]
