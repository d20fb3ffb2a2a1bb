-- The cells of a page lie on it.
use Rattle.std.proofs.Common.{◌≡◌, ◌≤◌, ◌+◌, ◌-◌, ◌*◌, ℕ, zero, suc, List, [], ◌∷◌, ◌++◌, length, map, nat_lt, if◌then◌else◌, refl, ap, inl, inr, arith}
use Rattle.std.proofs.lemmas.Grind.{common_steps}
use Rattle.std.proofs.lemmas.Bool.{cases_lt}
use Rattle.std.proofs.lemmas.List.{length-append}
use Rattle.std.specs.List.{AllByRecursion, flat_map}
use Rattle.tree_page.specs.Cells.{Span, pointer, IsApart, AreApart, Pairwise, IsAt, front, page_header, IsTreePage}
use Rattle.tree_page.proofs.HeaderLemmas.{length-pointers, length-header, same_length}
use Rattle.tree_pack.specs.Parts.{total}
use Rattle.tree_pack.specs.Building.{cell_room}

-- 1 for a byte of the span
abbrev inside : ℕ → Span → ℕ
inside x span = if nat_lt x span.from then 0 else (if nat_lt x span.to then 1 else 0)

abbrev covered : ℕ → List Span → ℕ
covered x [] = 0
covered x (span ∷ spans) = inside x span + covered x spans

abbrev sum : ℕ → (ℕ → ℕ) → ℕ
sum zero f = 0
sum (suc n) f = sum n f + f n

sum_both : (n : ℕ) (f g : ℕ → ℕ) → sum n (λ x. f x + g x) ≡ sum n f + sum n g
sum_both zero f g = refl
sum_both (suc n) f g = (let e = sum_both n f g in omega (arith, e))

sum_le : (n : ℕ) (f : ℕ → ℕ) → ((x : ℕ) → f x ≤ 1) → sum n f ≤ n
sum_le zero f le = omega arith
sum_le (suc n) f le = (let e = sum_le n f le in let one = le n in omega (arith, e, one))

-- of the first bytes those of the span
abbrev some_of : ℕ → Span → ℕ
some_of n span = if nat_lt n span.from then 0 else (if nat_lt n span.to then n - span.from else span.to - span.from)

some_step : (n : ℕ) (span : Span) → span.from ≤ span.to → some_of (suc n) span ≡ some_of n span + inside n span
some_step n span le = grind (arith, common_steps)

sum_inside : (n : ℕ) (span : Span) → span.from ≤ span.to → sum n (λ x. inside x span) ≡ some_of n span
sum_inside zero span le = grind (arith, common_steps)
sum_inside (suc n) span le = (let e = sum_inside n span le in let step = some_step n span le in omega (arith, e, step))

some_all : (n : ℕ) (span : Span) → span.from ≤ span.to → span.to ≤ n → some_of n span ≡ span.to - span.from
some_all n span le within = grind (arith, common_steps)

apart_inside : (x : ℕ) (s t : Span) → IsApart t s → inside x s ≡ 1 → inside x t ≡ 0
apart_inside x s t (inl before) in_s = grind (arith, common_steps)
apart_inside x s t (inr behind) in_s = grind (arith, common_steps)

in_or_out : (x : ℕ) (span : Span) → inside x span ≤ 1
in_or_out x span = grind (arith, common_steps)

all_at : {A : Type 0} (P : A → Type 0) (x : A) (xs ys : List A) → AllByRecursion P (xs ++ x ∷ ys) → P x
all_at P x [] ys all = all.0
all_at P x (y ∷ xs) ys all = all_at P x xs ys all.1

none_else : (x : ℕ) (s : Span) (before behind spans : List Span) → AreApart (before ++ s ∷ behind) spans → inside x s ≡ 1 → covered x spans ≡ 0
none_else x s before behind [] apart in_s = refl
none_else x s before behind (span ∷ spans) apart in_s =
    let other = apart_inside x s span (all_at (IsApart span) s before behind apart.0) in_s in
    let rest = none_else x s (span ∷ before) behind spans apart.1 in_s in
    omega (arith, other, rest)

covered_once : (x : ℕ) (before spans : List Span) → AreApart before spans → covered x spans ≤ 1
covered_once x before [] apart = omega arith
covered_once x before (span ∷ spans) apart = elim (cases_lt (inside x span) 1) [
  | inl lt ↦ (let rest = covered_once x (span ∷ before) spans apart.1 in omega (arith, lt, rest))
  | inr ge ↦ (let one = in_or_out x span in let in_span : inside x span ≡ 1 = omega (arith, one, ge) in let none = none_else x span [] before spans apart.1 in_span in omega (arith, one, none))
]

lies_on : (page : List ℕ) (span : Span) (cell : List ℕ) → IsAt page span cell → (span.from ≤ span.to) × (span.to ≤ length page) × (span.to - span.from ≡ length cell)
lies_on page span cell at =
    let len = ap length at.parts in
    let one = length-append at.before (cell ++ at.after) in
    let two = length-append cell at.after in
    let from = at.from_is in
    let to = at.to_is in
    (omega (arith, from, to), omega (arith, len, one, two, to), omega (arith, from, to))

sum_cells : (page : List ℕ) (spans : List Span) (cells : List (List ℕ)) → Pairwise (IsAt page) spans cells → sum (length page) (λ x. covered x spans) + 2 * length cells ≡ total (map cell_room cells)
sum_cells page [] [] at = nothing_sum (length page)
  where
    nothing_sum : (n : ℕ) → sum n (λ x. 0) + 0 ≡ 0
    nothing_sum zero = refl
    nothing_sum (suc n) = (let e = nothing_sum n in omega (arith, e))
sum_cells page [] (cell ∷ cells) at = absurd at
sum_cells page (span ∷ spans) [] at = absurd at
sum_cells page (span ∷ spans) (cell ∷ cells) at =
    let lies = lies_on page span cell at.0 in
    let both = sum_both (length page) (λ x. inside x span) (λ x. covered x spans) in
    let one = sum_inside (length page) span lies.0 in
    let all = some_all (length page) span lies.0 lies.1 in
    let size = lies.2 in
    let rest = sum_cells page spans cells at.1 in
    omega (arith, both, one, all, size, rest)

front_ends : (kind : ℕ) (page : List ℕ) (start : ℕ) (right : List ℕ) (cells : List (List ℕ)) → IsTreePage kind page start right cells → start + 8 + length right + 2 * length cells ≤ length page
front_ends kind page start right cells is =
    let header = page_header kind is.freeblock (length cells) is.content is.fragments in
    let whole = ap length is.parts in
    let one = length-append is.before (header ++ (right ++ (flat_map pointer is.spans ++ is.rest))) in
    let two = length-append header (right ++ (flat_map pointer is.spans ++ is.rest)) in
    let three = length-append right (flat_map pointer is.spans ++ is.rest) in
    let four = length-append (flat_map pointer is.spans) is.rest in
    let pointers = length-pointers is.spans in
    let count = same_length (IsAt page) is.spans cells is.cells_are in
    let head = length-header kind (length cells) is.fragments is.freeblock is.content is.freeblock_is is.content_is in
    let begin = is.start_is in
    omega (arith, whole, one, two, three, four, pointers, count, head, begin)

-- the cells of a page lie on it beside the header and the pointers
pub cells_fit : (kind : ℕ) (page : List ℕ) (start : ℕ) (right : List ℕ) (cells : List (List ℕ)) → IsTreePage kind page start right cells
    → start + 8 + length right + total (map cell_room cells) ≤ length page
cells_fit kind page start right cells is =
    let top = front start (length right) (length cells) in
    let ends = front_ends kind page start right cells is in
    let once = sum_le (length page) (λ x. covered x (top ∷ is.spans)) (λ x. covered_once x [] (top ∷ is.spans) (tt, is.apart)) in
    let both = sum_both (length page) (λ x. inside x top) (λ x. covered x is.spans) in
    let one = sum_inside (length page) top (omega arith) in
    let all = some_all (length page) top (omega arith) ends in
    let cells_sum = sum_cells page is.spans cells is.cells_are in
    omega (arith, once, both, one, all, cells_sum)
