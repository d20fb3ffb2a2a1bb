-- The bounds of a tree's rowids: those of all numbers of 64 bits will do.
use Rattle.std.proofs.Common.{◌≡◌, ◌⊎◌, inl, inr, ◌-◌, ◌^◌, ◌≤◌, ◌<◌, ℕ, zero, suc, ℤ, pos, negsuc, ◌<ℤ◌, ◌≤ℤ◌, Bool, true, false, cond, nat_lt, List, [], ◌∷◌, refl, sym, subst, ◌∙◌, arith}
use Rattle.std.proofs.lemmas.Bool.Decides.{nat_tests}
use Rattle.std.proofs.lemmas.Int.{ints}
use Rattle.std.specs.Int.{w64, cast_signed}
use Rattle.std.specs.List.{AllByRecursion}
use Rattle.pages.specs.Map.{PageMap}
use Rattle.tree_page.specs.Cells.{Pairwise}
use Rattle.tree_page.specs.Node.{Local, IsRowCell, IsKeyCell}
use Rattle.tree_store.specs.Sides.{Each, Parted, children}
use Rattle.tree_table.specs.Tree.{Held, IsHeldAs, Tree, top, Lies, Rises, IsSorted}

-- less than each number of 64 bits
abbrev pub before_all : ℤ
before_all = negsuc 9223372036854775808

-- the greatest number of 64 bits
abbrev pub last_rowid : ℤ
last_rowid = pos 9223372036854775807

-- a number of 64 bits
abbrev IsWide : ℤ → Type 0
IsWide z = (before_all <ℤ z) × (z ≤ℤ last_rowid)

-- any number in two's complement of 64 bits
signed_wide : (n : ℕ) → IsWide (cast_signed w64 n)
signed_wide n = by_test (nat_lt n (2 ^ 63)) refl
  where
    by_test : (b : Bool) → nat_lt n (2 ^ 63) ≡ b → IsWide (cond b (pos n) (negsuc (2 ^ 64 - suc n)))
    by_test true e = (let below : n < 2 ^ 63 = grind (arith, nat_tests) in (omega (arith, ints, below), omega (arith, ints, below)))
    by_test false e = (let above : 2 ^ 63 ≤ n = grind (arith, nat_tests) in (omega (arith, ints, above), omega (arith, ints, above)))

-- the rowids of a leaf
rows_wide : (map : PageMap) (size usable : ℕ) (cells : List (List ℕ)) (said : List (ℤ × Local)) (rows : List Held) → Pairwise (IsRowCell usable) cells said → Pairwise (IsHeldAs map size) said rows
    → AllByRecursion (λ (held : Held). IsWide held.row.rowid) rows
rows_wide map size usable cells said [] cell are = tt
rows_wide map size usable cells [] (row ∷ rows) cell are = absurd are
rows_wide map size usable [] (one ∷ said) (row ∷ rows) cell are = absurd cell
rows_wide map size usable (first ∷ cells) (one ∷ said) (row ∷ rows) cell are =
    (subst IsWide (sym cell.0.signed ∙ are.0.rowid) (signed_wide cell.0.number), rows_wide map size usable cells said rows cell.1 are.1)

-- the keys of an interior page
keys_wide : {T : Type 0} (page : T → ℕ) (cells : List (List ℕ)) (kids : List (T × ℤ)) → Pairwise IsKeyCell cells (children page kids) → AllByRecursion (λ (kid : T × ℤ). IsWide kid.1) kids
keys_wide page cells [] are = tt
keys_wide page [] (kid ∷ kids) are = absurd are
keys_wide page (cell ∷ cells) (kid ∷ kids) are = (subst IsWide (sym are.0.signed) (signed_wide are.0.number), keys_wide page cells kids are.1)

-- ---- order

rises_le : (low high : ℤ) (rows : List Held) → Rises low rows high → low ≤ℤ high
rises_le low high [] rises = rises
rises_le low high (row ∷ rows) rises = (let rest = rises_le row.row.rowid high rows rises.1 in let first = rises.0 in omega (arith, ints, rest, first))

parted_le : {T : Type 0} (P : ℤ → T → ℤ → Type 0) → ((low : ℤ) (t : T) (high : ℤ) → P low t high → low ≤ℤ high) → (low high : ℤ) (kids : List (T × ℤ)) (last : T) → Parted P low kids last high → low ≤ℤ high
parted_le P f low high [] last parted = f low last high parted
parted_le P f low high (kid ∷ kids) last parted = (let rest = parted_le P f kid.1 high kids last parted.1 in let first = f low kid.0 kid.1 parted.0 in omega (arith, ints, rest, first))

sorted_le : (depth : ℕ) (low : ℤ) (t : Tree depth) (high : ℤ) → IsSorted depth low t high → low ≤ℤ high
sorted_le zero low t high sorted = rises_le low high t.rows sorted
sorted_le (suc depth) low t high sorted = parted_le (IsSorted depth) (sorted_le depth) low high t.kids t.last sorted

-- one bound is below another, or below all
abbrev IsUnder : ℤ → ℤ → Type 0
IsUnder a low = (a ≤ℤ low) ⊎ (a ≡ before_all)

abbrev IsOver : ℤ → ℤ → Type 0
IsOver b high = (high ≤ℤ b) ⊎ (b ≡ last_rowid)

under_all : (a low z : ℤ) → IsUnder a low → low <ℤ z → IsWide z → a <ℤ z
under_all a low z (inl le) lt wide = omega (arith, ints, le, lt)
under_all a low z (inr e) lt wide = (let w = wide.0 in subst (λ (x : ℤ). x <ℤ z) (sym e) w)

under_key : (a low z : ℤ) → IsUnder a low → low ≤ℤ z → IsWide z → a ≤ℤ z
under_key a low z (inl le) lt wide = omega (arith, ints, le, lt)
under_key a low z (inr e) lt wide = (let w = wide.0 in subst (λ (x : ℤ). x ≤ℤ z) (sym e) (omega (arith, ints, w)))

over_all : (b high z : ℤ) → IsOver b high → z ≤ℤ high → IsWide z → z ≤ℤ b
over_all b high z (inl le) lt wide = omega (arith, ints, le, lt)
over_all b high z (inr e) lt wide = subst (λ (x : ℤ). z ≤ℤ x) (sym e) wide.1

same_under : (z : ℤ) → IsUnder z z
same_under z = inl (omega (arith, ints))

same_over : (z : ℤ) → IsOver z z
same_over z = inl (omega (arith, ints))

rises_wide : (a b low high : ℤ) (rows : List Held) → AllByRecursion (λ (held : Held). IsWide held.row.rowid) rows → IsUnder a low → IsOver b high → a ≤ℤ b → Rises low rows high → Rises a rows b
rises_wide a b low high [] wide under over le rises = le
rises_wide a b low high (row ∷ rows) wide under over le rises = (
  under_all a low row.row.rowid under rises.0 wide.0,
  rises_wide row.row.rowid b row.row.rowid high rows wide.1 (same_under row.row.rowid) over (over_all b high row.row.rowid over (rises_le row.row.rowid high rows rises.1) wide.0) rises.1,
)

-- Rows of a subtree within some bounds lie within wider ones.
abbrev CanWiden : {T : Type 0} → (T → Type 0) → (ℤ → T → ℤ → Type 0) → Type 0
CanWiden {T} L P = (a b low high : ℤ) (t : T) → L t → IsUnder a low → IsOver b high → a ≤ℤ b → P low t high → P a t b

parted_wide : {T : Type 0} (L : T → Type 0) (P : ℤ → T → ℤ → Type 0) → ((low : ℤ) (t : T) (high : ℤ) → P low t high → low ≤ℤ high) → CanWiden L P
    → (a b low high : ℤ) (kids : List (T × ℤ)) (last : T) → Each L kids last → AllByRecursion (λ (kid : T × ℤ). IsWide kid.1) kids → IsUnder a low → IsOver b high → a ≤ℤ b
    → Parted P low kids last high → Parted P a kids last b
parted_wide L P f widen a b low high [] last lies wide under over le parted = widen a b low high last lies under over le parted
parted_wide L P f widen a b low high (kid ∷ kids) last lies wide under over le parted = (
  widen a kid.1 low kid.1 kid.0 lies.0 under (same_over kid.1) (under_key a low kid.1 under (f low kid.0 kid.1 parted.0) wide.0) parted.0,
  parted_wide L P f widen kid.1 b kid.1 high kids last lies.1 wide.1 (same_under kid.1) over (over_all b high kid.1 over (parted_le P f kid.1 high kids last parted.1) wide.0) parted.1,
)

sorted_wide : (map : PageMap) (size depth : ℕ) → CanWiden (Lies map size depth) (IsSorted depth)
sorted_wide map size zero a b low high t lies under over le sorted =
    rises_wide a b low high t.rows (rows_wide map size _ lies.says.node_is.cells lies.said t.rows lies.says.node_is.say lies.rows) under over le sorted
sorted_wide map size (suc depth) a b low high t lies under over le sorted =
    parted_wide (Lies map size depth) (IsSorted depth) (sorted_le depth) (sorted_wide map size depth) a b low high t.kids t.last lies.1
    (keys_wide (top depth) lies.0.node_is.cells t.kids lies.0.node_is.say.0) under over le sorted

-- the rowids of any tree lie within the bounds of all
pub within_all : (map : PageMap) (size depth : ℕ) (low high : ℤ) (t : Tree depth) → Lies map size depth t → IsSorted depth low t high → IsSorted depth before_all t last_rowid
within_all map size depth low high t lies sorted = sorted_wide map size depth before_all last_rowid low high t lies (inr refl) (inr refl) (omega (arith, ints)) sorted
