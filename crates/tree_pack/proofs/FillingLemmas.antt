-- What is known of the parts.
use Rattle.std.proofs.Common.{◌≡◌, ◌⊎◌, inl, inr, ◌≤◌, ◌<◌, ◌+◌, ◌-◌, ◌*◌, ◌/◌, ℕ, zero, suc, Bool, true, false, List, [], ◌∷◌, length, take, drop, map, get_or, refl, sym, ap, subst, ◌∙◌, arith}
use Rattle.std.specs.List.{AllByRecursion}
use Rattle.std.proofs.lemmas.Bool.{cases_lt, cases_eq}
use Rattle.std.proofs.lemmas.List.{length-take, length-take-le, length-drop, take-map, drop-map, drop_all, drop-drop}
use Rattle.tree_pack.specs.Parts.{total, goal_of, IsPart, AreParts, IsCut}
use Rattle.tree_pack.specs.Lists.{parts_of, pieces, entry_parts, Side, side_parts, side_pieces}
use Rattle.tree_pack.specs.Filling.{AreWithin, IsAboutHalf, BeginsAboutHalf}
use Rattle.tree_pack.proofs.Totals.{total_split, total_more}
use Rattle.tree_pack.proofs.Joins.{LeavesOne, entry_pieces, sides_pieces}

-- each one fits, together with as large ones that go up
abbrev pub AreSmall : (up most : ℕ) → List ℕ → Type 0
AreSmall up most sizes = AllByRecursion (λ (size : ℕ). (up + 1) * size ≤ most) sizes

small_drop : (up most n : ℕ) (sizes : List ℕ) → AreSmall up most sizes → AreSmall up most (drop n sizes)
small_drop up most zero sizes small = small
small_drop up most (suc n) [] small = small
small_drop up most (suc n) (size ∷ sizes) small = small_drop up most n sizes small.1

few_fit : (up most : ℕ) (sizes : List ℕ) → up ≤ 1 → AreSmall up most sizes → length sizes ≤ up + 1 → total sizes ≤ most
few_fit up most [] one small few = omega arith
few_fit zero most (a ∷ []) one small few = let h = small.0 in omega (arith, h)
few_fit zero most (a ∷ b ∷ sizes) one small few = absurd (omega arith)
few_fit (suc zero) most (a ∷ []) one small few = let h = small.0 in omega (arith, h)
few_fit (suc zero) most (a ∷ b ∷ []) one small few = let h = small.0 in let k = small.1.0 in omega (arith, h, k)
few_fit (suc zero) most (a ∷ b ∷ c ∷ sizes) one small few = absurd (omega arith)
few_fit (suc (suc up)) most (a ∷ sizes) one small few = absurd (omega arith)

first_fits : (up most : ℕ) (sizes : List ℕ) → up ≤ 1 → AreSmall up most sizes → total (take 1 sizes) ≤ most
first_fits up most [] one small = omega arith
first_fits zero most (a ∷ sizes) one small = let h = small.0 in omega (arith, h)
first_fits (suc zero) most (a ∷ sizes) one small = let h = small.0 in omega (arith, h)
first_fits (suc (suc up)) most (a ∷ sizes) one small = absurd (omega arith)

part_fits : (up room most goal count : ℕ) (sizes : List ℕ) → up ≤ 1 → room ≤ most → AreSmall up most sizes → IsPart up room goal sizes count → total (take count sizes) ≤ most
part_fits up room most goal count sizes one le small part = elim (part.fits) [
  | inl e ↦ rw e (first_fits up most sizes one small)
  | inr h ↦ omega (arith, h)
]

sizes_fit : (up room most goal : ℕ) (counts sizes : List ℕ) → up ≤ 1 → room ≤ most → AreSmall up most sizes → AreParts up room goal counts sizes
    → AllByRecursion (λ part. total part ≤ most) (parts_of up counts sizes)
sizes_fit up room most goal [] sizes one le small (inl few) = (few_fit up most sizes one small few, tt)
sizes_fit up room most goal [] sizes one le small (inr fits) = (omega (arith, fits), tt)
sizes_fit up room most goal (count ∷ counts) sizes one le small parts = (
  part_fits up room most goal count sizes one le small parts.0,
  sizes_fit up room most goal counts (drop (count + up) sizes) one le (small_drop up most (count + up) sizes small) parts.2,
)

none_behind : (n : ℕ) (sizes : List ℕ) → length sizes ≤ n → total (drop n sizes) ≡ 0
none_behind n sizes le = rw (drop_all n sizes le) refl

pub cut_fits : (up room most : ℕ) (rises : Bool) (sizes counts : List ℕ) → up ≤ 1 → room ≤ most → AreSmall up most sizes → IsCut up room rises sizes counts
    → AllByRecursion (λ part. total part ≤ most) (parts_of up counts sizes)
cut_fits up room most rises sizes counts one le small cut = elim (cases_lt room (total sizes)) [
  | inl lt ↦ elim (cases_eq (length sizes) (up + 1)) [
    | inl e ↦ rw (cut.lone lt e) (first_fits up most sizes one small, (rw (none_behind (1 + up) sizes (omega arith)) (omega arith), tt))
    | inr other ↦ sizes_fit up room most (goal_of rises room sizes) counts sizes one le small (cut.parts lt other)
  ]
  | inr fits ↦ rw (cut.one fits) (omega arith, tt)
]

parts_some : (up room goal : ℕ) (counts sizes : List ℕ) → 1 ≤ length sizes → AreParts up room goal counts sizes → AllByRecursion (λ part. 1 ≤ length part) (parts_of up counts sizes)
parts_some up room goal [] sizes some parts = (some, tt)
parts_some up room goal (count ∷ counts) sizes some parts =
    let first = parts.0 in (
      omega (arith, first.some, first.behind, length-take-le count sizes (omega (arith, first.behind))),
      parts_some up room goal counts (drop (count + up) sizes) (omega (arith, first.behind, length-drop (count + up) sizes)) parts.2,
    )

pub cut_some : (up room : ℕ) (rises : Bool) (sizes counts : List ℕ) → up + 2 ≤ length sizes → IsCut up room rises sizes counts
    → AllByRecursion (λ part. 1 ≤ length part) (parts_of up counts sizes)
cut_some up room rises sizes counts long cut = elim (cases_lt room (total sizes)) [
  | inl lt ↦ parts_some up room (goal_of rises room sizes) counts sizes (omega arith) (cut.parts lt (λ e. omega (arith, e)))
  | inr fits ↦ rw (cut.one fits) (omega arith, tt)
]

pub cut_one : (up room : ℕ) (rises : Bool) (sizes : List ℕ) → up + 1 ≤ length sizes → IsCut up room rises sizes [] → total sizes ≤ room
cut_one up room rises sizes long cut = elim (cases_lt room (total sizes)) [
  | inl lt ↦ elim (cases_eq (length sizes) (up + 1)) [
    | inl e ↦ let l : 0 ≡ 1 = ap length (cut.lone lt e) in absurd (omega (arith, l))
    | inr other ↦ elim (cut.parts lt other) [ inl few ↦ absurd (other (omega (arith, few))) | inr fits ↦ fits ]
  ]
  | inr fits ↦ fits
]

-- the same of the cells
pub of_cells : {A : Type 0} (size : A → ℕ) (P : List ℕ → Type 0) (Q : List A → Type 0) → ((part : List A) → P (map size part) → Q part) → (up : ℕ) (counts : List ℕ) (items : List A)
    → AllByRecursion P (parts_of up counts (map size items)) → AllByRecursion Q (parts_of up counts items)
of_cells size P Q go up [] items all = (go items all.0, tt)
of_cells size P Q go up (count ∷ counts) items all = (
  go (take count items) (subst P (take-map size count items) all.0),
  of_cells size P Q go up counts (drop (count + up) items) (subst (λ (xs : List ℕ). AllByRecursion P (parts_of up counts xs)) (drop-map size (count + up) items) all.1),
)

leaves : (room goal : ℕ) (counts sizes : List ℕ) → AreParts 1 room goal counts sizes → LeavesOne counts sizes
leaves room goal [] sizes parts = tt
leaves room goal (count ∷ counts) sizes parts = let first = parts.0 in (omega (arith, first.behind), leaves room goal counts (drop (count + 1) sizes) parts.2)

cut_leaves : (room : ℕ) (rises : Bool) (sizes counts : List ℕ) → IsCut 1 room rises sizes counts → LeavesOne counts sizes
cut_leaves room rises sizes counts cut = elim (cases_lt room (total sizes)) [
  | inl lt ↦ elim (cases_eq (length sizes) 2) [
    | inl e ↦ rw (cut.lone lt e) (omega (arith, e), tt)
    | inr other ↦ leaves room (goal_of rises room sizes) counts sizes (cut.parts lt other)
  ]
  | inr fits ↦ rw (cut.one fits) tt
]

leaves_of : {A : Type 0} (counts sizes : List ℕ) (items : List A) → length sizes ≡ length items → LeavesOne counts sizes → LeavesOne counts items
leaves_of [] sizes items e h = tt
leaves_of (count ∷ counts) sizes items e h =
    let lt = h.0 in (omega (arith, lt, e), leaves_of counts (drop (count + 1) sizes) (drop (count + 1) items) (omega (arith, e, length-drop (count + 1) sizes, length-drop (count + 1) items)) h.1)

-- each count of a cut leaves one item that goes up
pub cut_leaves_one : {A : Type 0} (room : ℕ) (rises : Bool) (sizes counts : List ℕ) (items : List A) → length sizes ≡ length items → IsCut 1 room rises sizes counts → LeavesOne counts items
cut_leaves_one room rises sizes counts items e cut = leaves_of counts sizes items e (cut_leaves room rises sizes counts cut)

pub cut_entries : {A : Type 0} (room : ℕ) (rises : Bool) (sizes counts : List ℕ) (items : List A) → length sizes ≡ length items → IsCut 1 room rises sizes counts
    → pieces (entry_parts counts items).0 (entry_parts counts items).1 ≡ parts_of 1 counts items
cut_entries room rises sizes counts items e cut = entry_pieces counts items (cut_leaves_one room rises sizes counts items e cut)

pub cut_sides : {T K : Type 0} (room : ℕ) (rises : Bool) (sizes counts : List ℕ) (side : Side T K) → length sizes ≡ length side.0 → IsCut 1 room rises sizes counts
    → side_pieces (side_parts counts side).0 (side_parts counts side).1 ≡ parts_of 1 counts side.0
cut_sides room rises sizes counts side e cut =
    sides_pieces (entry_parts counts side.0).0 (entry_parts counts side.0).1 side.1 ∙ cut_entries room rises sizes counts side.0 e cut

-- the parts of a list are as long as those of another of its length
pub as_long : {A : Type 0} (up : ℕ) (counts sizes : List ℕ) (items : List A) → length sizes ≡ length items
    → AllByRecursion (λ (part : List ℕ). 1 ≤ length part) (parts_of up counts sizes) → AllByRecursion (λ (part : List A). 1 ≤ length part) (parts_of up counts items)
as_long up [] sizes items e some = let one = some.0 in (omega (arith, one, e), tt)
as_long up (count ∷ counts) sizes items e some =
    let one = some.0 in (
      omega (arith, one, e, length-take count sizes, length-take count items),
      as_long up counts (drop (count + up) sizes) (drop (count + up) items) (omega (arith, e, length-drop (count + up) sizes, length-drop (count + up) items)) some.1,
    )

-- ---- how large the parts are

-- what fits or is alone is the last part
last_of : (up room goal : ℕ) (counts sizes : List ℕ) → (total sizes ≤ room) ⊎ (length sizes ≤ up + 1) → AreParts up room goal counts sizes → counts ≡ []
last_of up room goal [] sizes h parts = refl
last_of up room goal (count ∷ counts) sizes (inl fits) parts = let lt = parts.1 in absurd (omega (arith, fits, lt))
last_of up room goal (count ∷ counts) sizes (inr few) parts = let first = parts.0 in absurd (omega (arith, few, first.some, first.behind))

pub take_rises : (m n : ℕ) (sizes : List ℕ) → m ≤ n → total (take m sizes) ≤ total (take n sizes)
take_rises zero n sizes le = omega arith
take_rises (suc m) zero sizes le = absurd (omega arith)
take_rises (suc m) (suc n) [] le = omega arith
take_rises (suc m) (suc n) (size ∷ sizes) le = omega (arith, take_rises m n sizes (omega arith))

get_within : (most n : ℕ) (sizes : List ℕ) → AreWithin most sizes → get_or sizes n 0 ≤ most
get_within most n [] within = omega arith
get_within most zero (size ∷ sizes) within = within.0
get_within most (suc n) (size ∷ sizes) within = get_within most n sizes within.1

one_more : (most n : ℕ) (sizes : List ℕ) → AreWithin most sizes → n < length sizes → total (take (n + 1) sizes) ≤ total (take n sizes) + most
one_more most n sizes within lt = omega (arith, total_more n sizes 0 lt, get_within most n sizes within)

within_drop : (most n : ℕ) (sizes : List ℕ) → AreWithin most sizes → AreWithin most (drop n sizes)
within_drop most zero sizes within = within
within_drop most (suc n) [] within = within
within_drop most (suc n) (size ∷ sizes) within = within_drop most n sizes within.1

pub total_within : (most n : ℕ) (sizes : List ℕ) → AreWithin most sizes → length sizes ≤ n → total sizes ≤ n * most
total_within most n [] within le = omega arith
total_within most zero (size ∷ sizes) within le = absurd (omega arith)
total_within most (suc n) (size ∷ sizes) within le = let h = within.0 in let r = total_within most n sizes within.1 (omega arith) in omega (arith, h, r)

first_of_parts : (up room goal : ℕ) (counts sizes : List ℕ) → room < total sizes → up + 2 ≤ length sizes → AreParts up room goal counts sizes
    → (count : ℕ) × (more : List ℕ) × (counts ≡ count ∷ more) × IsPart up room goal sizes count × AreParts up room goal more (drop (count + up) sizes)
first_of_parts up room goal [] sizes lt long (inl few) = absurd (omega (arith, few))
first_of_parts up room goal [] sizes lt long (inr fits) = absurd (omega (arith, fits))
first_of_parts up room goal (count ∷ counts) sizes lt long parts = (count, counts, refl, parts.0, parts.2)

rising_first : (up room count : ℕ) (sizes : List ℕ) → total (take (length sizes - up - 1) sizes) ≤ room → IsPart up room (room + 1) sizes count → count ≡ length sizes - up - 1
rising_first up room count sizes old part = elim (part.enough) [
  | inl goal ↦ absurd (omega (arith, goal, old, take_rises count (length sizes - up - 1) sizes (omega (arith, part.behind))))
  | inr rest ↦ elim rest [
    | inl full ↦ elim (cases_lt count (length sizes - up - 1)) [
      | inl less ↦ absurd (omega (arith, full, old, take_rises (count + 1) (length sizes - up - 1) sizes (omega (arith, less))))
      | inr more ↦ omega (arith, more, part.behind)
    ]
    | inr end ↦ omega (arith, end)
  ]
]

-- where the old cells fit, they stay in the first part, but for the one that goes up, and the new one begins the last
pub keeps_old : (up room : ℕ) (sizes counts : List ℕ) → up + 2 ≤ length sizes → room < total sizes → total (take (length sizes - up - 1) sizes) ≤ room → IsCut up room true sizes counts
    → counts ≡ (length sizes - up - 1) ∷ []
keeps_old up room sizes counts long lt old cut =
    let f = first_of_parts up room (room + 1) counts sizes lt long (cut.parts lt (λ e. omega (arith, e))) in
    let first = rising_first up room f.0 sizes old f.3 in
    let last = last_of up room (room + 1) f.1 (drop (f.0 + up) sizes) (inr (omega (arith, first, length-drop (f.0 + up) sizes))) f.4 in
    f.2 ∙ ap (λ (cs : List ℕ). f.0 ∷ cs) last ∙ ap (λ (n : ℕ). n ∷ []) first

half_first : (up room most count : ℕ) (sizes : List ℕ) → AreWithin most sizes → IsPart up room (total sizes - total sizes / 2) sizes count → IsAboutHalf up room most (total sizes) (total (take count sizes))
half_first up room most count sizes within part = record {
  enough = elim (part.enough) [
    | inl goal ↦ inl (omega (arith, goal))
    | inr rest ↦ elim rest [
      | inl full ↦ inr (inl (omega (arith, full, one_more most count sizes within (omega (arith, part.behind)))))
      | inr end ↦ inr (inr (omega (arith, total_split count sizes, total_within most (up + 1) (drop count sizes) (within_drop most count sizes within) (omega (arith, end, length-drop count sizes)))))
    ]
  ];
  behind = elim (part.least) [
    | inl e ↦ let m = one_more most 0 sizes within (omega (arith, part.behind)) in let z : count ≡ 0 + 1 = omega (arith, e) in rw z (omega (arith, m))
    | inr less ↦ let m = one_more most (count - 1) sizes within (omega (arith, part.behind)) in let z : count - 1 + 1 ≡ count = omega (arith, part.some) in
        let k : total (take count sizes) ≤ total (take (count - 1) sizes) + most = subst (λ (n : ℕ). total (take n sizes) ≤ total (take (count - 1) sizes) + most) z m in omega (arith, k, less)
  ];
}

pub begins_half : (up room most : ℕ) (sizes counts : List ℕ) → up + 2 ≤ length sizes → room < total sizes → AreWithin most sizes → IsCut up room false sizes counts → BeginsAboutHalf up room most sizes counts
begins_half up room most sizes counts long lt within cut =
    let f = first_of_parts up room (total sizes - total sizes / 2) counts sizes lt long (cut.parts lt (λ e. omega (arith, e))) in
    subst (λ (cs : List ℕ). BeginsAboutHalf up room most sizes cs) (sym f.2) (half_first up room most f.0 sizes within f.3)

-- no more than two parts where all, and one more, are at most two pages
second_last : (up room most goal count : ℕ) (sizes : List ℕ) → total sizes ≤ 2 * goal → AreWithin most sizes → total sizes + most ≤ 2 * room → IsPart up room goal sizes count
    → (total (drop (count + up) sizes) ≤ room) ⊎ (length (drop (count + up) sizes) ≤ up + 1)
second_last up room most goal count sizes half within le part =
    let split = total_split (count + up) sizes in
    let rises = take_rises count (count + up) sizes (omega arith) in
    elim (part.enough) [
      | inl reached ↦ inl (omega (arith, split, rises, reached))
      | inr rest ↦ elim rest [
        | inl full ↦ inl (omega (arith, split, rises, full, one_more most count sizes within (omega (arith, part.behind))))
        | inr end ↦ inr (omega (arith, end, length-drop (count + up) sizes))
      ]
    ]

goal_half : (rises : Bool) (room : ℕ) (sizes : List ℕ) → total sizes ≤ 2 * room → total sizes ≤ 2 * goal_of rises room sizes
goal_half true room sizes le = omega (arith, le)
goal_half false room sizes le = omega arith

pub two_parts : (up room most : ℕ) (rises : Bool) (sizes counts : List ℕ) → AreWithin most sizes → total sizes + most ≤ 2 * room → IsCut up room rises sizes counts → length counts ≤ 1
two_parts up room most rises sizes counts within le cut = elim (cases_lt room (total sizes)) [
  | inl lt ↦ elim (cases_lt (length sizes) (up + 2)) [
    | inl few ↦ elim (cases_eq (length sizes) (up + 1)) [
      | inl e ↦ rw (cut.lone lt e) (omega arith)
      | inr other ↦ rw (last_of up room (goal_of rises room sizes) counts sizes (inr (omega (arith, few))) (cut.parts lt other)) (omega arith)
    ]
    | inr long ↦
        let f = first_of_parts up room (goal_of rises room sizes) counts sizes lt long (cut.parts lt (λ e. omega (arith, e))) in
        let last = last_of up room (goal_of rises room sizes) f.1 (drop (f.0 + up) sizes) (second_last up room most (goal_of rises room sizes) f.0 sizes (goal_half rises room sizes (omega (arith, le))) within le f.3) f.4 in
        rw (f.2, last) (omega arith)
  ]
  | inr fits ↦ rw (cut.one fits) (omega arith)
]

-- no more than three parts where all are at most two pages
parts_three : (up room goal : ℕ) (counts sizes : List ℕ) → total sizes ≤ 2 * goal → total sizes ≤ 2 * room → AreParts up room goal counts sizes → length counts ≤ 2
parts_three up room goal [] sizes half le parts = omega arith
parts_three up room goal (c ∷ []) sizes half le parts = omega arith
parts_three up room goal (c ∷ d ∷ []) sizes half le parts = omega arith
parts_three up room goal (c ∷ d ∷ e ∷ counts) sizes half le parts =
    let first = parts.0 in
    let second = parts.2.0 in
    let rest = parts.2.1 in
    let third : room < total (drop (d + up) (drop (c + up) sizes)) = parts.2.2.1 in
    let n = c + up + (d + up) in
    let same : total (drop (d + up) (drop (c + up) sizes)) ≡ total (drop n sizes) = ap total (drop-drop (d + up) (c + up) sizes) in
    absurd (elim (first.enough) [
      | inl reached ↦ omega (arith, reached, rest, total_split (c + up) sizes, take_rises c (c + up) sizes (omega arith))
      | inr more ↦ elim more [
        | inl full ↦ omega (arith, full, third, same, total_split n sizes, take_rises (c + 1) n sizes (omega (arith, second.some)))
        | inr end ↦ omega (arith, end, second.some, second.behind, length-drop (c + up) sizes)
      ]
    ])

pub three_parts : (up room : ℕ) (rises : Bool) (sizes counts : List ℕ) → total sizes ≤ 2 * room → IsCut up room rises sizes counts → length counts ≤ 2
three_parts up room rises sizes counts le cut = elim (cases_lt room (total sizes)) [
  | inl lt ↦ elim (cases_eq (length sizes) (up + 1)) [
    | inl e ↦ rw (cut.lone lt e) (omega arith)
    | inr other ↦ parts_three up room (goal_of rises room sizes) counts sizes (goal_half rises room sizes le) le (cut.parts lt other)
  ]
  | inr fits ↦ rw (cut.one fits) (omega arith)
]
