-- Which bytes are taken, span by span.
use Rattle.std.proofs.Common.{◌≡◌, inl, inr, ℕ, zero, suc, ◌+◌, ◌-◌, ◌<◌, ◌≤◌, Bool, true, false, cond, ◌&&◌, ◌||◌, nat_lt, nat_le, List, [], ◌∷◌, ◌++◌, length, get_or, take, drop, replicate, slice_range, Option, Some, None, refl, sym, ap, ◌∙◌, arith}
use Rattle.std.specs.List.{list_any, AllByRecursion}
use Rattle.std.proofs.lemmas.Bool.{cases_lt, le-leb, lt-leb, lt-ltb, le-ltb}
use Rattle.std.proofs.lemmas.List.{get_or-take, get_or-drop, get_or_append_left, get_or-append_right, get_or-replicate, get_or_past, length-take, length-take-le, length-drop, length-append, length-replicate}
use Rattle.record.proofs.VarintLemmas.{some_is}
use Rattle.tree_page.specs.Cells.{Span, IsApart}
use Rattle.tree_page.specs.Checking.{taken_up_to, claimed}

-- what is there where a test doesn't hold, or where it holds
pub unless_some : {A : Type 0} (b : Bool) (r : Option A) (y : A) → cond b None r ≡ Some y → (b ≡ false) × (r ≡ Some y)
unless_some true r y e = absurd cc
unless_some false r y e = (refl, e)

pub where_some : {A : Type 0} (b : Bool) (r : Option A) (y : A) → cond b r None ≡ Some y → (b ≡ true) × (r ≡ Some y)
where_some true r y e = (refl, e)
where_some false r y e = absurd cc

-- ---- marks

-- whether a byte lies in a span
abbrev pub covers : Span → ℕ → Bool
covers span k = nat_le span.from k && nat_lt k span.to

-- whether it lies in one of them
abbrev pub covered : ℕ → List Span → Bool
covered k [] = false
covered k (span ∷ spans) = covers span k || covered k spans

-- the bytes that lie in one of them are taken
abbrev pub AreTaken : List Bool → List Span → Type 0
AreTaken taken spans = (k : ℕ) → get_or taken k false ≡ covered k spans

-- it has a byte
abbrev pub IsProper : Span → Type 0
IsProper span = span.from < span.to

none_in : (xs : List Bool) → list_any (λ x. x) xs ≡ false → (i : ℕ) → get_or xs i false ≡ false
none_in [] none i = refl
none_in (true ∷ xs) none i = absurd cc
none_in (false ∷ xs) none zero = refl
none_in (false ∷ xs) none (suc i) = none_in xs none i

pub none_from : (xs : List Bool) → ((i : ℕ) → i < length xs → get_or xs i false ≡ false) → list_any (λ x. x) xs ≡ false
none_from [] h = refl
none_from (x ∷ xs) h = rw (h 0 (omega arith)) (none_from xs (λ i lt. h (suc i) (omega arith)))

covers_within : (span : Span) (k : ℕ) → span.from ≤ k → k < span.to → covers span k ≡ true
covers_within span k low high = rw (le-leb _ _ low, lt-ltb _ _ high) refl

covers_below : (span : Span) (k : ℕ) → k < span.from → covers span k ≡ false
covers_below span k low = rw (lt-leb _ _ low) refl

pub covers_above : (span : Span) (k : ℕ) → span.to ≤ k → covers span k ≡ false
covers_above span k high =
    elim (cases_lt k span.from) [ inl low ↦ covers_below span k low | inr from ↦ rw (le-leb _ _ from, le-ltb _ _ high) refl ]

-- a span none of whose bytes is in another lies apart from it
apart_one : (span other : Span) → IsProper span → IsProper other → ((k : ℕ) → span.from ≤ k → k < span.to → covers other k ≡ false) → IsApart span other
apart_one span other proper also clear =
    elim (cases_lt other.from span.to) [
      | inr above ↦ inl above
      | inl below ↦ elim (cases_lt span.from other.to) [
        | inr under ↦ inr under
        | inl over ↦ elim (cases_lt other.from span.from) [
          | inl left ↦ absurd (let no_byte = sym (covers_within other span.from (omega arith) over) ∙ clear span.from (omega arith) proper in cc)
          | inr right ↦ absurd (let no_byte = sym (covers_within other other.from (omega arith) also) ∙ clear other.from right below in cc)
        ]
      ]
    ]

neither : (a b : Bool) → (a || b) ≡ false → (a ≡ false) × (b ≡ false)
neither true b e = absurd cc
neither false b e = (refl, e)

apart_all : (span : Span) (others : List Span) → IsProper span → AllByRecursion IsProper others → ((k : ℕ) → span.from ≤ k → k < span.to → covered k others ≡ false) → AllByRecursion (IsApart span) others
apart_all span [] proper also clear = tt
apart_all span (other ∷ others) proper also clear = (
  apart_one span other proper also.0 (λ k low high. (neither (covers other k) (covered k others) (clear k low high)).0),
  apart_all span others proper also.1 (λ k low high. (neither (covers other k) (covered k others) (clear k low high)).1),
)

clear_one : (span other : Span) → IsApart span other → (k : ℕ) → span.from ≤ k → k < span.to → covers other k ≡ false
clear_one span other (inl above) k low high = covers_below other k (omega arith)
clear_one span other (inr under) k low high = covers_above other k (omega arith)

clear_all : (span : Span) (others : List Span) → AllByRecursion (IsApart span) others → (k : ℕ) → span.from ≤ k → k < span.to → covered k others ≡ false
clear_all span [] apart k low high = refl
clear_all span (other ∷ others) apart k low high = rw (clear_one span other apart.0 k low high) (clear_all span others apart.1 k low high)

-- ---- a claim

-- the marks once a span is taken
abbrev pub with_claim : List Bool → Span → List Bool
with_claim taken span = take span.from taken ++ (replicate (span.to - span.from) true ++ drop span.to taken)

-- there are as many of them
pub length-with_claim : (taken : List Bool) (span : Span) → span.from ≤ span.to → span.to ≤ length taken → length (with_claim taken span) ≡ length taken
length-with_claim taken span proper within =
    omega (
      arith,
      length-append (take span.from taken) (replicate (span.to - span.from) true ++ drop span.to taken),
      length-append (replicate (span.to - span.from) true) (drop span.to taken),
      length-take span.from taken,
      length-replicate (span.to - span.from) true,
      length-drop span.to taken,
    )

-- they are those of one span more
pub taken_with : (taken : List Bool) (span : Span) (spans : List Span) → span.from ≤ span.to → span.to ≤ length taken → AreTaken taken spans → AreTaken (with_claim taken span) (span ∷ spans)
taken_with taken span spans proper within are k =
    let front = take span.from taken in
    let middle = replicate (span.to - span.from) true in
    let back = drop span.to taken in
    let front_len : length front ≡ span.from = length-take-le span.from taken (omega arith) in
    let middle_len : length middle ≡ span.to - span.from = length-replicate (span.to - span.from) true in
    elim (cases_lt k span.from) [
      | inl low ↦
          rw (covers_below span k low) (get_or_append_left front (middle ++ back) false k (omega arith) ∙ get_or-take span.from taken k false low ∙ are k)
      | inr from ↦ elim (cases_lt k span.to) [
        | inl high ↦
            rw (covers_within span k from high) (get_or-append_right front (middle ++ back) span.from k false front_len from ∙ get_or_append_left middle back false (k - span.from) (omega arith)
            ∙ get_or-replicate (span.to - span.from) (k - span.from) true false (omega arith))
        | inr above ↦
            let place : span.to + (k - span.from - (span.to - span.from)) ≡ k = omega arith in
            rw (covers_above span k above) (get_or-append_right front (middle ++ back) span.from k false front_len from
            ∙ get_or-append_right middle back (span.to - span.from) (k - span.from) false middle_len (omega arith)
            ∙ get_or-drop span.to taken (k - span.from - (span.to - span.from)) false ∙ rw place (are k))
      ]
    ]

pub part_at : (taken : List Bool) (span : Span) (k : ℕ) → span.from ≤ k → k < span.to → get_or (slice_range taken span.from span.to) (k - span.from) false ≡ get_or taken k false
part_at taken span k low high =
    let place : span.from + (k - span.from) ≡ k = omega arith in
    get_or-take (span.to - span.from) (drop span.from taken) (k - span.from) false (omega arith) ∙ get_or-drop span.from taken (k - span.from) false ∙ ap (λ (n : ℕ). get_or taken n false) place

-- a span that was claimed lies apart from those that were taken
pub claim_is : (taken marks : List Bool) (span : Span) (spans : List Span) → IsProper span → AllByRecursion IsProper spans → AreTaken taken spans → claimed taken span.from span.to ≡ Some marks
    → AllByRecursion (IsApart span) spans × (marks ≡ with_claim taken span)
unfolding claimed
claim_is taken marks span spans proper also are e =
    let g = unless_some (list_any (λ byte. byte) (slice_range taken span.from span.to)) (Some (with_claim taken span)) marks e in
    let clear = λ (k : ℕ) (low : span.from ≤ k) (high : k < span.to). sym (are k) ∙ sym (part_at taken span k low high) ∙ none_in (slice_range taken span.from span.to) g.0 (k - span.from) in
    (apart_all span spans proper also clear, sym (some_is g.1))

-- a span that lies apart is claimed
pub claim_again : (taken : List Bool) (span : Span) (spans : List Span) → span.to ≤ length taken → AllByRecursion (IsApart span) spans → AreTaken taken spans → claimed taken span.from span.to ≡ Some (with_claim taken span)
unfolding claimed
claim_again taken span spans within apart are =
    let part = slice_range taken span.from span.to in
    let len : length part ≤ span.to - span.from = omega (arith, length-take (span.to - span.from) (drop span.from taken)) in
    let none : list_any (λ byte. byte) part ≡ false = none_from part (λ i lt.
    let place : span.from + i - span.from ≡ i = omega arith in
    ap (λ (n : ℕ). get_or part n false) (sym place) ∙ part_at taken span (span.from + i) (omega arith) (omega arith) ∙ are (span.from + i) ∙ clear_all span spans apart (span.from + i) (omega arith) (omega arith)) in
    rw none refl

-- ---- the front

pub length-taken_up_to : (front size : ℕ) → front ≤ size → length (taken_up_to front size) ≡ size
length-taken_up_to front size le = omega (arith, length-append (replicate front true) (replicate (size - front) false), length-replicate front true, length-replicate (size - front) false)

pub taken_first : (front size : ℕ) → AreTaken (taken_up_to front size) (record { from = 0; to = front } ∷ [])
taken_first front size k =
    let span : Span = record { from = 0; to = front } in
    elim (cases_lt k front) [
      | inl low ↦
          rw (covers_within span k (omega arith) low)
          (get_or_append_left (replicate front true) (replicate (size - front) false) false k (omega (arith, length-replicate front true)) ∙ get_or-replicate front k true false low)
      | inr high ↦
          rw (covers_above span k high)
          (get_or-append_right (replicate front true) (replicate (size - front) false) front k false (length-replicate front true) high ∙ elim (cases_lt (k - front) (size - front)) [
            | inl inside ↦ get_or-replicate (size - front) (k - front) false false inside
            | inr past ↦ get_or_past (replicate (size - front) false) (k - front) false (omega (arith, length-replicate (size - front) false))
          ])
    ]
