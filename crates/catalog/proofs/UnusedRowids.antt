-- Rowids that are none of some.
use Rattle.std.proofs.Common.{SFits, w64, ◌≡◌, refl, sym, subst, ℕ, zero, suc, ◌+◌, ◌-◌, ◌^◌, ◌<◌, ◌≤◌, ℤ, pos, negsuc, ◌+ℤ◌, ◌-ℤ◌, ◌<ℤ◌, ◌≤ℤ◌, List, [], ◌∷◌, length, slice_index_or, Bool, true, false, cond, arith}
use Rattle.std.proofs.lemmas.Int.{ints}
use Rattle.std.proofs.lemmas.Grind.{common_steps}
use Rattle.std.proofs.lemmas.Bool.{false≢true}
use Rattle.std.proofs.lemmas.Map.Lookups.{exact_signed}
use Rattle.std.proofs.lemmas.Map.Views.{tells_apart}
use Rattle.std.specs.Prelude.{take, int_lt, if◌then◌else◌, ◌||◌}
use Rattle.std.specs.Cmp.{int_ranks}
use Rattle.std.specs.Ordering.{MatchOrdering, int_cmp, is_lt, ord_max, eq_by_cmp}
use Rattle.std.specs.declared.cmp.Ordering.{Ordering}
use Rattle.std.specs.declared.cmp.Ordering.TheVariants.{Less, Equal, Greater}
use Rattle.catalog.specs.UnusedRowids.{AreTakenAfter, AreUpTo, is_among}

same_int : (a b : ℤ) → eq_by_cmp int_cmp a b ≡ true → a ≡ b
same_int a b h = tells_apart exact_signed a b h

-- ---- the greatest

up_more : (xs : List ℤ) (a b : ℤ) → a ≤ℤ b → AreUpTo a xs → AreUpTo b xs
up_more [] a b le up = tt
up_more (x ∷ xs) a b le up = (further x a b up.0 le, up_more xs a b le up.1)
  where
    further : (x a b : ℤ) → x ≤ℤ a → a ≤ℤ b → x ≤ℤ b
    further x a b h k = grind (arith)

greater : (a b : ℤ) → (a ≤ℤ ord_max int_cmp a b) × (b ≤ℤ ord_max int_cmp a b)
greater a b = by_rank (int_cmp b a) (int_ranks b a)
  where
    by_rank : (r : Ordering) → MatchOrdering r (b <ℤ a) (b ≡ a) (a <ℤ b) → (a ≤ℤ cond (is_lt r) a b) × (b ≤ℤ cond (is_lt r) a b)
    by_rank Less h = (grind (arith), grind (arith))
    by_rank Equal h = (grind (arith), grind (arith))
    by_rank Greater h = (grind (arith), grind (arith))

pub next_up : (xs : List ℤ) (i : ℕ) (g x : ℤ) → i < length xs → ((d : ℤ) → x ≡ slice_index_or xs i d) → AreUpTo g (take i xs) → AreUpTo (ord_max int_cmp g x) (take (suc i) xs)
next_up [] i g x lt is up = absurd (omega (arith, lt))
next_up (y ∷ xs) zero g x lt is up = (subst (λ z. z ≤ℤ ord_max int_cmp g x) (is y) (greater g x).1, tt)
next_up (y ∷ xs) (suc i) g x lt is up = (further y g _ up.0 (greater g x).0, next_up xs i g x (omega (arith, lt)) is up.1)
  where
    further : (x a b : ℤ) → x ≤ℤ a → a ≤ℤ b → x ≤ℤ b
    further x a b h k = grind (arith)

-- what is greater than all isn't among them
pub not_past : (xs : List ℤ) (most z : ℤ) → AreUpTo most xs → most <ℤ z → is_among z xs ≡ false
not_past [] most z up lt = refl
not_past (x ∷ xs) most z up lt = by_test (not_past xs most z up.1 lt) (eq_by_cmp int_cmp x z) refl
  where
    below : (x most z : ℤ) → x ≤ℤ most → most <ℤ z → x ≡ z → ⊥
    below x most z h k e = grind (arith)

    by_test : is_among z xs ≡ false → (b : Bool) → eq_by_cmp int_cmp x z ≡ b → (b || is_among z xs) ≡ false
    by_test rest true e = absurd (below x most z up.0 lt (same_int x z e))
    by_test rest false e = rest

-- ---- rowids from the greatest of all on

-- how many are greater than this
abbrev over : ℤ → List ℤ → ℕ
over z [] = 0
over z (x ∷ xs) = (if int_lt z x then 1 else 0) + over z xs

over_few : (z : ℤ) (xs : List ℤ) → over z xs ≤ length xs
over_few z [] = omega arith
over_few z (x ∷ xs) = by_test (int_lt z x) (over_few z xs)
  where
    by_test : (b : Bool) → over z xs ≤ length xs → (if b then 1 else 0) + over z xs ≤ suc (length xs)
    by_test true h = omega (arith, h)
    by_test false h = omega (arith, h)

over_less : (z : ℤ) (xs : List ℤ) → over z xs ≤ over (z -ℤ pos 1) xs
over_less z [] = omega arith
over_less z (x ∷ xs) = one z x (over z xs) (over (z -ℤ pos 1) xs) (over_less z xs)
  where
    one : (z x : ℤ) (n m : ℕ) → n ≤ m → (if int_lt z x then 1 else 0) + n ≤ (if int_lt (z -ℤ pos 1) x then 1 else 0) + m
    one z x n m h = grind (arith, common_steps)

one_over : (z : ℤ) (xs : List ℤ) → is_among z xs ≡ true → suc (over z xs) ≤ over (z -ℤ pos 1) xs
one_over z [] has = absurd (false≢true has)
one_over z (x ∷ xs) has = by_test (one_over z xs) (eq_by_cmp int_cmp x z) refl has
  where
    here : (z x : ℤ) (n m : ℕ) → x ≡ z → n ≤ m → suc ((if int_lt z x then 1 else 0) + n) ≤ (if int_lt (z -ℤ pos 1) x then 1 else 0) + m
    here z x n m e h = grind (arith, common_steps)

    there : (z x : ℤ) (n m : ℕ) → suc n ≤ m → suc ((if int_lt z x then 1 else 0) + n) ≤ (if int_lt (z -ℤ pos 1) x then 1 else 0) + m
    there z x n m h = grind (arith, common_steps)

    by_test : (is_among z xs ≡ true → suc (over z xs) ≤ over (z -ℤ pos 1) xs) → (b : Bool) → eq_by_cmp int_cmp x z ≡ b → (b || is_among z xs) ≡ true
        → suc (over z (x ∷ xs)) ≤ over (z -ℤ pos 1) (x ∷ xs)
    by_test rest true e h = here z x (over z xs) (over (z -ℤ pos 1) xs) (same_int x z e) (over_less z xs)
    by_test rest false e h = there z x (over z xs) (over (z -ℤ pos 1) xs) (rest h)

-- so many of them are greater, one each
pub record AreTaken (rowids : List ℤ) (rowid : ℤ) (count : ℕ) : Type 0 where
  pub counted : rowid +ℤ pos count ≡ pos (2 ^ 63 - 1)
  pub greater : count ≤ over rowid rowids

pub none_taken : (rowids : List ℤ) → AreTaken rowids (pos (2 ^ 63 - 1)) 0
none_taken rowids = record { counted = refl; greater = omega arith }

pub one_taken : (rowids : List ℤ) (rowid : ℤ) (count : ℕ) → is_among rowid rowids ≡ true → AreTaken rowids rowid count → AreTaken rowids (rowid -ℤ pos 1) (count + 1)
one_taken rowids rowid count has is = record {
  counted = (let c = is.counted in next rowid count c);
  greater = (let g = is.greater in let o = one_over rowid rowids has in omega (arith, g, o));
}
  where
    next : (z : ℤ) (n : ℕ) → z +ℤ pos n ≡ pos (2 ^ 63 - 1) → (z -ℤ pos 1) +ℤ pos (n + 1) ≡ pos (2 ^ 63 - 1)
    next z n e = omega (arith, ints, e)

pub fits_before : (rowids : List ℤ) (rowid : ℤ) (count : ℕ) → length rowids < 2 ^ 64 → count < length rowids → SFits w64 rowid → AreTaken rowids rowid count → SFits w64 (rowid -ℤ pos 1)
fits_before rowids rowid count short lt fits is = record { sfits = (let c = is.counted in let low = lower rowid count (length rowids) c short lt in grind (arith, ints, fits.sfits, low)) }
  where
    lower : (z : ℤ) (n m : ℕ) → z +ℤ pos n ≡ pos (2 ^ 63 - 1) → m < 2 ^ 64 → n < m → negsuc (2 ^ 63 - 1) <ℤ z
    lower z n m e short lt = omega (arith, ints, e, short, lt)

-- where all are greater, it is none of them
pub all_taken : (rowids : List ℤ) (rowid : ℤ) → AreTaken rowids rowid (length rowids) → is_among rowid rowids ≡ false
all_taken rowids rowid is = by_test (is_among rowid rowids) refl
  where
    by_test : (b : Bool) → is_among rowid rowids ≡ b → b ≡ false
    by_test true e = let g = is.greater in let o = one_over rowid rowids e in let few = over_few (rowid -ℤ pos 1) rowids in absurd (omega (arith, g, o, few))
    by_test false e = refl

-- ---- rowids after one

-- what is after the greatest of all, and more, is none of them
pub past_greatest : (xs : List ℤ) (most both next : ℤ) → AreUpTo most xs → most ≤ℤ both → next ≡ both +ℤ pos 1 → is_among next xs ≡ false
past_greatest xs most both next up more is = not_past xs most next up (after most both next more is)
  where
    after : (a b c : ℤ) → a ≤ℤ b → c ≡ b +ℤ pos 1 → a <ℤ c
    after a b c h e = grind (arith)

-- the next one
over_next : (z next : ℤ) (xs : List ℤ) → next ≡ z +ℤ pos 1 → is_among next xs ≡ true → suc (over next xs) ≤ over z xs
over_next z next xs is has = subst (λ (y : ℤ). suc (over next xs) ≤ over y xs) (before z next is) (one_over next xs has)
  where
    before : (z next : ℤ) → next ≡ z +ℤ pos 1 → next -ℤ pos 1 ≡ z
    before z next e = omega (arith, ints, e)

-- all after the first up to this one are taken, so many of them at most
pub record AreTakenTo (rowids : List ℤ) (first rowid : ℤ) (count : ℕ) : Type 0 where
  pub from : first ≤ℤ rowid
  pub fewer : over rowid rowids + count ≤ length rowids
  pub taken : (z : ℤ) → first <ℤ z → z ≤ℤ rowid → is_among z rowids ≡ true

pub none_taken_to : (rowids : List ℤ) (first : ℤ) → AreTakenTo rowids first first 0
none_taken_to rowids first = record {
  from = itself first;
  fewer = (let few = over_few first rowids in omega (arith, few));
  taken = λ z after upto. absurd (neither first z after upto);
}
  where
    itself : (a : ℤ) → a ≤ℤ a
    itself a = grind (arith)

    neither : (a z : ℤ) → a <ℤ z → z ≤ℤ a → ⊥
    neither a z h k = grind (arith)

pub next_taken_to : (rowids : List ℤ) (first rowid next : ℤ) (count : ℕ) → next ≡ rowid +ℤ pos 1 → is_among next rowids ≡ true → AreTakenTo rowids first rowid count → AreTakenTo rowids first next (count + 1)
next_taken_to rowids first rowid next count is has so = record {
  from = further first rowid next so.from is;
  fewer = (let less = over_next rowid next rowids is has in let few = so.fewer in omega (arith, less, few));
  taken = λ z after upto. by_rank z after upto (int_cmp z next) (int_ranks z next);
}
  where
    further : (a b c : ℤ) → a ≤ℤ b → c ≡ b +ℤ pos 1 → a ≤ℤ c
    further a b c h e = grind (arith)

    before : (z b c : ℤ) → z <ℤ c → c ≡ b +ℤ pos 1 → z ≤ℤ b
    before z b c h e = grind (arith)

    neither : (a z : ℤ) → a <ℤ z → z ≤ℤ a → ⊥
    neither a z h k = grind (arith)

    by_rank : (z : ℤ) → first <ℤ z → z ≤ℤ next → (r : Ordering) → MatchOrdering r (z <ℤ next) (z ≡ next) (next <ℤ z) → is_among z rowids ≡ true
    by_rank z after upto Less h = so.taken z after (before z rowid next h is)
    by_rank z after upto Equal h = subst (λ (y : ℤ). is_among y rowids ≡ true) (sym h) has
    by_rank z after upto Greater h = absurd (neither next z h upto)

pub after_first : (rowids : List ℤ) (first rowid next : ℤ) (count : ℕ) → next ≡ rowid +ℤ pos 1 → AreTakenTo rowids first rowid count → first <ℤ next
after_first rowids first rowid next count is so = further first rowid next so.from is
  where
    further : (a b c : ℤ) → a ≤ℤ b → c ≡ b +ℤ pos 1 → a <ℤ c
    further a b c h e = grind (arith)

-- where as many are taken as there are, the next is none of them
pub past_taken : (rowids : List ℤ) (first rowid next : ℤ) → next ≡ rowid +ℤ pos 1 → AreTakenTo rowids first rowid (length rowids) → is_among next rowids ≡ false
past_taken rowids first rowid next is so = by_test (is_among next rowids) refl
  where
    by_test : (b : Bool) → is_among next rowids ≡ b → b ≡ false
    by_test true e = let less = over_next rowid next rowids is e in let few = so.fewer in absurd (omega (arith, less, few))
    by_test false e = refl

-- where no number is next, all are taken
pub taken_after : (rowids : List ℤ) (first rowid : ℤ) (count : ℕ) → SFits w64 rowid → (SFits w64 (rowid +ℤ pos 1) → ⊥) → AreTakenTo rowids first rowid count → AreTakenAfter first rowids
taken_after rowids first rowid count fits last so = λ later after upto. so.taken later after (by_rank later upto (int_cmp rowid (pos 9223372036854775807)) (int_ranks rowid (pos 9223372036854775807)))
  where
    up_to : (a b c : ℤ) → a ≤ℤ b → b ≡ c → a ≤ℤ c
    up_to a b c h e = grind (arith)

    below : (a b c : ℤ) → a ≤ℤ b → b <ℤ c → a ≤ℤ c
    below a b c h k = grind (arith)

    more : (z : ℤ) → SFits w64 z → z <ℤ pos 9223372036854775807 → SFits w64 (z +ℤ pos 1)
    more z is less = record { sfits = grind (arith, ints, is.sfits, less) }

    by_rank : (later : ℤ) → later ≤ℤ pos 9223372036854775807 → (r : Ordering) → MatchOrdering r (rowid <ℤ pos 9223372036854775807) (rowid ≡ pos 9223372036854775807) (pos 9223372036854775807 <ℤ rowid) → later ≤ℤ rowid
    by_rank later upto Less h = absurd (last (more rowid fits h))
    by_rank later upto Equal h = up_to later (pos 9223372036854775807) rowid upto (sym h)
    by_rank later upto Greater h = below later (pos 9223372036854775807) rowid upto h
