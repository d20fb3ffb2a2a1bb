-- Where a value stands by a range: before it, in it, or past it.
use Rattle.std.proofs.Common.{◌≡◌, refl, sym, ap, ◌∙◌, Bool, true, false, not, ◌&&◌, ◌||◌, cond, Option, Some, None}
use mathlib.Core.Bool.{true≢false}
use Rattle.std.specs.Ordering.{is_eq, is_gt, is_lt, ordering_reverse, ordering_then}
use Rattle.std.specs.declared.cmp.Ordering.{Ordering}
use Rattle.std.specs.declared.cmp.Ordering.TheVariants.{Less, Equal, Greater}
use Rattle.sqlval.specs.Order.{order}
use Rattle.sqlval.specs.declared.collation.Collation.{Collation}
use Rattle.sqlval.specs.declared.value.Value.{Value}
use Rattle.sqlval.specs.declared.value.Value.TheVariants.{Null, Int, Text, Blob}
use Rattle.sqlval.proofs.Ordering.{total}
use Rattle.query_terms.specs.Values.{is_met, is_null}
use Rattle.tree_index.specs.Entries.{is_passed}
use Rattle.row_search.specs.Finding.{low_value, passes_low}
use Rattle.query_plan.specs.Ranges.{high_comparison, is_within, low_comparison, meets_end}
use Rattle.query_plan.specs.declared.ranges.Bound.{Bound}
use Rattle.query_plan.specs.declared.ranges.Range.{Range}

-- ---- values by a third

-- the second isn't before the first
abbrev reaches : Ordering → Ordering → Bool
reaches Less o = true
reaches Equal o = not (is_lt o)
reaches Greater o = is_gt o

same_reaches : (o : Ordering) → reaches o o ≡ true
same_reaches Less = refl
same_reaches Equal = refl
same_reaches Greater = refl

turned : (c : Collation) (a b : Value) (o : Ordering) → order c a b ≡ o → order c b a ≡ ordering_reverse o
turned c a b o e = (total c).antisymm b a ∙ ap ordering_reverse e

-- a value that isn't less than another stands no farther in front of a third
still : (c : Collation) (v w z : Value) → is_gt (order c v w) ≡ false → reaches (order c v z) (order c w z) ≡ true
still c v w z upto = by (order c v w) refl (order c v z) refl
  where
    by : (q : Ordering) → order c v w ≡ q → (p : Ordering) → order c v z ≡ p → reaches p (order c w z) ≡ true
    by Greater q_is p p_is = absurd (true≢false (sym (ap is_gt q_is) ∙ upto))
    by Equal q_is p p_is = ap (λ o. reaches o (order c w z)) (sym p_is ∙ (total c).congr v w z q_is) ∙ same_reaches (order c w z)
    by Less q_is Less p_is = refl
    by Less q_is Equal p_is = ap (λ o. not (is_lt o)) (turned c z w Less (sym ((total c).congr v z w p_is) ∙ q_is))
    by Less q_is Greater p_is = ap is_gt (turned c z w Less ((total c).trans z v w (turned c v z Greater p_is) q_is))

-- ---- ends

meets_still : (within : Bool) (p q : Ordering) → reaches p q ≡ true → is_met (low_comparison within) p ≡ true → is_met (low_comparison within) q ≡ true
meets_still true Less q on met = absurd (true≢false (sym met))
meets_still true Equal Less on met = absurd (true≢false (sym on))
meets_still true Equal Equal on met = refl
meets_still true Equal Greater on met = refl
meets_still true Greater Less on met = absurd (true≢false (sym on))
meets_still true Greater Equal on met = refl
meets_still true Greater Greater on met = refl
meets_still false Less q on met = absurd (true≢false (sym met))
meets_still false Equal q on met = absurd (true≢false (sym met))
meets_still false Greater Less on met = absurd (true≢false (sym on))
meets_still false Greater Equal on met = absurd (true≢false (sym on))
meets_still false Greater Greater on met = refl

past_still : (within : Bool) (p q : Ordering) → reaches p q ≡ true → is_met (high_comparison within) p ≡ false → is_met (high_comparison within) q ≡ false
past_still true Less q on past = absurd (true≢false past)
past_still true Equal q on past = absurd (true≢false past)
past_still true Greater Less on past = absurd (true≢false (sym on))
past_still true Greater Equal on past = absurd (true≢false (sym on))
past_still true Greater Greater on past = refl
past_still false Less q on past = absurd (true≢false past)
past_still false Equal Less on past = absurd (true≢false (sym on))
past_still false Equal Equal on past = refl
past_still false Equal Greater on past = refl
past_still false Greater Less on past = absurd (true≢false (sym on))
past_still false Greater Equal on past = absurd (true≢false (sym on))
past_still false Greater Greater on past = refl

low_still : (c : Collation) (low : Option Bound) (v w : Value) → is_gt (order c v w) ≡ false → meets_end low_comparison c low v ≡ true → meets_end low_comparison c low w ≡ true
low_still c None v w upto met = refl
low_still c (Some end) v w upto met = meets_still end.within (order c v end.value) (order c w end.value) (still c v w end.value upto) met

high_still : (c : Collation) (high : Option Bound) (v w : Value) → is_gt (order c v w) ≡ false → meets_end high_comparison c high v ≡ false → meets_end high_comparison c high w ≡ false
high_still c None v w upto past = absurd (true≢false past)
high_still c (Some end) v w upto past = past_still end.within (order c v end.value) (order c w end.value) (still c v w end.value upto) past

null_still : (c : Collation) (v w : Value) → is_gt (order c v w) ≡ false → is_null v ≡ false → is_null w ≡ false
null_still c Null w upto some = absurd (true≢false some)
null_still c v (Int n) upto some = refl
null_still c v (Text n) upto some = refl
null_still c v (Blob n) upto some = refl
null_still c (Int n) Null upto some = absurd (true≢false upto)
null_still c (Text n) Null upto some = absurd (true≢false upto)
null_still c (Blob n) Null upto some = absurd (true≢false upto)

-- ---- a range

-- by whether it is NULL, and meets the ends
abbrev placed_by : Bool → Bool → Bool → Ordering
placed_by null low high = cond (null || not low) Less (cond high Equal Greater)

-- without a range each value is where it is looked for
abbrev pub standing : Collation → Option Range → Value → Ordering
standing c None v = Equal
standing c (Some range) v = placed_by (is_null v) (meets_end low_comparison c range.low v) (meets_end high_comparison c range.high v)

pub within_is : (c : Collation) (range : Range) (v : Value) → is_eq (standing c (Some range) v) ≡ is_within c range v
within_is c range v = by (is_null v) (meets_end low_comparison c range.low v) (meets_end high_comparison c range.high v)
  where
    by : (null low high : Bool) → is_eq (placed_by null low high) ≡ (not null && (low && high))
    by true low high = refl
    by false true true = refl
    by false true false = refl
    by false false high = refl

-- past it are all that are greater than one past it
pub standing_up : (c : Collation) (range : Option Range) (v w : Value) → is_gt (order c v w) ≡ false → standing c range v ≡ Greater → standing c range w ≡ Greater
standing_up c None v w upto past = absurd (let n : false ≡ true = ap is_gt past in cc)
standing_up c (Some range) v w upto past =
    by (is_null v) (is_null w) (meets_end low_comparison c range.low v) (meets_end low_comparison c range.low w) (meets_end high_comparison c range.high v) (meets_end high_comparison c range.high w)
    (null_still c v w upto) (low_still c range.low v w upto) (high_still c range.high v w upto) past
  where
    by : (null null_then low low_then high high_then : Bool) → (null ≡ false → null_then ≡ false) → (low ≡ true → low_then ≡ true) → (high ≡ false → high_then ≡ false) → placed_by null low high ≡ Greater
        → placed_by null_then low_then high_then ≡ Greater
    by true n l m h i f g k past = absurd (let e : false ≡ true = ap is_gt past in cc)
    by false n false m h i f g k past = absurd (let e : false ≡ true = ap is_gt past in cc)
    by false n true m true i f g k past = absurd (let e : false ≡ true = ap is_gt past in cc)
    by false n true m false i f g k past = (λ j. placed_by (f refl j) (g refl j) (k refl j))

-- by a first value the second isn't less
pub ascends : (o p : Ordering) → ordering_then o p ≡ Less → is_gt o ≡ false
ascends Less p e = refl
ascends Equal p e = refl
ascends Greater p e = absurd (let n : false ≡ true = ap is_lt e in cc)

-- ---- where a search begins

without : (c : Collation) (v : Value) → not (is_lt (order c Null v)) ≡ (is_null v || not true)
without c Null = refl
without c (Int n) = refl
without c (Text n) = refl
without c (Blob n) = refl

-- what passes an end that is NULL
from_null : (c : Collation) (within : Bool) (v : Value) → is_passed (not within || true) (order c Null v) ≡ (is_null v || not (is_met (low_comparison within) (order c v Null)))
from_null c true Null = refl
from_null c true (Int n) = refl
from_null c true (Text n) = refl
from_null c true (Blob n) = refl
from_null c false Null = refl
from_null c false (Int n) = refl
from_null c false (Text n) = refl
from_null c false (Blob n) = refl

null_passed : (c : Collation) (within : Bool) (z : Value) → is_null z ≡ false → is_passed (not within || false) (order c z Null) ≡ true
null_passed c within Null some = absurd (true≢false some)
null_passed c true (Int n) some = refl
null_passed c true (Text n) some = refl
null_passed c true (Blob n) some = refl
null_passed c false (Int n) some = refl
null_passed c false (Text n) some = refl
null_passed c false (Blob n) some = refl

two_passed : (c : Collation) (within : Bool) (z v : Value) → is_passed (not within || false) (order c z v) ≡ not (is_met (low_comparison within) (order c v z))
two_passed c within z v = by within (order c z v) ∙ ap (λ o. not (is_met (low_comparison within) o)) (sym ((total c).antisymm v z))
  where
    by : (b : Bool) (o : Ordering) → is_passed (not b || false) o ≡ not (is_met (low_comparison b) (ordering_reverse o))
    by true Less = refl
    by true Equal = refl
    by true Greater = refl
    by false Less = refl
    by false Equal = refl
    by false Greater = refl

-- what passes another
from_some : (c : Collation) (within : Bool) (z v : Value) → is_null z ≡ false → is_passed (not within || false) (order c z v) ≡ (is_null v || not (is_met (low_comparison within) (order c v z)))
from_some c within z Null some = null_passed c within z some
from_some c within z (Int n) some = two_passed c within z (Int n)
from_some c within z (Text n) some = two_passed c within z (Text n)
from_some c within z (Blob n) some = two_passed c within z (Blob n)

one_end : (c : Collation) (within : Bool) (z v : Value) → is_passed (not within || is_null z) (order c z v) ≡ (is_null v || not (is_met (low_comparison within) (order c v z)))
one_end c within Null v = from_null c within v
one_end c within (Int n) v = from_some c within (Int n) v refl
one_end c within (Text n) v = from_some c within (Text n) v refl
one_end c within (Blob n) v = from_some c within (Blob n) v refl

-- what is passed there is what stands before the range
pub low_passed : (c : Collation) (range : Range) (v : Value) → is_passed (passes_low range.low) (order c (low_value range.low) v) ≡ is_lt (standing c (Some range) v)
low_passed c range v = begins range.low ∙ sym (early (is_null v) (meets_end low_comparison c range.low v) (meets_end high_comparison c range.high v))
  where
    early : (null low high : Bool) → is_lt (placed_by null low high) ≡ (null || not low)
    early true low high = refl
    early false true true = refl
    early false true false = refl
    early false false high = refl

    begins : (low : Option Bound) → is_passed (passes_low low) (order c (low_value low) v) ≡ (is_null v || not (meets_end low_comparison c low v))
    begins None = without c v
    begins (Some end) = one_end c end.within end.value v
