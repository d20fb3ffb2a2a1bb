-- What is kept of arguments, with one more.
use Rattle.std.proofs.Common.{◌≡◌, refl, sym, ap, ◌∙◌, ℕ, ◌+◌, add-zero, Bool, true, false, true≢false, not, cond, ◌==◌, eqb-true, ne_eqb, List, [], ◌∷◌, ◌++◌, length, length-append, count_by, Option, Some, None, unwrap_or, Ok, ℤ, pos, ◌+ℤ◌, arith}
use Rattle.std.proofs.Math.IntN.{+ℤ_assoc, +ℤ_idl, +ℤ_idr}
use Rattle.std.proofs.lemmas.Cmp.{upto}
use Rattle.std.proofs.lemmas.List.Sums.{sum_by-append, sum_by-cons}
use Rattle.std.specs.Ordering.{is_gt, is_lt, ordering_reverse}
use Rattle.std.specs.declared.cmp.Ordering.{Ordering}
use Rattle.std.specs.declared.cmp.Ordering.TheVariants.{Less, Equal, Greater}
use Rattle.sqlval.specs.Order.{order}
use Rattle.sqlval.specs.Conversion.{word}
use Rattle.sqlval.specs.Refusals.{Answer, ◌then◌}
use Rattle.sqlval.specs.declared.collation.Collation.{Collation}
use Rattle.sqlval.specs.declared.value.Value.{Value}
use Rattle.sqlval.specs.declared.value.Value.TheVariants.{Null, Int, Text, Blob}
use Rattle.sqlval.proofs.Ordering as values
use Rattle.query_terms.specs.Rows.{before_of, best_of, better_of}
use Rattle.query_terms.specs.Values.{aggregated, counted, is_null, number_in, total}
use Rattle.query_terms.specs.declared.tree.Aggregate.{Aggregate}
use Rattle.query_terms.specs.declared.tree.Aggregate.TheVariants.{CountAll, Count, Sum, Min, Max}
use Rattle.query_totals.specs.Tallies.{given_by, improves, sum_so_far, tally_of, tally_with}
use Rattle.query_totals.specs.declared.tally.Tally.{Tally}
use Rattle.query_totals.specs.declared.tally.Tally.TheVariants as kept

abbrev some : Value → Bool
some v = not (is_null v)

-- ---- counts

length_more : (v : Value) (vs : List Value) → length (vs ++ v ∷ []) ≡ length vs + 1
length_more v vs = length-append vs (v ∷ [])

count_more : (v : Value) (vs : List Value) → count_by some (vs ++ v ∷ []) ≡ count_by some vs + count_by some (v ∷ [])
count_more v vs = sum_by-append (λ w. cond (some w) 1 0) vs (v ∷ [])

-- ---- sums

total_more : (v : Value) (vs : List Value) → total (vs ++ v ∷ []) ≡ total vs +ℤ number_in v
total_more v [] = +ℤ_idr (number_in v) ∙ sym (+ℤ_idl (number_in v))
total_more v (w ∷ ws) = ap (λ z. number_in w +ℤ z) (total_more v ws) ∙ sym (+ℤ_assoc (number_in w) (total ws) (number_in v))

count_first : (w : Value) (vs : List Value) → count_by some (w ∷ vs) ≡ cond (some w) 1 0 + count_by some vs
count_first w vs = sum_by-cons (λ v. cond (some v) 1 0) w vs

none_more : (n : ℕ) → 0 + n ≡ n
none_more n = omega arith

never : {A : Type 0} (n : ℕ) → 1 + n ≡ 0 → A
never n h = absurd (omega (arith, h))

-- where nothing is counted, the sum is 0
total_of_none : (vs : List Value) → count_by some vs ≡ 0 → total vs ≡ pos 0
total_of_none [] h = refl
total_of_none (Null ∷ vs) h = ap (λ z. pos 0 +ℤ z) (total_of_none vs (sym (count_first Null vs ∙ none_more (count_by some vs)) ∙ h))
total_of_none (Int n ∷ vs) h = never (count_by some vs) (sym (count_first (Int n) vs) ∙ h)
total_of_none (Text t ∷ vs) h = never (count_by some vs) (sym (count_first (Text t) vs) ∙ h)
total_of_none (Blob b ∷ vs) h = never (count_by some vs) (sym (count_first (Blob b) vs) ∙ h)

-- NULL adds nothing
sum_null : (vs : List Value) → sum_so_far (vs ++ Null ∷ []) ≡ sum_so_far vs
sum_null vs =
    let same_count : count_by some (vs ++ Null ∷ []) ≡ count_by some vs = count_more Null vs ∙ add-zero (count_by some vs) in
    let same_total : total (vs ++ Null ∷ []) ≡ total vs = total_more Null vs ∙ +ℤ_idr (total vs) in
    (λ i. cond (same_count i == 0) None (Some (same_total i)))

-- the sum so far, as a number
so_far : (n : ℕ) (z : ℤ) → (n ≡ 0 → z ≡ pos 0) → unwrap_or (cond (n == 0) None (Some z)) (pos 0) ≡ z
so_far n z h = by (n == 0) refl
  where
    by : (b : Bool) → (n == 0) ≡ b → unwrap_or (cond (n == 0) None (Some z)) (pos 0) ≡ z
    by true e = ap (λ b. unwrap_or (cond b None (Some z)) (pos 0)) e ∙ sym (h (eqb-true n 0 e))
    by false e = ap (λ b. unwrap_or (cond b None (Some z)) (pos 0)) e

not_none : (n m : ℕ) (z : ℤ) → n ≡ m + 1 → cond (n == 0) None (Some z) ≡ Some z
not_none n m z e = ap (λ b. cond b None (Some z)) (ne_eqb n 0 (λ q. omega (arith, e, q)))

sum_int : (z : ℤ) (vs : List Value) → sum_so_far (vs ++ Int z ∷ []) ≡ Some (unwrap_or (sum_so_far vs) (pos 0) +ℤ z)
sum_int z vs =
    not_none (count_by some (vs ++ Int z ∷ [])) (count_by some vs) (total (vs ++ Int z ∷ [])) (count_more (Int z) vs)
    ∙ ap (λ (t : ℤ). Some t) (total_more (Int z) vs ∙ ap (λ t. t +ℤ z) (sym (so_far (count_by some vs) (total vs) (total_of_none vs))))

-- ---- the least and the greatest

less_is : (r : Ordering) → is_lt r ≡ true → r ≡ Less
less_is Less e = refl
less_is Equal e = absurd (true≢false (sym e))
less_is Greater e = absurd (true≢false (sym e))

turned : (r : Ordering) → is_lt (ordering_reverse r) ≡ is_gt r
turned Less = refl
turned Equal = refl
turned Greater = refl

module _ (c : Collation) where
  -- greater is less the other way round
  greater_is : (v w : Value) → is_gt (order c v w) ≡ is_lt (order c w v)
  greater_is v w = sym (ap is_lt ((values.total c).antisymm w v) ∙ turned (order c v w))

  less_on : (v b w : Value) → is_lt (order c v b) ≡ true → is_lt (order c b w) ≡ true → is_lt (order c v w) ≡ true
  less_on v b w e f = ap is_lt ((values.total c).trans v b w (less_is (order c v b) e) (less_is (order c b w) f))

  not_less_on : (v b w : Value) → is_lt (order c v b) ≡ false → is_lt (order c b w) ≡ false → is_lt (order c v w) ≡ false
  not_less_on v b w e f = sym (greater_is w v) ∙ upto (values.total c) w b v (greater_is w b ∙ f) (greater_is b v ∙ e)

  before_on : (m : Bool) (v b w : Value) → before_of m (order c v b) ≡ true → before_of m (order c b w) ≡ true → before_of m (order c v w) ≡ true
  before_on false v b w e f = less_on v b w e f
  before_on true v b w e f = greater_is v w ∙ less_on w b v (sym (greater_is b w) ∙ f) (sym (greater_is v b) ∙ e)

  not_before_on : (m : Bool) (v b w : Value) → before_of m (order c v b) ≡ false → before_of m (order c b w) ≡ false → before_of m (order c v w) ≡ false
  not_before_on false v b w e f = not_less_on v b w e f
  not_before_on true v b w e f = greater_is v w ∙ not_less_on w b v (sym (greater_is b w) ∙ f) (sym (greater_is v b) ∙ e)

  module _ (m : Bool) where
    better_null : (v : Value) → better_of m c v Null ≡ v
    better_null Null = refl
    better_null (Int n) = refl
    better_null (Text t) = refl
    better_null (Blob b) = refl

    -- of two values the later one, if it is before
    abbrev first_of : Value → Value → Value
    first_of v w = cond (before_of m (order c w v)) w v

    better_some : (v w : Value) → is_null v ≡ false → is_null w ≡ false → better_of m c v w ≡ first_of v w
    better_some Null w e f = absurd (true≢false e)
    better_some (Int n) Null e f = absurd (true≢false f)
    better_some (Int n) (Int k) e f = refl
    better_some (Int n) (Text t) e f = refl
    better_some (Int n) (Blob b) e f = refl
    better_some (Text s) Null e f = absurd (true≢false f)
    better_some (Text s) (Int k) e f = refl
    better_some (Text s) (Text t) e f = refl
    better_some (Text s) (Blob b) e f = refl
    better_some (Blob x) Null e f = absurd (true≢false f)
    better_some (Blob x) (Int k) e f = refl
    better_some (Blob x) (Text t) e f = refl
    better_some (Blob x) (Blob b) e f = refl

    -- the one that a value improves on gives way to it
    pub better_is : (w v : Value) → better_of m c w v ≡ cond (improves m c v w) v w
    better_is Null Null = refl
    better_is Null (Int n) = refl
    better_is Null (Text t) = refl
    better_is Null (Blob b) = refl
    better_is (Int k) Null = refl
    better_is (Int k) (Int n) = refl
    better_is (Int k) (Text t) = refl
    better_is (Int k) (Blob b) = refl
    better_is (Text s) Null = refl
    better_is (Text s) (Int n) = refl
    better_is (Text s) (Text t) = refl
    better_is (Text s) (Blob b) = refl
    better_is (Blob x) Null = refl
    better_is (Blob x) (Int n) = refl
    better_is (Blob x) (Text t) = refl
    better_is (Blob x) (Blob b) = refl

    first_some : (v w : Value) → is_null v ≡ false → is_null w ≡ false → is_null (first_of v w) ≡ false
    first_some v w e f = by (before_of m (order c w v))
      where
        by : (q : Bool) → is_null (cond q w v) ≡ false
        by true = f
        by false = e

    firsts : (w b v : Value) → first_of w (first_of b v) ≡ first_of (first_of w b) v
    firsts w b v = by (before_of m (order c v b)) refl (before_of m (order c b w)) refl
      where
        by : (p : Bool) → before_of m (order c v b) ≡ p → (q : Bool) → before_of m (order c b w) ≡ q → first_of w (first_of b v) ≡ first_of (first_of w b) v
        by true e true f =
            ap (λ x. first_of w (cond x v b)) e
            ∙ (ap (λ x. cond x v w) (before_on m v b w e f) ∙ (sym (ap (λ x. cond x v b) e) ∙ sym (ap (λ x. first_of (cond x b w) v) f)))
        by true e false f = ap (λ x. first_of w (cond x v b)) e ∙ sym (ap (λ x. first_of (cond x b w) v) f)
        by false e true f =
            ap (λ x. first_of w (cond x v b)) e
            ∙ (ap (λ x. cond x b w) f ∙ (sym (ap (λ x. cond x v b) e) ∙ sym (ap (λ x. first_of (cond x b w) v) f)))
        by false e false f =
            ap (λ x. first_of w (cond x v b)) e
            ∙ (ap (λ x. cond x b w) f ∙ (sym (ap (λ x. cond x v w) (not_before_on m v b w e f)) ∙ sym (ap (λ x. first_of (cond x b w) v) f)))

    better_three : (w b v : Value) → is_null w ≡ false → is_null b ≡ false → is_null v ≡ false → better_of m c w (better_of m c b v) ≡ better_of m c (better_of m c w b) v
    better_three w b v d e f =
        ap (better_of m c w) (better_some b v e f)
        ∙ (better_some w (first_of b v) d (first_some b v e f)
        ∙ (firsts w b v
        ∙ (sym (better_some (first_of w b) v (first_some w b d e) f) ∙ sym (ap (λ x. better_of m c x v) (better_some w b d e)))))

    null_is : (v : Value) → is_null v ≡ true → v ≡ Null
    null_is Null e = refl
    null_is (Int n) e = absurd (true≢false (sym e))
    null_is (Text t) e = absurd (true≢false (sym e))
    null_is (Blob b) e = absurd (true≢false (sym e))

    better_assoc : (w b v : Value) → better_of m c w (better_of m c b v) ≡ better_of m c (better_of m c w b) v
    better_assoc w b v = by (is_null w) refl (is_null b) refl (is_null v) refl
      where
        by : (x : Bool) → is_null w ≡ x → (y : Bool) → is_null b ≡ y → (z : Bool) → is_null v ≡ z → better_of m c w (better_of m c b v) ≡ better_of m c (better_of m c w b) v
        by true d y e z f = ap (λ u. better_of m c u (better_of m c b v)) (null_is w d) ∙ sym (ap (λ u. better_of m c (better_of m c u b) v) (null_is w d))
        by false d true e z f =
            ap (λ u. better_of m c w (better_of m c u v)) (null_is b e)
            ∙ (ap (λ u. better_of m c u v) (sym (better_null w)) ∙ sym (ap (λ u. better_of m c (better_of m c w u) v) (null_is b e)))
        by false d false e true f =
            ap (λ u. better_of m c w (better_of m c b u)) (null_is v f)
            ∙ (ap (better_of m c w) (better_null b) ∙ (sym (better_null (better_of m c w b)) ∙ sym (ap (better_of m c (better_of m c w b)) (null_is v f))))
        by false d false e false f = better_three w b v d e f

    -- the best with one before
    best_step : (v : Value) (vs : List Value) → best_of m c (v ∷ vs) ≡ better_of m c v (best_of m c vs)
    best_step Null vs = refl
    best_step (Int n) vs = by (best_of m c vs) refl
      where
        by : (b : Value) → best_of m c vs ≡ b → best_of m c (Int n ∷ vs) ≡ better_of m c (Int n) (best_of m c vs)
        by Null e = rw e refl
        by (Int k) e = rw e refl
        by (Text t) e = rw e refl
        by (Blob x) e = rw e refl
    best_step (Text s) vs = by (best_of m c vs) refl
      where
        by : (b : Value) → best_of m c vs ≡ b → best_of m c (Text s ∷ vs) ≡ better_of m c (Text s) (best_of m c vs)
        by Null e = rw e refl
        by (Int k) e = rw e refl
        by (Text t) e = rw e refl
        by (Blob x) e = rw e refl
    best_step (Blob y) vs = by (best_of m c vs) refl
      where
        by : (b : Value) → best_of m c vs ≡ b → best_of m c (Blob y ∷ vs) ≡ better_of m c (Blob y) (best_of m c vs)
        by Null e = rw e refl
        by (Int k) e = rw e refl
        by (Text t) e = rw e refl
        by (Blob x) e = rw e refl

    -- the best with one after
    best_more : (v : Value) (vs : List Value) → best_of m c (vs ++ v ∷ []) ≡ better_of m c (best_of m c vs) v
    best_more v [] = best_step v [] ∙ better_null v
    best_more v (w ∷ ws) =
        best_step w (ws ++ v ∷ [])
        ∙ (ap (better_of m c w) (best_more v ws) ∙ (better_assoc w (best_of m c ws) v ∙ ap (λ u. better_of m c u v) (sym (best_step w ws))))

-- ---- what is kept

abbrev done : Tally → Answer Tally
done k = Ok k

-- what is kept with one more argument goes by what was kept before
pub tally_more : (g : Aggregate) (c : Collation) (vs : List Value) (v : Value) → (counted g v then λ w. Ok (tally_of g c (vs ++ w ∷ []))) ≡ tally_with (tally_of g c vs) v
tally_more CountAll c vs v = ap (λ (n : ℕ). done (kept.Rows n)) (length_more v vs)
tally_more Count c vs v = ap (λ (n : ℕ). done (kept.Values n)) (count_more v vs)
tally_more Sum c vs Null = ap (λ (s : Option ℤ). done (kept.Sum s)) (sum_null vs)
tally_more Sum c vs (Int z) = ap (λ (s : Option ℤ). done (kept.Sum s)) (sum_int z vs)
tally_more Sum c vs (Text t) = refl
tally_more Sum c vs (Blob b) = refl
tally_more Min c vs v = ap (λ (b : Value). done (kept.Best false c b)) (best_more c false v vs)
tally_more Max c vs v = ap (λ (b : Value). done (kept.Best true c b)) (best_more c true v vs)

sum_given : (b : Bool) (z : ℤ) → ◌≡◌ {A = Answer Value} (cond b (Ok Null) (word z)) (given_by (kept.Sum (cond b None (Some z))))
sum_given true z = refl
sum_given false z = refl

-- what an aggregate gives goes by what is kept
pub given_is : (g : Aggregate) (c : Collation) (vs : List Value) → aggregated g c vs ≡ given_by (tally_of g c vs)
given_is CountAll c vs = refl
given_is Count c vs = refl
given_is Sum c vs = sum_given (count_by some vs == 0) (total vs)
given_is Min c vs = refl
given_is Max c vs = refl
