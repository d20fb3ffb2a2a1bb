-- Where the row of a rowid stands among rows by rising rowid.
use Rattle.std.proofs.Common.{◌≡◌, ◌<◌, ◌≤◌, inl, inr, refl, sym, ap, subst, ◌∙◌, ℕ, zero, suc, Bool, true, false, ◌&&◌, List, [], ◌∷◌, length, slice_index_or, arith}
use mathlib.Core.Bool.{true≢false}
use Rattle.std.specs.Cmp.{IsTotalOrder, on_total}
use Rattle.std.specs.List.Sorted.{IsPartitionedBy, IsPartitionPoint}
use Rattle.std.specs.Ordering.{is_lt}
use Rattle.std.specs.declared.cmp.Ordering.{Ordering}
use Rattle.std.specs.declared.cmp.Ordering.TheVariants.{Less, Equal, Greater}
use Rattle.std.proofs.lemmas.Bool.{cases_lt}
use Rattle.sqlval.specs.Lists.{is_rising}
use Rattle.sqlval.specs.Order.{order}
use Rattle.sqlval.specs.declared.collation.Collation.TheVariants.{Binary}
use Rattle.sqlval.specs.declared.value.Value.{Value}
use Rattle.sqlval.specs.declared.value.Value.TheVariants.{Null}
use Rattle.sqlval.proofs.Ordering as values
use Rattle.query_terms.specs.Values.{Row}
use Rattle.index_build.specs.Calls.{Tells}
use Rattle.index_build.specs.Checking.{HasRowidAt, IsRowPlace, are_by_rowid}
use Rattle.index_build.proofs.Comparing.{one_is_equal, tells_not}

-- ---- items that rise

both_of : (a b : Bool) → a && b ≡ true → (a ≡ true) × (b ≡ true)
both_of true b e = (refl, e)
both_of false b e = absurd (true≢false (sym e))

lt_is : (o : Ordering) → is_lt o ≡ true → o ≡ Less
lt_is Less e = refl
lt_is Equal e = absurd (true≢false (sym e))
lt_is Greater e = absurd (true≢false (sym e))

module _ {X : Type 0} (cmp : X → X → Ordering) (o : IsTotalOrder cmp) where
  first_two : (x y : X) (ys : List X) → is_rising cmp (x ∷ y ∷ ys) ≡ true → (is_lt (cmp x y) ≡ true) × (is_rising cmp (y ∷ ys) ≡ true)
  first_two x y ys rises = both_of (is_lt (cmp x y)) (is_rising cmp (y ∷ ys)) rises

  pub rest_rises : (x : X) (xs : List X) → is_rising cmp (x ∷ xs) ≡ true → is_rising cmp xs ≡ true
  rest_rises x [] rises = refl
  rest_rises x (y ∷ ys) rises = (first_two x y ys rises).1

  first_least : (x : X) (xs : List X) → is_rising cmp (x ∷ xs) ≡ true → (j : ℕ) (d : X) → j < length xs → cmp x (slice_index_or xs j d) ≡ Less
  first_least x [] rises j d lt = absurd (omega (arith, lt))
  first_least x (y ∷ ys) rises zero d lt = lt_is (cmp x y) (first_two x y ys rises).0
  first_least x (y ∷ ys) rises (suc j) d lt =
      let both = first_two x y ys rises in
      o.trans x y (slice_index_or ys j d) (lt_is (cmp x y) both.0) (first_least y ys both.1 j d (omega (arith, lt)))

  -- of two items the first is less
  pub rises_at : (xs : List X) → is_rising cmp xs ≡ true → (i j : ℕ) (d : X) → i < j → j < length xs → cmp (slice_index_or xs i d) (slice_index_or xs j d) ≡ Less
  rises_at [] rises i j d lt within = absurd (omega (arith, within))
  rises_at (x ∷ xs) rises zero zero d lt within = absurd (omega (arith, lt))
  rises_at (x ∷ xs) rises zero (suc j) d lt within = first_least x xs rises j d (omega (arith, within))
  rises_at (x ∷ xs) rises (suc i) zero d lt within = absurd (omega (arith, lt))
  rises_at (x ∷ xs) rises (suc i) (suc j) d lt within = rises_at xs (rest_rises x xs rises) i j d (omega (arith, lt)) (omega (arith, within))

-- neither is less than the other
one_of_two : (i j : ℕ) → (i < j → ⊥) → (j < i → ⊥) → i ≡ j
one_of_two i j not_below not_above = elim (cases_lt i j) [
  | inl lt ↦ absurd (not_below lt)
  | inr le ↦ elim (cases_lt j i) [
    | inl lt ↦ absurd (not_above lt)
    | inr also ↦ omega (arith, le, also)
  ]
]

any_default : {X : Type 0} (xs : List X) (place : ℕ) (d e : X) → place < length xs → slice_index_or xs place d ≡ slice_index_or xs place e
any_default [] place d e lt = absurd (omega (arith, lt))
any_default (x ∷ xs) zero d e lt = refl
any_default (x ∷ xs) (suc place) d e lt = any_default xs place d e (omega (arith, lt))

-- ---- rows by rising rowid

abbrev by_rowid : Row → Row → Ordering
by_rowid r s = order Binary r.rowid s.rowid

rowids_total : IsTotalOrder by_rowid
rowids_total = on_total (λ (row : Row). row.rowid) (values.total Binary)

no_row : Row
no_row = record { rowid = Null; values = [] }

-- a value isn't less than itself
not_less : (v w x : Value) → v ≡ x → w ≡ x → order Binary v w ≡ Less → ⊥
not_less v w x v_is w_is less = equal_less (sym (one_is_equal v w (v_is ∙ sym w_is)) ∙ less) where
  equal_less : Equal ≡ Less → ⊥
  equal_less e = true≢false (sym (ap is_lt e))

module _ (rows : List Row) (rowid : Value) where
  -- a rowid is that of one row
  once : are_by_rowid rows ≡ true → (i j : ℕ) → HasRowidAt rows rowid i → HasRowidAt rows rowid j → i < j → ⊥
  once rises i j has also lt =
      not_less (slice_index_or rows i no_row).rowid (slice_index_or rows j no_row).rowid rowid (has.1 no_row) (also.1 no_row)
      (rises_at by_rowid rowids_total rows rises i j no_row lt also.0)

  -- the row that has it is that one
  pub seen_there : (place : ℕ) → HasRowidAt rows rowid place → IsRowPlace rows rowid place
  seen_there place has there rises also = one_of_two there place (once rises there place also has) (once rises place there has also)

  abbrev pub is_less : Row → Bool
  is_less row = is_lt (order Binary row.rowid rowid)

  -- the rows whose rowid is less come first
  pub less_first : are_by_rowid rows ≡ true → IsPartitionedBy is_less rows
  less_first rises i j d le within less = elim (cases_lt i j) [
    | inl lt ↦ ap is_lt
        (rowids_total.trans (slice_index_or rows i d) (slice_index_or rows j d) (record { rowid = rowid; values = [] }) (rises_at by_rowid rowids_total rows rises i j d lt within)
        (lt_is (order Binary (slice_index_or rows j d).rowid rowid) less))
    | inr ge ↦
        let same : j ≡ i = omega (arith, le, ge) in
        subst (λ (k : ℕ). is_less (slice_index_or rows k d) ≡ true) same less
  ]

  -- the first that isn't less is the one that has it, if one has
  pub found_there : (place : ℕ) → (IsPartitionedBy is_less rows → IsPartitionPoint (λ row. is_less row ≡ true) (λ row. is_less row ≡ false) rows place) → IsRowPlace rows rowid place
  found_there place parts there rises has =
      let point = parts (less_first rises) in
      let within = has.0 in
      one_of_two there place
      (λ lt. not_less (slice_index_or rows there no_row).rowid rowid rowid (has.1 no_row) refl (lt_is (order Binary (slice_index_or rows there no_row).rowid rowid) (point.0 there no_row (omega arith) lt)))
      (λ lt. true≢false
      (sym (ap is_lt (subst (λ (v : Value). order Binary (slice_index_or rows place no_row).rowid v ≡ Less) (has.1 no_row) (rises_at by_rowid rowids_total rows rises place there no_row lt within)))
      ∙ point.1 place no_row (omega arith) (omega (arith, lt, within))))

  -- there is no such place
  pub not_within : (place : ℕ) → length rows ≤ place → Tells false (HasRowidAt rows rowid place)
  not_within place le = tells_not (HasRowidAt rows rowid place) (λ has. (let lt = has.0 in omega (arith, lt, le)))

  -- the rowid of the row there tells
  pub tells_there : (place : ℕ) (same : Bool) → place < length rows → (row e : Row) (v : Value) → row ≡ slice_index_or rows place e → v ≡ row.rowid → Tells same (v ≡ rowid) → Tells same (HasRowidAt rows rowid place)
  tells_there place same lt row e v row_is v_is tell = record {
    yes = λ t. (lt, λ d. ap (λ (r : Row). r.rowid) (any_default rows place d e lt ∙ sym row_is) ∙ (sym v_is ∙ tell.yes t));
    no = λ has. tell.no (v_is ∙ (ap (λ (r : Row). r.rowid) row_is ∙ has.1 e));
  }
