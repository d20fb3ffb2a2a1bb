-- The order of entries, and what comes first in a row of them.
use Rattle.std.proofs.Common.{◌≡◌, refl, sym, ◌∙◌, ap, ℕ, zero, suc, ◌<◌, ◌≤◌, ◌+◌, Bool, true, false, not, ◌&&◌, List, [], ◌∷◌, ◌++◌, length, map, slice_index_or, arith}
use Rattle.std.specs.declared.cmp.Ordering.{Ordering}
use Rattle.std.specs.declared.cmp.Ordering.TheVariants.{Less, Equal, Greater}
use Rattle.std.specs.List.{AllByRecursion}
use Rattle.std.specs.Ordering.{is_lt, is_eq, is_gt, ordering_then, ordering_reverse}
use Rattle.sqlval.specs.Lists.{SortKey, keys_cmp, is_rising}
use Rattle.sqlval.specs.Order.{order}
use Rattle.sqlval.specs.declared.collation.Collation.{Collation}
use Rattle.sqlval.specs.declared.collation.Collation.TheVariants.{Binary}
use Rattle.std.proofs.lemmas.List.{length-append}
use Rattle.sqlval.specs.declared.value.Value.{Value}
use Rattle.sqlval.proofs.Ordering.{total}
use Rattle.tree_index.specs.Comparing.{front_count, ComeFirst}
use Rattle.tree_index.specs.Entries.{Entry, rising_key, keys_of, entry_cmp, AreEntries}

-- ---- keys of one collation each, all rising

-- the keys of these collations, all rising
abbrev pub rising : List Collation → List SortKey
rising columns = map rising_key columns

abbrev pub gt : Ordering → Bool
gt = is_gt

less_greater : Less ≡ Greater → ⊥
less_greater e = no_bool (ap is_lt e) where
  no_bool : true ≡ false → ⊥
  no_bool e = cc

equal_less : Equal ≡ Less → ⊥
equal_less e = no_bool (sym (ap is_lt e)) where
  no_bool : true ≡ false → ⊥
  no_bool e = cc

greater_less : Greater ≡ Less → ⊥
greater_less e = no_bool (sym (ap is_lt e)) where
  no_bool : true ≡ false → ⊥
  no_bool e = cc

true_false : true ≡ false → ⊥
true_false e = cc

false_true : false ≡ true → ⊥
false_true e = cc

lt_is : (o : Ordering) → is_lt o ≡ true → o ≡ Less
lt_is Less e = refl
lt_is Equal e = absurd (false_true e)
lt_is Greater e = absurd (false_true e)

-- the first of two comparisons, by cases
then_gt : (o p : Ordering) (rest : Ordering) → o ≡ p → is_gt (ordering_then o rest) ≡ is_gt (ordering_then p rest)
then_gt o p rest e = ap (λ (q : Ordering). is_gt (ordering_then q rest)) e

module _ (c : Collation) (v w x : Value) where
  abbrev o : Value → Value → Ordering
  o = order c

  less_less : o v w ≡ Less → o w x ≡ Less → o v x ≡ Less
  less_less = (total c).trans v w x

  equal_same : o v w ≡ Equal → o v x ≡ o w x
  equal_same = (total c).congr v w x

  -- v < w and w = x
  less_equal : o v w ≡ Less → o w x ≡ Equal → o v x ≡ Less
  less_equal e f =
      let back : o w v ≡ Greater = (total c).antisymm w v ∙ ap ordering_reverse e in
      let one : o w v ≡ o x v = (total c).congr w x v f in
      (total c).antisymm v x ∙ ap ordering_reverse (sym one ∙ back)

-- where a key isn't greater than an entry, it isn't greater than one that is greater
pub not_greater_after : (ks : List Collation) (key a b : List Value) → length a ≡ length ks → length b ≡ length ks → is_gt (keys_cmp (rising ks) key a) ≡ false → is_lt (keys_cmp (rising ks) a b) ≡ true
    → is_gt (keys_cmp (rising ks) key b) ≡ false
not_greater_after [] key a b la lb e f = refl
not_greater_after (c ∷ ks) [] a b la lb e f = refl
not_greater_after (c ∷ ks) (v ∷ key) [] b la lb e f = absurd (omega (arith, la))
not_greater_after (c ∷ ks) (v ∷ key) (w ∷ a) [] la lb e f = absurd (omega (arith, lb))
not_greater_after (c ∷ ks) (v ∷ key) (w ∷ a) (x ∷ b) la lb e f =
    by (λ e f. not_greater_after ks key a b (omega (arith, la)) (omega (arith, lb)) e f) (order c v w) (order c w x) refl refl e f
  where
    by : (is_gt (keys_cmp (rising ks) key a) ≡ false → is_lt (keys_cmp (rising ks) a b) ≡ true → is_gt (keys_cmp (rising ks) key b) ≡ false) → (p q : Ordering) → order c v w ≡ p → order c w x ≡ q
        → is_gt (ordering_then p (keys_cmp (rising ks) key a)) ≡ false → is_lt (ordering_then q (keys_cmp (rising ks) a b)) ≡ true → is_gt (ordering_then (order c v x) (keys_cmp (rising ks) key b)) ≡ false
    by more Greater q p_is q_is e f = absurd (true_false e)
    by more p Greater p_is q_is e f = absurd (false_true f)
    by more Less Less p_is q_is e f = rw (less_less c v w x p_is q_is) refl
    by more Less Equal p_is q_is e f = rw (less_equal c v w x p_is q_is) refl
    by more Equal Less p_is q_is e f = rw (equal_same c v w x p_is ∙ q_is) refl
    by more Equal Equal p_is q_is e f = rw (equal_same c v w x p_is ∙ q_is) (more e f)

-- where a key is less than an entry, it is less than one that is greater
pub less_after : (ks : List Collation) (key a b : List Value) → length a ≡ length ks → length b ≡ length ks → is_lt (keys_cmp (rising ks) key a) ≡ true → is_lt (keys_cmp (rising ks) a b) ≡ true
    → is_lt (keys_cmp (rising ks) key b) ≡ true
less_after [] key a b la lb e f = absurd (false_true e)
less_after (c ∷ ks) [] a b la lb e f = absurd (false_true e)
less_after (c ∷ ks) (v ∷ key) [] b la lb e f = absurd (omega (arith, la))
less_after (c ∷ ks) (v ∷ key) (w ∷ a) [] la lb e f = absurd (omega (arith, lb))
less_after (c ∷ ks) (v ∷ key) (w ∷ a) (x ∷ b) la lb e f =
    by (λ e f. less_after ks key a b (omega (arith, la)) (omega (arith, lb)) e f) (order c v w) (order c w x) refl refl e f
  where
    by : (is_lt (keys_cmp (rising ks) key a) ≡ true → is_lt (keys_cmp (rising ks) a b) ≡ true → is_lt (keys_cmp (rising ks) key b) ≡ true) → (p q : Ordering) → order c v w ≡ p → order c w x ≡ q
        → is_lt (ordering_then p (keys_cmp (rising ks) key a)) ≡ true → is_lt (ordering_then q (keys_cmp (rising ks) a b)) ≡ true → is_lt (ordering_then (order c v x) (keys_cmp (rising ks) key b)) ≡ true
    by more Greater q p_is q_is e f = absurd (false_true e)
    by more p Greater p_is q_is e f = absurd (false_true f)
    by more Less Less p_is q_is e f = rw (less_less c v w x p_is q_is) refl
    by more Less Equal p_is q_is e f = rw (less_equal c v w x p_is q_is) refl
    by more Equal Less p_is q_is e f = rw (equal_same c v w x p_is ∙ q_is) refl
    by more Equal Equal p_is q_is e f = rw (equal_same c v w x p_is ∙ q_is) (more e f)

-- where a key equals an entry, it is less than one that is greater
pub equal_after : (ks : List Collation) (key a b : List Value) → length key ≡ length ks → length a ≡ length ks → length b ≡ length ks → is_eq (keys_cmp (rising ks) key a) ≡ true → is_lt (keys_cmp (rising ks) a b) ≡ true
    → is_lt (keys_cmp (rising ks) key b) ≡ true
equal_after [] key a b lk la lb e f = absurd (false_true f)
equal_after (c ∷ ks) [] a b lk la lb e f = absurd (omega (arith, lk))
equal_after (c ∷ ks) (v ∷ key) [] b lk la lb e f = absurd (omega (arith, la))
equal_after (c ∷ ks) (v ∷ key) (w ∷ a) [] lk la lb e f = absurd (omega (arith, lb))
equal_after (c ∷ ks) (v ∷ key) (w ∷ a) (x ∷ b) lk la lb e f =
    by (λ e f. equal_after ks key a b (omega (arith, lk)) (omega (arith, la)) (omega (arith, lb)) e f) (order c v w) (order c w x) refl refl e f
  where
    by : (is_eq (keys_cmp (rising ks) key a) ≡ true → is_lt (keys_cmp (rising ks) a b) ≡ true → is_lt (keys_cmp (rising ks) key b) ≡ true) → (p q : Ordering) → order c v w ≡ p → order c w x ≡ q
        → is_eq (ordering_then p (keys_cmp (rising ks) key a)) ≡ true → is_lt (ordering_then q (keys_cmp (rising ks) a b)) ≡ true → is_lt (ordering_then (order c v x) (keys_cmp (rising ks) key b)) ≡ true
    by more Greater q p_is q_is e f = absurd (false_true e)
    by more Less q p_is q_is e f = absurd (false_true e)
    by more Equal Greater p_is q_is e f = absurd (false_true f)
    by more Equal Less p_is q_is e f = rw (equal_same c v w x p_is ∙ q_is) refl
    by more Equal Equal p_is q_is e f = rw (equal_same c v w x p_is ∙ q_is) (more e f)

-- ---- what comes first

module _ {A : Type 0} (test : A → Bool) where
  -- before one that is so, all are
  pub before_one : (xs : List A) (y : A) (zs : List A) → ComeFirst test (xs ++ y ∷ zs) → test y ≡ true → AllByRecursion (λ x. test x ≡ true) xs
  before_one [] y zs first is = tt
  before_one (x ∷ xs) y zs first is = (by (test x) refl, before_one xs y zs first.1 is) where
    among : (xs : List A) → AllByRecursion (λ z. test z ≡ false) (xs ++ y ∷ zs) → test y ≡ false
    among [] all = all.0
    among (x ∷ xs) all = among xs all.1

    by : (b : Bool) → test x ≡ b → test x ≡ true
    by true e = e
    by false e = absurd (true_false (sym is ∙ among xs (first.0 e)))

  -- after one that isn't so, none is
  pub after_one : (y : A) (zs : List A) → ComeFirst test (y ∷ zs) → test y ≡ false → AllByRecursion (λ x. test x ≡ false) (y ∷ zs)
  after_one y zs first not = (not, first.0 not)

  pub first_left : (xs ys : List A) → ComeFirst test (xs ++ ys) → ComeFirst test xs
  first_left [] ys first = tt
  first_left (x ∷ xs) ys first = (λ e. part xs (first.0 e), first_left xs ys first.1) where
    part : (xs : List A) → AllByRecursion (λ z. test z ≡ false) (xs ++ ys) → AllByRecursion (λ z. test z ≡ false) xs
    part [] all = tt
    part (x ∷ xs) all = (all.0, part xs all.1)

  pub first_right : (xs ys : List A) → ComeFirst test (xs ++ ys) → ComeFirst test ys
  first_right [] ys first = first
  first_right (x ∷ xs) ys first = first_right xs ys first.1

  -- ---- their count

  pub count_more : (x : A) (xs : List A) → test x ≡ true → front_count test (x ∷ xs) ≡ suc (front_count test xs)
  count_more x xs e = rw e refl

  pub count_none : (x : A) (xs : List A) → test x ≡ false → front_count test (x ∷ xs) ≡ 0
  count_none x xs e = rw e refl

  pub count_within : (xs : List A) → front_count test xs ≤ length xs
  count_within [] = omega arith
  count_within (x ∷ xs) = by (count_within xs) (test x) refl where
    by : front_count test xs ≤ length xs → (b : Bool) → test x ≡ b → front_count test (x ∷ xs) ≤ suc (length xs)
    by rest true e = (let more = count_more x xs e in omega (arith, more, rest))
    by rest false e = (let none = count_none x xs e in omega (arith, none))

  -- one that is so is counted, with those before it
  pub counted : (xs : List A) (place : ℕ) (d : A) → ComeFirst test xs → place < length xs → test (slice_index_or xs place d) ≡ true → place < front_count test xs
  counted [] place d first lt is = absurd (omega (arith, lt))
  counted (x ∷ xs) zero d first lt is = (let more = count_more x xs is in omega (arith, more))
  counted (x ∷ xs) (suc place) d first lt is = by (counted xs place d first.1 (omega (arith, lt)) is) (test x) refl where
    there : (xs : List A) (place : ℕ) → place < length xs → AllByRecursion (λ z. test z ≡ false) xs → test (slice_index_or xs place d) ≡ false
    there [] place lt all = absurd (omega (arith, lt))
    there (y ∷ ys) zero lt all = all.0
    there (y ∷ ys) (suc place) lt all = there ys place (omega (arith, lt)) all.1

    by : place < front_count test xs → (b : Bool) → test x ≡ b → suc place < front_count test (x ∷ xs)
    by rest true e = (let more = count_more x xs e in omega (arith, more, rest))
    by rest false e = absurd (true_false (sym is ∙ there xs place (omega (arith, lt)) (first.0 e)))

  -- none is counted from one on that isn't
  pub uncounted : (xs : List A) (place : ℕ) (d : A) → place < length xs → test (slice_index_or xs place d) ≡ false → front_count test xs ≤ place
  uncounted [] place d lt not = absurd (omega (arith, lt))
  uncounted (x ∷ xs) zero d lt not = (let none = count_none x xs not in omega (arith, none))
  uncounted (x ∷ xs) (suc place) d lt not = by (uncounted xs place d (omega (arith, lt)) not) (test x) refl where
    by : front_count test xs ≤ place → (b : Bool) → test x ≡ b → front_count test (x ∷ xs) ≤ suc place
    by rest true e = (let more = count_more x xs e in omega (arith, more, rest))
    by rest false e = (let none = count_none x xs e in omega (arith, none))

-- ---- rising entries

module _ (columns : List Collation) (key : List Value) where
  -- the key is greater than the entry; the key isn't less than the entry
  abbrev pub greater : Entry → Bool
  greater entry = is_gt (entry_cmp columns key entry)

  abbrev pub not_less : Entry → Bool
  not_less entry = not (is_lt (entry_cmp columns key entry))

  abbrev all_columns : List Collation
  all_columns = columns ++ Binary ∷ []

  keys_same : keys_of columns ≡ rising all_columns
  keys_same = same columns where
    same : (cs : List Collation) → map rising_key cs ++ rising_key Binary ∷ [] ≡ rising (cs ++ Binary ∷ [])
    same [] = refl
    same (c ∷ cs) = ap (λ (ks : List SortKey). rising_key c ∷ ks) (same cs)

  long : (entry : Entry) → length entry ≡ length columns + 1 → length entry ≡ length all_columns
  long entry e = (let both = length-append columns (Binary ∷ []) in omega (arith, e, both))

  not_greater_next : (a b : Entry) → length a ≡ length columns + 1 → length b ≡ length columns + 1 → greater a ≡ false → is_lt (entry_cmp columns a b) ≡ true → greater b ≡ false
  not_greater_next a b la lb e f =
      ap (λ (ks : List SortKey). is_gt (keys_cmp ks key b)) keys_same
      ∙ not_greater_after all_columns key a b (long a la) (long b lb) (sym (ap (λ (ks : List SortKey). is_gt (keys_cmp ks key a)) keys_same) ∙ e) (sym (ap (λ (ks : List SortKey). is_lt (keys_cmp ks a b)) keys_same) ∙ f)

  less_next : (a b : Entry) → length a ≡ length columns + 1 → length b ≡ length columns + 1 → not_less a ≡ false → is_lt (entry_cmp columns a b) ≡ true → not_less b ≡ false
  less_next a b la lb e f =
      ap not (ap (λ (ks : List SortKey). is_lt (keys_cmp ks key b)) keys_same
      ∙ less_after all_columns key a b (long a la) (long b lb) (sym (ap (λ (ks : List SortKey). is_lt (keys_cmp ks key a)) keys_same) ∙ not_false _ e) (sym (ap (λ (ks : List SortKey). is_lt (keys_cmp ks a b)) keys_same) ∙ f))
    where
      not_false : (b : Bool) → not b ≡ false → b ≡ true
      not_false true e = refl
      not_false false e = absurd (true_false e)

  -- where a test is handed on from each entry to the next, those that pass it come first
  handed : (test : Entry → Bool) → ((a b : Entry) → length a ≡ length columns + 1 → length b ≡ length columns + 1 → test a ≡ false → is_lt (entry_cmp columns a b) ≡ true → test b ≡ false)
      → (entries : List Entry) → AllByRecursion (λ entry. length entry ≡ length columns + 1) entries → is_rising (entry_cmp columns) entries ≡ true → ComeFirst test entries
  handed test next [] whole rises = tt
  handed test next (a ∷ []) whole rises = (λ e. tt, tt)
  handed test next (a ∷ b ∷ entries) whole rises =
      let both = and_both (is_lt (entry_cmp columns a b)) (is_rising (entry_cmp columns) (b ∷ entries)) rises in
      let rest = handed test next (b ∷ entries) whole.1 both.1 in (
        λ e. (let not = next a b whole.0 whole.1.0 e both.0 in (not, rest.0 not)),
        rest,
      )
    where
      and_both : (a b : Bool) → a && b ≡ true → (a ≡ true) × (b ≡ true)
      and_both true b e = (refl, e)
      and_both false b e = absurd (false_true e)

  pub greater_first : (entries : List Entry) → AreEntries columns entries → ComeFirst greater entries
  greater_first entries are = handed greater not_greater_next entries are.whole are.rising

  pub not_less_first : (entries : List Entry) → AreEntries columns entries → ComeFirst not_less entries
  not_less_first entries are = handed not_less less_next entries are.whole are.rising

  equal_next : (a b : Entry) → length key ≡ length columns + 1 → length a ≡ length columns + 1 → length b ≡ length columns + 1 → is_eq (entry_cmp columns key a) ≡ true → is_lt (entry_cmp columns a b) ≡ true
      → not_less b ≡ false
  equal_next a b lk la lb e f =
      ap not (ap (λ (ks : List SortKey). is_lt (keys_cmp ks key b)) keys_same
      ∙ equal_after all_columns key a b (long key lk) (long a la) (long b lb) (sym (ap (λ (ks : List SortKey). is_eq (keys_cmp ks key a)) keys_same) ∙ e) (sym (ap (λ (ks : List SortKey). is_lt (keys_cmp ks a b)) keys_same) ∙ f))

  first_two : (a b : Bool) → a && b ≡ true → (a ≡ true) × (b ≡ true)
  first_two true b e = (refl, e)
  first_two false b e = absurd (false_true e)

  -- after one that is equal, all are greater
  pub after_equal : length key ≡ length columns + 1 → (e : Entry) (rest : List Entry) → AreEntries columns (e ∷ rest) → is_eq (entry_cmp columns key e) ≡ true → AllByRecursion (λ y. not_less y ≡ false) rest
  after_equal lk e [] are same = tt
  after_equal lk e (f ∷ rest) are same =
      let both = first_two (is_lt (entry_cmp columns e f)) (is_rising (entry_cmp columns) (f ∷ rest)) are.rising in
      let next = equal_next e f lk are.whole.0 are.whole.1.0 same both.0 in
      (next, (not_less_first (f ∷ rest) (record { whole = are.whole.1; rising = both.1 })).0 next)
