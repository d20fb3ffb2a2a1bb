-- Of entries that rise those that are looked for stand together.
use Rattle.std.proofs.Common.{◌≡◌, refl, sym, ap, ◌∙◌, ◌≤◌, ◌<◌, ◌+◌, ℕ, zero, suc, ℤ, Bool, true, false, not, ◌&&◌, cond, List, [], ◌∷◌, ◌++◌, length, map, filter, slice_index_or, Option, Some, None, arith}
use mathlib.Core.Bool.{true≢false}
use Rattle.std.proofs.lemmas.List.{length-append}
use Rattle.std.specs.List.{AllByRecursion}
use Rattle.std.specs.Ordering.{is_eq, is_gt, is_lt, ordering_reverse, ordering_then}
use Rattle.std.specs.declared.cmp.Ordering.{Ordering}
use Rattle.std.specs.declared.cmp.Ordering.TheVariants.{Less, Equal, Greater}
use Rattle.sqlval.specs.Lists.{SortKey, is_rising, keys_cmp}
use Rattle.sqlval.specs.Order.{order}
use Rattle.sqlval.specs.declared.collation.Collation.{Collation}
use Rattle.sqlval.specs.declared.collation.Collation.TheVariants.{Binary}
use Rattle.sqlval.specs.declared.value.Value.{Value}
use Rattle.sqlval.specs.declared.value.Value.TheVariants.{Null}
use Rattle.sqlval.proofs.Ordering.{total}
use Rattle.tree_index.specs.Entries.{Entry, entry_cmp, is_passed, keys_of, rising_key}
use Rattle.row_search.specs.Finding.{first_rowids, goes_on_in, is_sought, low_value, passes_low, entry_rowid, sought_from}
use Rattle.query_plan.specs.declared.ranges.Range.{Range}
use Rattle.row_search.proofs.Standing.{ascends, low_passed, standing, standing_up, within_is}

-- ---- where an entry stands by a key and a range

not_less : Equal ≡ Less → ⊥
not_less e = (let n : false ≡ true = ap is_lt e in cc)

no_less : Greater ≡ Less → ⊥
no_less e = (let n : false ≡ true = ap is_lt e in cc)

not_greater : Equal ≡ Greater → ⊥
not_greater e = (let n : false ≡ true = ap is_gt e in cc)

no_greater : Less ≡ Greater → ⊥
no_greater e = (let n : false ≡ true = ap is_gt e in cc)

-- before what is looked for, at it, or past it
abbrev stands : List Collation → List Value → Option Range → Entry → Ordering
stands cs key range entry = ordering_then (ordering_reverse (keys_cmp (map rising_key cs) key entry)) (standing (slice_index_or cs (length key) Binary) range (slice_index_or entry (length key) Null))

-- by the first value, then by the others
by_first : (c : Collation) (cs : List Collation) (k : Value) (key : List Value) (range : Option Range) (v : Value) (vs : Entry)
    → stands (c ∷ cs) (k ∷ key) range (v ∷ vs) ≡ ordering_then (ordering_reverse (order c k v)) (stands cs key range vs)
by_first c cs k key range v vs = by (order c k v)
  where
    by : (o : Ordering)
        → ordering_then (ordering_reverse (ordering_then o (keys_cmp (map rising_key cs) key vs))) (standing (slice_index_or cs (length key) Binary) range (slice_index_or vs (length key) Null))
        ≡ ordering_then (ordering_reverse o) (stands cs key range vs)
    by Less = refl
    by Equal = refl
    by Greater = refl

-- an entry that is greater than one past what is looked for is past it
stays_past : (cs : List Collation) (key : List Value) (range : Option Range) (x y : Entry) → keys_cmp (map rising_key cs) x y ≡ Less → stands cs key range x ≡ Greater → stands cs key range y ≡ Greater
stays_past [] key range x y less past = absurd (not_less less)
stays_past (c ∷ cs) key range [] y less past = absurd (not_less less)
stays_past (c ∷ cs) key range (v ∷ x) [] less past = absurd (not_less less)
stays_past (c ∷ cs) [] range (v ∷ x) (w ∷ y) less past = standing_up c range v w (ascends (order c v w) (keys_cmp (map rising_key cs) x y) less) past
stays_past (c ∷ cs) (k ∷ key) range (v ∷ x) (w ∷ y) less past =
    by_first c cs k key range w y ∙ by (stays_past cs key range x y) (order c k v) (order c v w) refl refl less (sym (by_first c cs k key range v x) ∙ past)
  where
    from_there : Ordering → Ordering
    from_there o = ordering_then (ordering_reverse o) (stands cs key range y)

    by : (keys_cmp (map rising_key cs) x y ≡ Less → stands cs key range x ≡ Greater → stands cs key range y ≡ Greater) → (p q : Ordering) → order c k v ≡ p → order c v w ≡ q
        → ordering_then q (keys_cmp (map rising_key cs) x y) ≡ Less → ordering_then (ordering_reverse p) (stands cs key range x) ≡ Greater
        → from_there (order c k w) ≡ Greater
    by more Less Less p_is q_is less past = ap from_there ((total c).trans k v w p_is q_is)
    by more Less Equal p_is q_is less past =
        ap from_there ((total c).antisymm k w ∙ (ap ordering_reverse (sym ((total c).congr v w k q_is)) ∙ (sym ((total c).antisymm k v) ∙ p_is)))
    by more Equal Less p_is q_is less past = ap from_there ((total c).congr k v w p_is ∙ q_is)
    by more Equal Equal p_is q_is less past = ap from_there ((total c).congr k v w p_is ∙ q_is) ∙ more less past
    by more Less Greater p_is q_is less past = absurd (no_less less)
    by more Equal Greater p_is q_is less past = absurd (no_less less)
    by more Greater q p_is q_is less past = absurd (no_greater past)

-- ---- what a search passes

nothing_more : (ks : List SortKey) (vs : List Value) → keys_cmp ks [] vs ≡ Equal
nothing_more [] vs = refl
nothing_more (k ∷ ks) vs = refl

then_equal : (o : Ordering) → ordering_then o Equal ≡ o
then_equal Less = refl
then_equal Equal = refl
then_equal Greater = refl

none_passed : (after : Bool) → is_passed after Less ≡ false
none_passed true = refl
none_passed false = refl

all_passed : (after : Bool) → is_passed after Greater ≡ true
all_passed true = refl
all_passed false = refl

-- it is what stands before a range
passed_so : (cs : List Collation) (key : List Value) (range : Range) (entry : Entry) → length key < length cs → length key < length entry
    → is_passed (passes_low range.low) (keys_cmp (map rising_key cs) (key ++ low_value range.low ∷ []) entry) ≡ is_lt (stands cs key (Some range) entry)
passed_so [] key range entry room long = absurd (omega (arith, room))
passed_so (c ∷ cs) key range [] room long = absurd (omega (arith, long))
passed_so (c ∷ cs) [] range (v ∷ vs) room long =
    ap (λ p. is_passed (passes_low range.low) (ordering_then (order c (low_value range.low) v) p)) (nothing_more (map rising_key cs) vs)
    ∙ (ap (is_passed (passes_low range.low)) (then_equal (order c (low_value range.low) v)) ∙ low_passed c range v)
passed_so (c ∷ cs) (k ∷ key) range (v ∷ vs) room long =
    by (order c k v) (passed_so cs key range vs (omega (arith, room)) (omega (arith, long))) ∙ ap is_lt (sym (by_first c cs k key (Some range) v vs))
  where
    later : Ordering
    later = keys_cmp (map rising_key cs) (key ++ low_value range.low ∷ []) vs

    by : (o : Ordering) → is_passed (passes_low range.low) later ≡ is_lt (stands cs key (Some range) vs)
        → is_passed (passes_low range.low) (ordering_then o later) ≡ is_lt (ordering_then (ordering_reverse o) (stands cs key (Some range) vs))
    by Less rest = none_passed (passes_low range.low)
    by Equal rest = rest
    by Greater rest = all_passed (passes_low range.low)

-- ---- entries that rise

both_of : (a b : Bool) → a && b ≡ true → (a ≡ true) × (b ≡ true)
both_of true b e = (refl, e)
both_of false b e = absurd (true≢false (sym e))

is_less : (o : Ordering) → is_lt o ≡ true → o ≡ Less
is_less Less e = refl
is_less Equal e = absurd (true≢false (sym e))
is_less Greater e = absurd (true≢false (sym e))

all_through : {X : Type 0} (P Q : X → Type 0) → ((x : X) → P x → Q x) → (xs : List X) → AllByRecursion P xs → AllByRecursion Q xs
all_through P Q so [] all = tt
all_through P Q so (x ∷ xs) all = (so x all.0, all_through P Q so xs all.1)

module _ (cmp : Entry → Entry → Ordering) (stand : Entry → Ordering) (test passed : Entry → Bool) (up : (x y : Entry) → cmp x y ≡ Less → stand x ≡ Greater → stand y ≡ Greater)
    (test_is : (x : Entry) → test x ≡ is_eq (stand x)) where
  rest_rises : (x : Entry) (xs : List Entry) → is_rising cmp (x ∷ xs) ≡ true → is_rising cmp xs ≡ true
  rest_rises x [] rises = refl
  rest_rises x (y ∷ ys) rises = (both_of (is_lt (cmp x y)) (is_rising cmp (y ∷ ys)) rises).1

  -- after one that is past what is looked for none is looked for
  none_after : (x : Entry) (xs : List Entry) → stand x ≡ Greater → is_rising cmp (x ∷ xs) ≡ true → filter test xs ≡ []
  none_after x [] past rises = refl
  none_after x (y ∷ ys) past rises =
      let both = both_of (is_lt (cmp x y)) (is_rising cmp (y ∷ ys)) rises in
      let next = up x y (is_less (cmp x y) both.0) past in
      ap (λ b. cond b (y ∷ filter test ys) (filter test ys)) (test_is y ∙ ap is_eq next) ∙ none_after y ys next both.1

  -- where those are passed that stand before it, the first ones are all
  together : (entries : List Entry) → AllByRecursion (λ (entry : Entry). passed entry ≡ is_lt (stand entry)) entries → is_rising cmp entries ≡ true
      → first_rowids test (filter (λ entry. not (passed entry)) entries) ≡ map entry_rowid (filter test entries)
  together [] all rises = refl
  together (x ∷ xs) all rises = by (stand x) refl (together xs all.1 (rest_rises x xs rises))
    where
      left : List Entry
      left = filter (λ entry. not (passed entry)) xs

      kept : Bool → List ℤ
      kept b = first_rowids test (cond (not b) (x ∷ left) left)

      told : Bool → List ℤ
      told b = cond b (entry_rowid x ∷ first_rowids test left) []

      there : Bool → List ℤ
      there b = map entry_rowid (cond b (x ∷ filter test xs) (filter test xs))

      -- both lists by where the first entry stands
      by : (o : Ordering) → stand x ≡ o → first_rowids test left ≡ map entry_rowid (filter test xs)
          → first_rowids test (filter (λ entry. not (passed entry)) (x ∷ xs)) ≡ map entry_rowid (filter test (x ∷ xs))
      by Less e more = ap kept (all.0 ∙ ap is_lt e) ∙ (more ∙ sym (ap there (test_is x ∙ ap is_eq e)))
      by Equal e more = ap kept (all.0 ∙ ap is_lt e) ∙ (ap told (test_is x ∙ ap is_eq e) ∙ (ap (λ ids. entry_rowid x ∷ ids) more ∙ sym (ap there (test_is x ∙ ap is_eq e))))
      by Greater e more =
          ap kept (all.0 ∙ ap is_lt e) ∙ (ap told (test_is x ∙ ap is_eq e) ∙ sym (ap there (test_is x ∙ ap is_eq e) ∙ ap (map entry_rowid) (none_after x xs e rises)))

-- ---- a key and a range of an index

keys_joined : (columns : List Collation) → map rising_key (columns ++ Binary ∷ []) ≡ keys_of columns
keys_joined [] = refl
keys_joined (c ∷ columns) = ap (λ ks. rising_key c ∷ ks) (keys_joined columns)

collation_joined : (place : ℕ) (columns : List Collation) → slice_index_or (columns ++ Binary ∷ []) place Binary ≡ slice_index_or columns place Binary
collation_joined zero [] = refl
collation_joined (suc place) [] = refl
collation_joined zero (c ∷ columns) = refl
collation_joined (suc place) (c ∷ columns) = collation_joined place columns

module _ (columns : List Collation) (key : List Value) where
  abbrev joined : List Collation
  joined = columns ++ Binary ∷ []

  abbrev stand : Option Range → Entry → Ordering
  stand range entry = ordering_then (ordering_reverse (entry_cmp columns key entry)) (standing (slice_index_or columns (length key) Binary) range (slice_index_or entry (length key) Null))

  stands_so : (range : Option Range) (entry : Entry) → stands joined key range entry ≡ stand range entry
  stands_so range entry = λ i.
      ordering_then (ordering_reverse (keys_cmp (keys_joined columns i) key entry)) (standing (collation_joined (length key) columns i) range (slice_index_or entry (length key) Null))

  up : (range : Option Range) (x y : Entry) → entry_cmp columns x y ≡ Less → stand range x ≡ Greater → stand range y ≡ Greater
  up range x y less past = sym (stands_so range y) ∙ stays_past joined key range x y (ap (λ ks. keys_cmp ks x y) (keys_joined columns) ∙ less) (stands_so range x ∙ past)

  both_tied : (o p : Ordering) → is_eq (ordering_then (ordering_reverse o) p) ≡ (is_eq o && is_eq p)
  both_tied Less p = refl
  both_tied Equal p = refl
  both_tied Greater p = refl

  goes_so : (range : Option Range) (entry : Entry) → is_eq (standing (slice_index_or columns (length key) Binary) range (slice_index_or entry (length key) Null)) ≡ goes_on_in columns key range entry
  goes_so None entry = refl
  goes_so (Some range) entry = within_is (slice_index_or columns (length key) Binary) range (slice_index_or entry (length key) Null)

  sought_is : (range : Option Range) (entry : Entry) → is_sought columns key range entry ≡ is_eq (stand range entry)
  sought_is range entry =
      sym (both_tied (entry_cmp columns key entry) (standing (slice_index_or columns (length key) Binary) range (slice_index_or entry (length key) Null))
      ∙ ap (λ b. is_eq (entry_cmp columns key entry) && b) (goes_so range entry))

  less_back : (o : Ordering) → is_gt o ≡ is_lt (ordering_then (ordering_reverse o) Equal)
  less_back Less = refl
  less_back Equal = refl
  less_back Greater = refl

  passed_is : (range : Range) (entry : Entry) → length key ≤ length columns → length entry ≡ length columns + 1
      → is_passed (passes_low range.low) (entry_cmp columns (key ++ low_value range.low ∷ []) entry) ≡ is_lt (stand (Some range) entry)
  passed_is range entry room whole =
      let long = length-append columns (Binary ∷ []) in
      ap (λ ks. is_passed (passes_low range.low) (keys_cmp ks (key ++ low_value range.low ∷ []) entry)) (sym (keys_joined columns))
      ∙ (passed_so joined key range entry (omega (arith, long, room)) (omega (arith, whole, room)) ∙ ap is_lt (stands_so (Some range) entry))

  -- those from where they begin are those that are looked for
  pub first_are_sought : (range : Option Range) (entries : List Entry) → length key ≤ length columns → AllByRecursion (λ (entry : Entry). length entry ≡ length columns + 1) entries
      → is_rising (entry_cmp columns) entries ≡ true
      → first_rowids (is_sought columns key range) (sought_from columns key range entries) ≡ map entry_rowid (filter (is_sought columns key range) entries)
  first_are_sought None entries room whole rises =
      together (entry_cmp columns) (stand None) (is_sought columns key None) (λ entry. is_passed false (entry_cmp columns key entry)) (up None) (sought_is None) entries
      (all_through (λ (entry : Entry). length entry ≡ length columns + 1) (λ (entry : Entry). is_gt (entry_cmp columns key entry) ≡ is_lt (stand None entry)) (λ entry long. less_back (entry_cmp columns key entry)) entries whole) rises
  first_are_sought (Some range) entries room whole rises =
      together (entry_cmp columns) (stand (Some range)) (is_sought columns key (Some range)) (λ entry. is_passed (passes_low range.low) (entry_cmp columns (key ++ low_value range.low ∷ []) entry)) (up (Some range))
      (sought_is (Some range)) entries
      (all_through (λ (entry : Entry). length entry ≡ length columns + 1)
      (λ (entry : Entry). is_passed (passes_low range.low) (entry_cmp columns (key ++ low_value range.low ∷ []) entry) ≡ is_lt (stand (Some range) entry)) (λ entry long. passed_is range entry room long) entries whole) rises
