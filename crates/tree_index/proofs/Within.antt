-- Entries that stand within others, put among these and so among all.
use Rattle.std.proofs.Common.{◌≡◌, ◌∙◌, ◌||◌, Bool, true, false, not, List, [], ◌∷◌, ◌++◌, append_assoc, refl, sym, ap, subst}
use Rattle.std.specs.List.{AllByRecursion, list_any}
use Rattle.std.specs.Ordering.{is_lt}
use Rattle.sqlval.specs.declared.collation.Collation.{Collation}
use Rattle.tree_index.specs.Comparing.{ComeFirst}
use Rattle.tree_index.specs.Entries.{Entry, AreEntries, AreLong, ComeInTurn, entry_cmp, has_entry, with_entries, with_entry}
use Rattle.tree_index.specs.Growing.{ComeWithin, StandsWithin}
use Rattle.tree_index.proofs.Inserts.{has_within, leads_itself, still_rise, with_within}
use Rattle.tree_index.proofs.Orders.{after_one, before_one, first_right, greater, greater_first, not_less, not_less_first}

true_false : true ≡ false → ⊥
true_false e = cc

-- One of a list that passes a test.
record IsOne {A : Type 0} (test : A → Bool) (xs : List A) : Type 0 where
  front : List A
  one : A
  rest : List A
  whole : xs ≡ front ++ one ∷ rest
  passes : test one ≡ true

found_one : {A : Type 0} (test : A → Bool) (xs : List A) → list_any test xs ≡ true → IsOne test xs
found_one test [] any = absurd (true_false (sym any))
found_one {A} test (x ∷ xs) any = by (test x) refl (λ more. found_one test xs more) where
  by : (b : Bool) → test x ≡ b → (list_any test xs ≡ true → IsOne test xs) → IsOne test (x ∷ xs)
  by true passes further = record { front = []; one = x; rest = xs; whole = refl; passes = passes }
  by false fails further =
      let it = further (sym (ap (λ (b : Bool). b || list_any test xs) fails) ∙ any) in
      record { front = x ∷ it.front; one = it.one; rest = it.rest; whole = ap (λ (ys : List A). x ∷ ys) it.whole; passes = it.passes }

or_true : (b : Bool) → b || true ≡ true
or_true true = refl
or_true false = refl

any_left : {A : Type 0} (test : A → Bool) (xs ys : List A) → list_any test xs ≡ true → list_any test (xs ++ ys) ≡ true
any_left test [] ys any = absurd (true_false (sym any))
any_left test (x ∷ xs) ys any = by (test x) refl (λ more. any_left test xs ys more) where
  by : (b : Bool) → test x ≡ b → (list_any test xs ≡ true → list_any test (xs ++ ys) ≡ true) → test x || list_any test (xs ++ ys) ≡ true
  by true passes further = ap (λ (b : Bool). b || list_any test (xs ++ ys)) passes
  by false fails further = ap (λ (b : Bool). test x || b) (further (sym (ap (λ (b : Bool). b || list_any test xs) fails) ∙ any)) ∙ or_true (test x)

any_right : {A : Type 0} (test : A → Bool) (xs ys : List A) → list_any test ys ≡ true → list_any test (xs ++ ys) ≡ true
any_right test [] ys any = any
any_right test (x ∷ xs) ys any = ap (λ (b : Bool). test x || b) (any_right test xs ys any) ∙ or_true (test x)

all_front : {A : Type 0} (P : A → Type 0) (xs ys : List A) → AllByRecursion P (xs ++ ys) → AllByRecursion P xs
all_front P [] ys all = tt
all_front P (x ∷ xs) ys all = (all.0, all_front P xs ys all.1)

all_back : {A : Type 0} (P : A → Type 0) (xs ys : List A) → AllByRecursion P (xs ++ ys) → AllByRecursion P ys
all_back P [] ys all = all
all_back P (x ∷ xs) ys all = all_back P xs ys all.1

-- ---- one that stands within some stands within all, at the same place

module _ (columns : List Collation) (y : Entry) (l m r : List Entry) (are : AreEntries columns (l ++ (m ++ r))) (within : StandsWithin columns y m) where
  parted : (front : List Entry) (one : Entry) (rest : List Entry) → m ≡ front ++ one ∷ rest → l ++ (m ++ r) ≡ (l ++ front) ++ (one ∷ (rest ++ r))
  parted front one rest whole =
      ap (λ (es : List Entry). l ++ (es ++ r)) whole ∙ ap (λ (es : List Entry). l ++ es) (append_assoc front (one ∷ rest) r) ∙ sym (append_assoc l front (one ∷ (rest ++ r)))

  more : AllByRecursion (λ e. greater columns y e ≡ true) l
  more =
      let it = found_one (greater columns y) m within.0 in
      let first = subst (λ (es : List Entry). ComeFirst (greater columns y) es) (parted it.front it.one it.rest it.whole) (greater_first columns y (l ++ (m ++ r)) are) in
      all_front (λ e. greater columns y e ≡ true) l it.front (before_one (greater columns y) (l ++ it.front) it.one (it.rest ++ r) first it.passes)

  fewer : AllByRecursion (λ e. not_less columns y e ≡ false) r
  fewer =
      let it = found_one (λ (e : Entry). is_lt (entry_cmp columns y e)) m within.1 in
      let first = subst (λ (es : List Entry). ComeFirst (not_less columns y) es) (parted it.front it.one it.rest it.whole) (not_less_first columns y (l ++ (m ++ r)) are) in
      let after = after_one (not_less columns y) it.one (it.rest ++ r) (first_right (not_less columns y) (l ++ it.front) (it.one ∷ (it.rest ++ r)) first) (ap not it.passes) in
      all_back (λ e. not_less columns y e ≡ false) it.rest r after.1

  none : has_entry columns y (l ++ (m ++ r)) ≡ false
  none = has_within columns y l m r more fewer ∙ within.2

  pub stands_in_all : StandsWithin columns y (l ++ (m ++ r))
  stands_in_all = (
    any_right (greater columns y) l (m ++ r) (any_left (greater columns y) m r within.0),
    any_right (λ (e : Entry). is_lt (entry_cmp columns y e)) l (m ++ r) (any_left (λ (e : Entry). is_lt (entry_cmp columns y e)) m r within.1),
    none,
  )

  pub put_in_all : with_entry columns y (l ++ (m ++ r)) ≡ l ++ (with_entry columns y m ++ r)
  put_in_all =
      sym (leads_itself columns y (l ++ (m ++ r)) none).1 ∙ with_within columns y y l m r more fewer
      ∙ ap (λ (es : List Entry). l ++ (es ++ r)) (leads_itself columns y m within.2).1

-- ---- one after the other

module _ (columns : List Collation) where
  pub come_in_all : (xs : List Entry) → AreLong columns xs → (l m r : List Entry) → AreEntries columns (l ++ (m ++ r)) → ComeWithin columns xs m
      → ComeWithin columns xs (l ++ (m ++ r)) × (with_entries columns xs (l ++ (m ++ r)) ≡ l ++ (with_entries columns xs m ++ r))
  come_in_all [] long l m r are come = (tt, refl)
  come_in_all (y ∷ xs) long l m r are come =
      let stands = stands_in_all columns y l m r are come.0 in
      let same = put_in_all columns y l m r are come.0 in
      let now = subst (λ (es : List Entry). AreEntries columns es) same (still_rise columns y (l ++ (m ++ r)) are stands.2 long.0) in
      let rest = come_in_all xs long.1 l (with_entry columns y m) r now come.1 in (
        (stands, subst (λ (es : List Entry). ComeWithin columns xs es) (sym same) rest.0),
        ap (with_entries columns xs) same ∙ rest.1,
      )

  pub all_rise : (xs es : List Entry) → AreLong columns xs → AreEntries columns es → ComeWithin columns xs es → AreEntries columns (with_entries columns xs es)
  all_rise [] es long are come = are
  all_rise (y ∷ xs) es long are come = all_rise xs (with_entry columns y es) long.1 (still_rise columns y es are come.0.2 long.0) come.1

  pub in_turn : (xs es : List Entry) → ComeWithin columns xs es → ComeInTurn columns xs es
  in_turn [] es come = tt
  in_turn (y ∷ xs) es come = (come.0.2, in_turn xs (with_entry columns y es) come.1)

  pub one_more_comes : (xs : List Entry) (y : Entry) (es : List Entry) → ComeWithin columns xs es → StandsWithin columns y (with_entries columns xs es) → ComeWithin columns (xs ++ y ∷ []) es
  one_more_comes [] y es come stands = (stands, tt)
  one_more_comes (x ∷ xs) y es come stands = (come.0, one_more_comes xs y (with_entry columns x es) come.1 stands)

  pub with_one_more : (xs : List Entry) (y : Entry) (es : List Entry) → with_entries columns (xs ++ y ∷ []) es ≡ with_entry columns y (with_entries columns xs es)
  with_one_more [] y es = refl
  with_one_more (x ∷ xs) y es = with_one_more xs y (with_entry columns x es)
