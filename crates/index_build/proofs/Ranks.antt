-- Entries are compared as the order of an index compares them.
use Rattle.std.proofs.Common.{◌≡◌, ◌≤◌, ◌<◌, ◌+◌, refl, sym, ap, subst, ◌∙◌, ℕ, zero, suc, Bool, true, false, cond, List, [], ◌∷◌, length, map, drop, slice_index_or, arith}
use Rattle.std.proofs.lemmas.List.{drop_all}
use Rattle.std.specs.Cmp.{IsTotalOrder, on_total, then_total}
use Rattle.std.specs.List.{AllByRecursion}
use Rattle.std.specs.Ordering.{is_gt, is_ne, ordering_then}
use Rattle.std.specs.declared.cmp.Ordering.{Ordering}
use Rattle.std.specs.declared.cmp.Ordering.TheVariants.{Less, Equal, Greater}
use Rattle.sqlval.specs.Lists.{placed, sorted, keys_cmp}
use Rattle.sqlval.specs.Order.{order}
use Rattle.sqlval.specs.declared.collation.Collation.{Collation}
use Rattle.sqlval.specs.declared.collation.Collation.TheVariants.{Binary}
use Rattle.sqlval.specs.declared.value.Value.{Value}
use Rattle.sqlval.proofs.Ordering as values
use Rattle.tree_index.specs.Entries.{Entry, entry_cmp, keys_of}
use Rattle.index_build.specs.Ranking.{value_or_null, ranked}
use Rattle.catalog.specs.declared.tables.IndexColumn.{IndexColumn}

-- the order of entries is total, however many values they have
pub total : (place : ℕ) (columns : List IndexColumn) → IsTotalOrder (ranked place columns)
total place [] = on_total (λ (vs : List Value). value_or_null vs place) (values.total Binary)
total place (column ∷ columns) = then_total (on_total (λ (vs : List Value). value_or_null vs place) (values.total column.collation)) (total (place + 1) columns)

-- the collations of columns
abbrev pub collations : List IndexColumn → List Collation
collations columns = map (λ column. column.collation) columns

-- an entry of these columns and the rowid
abbrev pub IsWhole : List IndexColumn → Entry → Type 0
IsWhole columns entry = length entry ≡ suc (length columns)

then_equal : (o : Ordering) → ordering_then o Equal ≡ o
then_equal Less = refl
then_equal Equal = refl
then_equal Greater = refl

-- the values of a list from a place of another on
abbrev pub LieAt : ℕ → List Value → List Value → Type 0
LieAt place a xs = (k : ℕ) → value_or_null a (k + place) ≡ value_or_null xs k

pub first_at : (place : ℕ) (a xs : List Value) (x : Value) → LieAt place a (x ∷ xs) → value_or_null a place ≡ x
first_at place a xs x lie = (let none : 0 + place ≡ place = omega arith in sym (ap (value_or_null a) none) ∙ lie 0)

pub rest_at : (place : ℕ) (a xs : List Value) (x : Value) → LieAt place a (x ∷ xs) → LieAt (place + 1) a xs
rest_at place a xs x lie k = (let next : k + (place + 1) ≡ suc k + place = omega arith in ap (value_or_null a) next ∙ lie (suc k))

same_order : (c : Collation) (v w x y : Value) → v ≡ x → w ≡ y → order c v w ≡ order c x y
same_order c v w x y e d = ap (λ (u : Value). order c u w) e ∙ ap (order c x) d

ranks_from : (columns : List IndexColumn) (place : ℕ) (a b xs ys : List Value) → LieAt place a xs → LieAt place b ys → IsWhole columns xs → IsWhole columns ys
    → ranked place columns a b ≡ keys_cmp (keys_of (collations columns)) xs ys
ranks_from columns place a b [] ys f h long also = absurd (omega (arith, long))
ranks_from columns place a b (x ∷ xs) [] f h long also = absurd (omega (arith, also))
ranks_from [] place a b (x ∷ xs) (y ∷ ys) f h long also =
    same_order Binary (value_or_null a place) (value_or_null b place) x y (first_at place a xs x f) (first_at place b ys y h) ∙ sym (last xs ys)
  where
    last : (us vs : List Value) → ordering_then (order Binary x y) (keys_cmp [] us vs) ≡ order Binary x y
    last us vs = then_equal (order Binary x y)
ranks_from (column ∷ columns) place a b (x ∷ xs) (y ∷ ys) f h long also =
    ap (λ (o : Ordering). ordering_then o (ranked (place + 1) columns a b))
    (same_order column.collation (value_or_null a place) (value_or_null b place) x y (first_at place a xs x f) (first_at place b ys y h))
    ∙ ap (ordering_then (order column.collation x y))
    (ranks_from columns (place + 1) a b xs ys (rest_at place a xs x f) (rest_at place b ys y h) (omega (arith, long)) (omega (arith, also)))

-- of whole entries it is the order of an index
pub ranks : (columns : List IndexColumn) (a b : Entry) → IsWhole columns a → IsWhole columns b → ranked 0 columns a b ≡ entry_cmp (collations columns) a b
ranks columns a b long also = ranks_from columns 0 a b a b (λ k. ap (value_or_null a) (none k)) (λ k. ap (value_or_null b) (none k)) long also
  where
    none : (k : ℕ) → k + 0 ≡ k
    none k = omega arith

-- ---- one column after the other

column_next : (columns : List IndexColumn) (place : ℕ) (d : IndexColumn) → place < length columns → drop place columns ≡ slice_index_or columns place d ∷ drop (suc place) columns
column_next [] place d lt = absurd (omega (arith, lt))
column_next (column ∷ columns) zero d lt = refl
column_next (column ∷ columns) (suc place) d lt = column_next columns place d (omega (arith, lt))

pub column_there : (columns : List IndexColumn) (place : ℕ) (d : IndexColumn) → place < length columns → drop place columns ≡ slice_index_or columns place d ∷ drop (place + 1) columns
column_there columns place d lt =
    (let next : suc place ≡ place + 1 = omega arith in subst (λ (n : ℕ). drop place columns ≡ slice_index_or columns place d ∷ drop n columns) next (column_next columns place d lt))

-- What is left of the columns decides.
pub record IsLeft (columns : List IndexColumn) (a b : Entry) (place : ℕ) : Type 0 where
  pub low : place ≤ length columns
  pub same : ranked place (drop place columns) a b ≡ ranked 0 columns a b

then_ne : (o rest : Ordering) → is_ne o ≡ true → ordering_then o rest ≡ o
then_ne Less rest e = refl
then_ne Equal rest e = absurd (let n : false ≡ true = e in cc)
then_ne Greater rest e = refl

then_eq : (o rest : Ordering) → is_ne o ≡ false → ordering_then o rest ≡ rest
then_eq Less rest e = absurd (let n : true ≡ false = e in cc)
then_eq Equal rest e = refl
then_eq Greater rest e = absurd (let n : true ≡ false = e in cc)

module _ (columns : List IndexColumn) (a b : Entry) (place : ℕ) (d : IndexColumn) (found : Ordering) (is : IsLeft columns a b place) (lt : place < length columns)
    (found_is : found ≡ order (slice_index_or columns place d).collation (value_or_null a place) (value_or_null b place)) where
  by_first : ordering_then found (ranked (place + 1) (drop (place + 1) columns) a b) ≡ ranked 0 columns a b
  by_first = ap (λ (o : Ordering). ordering_then o (ranked (place + 1) (drop (place + 1) columns) a b)) found_is
      ∙ (sym (ap (λ (l : List IndexColumn). ranked place l a b) (column_there columns place d lt)) ∙ is.same)

  -- one that differs decides
  pub decides : is_ne found ≡ true → found ≡ ranked 0 columns a b
  decides ne = sym (then_ne found (ranked (place + 1) (drop (place + 1) columns) a b) ne) ∙ by_first

  -- one that doesn't leaves it to the others
  pub leaves : is_ne found ≡ false → IsLeft columns a b (place + 1)
  leaves eq = record { low = omega (arith, lt); same = sym (then_eq found (ranked (place + 1) (drop (place + 1) columns) a b) eq) ∙ by_first }

-- after the columns the rowid decides
pub rowid_decides : (columns : List IndexColumn) (a b : Entry) (place : ℕ) (found : Ordering) → IsLeft columns a b place → length columns ≤ place
    → found ≡ order Binary (value_or_null a (length columns)) (value_or_null b (length columns)) → found ≡ ranked 0 columns a b
rowid_decides columns a b place found is le found_is =
    let end : place ≡ length columns = (let low = is.low in omega (arith, low, le)) in
    found_is ∙ (sym (ap (λ (n : ℕ). order Binary (value_or_null a n) (value_or_null b n)) end)
    ∙ (sym (ap (λ (l : List IndexColumn). ranked place l a b) (drop_all place columns le)) ∙ is.same))

-- ---- sorting

module _ {X : Type 0} (P : X → Type 0) (f g : X → X → Ordering) (same : (x y : X) → P x → P y → f x y ≡ g x y) where
  placed_all : (x : X) (ys : List X) → P x → AllByRecursion P ys → AllByRecursion P (placed g x ys)
  placed_all x [] is all = (is, tt)
  placed_all x (y ∷ ys) is all = by (placed_all x ys is all.1) (is_gt (g x y))
    where
      by : AllByRecursion P (placed g x ys) → (b : Bool) → AllByRecursion P (cond b (y ∷ placed g x ys) (x ∷ y ∷ ys))
      by rest true = (all.0, rest)
      by rest false = (is, all)

  sorted_all : (xs : List X) → AllByRecursion P xs → AllByRecursion P (sorted g xs)
  sorted_all [] all = tt
  sorted_all (x ∷ xs) all = placed_all x (sorted g xs) all.0 (sorted_all xs all.1)

  placed_same : (x : X) (ys : List X) → P x → AllByRecursion P ys → placed f x ys ≡ placed g x ys
  placed_same x [] is all = refl
  placed_same x (y ∷ ys) is all =
      ap (λ o. cond (is_gt o) (y ∷ placed f x ys) (x ∷ y ∷ ys)) (same x y is all.0)
      ∙ ap (λ l. cond (is_gt (g x y)) (y ∷ l) (x ∷ y ∷ ys)) (placed_same x ys is all.1)

  -- two orders that agree on the items sort them alike
  pub sorted_same : (xs : List X) → AllByRecursion P xs → sorted f xs ≡ sorted g xs
  sorted_same [] all = refl
  sorted_same (x ∷ xs) all = ap (placed f x) (sorted_same xs all.1) ∙ placed_same x (sorted g xs) all.0 (sorted_all xs all.1)
