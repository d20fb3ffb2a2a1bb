-- The values of a row and those of its record, which has NULL at the place of the rowid's own column.
use Rattle.std.proofs.Common.{◌≡◌, refl, sym, ap, ◌<◌, ℕ, zero, suc, ℤ, ◌&&◌, Bool, true, false, if◌then◌else◌, nat_lt, List, [], ◌∷◌, length, Option, Some, None, slice_set, arith}
use Rattle.std.proofs.lemmas.Bool.{false≢true}
use Rattle.std.proofs.lemmas.Bool.Decides.{nat_tests}
use Rattle.std.proofs.lemmas.Int.{ints}
use Rattle.std.specs.List.{list_all}
use Rattle.std.specs.Ordering.{int_eq}
use Rattle.sqlval.specs.Conversion.{is_word}
use Rattle.sqlval.specs.Sameness.{is_same_value}
use Rattle.sqlval.specs.declared.value.Value.{Value}
use Rattle.sqlval.specs.declared.value.Value.TheVariants.{Null, Int, Text, Blob}
use Rattle.catalog.specs.Listed.{place_within}
use Rattle.catalog.specs.Rows.{holds_rowid, in_record, is_value}
use Rattle.query_terms.specs.Stored.{with_at, with_own}
use Rattle.record.specs.Rows.{has_null_at}
use Rattle.row_scan.specs.Rows.{TableRow}

-- a row as it is read, of what its record says
abbrev pub as_read : Option ℕ → TableRow → TableRow
as_read own row = (row.0, with_own own (Int row.0) row.1)

-- a row as its record says it
abbrev pub as_written : Option ℕ → TableRow → TableRow
as_written own row = (row.0, in_record own row.1)

-- ---- values that are one

null_is : (v : Value) → is_same_value v Null ≡ true → v ≡ Null
null_is Null e = refl
null_is (Int n) e = absurd (false≢true e)
null_is (Text t) e = absurd (false≢true e)
null_is (Blob b) e = absurd (false≢true e)

same_int : (m n : ℤ) → int_eq m n ≡ true → m ≡ n
same_int m n e = grind (arith, ints)

itself : (n : ℤ) → int_eq n n ≡ true
itself n = grind (arith, ints)

rowid_is : (v : Value) (n : ℤ) → is_same_value v (Int n) ≡ true → v ≡ Int n
rowid_is Null n e = absurd (false≢true e)
rowid_is (Int m) n e = ap Int (same_int m n e)
rowid_is (Text t) n e = absurd (false≢true e)
rowid_is (Blob b) n e = absurd (false≢true e)

first_of : (a b : Bool) → (a && b) ≡ true → a ≡ true
first_of true b e = refl
first_of false b e = absurd (false≢true e)

rest_of : (a b : Bool) → (a && b) ≡ true → b ≡ true
rest_of true b e = e
rest_of false b e = absurd (false≢true e)

both : (a b : Bool) → a ≡ true → b ≡ true → (a && b) ≡ true
both true b h k = k
both false b h k = absurd (false≢true h)

-- ---- a record's values, and the rowid set among them

-- NULL in its place is what the record says
pub written_again : (own : Option ℕ) (v : Value) (vs : List Value) → has_null_at own vs ≡ true → in_record own (with_own own v vs) ≡ vs
written_again None v vs e = refl
written_again (Some zero) v [] e = absurd (false≢true e)
written_again (Some zero) v (w ∷ ws) e = ap (λ (first : Value). first ∷ ws) (sym (null_is w e))
written_again (Some (suc i)) v [] e = absurd (false≢true e)
written_again (Some (suc i)) v (w ∷ ws) e = ap (λ (rest : List Value). w ∷ rest) (written_again (Some i) v ws e)

-- the rowid stands there
pub read_holds : (own : Option ℕ) (n : ℤ) (vs : List Value) → has_null_at own vs ≡ true → holds_rowid own (n, with_own own (Int n) vs) ≡ true
read_holds None n vs e = refl
read_holds (Some zero) n [] e = absurd (false≢true e)
read_holds (Some zero) n (w ∷ ws) e = itself n
read_holds (Some (suc i)) n [] e = absurd (false≢true e)
read_holds (Some (suc i)) n (w ∷ ws) e = read_holds (Some i) n ws e

-- there are as many
pub read_length : (own : Option ℕ) (v : Value) (vs : List Value) → has_null_at own vs ≡ true → length (with_own own v vs) ≡ length vs
read_length None v vs e = refl
read_length (Some zero) v [] e = absurd (false≢true e)
read_length (Some zero) v (w ∷ ws) e = refl
read_length (Some (suc i)) v [] e = absurd (false≢true e)
read_length (Some (suc i)) v (w ∷ ws) e = ap suc (read_length (Some i) v ws e)

-- each can be stored
pub read_values : (own : Option ℕ) (n : ℤ) (vs : List Value) → is_word n ≡ true → list_all is_value vs ≡ true → has_null_at own vs ≡ true → list_all is_value (with_own own (Int n) vs) ≡ true
read_values None n vs word can e = can
read_values (Some zero) n [] word can e = absurd (false≢true e)
read_values (Some zero) n (w ∷ ws) word can e = both (is_word n) (list_all is_value ws) word (rest_of (is_value w) (list_all is_value ws) can)
read_values (Some (suc i)) n [] word can e = absurd (false≢true e)
read_values (Some (suc i)) n (w ∷ ws) word can e =
    both (is_value w) (list_all is_value (with_at i (Int n) ws)) (first_of (is_value w) (list_all is_value ws) can)
    (read_values (Some i) n ws word (rest_of (is_value w) (list_all is_value ws) can) e)

-- ---- a row's values, and NULL set among them

-- the rowid in its place is what the row says
pub again_read : (own : Option ℕ) (n : ℤ) (vs : List Value) → holds_rowid own (n, vs) ≡ true → with_own own (Int n) (in_record own vs) ≡ vs
again_read None n vs e = refl
again_read (Some zero) n [] e = absurd (false≢true e)
again_read (Some zero) n (w ∷ ws) e = ap (λ (first : Value). first ∷ ws) (sym (rowid_is w n e))
again_read (Some (suc i)) n [] e = absurd (false≢true e)
again_read (Some (suc i)) n (w ∷ ws) e = ap (λ (rest : List Value). w ∷ rest) (again_read (Some i) n ws e)

-- NULL stands there
pub written_null : (own : Option ℕ) (n : ℤ) (vs : List Value) → holds_rowid own (n, vs) ≡ true → has_null_at own (in_record own vs) ≡ true
written_null None n vs e = refl
written_null (Some zero) n [] e = absurd (false≢true e)
written_null (Some zero) n (w ∷ ws) e = refl
written_null (Some (suc i)) n [] e = absurd (false≢true e)
written_null (Some (suc i)) n (w ∷ ws) e = written_null (Some i) n ws e

-- there are as many
pub written_length : (own : Option ℕ) (vs : List Value) → length (in_record own vs) ≡ length vs
written_length None vs = refl
written_length (Some i) [] = refl
written_length (Some zero) (w ∷ ws) = refl
written_length (Some (suc i)) (w ∷ ws) = ap suc (written_length (Some i) ws)

-- each can be stored
pub written_values : (own : Option ℕ) (vs : List Value) → list_all is_value vs ≡ true → list_all is_value (in_record own vs) ≡ true
written_values None vs can = can
written_values (Some i) [] can = refl
written_values (Some zero) (w ∷ ws) can = rest_of (is_value w) (list_all is_value ws) can
written_values (Some (suc i)) (w ∷ ws) can =
    both (is_value w) (list_all is_value (slice_set ws i Null)) (first_of (is_value w) (list_all is_value ws) can)
    (written_values (Some i) ws (rest_of (is_value w) (list_all is_value ws) can))

-- ---- the rowid's own place

stands_below : (i : ℕ) (n : ℤ) (vs : List Value) → holds_rowid (Some i) (n, vs) ≡ true → i < length vs
stands_below i n [] e = absurd (false≢true e)
stands_below zero n (w ∷ ws) e = omega arith
stands_below (suc i) n (w ∷ ws) e = let below = stands_below i n ws e in omega (arith, below)

is_below : (i count : ℕ) → i < count → nat_lt i count ≡ true
is_below i count lt = grind (arith, nat_tests)

-- is among the values, where it holds the rowid
pub held_within : (own : Option ℕ) (n : ℤ) (vs : List Value) → holds_rowid own (n, vs) ≡ true → place_within (length vs) own ≡ own
held_within None n vs e = refl
held_within (Some i) n vs e = ap (λ (b : Bool). if b then Some i else None) (is_below i (length vs) (stands_below i n vs e))
