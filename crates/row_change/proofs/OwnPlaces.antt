-- The place of the rowid's own column in a row, and what stands there.
use Rattle.std.proofs.Common.{◌≡◌, refl, sym, ap, ◌∙◌, ◌<◌, ◌&&◌, ℕ, zero, suc, ℤ, Bool, true, false, if◌then◌else◌, nat_lt, List, [], ◌∷◌, length, Option, Some, None, Ok, Err, arith}
use Rattle.std.proofs.lemmas.Bool.{false≢true}
use Rattle.std.proofs.lemmas.Bool.Decides.{nat_tests}
use Rattle.std.proofs.lemmas.Int.{ints}
use Rattle.std.specs.List.{list_all}
use Rattle.std.specs.Ordering.{int_eq}
use Rattle.std.specs.Prelude.{slice_get, unwrap_or, ⊤}
use Rattle.sqlval.specs.Conversion.{is_word}
use Rattle.sqlval.specs.Refusals.{Answer, RowidMismatch}
use Rattle.sqlval.specs.Sameness.{is_same_value}
use Rattle.sqlval.specs.declared.value.Value.{Value}
use Rattle.sqlval.specs.declared.value.Value.TheVariants.{Null, Int, Text, Blob}
use Rattle.catalog.specs.Listed.{own_column, place_within}
use Rattle.catalog.specs.Rows.{holds_rowid, in_record, is_value}
use Rattle.catalog.specs.declared.tables.Table.{Table}
use Rattle.row_scan.proofs.OwnValues.{again_read, read_values, written_null}
use Rattle.row_change.specs.Inserting.{with_own_value}
use Rattle.row_change.specs.Setting.{rowid_left}

-- ---- the rowid in its place

same_int : (m n : ℤ) → int_eq m n ≡ true → m ≡ n
same_int m n e = grind (arith, ints)

itself : (n : ℤ) → int_eq n n ≡ true
itself n = grind (arith, ints)

rowid_is : (v : Value) (n : ℤ) → is_same_value v (Int n) ≡ true → v ≡ Int n
rowid_is Null n e = absurd (false≢true e)
rowid_is (Int m) n e = ap Int (same_int m n e)
rowid_is (Text t) n e = absurd (false≢true e)
rowid_is (Blob b) n e = absurd (false≢true e)

-- set again where NULL came in its place, the row is as it was
pub set_again : (own : Option ℕ) (n : ℤ) (vs : List Value) → holds_rowid own (n, vs) ≡ true → with_own_value own (Int n) (with_own_value own Null vs) ≡ vs
set_again None n vs e = refl
set_again (Some zero) n [] e = absurd (false≢true e)
set_again (Some zero) n (w ∷ ws) e = ap (λ (first : Value). first ∷ ws) (sym (rowid_is w n e))
set_again (Some (suc i)) n [] e = absurd (false≢true e)
set_again (Some (suc i)) n (w ∷ ws) e = ap (λ (rest : List Value). w ∷ rest) (set_again (Some i) n ws e)

-- with NULL there are the values of the record
pub null_set : (own : Option ℕ) (vs : List Value) → with_own_value own Null vs ≡ in_record own vs
null_set None vs = refl
null_set (Some place) vs = refl

-- the place is one of so many
abbrev pub IsWithin : ℕ → Option ℕ → Type 0
IsWithin count None = ⊤
IsWithin count (Some place) = place < count

pub own_within : (table : Table) → IsWithin (length table.columns) (own_column table)
own_within table = by (length table.columns) table.rowid_column
  where
    below : (place count : ℕ) (b : Bool) → nat_lt place count ≡ b → IsWithin count (if b then Some place else None)
    below place count true e = grind (arith, nat_tests)
    below place count false e = tt

    by : (count : ℕ) (own : Option ℕ) → IsWithin count (place_within count own)
    by count None = tt
    by count (Some place) = below place count (nat_lt place count) refl

-- the rowid stands where it is set
pub set_holds : (own : Option ℕ) (n : ℤ) (vs : List Value) → IsWithin (length vs) own → holds_rowid own (n, with_own_value own (Int n) vs) ≡ true
set_holds None n vs lt = refl
set_holds (Some i) n [] lt = absurd (omega (arith, lt))
set_holds (Some zero) n (w ∷ ws) lt = itself n
set_holds (Some (suc i)) n (w ∷ ws) lt = set_holds (Some i) n ws (omega (arith, lt))

pub set_length : (own : Option ℕ) (v : Value) (vs : List Value) → length (with_own_value own v vs) ≡ length vs
set_length None v vs = refl
set_length (Some i) v [] = refl
set_length (Some zero) v (w ∷ ws) = refl
set_length (Some (suc i)) v (w ∷ ws) = ap suc (set_length (Some i) v ws)

abbrev given : ℤ → Answer ℤ
given n = Ok n

same_rowid : (a b : ℤ) → given a ≡ given b → a ≡ b
same_rowid a b e = cc

abbrev of_value : Value → Answer ℤ
of_value v = elim v [ Int n ↦ Ok n | _ ↦ Err RowidMismatch ]

-- the rowid that an UPDATE leaves stands in its place
pub left_holds : (own : Option ℕ) (rowid now : ℤ) (vs : List Value) → rowid_left own rowid vs ≡ Ok now → holds_rowid own (now, vs) ≡ true
left_holds None rowid now vs e = refl
left_holds (Some i) rowid now vs e = by (slice_get vs i) e
  where
    by : (o : Option Value) → of_value (unwrap_or o Null) ≡ Ok now → elim o [ None ↦ false | Some v ↦ is_same_value v (Int now) ] ≡ true
    by None h = absurd cc
    by (Some Null) h = absurd cc
    by (Some (Int m)) h = ap (λ (n : ℤ). int_eq n now) (same_rowid m now h) ∙ itself now
    by (Some (Text t)) h = absurd cc
    by (Some (Blob b)) h = absurd cc

-- a row's own column has its rowid
pub held_at : (place : ℕ) (n : ℤ) (vs : List Value) → holds_rowid (Some place) (n, vs) ≡ true → slice_get vs place ≡ Some (Int n)
held_at place n vs e = by (slice_get vs place) e
  where
    by : (o : Option Value) → elim o [ None ↦ false | Some v ↦ is_same_value v (Int n) ] ≡ true → o ≡ Some (Int n)
    by None h = absurd (false≢true h)
    by (Some v) h = ap (λ (w : Value). Some w) (rowid_is v n h)

-- where its own column has its rowid still, an UPDATE leaves that
pub left_as_held : (place : ℕ) (n now : ℤ) (vs : List Value) → slice_get vs place ≡ Some (Int n) → rowid_left (Some place) n vs ≡ Ok now → now ≡ n
left_as_held place n now vs at e = sym (same_rowid n now (sym (ap (λ (o : Option Value). of_value (unwrap_or o Null)) at) ∙ e))

-- without such a column it stays
pub left_same : (rowid now : ℤ) (vs : List Value) → rowid_left None rowid vs ≡ Ok now → now ≡ rowid
left_same rowid now vs e = sym (same_rowid rowid now e)

-- ---- values that can be stored

first_of : (a b : Bool) → (a && b) ≡ true → a ≡ true
first_of true b e = refl
first_of false b e = absurd (false≢true e)

rest_of : (a b : Bool) → (a && b) ≡ true → b ≡ true
rest_of true b e = e
rest_of false b e = absurd (false≢true e)

-- a rowid that a row holds is of 64 bits where its values can be stored
pub held_word : (i : ℕ) (n : ℤ) (vs : List Value) → holds_rowid (Some i) (n, vs) ≡ true → list_all is_value vs ≡ true → is_word n ≡ true
held_word i n [] e can = absurd (false≢true e)
held_word zero n (w ∷ ws) e can = ap is_value (sym (rowid_is w n e)) ∙ first_of (is_value w) (list_all is_value ws) can
held_word (suc i) n (w ∷ ws) e can = held_word i n ws e (rest_of (is_value w) (list_all is_value ws) can)

-- where those of its record can be stored, so can those of the row
pub row_values : (own : Option ℕ) (n : ℤ) (vs : List Value) → is_word n ≡ true → holds_rowid own (n, vs) ≡ true → list_all is_value (in_record own vs) ≡ true → list_all is_value vs ≡ true
row_values own n vs word holds can = ap (list_all is_value) (sym (again_read own n vs holds)) ∙ read_values own n (in_record own vs) word can (written_null own n vs holds)
