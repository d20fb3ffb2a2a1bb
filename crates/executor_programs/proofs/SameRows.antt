-- Rows with the same values, and a row among others by rising rowids.
use Rattle.std.proofs.Common.{◌≡◌, refl, sym, ap, ◌∙◌, ℕ, ℤ, ◌<ℤ◌, true, ◌&&◌, ◌==◌, cond, List, [], ◌∷◌, ◌++◌, Option, Some, None}
use Rattle.std.proofs.lemmas.Bool.{false≢true}
use Rattle.std.proofs.lemmas.Bool.Decides.{Decides-eqb, Decides-int_eq}
use Rattle.std.proofs.lemmas.Cmp.{int_cmp_total, int_eq_equiv, nat_list_eq_equiv}
use Rattle.std.proofs.lemmas.Slice.Eq.{slice_eq-Decides}
use Rattle.std.specs.Cmp.{int_cmp_is, tied_itself}
use Rattle.std.specs.Cmp.Lexicographic.{pointwise}
use Rattle.std.specs.FinMap.Entries.{find}
use Rattle.std.specs.Ordering.{int_cmp, is_eq}
use Rattle.std.specs.declared.cmp.Ordering.TheVariants.{Greater}
use Rattle.sqlval.specs.Sameness.{is_same_value}
use Rattle.sqlval.specs.declared.value.Value.{Value}
use Rattle.sqlval.specs.declared.value.Value.TheVariants.{Null, Int, Text, Blob}
use Rattle.row_change.specs.RowChanges.{same_row}
use Rattle.row_change.proofs.Rising.{Climbs, Rises, both, further}
use Rattle.row_scan.specs.Rows.{TableRow}

-- ---- values

same_bytes : (s t : List ℕ) → pointwise ◌==◌ s t ≡ true → s ≡ t
same_bytes s t e = (slice_eq-Decides Decides-eqb s t (pointwise ◌==◌ s t) refl).0 e

-- what is the same is equal
same_is : (v w : Value) → is_same_value v w ≡ true → v ≡ w
same_is Null Null e = refl
same_is (Int m) (Int n) e = ap Int ((Decides-int_eq m n).0 e)
same_is (Text s) (Text t) e = ap Text (same_bytes s t e)
same_is (Blob x) (Blob y) e = ap Blob (same_bytes x y e)
same_is Null (Int n) e = absurd (false≢true e)
same_is Null (Text t) e = absurd (false≢true e)
same_is Null (Blob y) e = absurd (false≢true e)
same_is (Int m) Null e = absurd (false≢true e)
same_is (Int m) (Text t) e = absurd (false≢true e)
same_is (Int m) (Blob y) e = absurd (false≢true e)
same_is (Text s) Null e = absurd (false≢true e)
same_is (Text s) (Int n) e = absurd (false≢true e)
same_is (Text s) (Blob y) e = absurd (false≢true e)
same_is (Blob x) Null e = absurd (false≢true e)
same_is (Blob x) (Int n) e = absurd (false≢true e)
same_is (Blob x) (Text t) e = absurd (false≢true e)

all_same : (ws vs : List Value) → pointwise is_same_value ws vs ≡ true → ws ≡ vs
all_same [] [] e = refl
all_same [] (v ∷ vs) e = absurd (false≢true e)
all_same (w ∷ ws) [] e = absurd (false≢true e)
all_same (w ∷ ws) (v ∷ vs) e =
    let parts = both (is_same_value w v) (pointwise is_same_value ws vs) e in
    ap (λ (x : Value). x ∷ ws) (same_is w v parts.0) ∙ ap (λ (xs : List Value). v ∷ xs) (all_same ws vs parts.1)

-- a row whose values are the same has these values
pub as_it_was : (o : Option (List Value)) (vs : List Value) → same_row o vs ≡ true → o ≡ Some vs
as_it_was None vs e = absurd (false≢true e)
as_it_was (Some ws) vs e = ap (λ (xs : List Value). let l : Option (List Value) = Some xs in l) (all_same ws vs e)

same_itself : (v : Value) → is_same_value v v ≡ true
same_itself Null = refl
same_itself (Int n) = int_eq_equiv.refl n
same_itself (Text t) = nat_list_eq_equiv.refl t
same_itself (Blob b) = nat_list_eq_equiv.refl b

pub same_values : (vs : List Value) → pointwise is_same_value vs vs ≡ true
same_values [] = refl
same_values (v ∷ vs) = ap (λ b. b && pointwise is_same_value vs vs) (same_itself v) ∙ same_values vs

-- ---- a row after others

rest_rises : (r : TableRow) (rows : List TableRow) → Rises (r ∷ rows) → Rises rows
rest_rises r [] rises = tt
rest_rises r (next ∷ rows) rises = rises.1

climbs_over : (low : ℤ) (kept : List TableRow) (r : TableRow) (rows : List TableRow) → Climbs low (kept ++ (r ∷ rows)) → low <ℤ r.0
climbs_over low [] r rows climb = climb.0
climbs_over low (k ∷ kept) r rows climb = further low k.0 r.0 climb.0 (climbs_over k.0 kept r rows climb.1)

pub found_behind : (kept : List TableRow) (r : TableRow) (rows : List TableRow) → Rises (kept ++ (r ∷ rows)) → find int_cmp r.0 (kept ++ (r ∷ rows)) ≡ Some r.1
found_behind [] r rows rises = ap (λ o. cond (is_eq o) (Some r.1) (find int_cmp r.0 rows)) (tied_itself int_cmp_total r.0)
found_behind (k ∷ kept) r rows rises =
    ap (λ o. cond (is_eq o) (Some k.1) (find int_cmp r.0 (kept ++ (r ∷ rows)))) (sym (int_cmp_is r.0 k.0 Greater (climbs_over k.0 kept r rows rises)))
    ∙ found_behind kept r rows (rest_rises k (kept ++ (r ∷ rows)) rises)
