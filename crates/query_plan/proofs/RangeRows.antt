-- Worked examples of searches by a range: t(a TEXT, b) with indexes on a and on (b, a), and its rowids.
use Rattle.std.specs.Prelude.{◌≡◌, refl, ℕ, pos, negsuc, ◌^◌, ◌-◌, true, false, codes, [], ◌∷◌, None, Some}
use Rattle.std.proofs.Common.{List, ap, inl, inr}
use Rattle.std.specs.Fmt.{digits}
use mathlib.Core.Bool.{true≢false}
use Rattle.sqlval.specs.declared.affinity.Affinity.TheVariants as kind
use Rattle.sqlval.specs.declared.collation.Collation.TheVariants.{Binary, NoCase}
use Rattle.sqlval.specs.declared.value.Value.{Value}
use Rattle.sqlval.specs.declared.value.Value.TheVariants.{Null, Int, Text}
use Rattle.query_terms.specs.Terms.{Term, Const, Digits, Cell, Two, Between}
use Rattle.query_terms.specs.Values.{Row}
use Rattle.query_terms.specs.declared.tree.Comparison.{Comparison}
use Rattle.query_terms.specs.declared.tree.Comparison.TheVariants.{Equal, Less, LessOrEqual, Greater, GreaterOrEqual}
use Rattle.query_terms.specs.declared.tree.Place.TheVariants.{RowId}
use Rattle.query_terms.specs.declared.tree.TwoSided.TheVariants.{Compare, And, Or}
use Rattle.query_plan.specs.Asking.{IsChosen, asks_nothing, end_at, ends_in, most_asked, no_range, rowids_in}
use Rattle.query_plan.specs.Keys.{of_column}
use Rattle.query_plan.specs.Ranges.{AreEnds, AsksFrom, has_range, is_within}
use Rattle.query_plan.specs.Searching.{is_found}
use Rattle.query_plan.specs.declared.ranges.Range.{Range}
use Rattle.query_plan.specs.declared.searching.Search.TheVariants.{Key, Rowids, Range as InRange}
use Rattle.query_plan.proofs.KeyRows.{a, b, both, first, on_a, on_both, second, x}

abbrev five : Value
five = Int (pos 5)

abbrev nine : Value
nine = Int (pos 9)

-- b compared with a number
abbrev b_is : Comparison → ℕ → Term
b_is o n = Two (Compare o) b (Digits n)

-- b >= 5 AND b < 9
abbrev between_both : Term
between_both = Two And (b_is GreaterOrEqual 5) (b_is Less 9)

abbrev from_five_to_nine : Range
from_five_to_nine = record { low = Some (end_at true five); high = Some (end_at false nine) }

-- ---- what is asked for

pub both_ends : ends_in (of_column 0 second) between_both ≡ from_five_to_nine
both_ends = refl

pub ends_are_asked : AreEnds (of_column 0 second) between_both from_five_to_nine
ends_are_asked = record { low = inl (refl, refl, refl, refl, refl); high = inr (refl, refl, refl, refl, refl); some = refl }

-- b BETWEEN 5 AND 9
pub by_between : ends_in (of_column 0 second) (Between false b (Digits 5) (Digits 9)) ≡ record { low = Some (end_at true five); high = Some (end_at true nine) }
by_between = refl

pub not_between : ends_in (of_column 0 second) (Between true b (Digits 5) (Digits 9)) ≡ no_range
not_between = refl

-- b > 5
pub one_end : ends_in (of_column 0 second) (b_is Greater 5) ≡ record { low = Some (end_at false five); high = None }
one_end = refl

-- OR joins what no range has
pub by_either : ends_in (of_column 0 second) (Two Or (b_is GreaterOrEqual 5) (b_is Less 9)) ≡ no_range
by_either = refl

-- of an index under NOCASE a comparison under BINARY asks nothing
pub other_collation : ends_in (of_column 0 (first NoCase)) (Two (Compare Greater) a (Const x)) ≡ no_range
other_collation = refl

-- ---- which index

-- a = 'x' AND b = 5: the longer key
pub longer_key : most_asked 0 both 0 asks_nothing (on_a ∷ on_both ∷ []) ≡ record { place = 1; key = five ∷ x ∷ []; range = no_range }
longer_key = refl

-- a = 'x' AND b >= 5: a key before a range
pub key_first : most_asked 0 (Two And (Two (Compare Equal) a (Const x)) (b_is GreaterOrEqual 5)) 0 asks_nothing (on_both ∷ on_a ∷ []) ≡ record { place = 1; key = x ∷ []; range = no_range }
key_first = refl

-- b = 5 AND a > 'x': the key of b and the range of a
pub key_and_range : most_asked 0 (Two And (b_is Equal 5) (Two (Compare Greater) a (Const x))) 0 asks_nothing (on_a ∷ on_both ∷ [])
    ≡ record { place = 1; key = five ∷ []; range = record { low = Some (end_at false x); high = None } }
key_and_range = refl

-- b >= 5 AND b < 9: a range alone, of the first index that begins with b
pub range_alone : most_asked 0 between_both 0 asks_nothing (on_a ∷ on_both ∷ on_both ∷ []) ≡ record { place = 1; key = []; range = from_five_to_nine }
range_alone = refl

-- ---- rows of a range

pub low_end_in : is_within Binary from_five_to_nine five ≡ true
low_end_in = refl

pub high_end_not_in : is_within Binary from_five_to_nine nine ≡ false
high_end_not_in = refl

-- a text comes after all numbers
pub text_past : is_within Binary from_five_to_nine x ≡ false
text_past = refl

-- NULL is in no range, also where there is no low end
pub null_in_none : is_within Binary (record { low = None; high = Some (end_at true nine) }) Null ≡ false
null_in_none = refl

-- B lies past a, under NOCASE
pub under_nocase : is_within NoCase (record { low = Some (end_at false (Text (codes "a"))); high = None }) (Text (codes "B")) ≡ true
under_nocase = refl

pub under_binary : is_within Binary (record { low = Some (end_at false (Text (codes "a"))); high = None }) (Text (codes "B")) ≡ false
under_binary = refl

-- b = 5 and a past x
pub of_key : has_range on_both.columns (five ∷ []) (record { low = Some (end_at false x); high = None }) (Text (codes "y") ∷ five ∷ []) ≡ true
of_key = refl

pub of_other_key : has_range on_both.columns (five ∷ []) (record { low = Some (end_at false x); high = None }) (Text (codes "y") ∷ nine ∷ []) ≡ false
of_other_key = refl

-- a column that the row is too short for is NULL
pub short_row : has_range on_both.columns [] (record { low = None; high = Some (end_at true nine) }) (x ∷ []) ≡ false
short_row = refl

-- the row of this rowid, with this b
abbrev row : ℕ → Value → Row
row rowid v = record { rowid = Int (pos rowid); values = x ∷ v ∷ [] }

pub row_found : is_found (on_both ∷ []) (InRange 0 [] from_five_to_nine) (row 1 five) ≡ true
row_found = refl

pub row_not_found : is_found (on_both ∷ []) (InRange 0 [] from_five_to_nine) (row 2 nine) ≡ false
row_not_found = refl

-- ---- rowids

abbrev rowid_is : Comparison → ℕ → Term
rowid_is o n = Two (Compare o) (Cell 0 RowId (Some kind.Integer) Binary) (Digits n)

pub from_six_to_nine : rowids_in 0 (Two And (rowid_is Greater 5) (rowid_is LessOrEqual 9)) ≡ Some (pos 6, pos 9)
from_six_to_nine = refl

pub rowid_between : rowids_in 0 (Between false (Cell 0 RowId (Some kind.Integer) Binary) (Digits 5) (Digits 9)) ≡ Some (pos 5, pos 9)
rowid_between = refl

-- all before 0
pub from_the_least : rowids_in 0 (rowid_is Less 0) ≡ Some (negsuc (2 ^ 63 - 1), negsuc 0)
from_the_least = refl

pub to_the_greatest : rowids_in 0 (rowid_is GreaterOrEqual 5) ≡ Some (pos 5, pos (2 ^ 63 - 1))
to_the_greatest = refl

-- there is no rowid after the greatest
pub past_all : rowids_in 0 (rowid_is Greater 9223372036854775807) ≡ None
past_all = refl

-- rowid = 5 is another search
pub by_equal : rowids_in 0 (rowid_is Equal 5) ≡ None
by_equal = refl

pub asks_from_six : AsksFrom 0 (rowid_is Greater 5) (pos 6)
asks_from_six = inr (refl, refl, refl, refl, refl)

pub found_from_two : is_found [] (Rowids (pos 2) (pos 3)) (row 2 nine) ≡ true
found_from_two = refl

pub not_found_before_two : is_found [] (Rowids (pos 2) (pos 3)) (row 1 five) ≡ false
not_found_before_two = refl

pub not_found_past_three : is_found [] (Rowids (pos 2) (pos 3)) (row 4 Null) ≡ false
not_found_past_three = refl

-- what is asked of the rowid of another source
pub of_second_source : rowids_in 1 (rowid_is Greater 5) ≡ None
of_second_source = refl

-- ---- which search

some_key : (k : Value) (key : List Value) → (k ∷ key) ≡ [] → ⊥
some_key k key e = true≢false (ap (λ (ks : List Value). elim ks [ [] ↦ false | _ ∷ _ ↦ true ]) e)

-- rowid > 0 AND a = 5
abbrev rowids_and_a : Term
rowids_and_a = Two And (rowid_is Greater 0) (Two (Compare Equal) a (Digits 5))

-- the key of an index before a range of rowids
pub key_before_rowids : IsChosen (on_a ∷ []) 0 rowids_and_a (Key 0 (Text (codes "5") ∷ []))
unfolding digits
key_before_rowids = (refl, (λ e. absurd (some_key (Text (codes "5")) [] e)), refl)

pub not_by_rowids : IsChosen (on_a ∷ []) 0 rowids_and_a (Rowids (pos 1) (pos (2 ^ 63 - 1))) → ⊥
unfolding digits
not_by_rowids chosen = some_key (Text (codes "5")) [] chosen.1

-- beside an index on (b, a) that asks nothing
pub by_rowids : IsChosen (on_both ∷ []) 0 rowids_and_a (Rowids (pos 1) (pos (2 ^ 63 - 1)))
by_rowids = (refl, refl, refl)

-- rowid > 0 AND b > 5: a range of rowids before one of an index's first column
pub rowids_before_range : IsChosen (on_both ∷ []) 0 (Two And (rowid_is Greater 0) (b_is Greater 5)) (Rowids (pos 1) (pos (2 ^ 63 - 1)))
rowids_before_range = (refl, refl, refl)

-- rowid > 0 AND b = 5 AND a > 'x': a range after a key before it
pub key_and_range_first : IsChosen (on_both ∷ []) 0 (Two And (rowid_is Greater 0) (Two And (b_is Equal 5) (Two (Compare Greater) a (Const x)))) (InRange 0 (five ∷ []) (record { low = Some (end_at false x); high = None }))
key_and_range_first = (refl, (λ e. absurd (some_key five [] e)), refl)

-- b >= 5 AND b < 9
pub range_last : IsChosen (on_both ∷ []) 0 between_both (InRange 0 [] from_five_to_nine)
range_last = (refl, (λ e. refl), refl)

-- rowid = 5 AND a = 5: nothing before the rowid
pub not_beside_rowid : IsChosen (on_a ∷ []) 0 (Two And (rowid_is Equal 5) (Two (Compare Equal) a (Digits 5))) (Key 0 (Text (codes "5") ∷ [])) → ⊥
not_beside_rowid chosen = true≢false chosen.0
