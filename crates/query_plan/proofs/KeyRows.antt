-- Worked examples of searches by a key: t(a TEXT, b) with indexes on a and on (b, a).
use Rattle.std.specs.Prelude.{◌≡◌, refl, pos, true, false, codes, List, [], ◌∷◌, Some}
use Rattle.std.proofs.Common.{inl, inr}
use Rattle.std.specs.Fmt.{digits}
use Rattle.sqlval.specs.declared.affinity.Affinity.TheVariants as kind
use Rattle.sqlval.specs.declared.collation.Collation.{Collation}
use Rattle.sqlval.specs.declared.collation.Collation.TheVariants.{Binary, NoCase}
use Rattle.sqlval.specs.declared.value.Value.{Value}
use Rattle.sqlval.specs.declared.value.Value.TheVariants.{Null, Int, Text}
use Rattle.catalog.specs.declared.tables.Index.{Index}
use Rattle.catalog.specs.declared.tables.IndexColumn.{IndexColumn}
use Rattle.query_terms.specs.Terms.{Term, Const, Digits, Cell, Two}
use Rattle.query_terms.specs.Values.{Row}
use Rattle.query_terms.specs.declared.tree.Comparison.TheVariants.{Equal, Less}
use Rattle.query_terms.specs.declared.tree.Place.TheVariants.{At}
use Rattle.query_terms.specs.declared.tree.TwoSided.TheVariants.{Compare, And, Or}
use Rattle.query_names.specs.Calm.{is_search}
use Rattle.query_plan.specs.Asking.{asks_nothing, key_for, most_asked, no_range}
use Rattle.query_plan.specs.Keys.{AreAsked, has_key, is_led_by}
use Rattle.query_plan.specs.Searching.{is_found}
use Rattle.query_plan.specs.declared.searching.Search.TheVariants.{Key}

abbrev pub a : Term
a = Cell 0 (At 0) (Some kind.Text) Binary

abbrev pub b : Term
b = Cell 0 (At 1) (Some kind.Blob) Binary

abbrev pub x : Value
x = Text (codes "x")

abbrev pub first : Collation → IndexColumn
first collation = record { place = 0; collation = collation }

abbrev pub second : IndexColumn
second = record { place = 1; collation = Binary }

abbrev index_on : List IndexColumn → Index
index_on columns = record { name = codes "i"; columns = columns; is_unique = false; is_automatic = false; root = 3; rowid = pos 2 }

abbrev pub on_a : Index
on_a = index_on (first Binary ∷ [])

abbrev pub on_both : Index
on_both = index_on (second ∷ first Binary ∷ [])

-- a = 'x' AND b = 5
abbrev pub both : Term
both = Two And (Two (Compare Equal) a (Const x)) (Two (Compare Equal) b (Digits 5))

-- ---- keys

pub key_of_a : key_for 0 both on_a.columns ≡ x ∷ []
key_of_a = refl

pub key_of_both : key_for 0 both on_both.columns ≡ Int (pos 5) ∷ x ∷ []
key_of_both = refl

pub parts_ask : AreAsked 0 on_both.columns (Int (pos 5) ∷ x ∷ []) both
parts_ask = (inr (refl, refl, refl, refl, refl), (inl (refl, refl, refl, refl, refl), tt))

-- the index with the most columns asked for, and the first of two with one each
pub most_of_both : most_asked 0 both 0 asks_nothing (on_a ∷ on_both ∷ []) ≡ record { place = 1; key = Int (pos 5) ∷ x ∷ []; range = no_range }
most_of_both = refl

pub first_of_equals : most_asked 0 both 0 asks_nothing (on_a ∷ on_a ∷ []) ≡ record { place = 0; key = x ∷ []; range = no_range }
first_of_equals = refl

-- a = 'x' alone asks nothing of (b, a), whose first column is b
pub not_from_the_first : key_for 0 (Two (Compare Equal) a (Const x)) on_both.columns ≡ []
not_from_the_first = refl

-- a = 5 of a TEXT column asks for the text
pub number_as_text : key_for 0 (Two (Compare Equal) a (Digits 5)) on_a.columns ≡ Text (codes "5") ∷ []
unfolding digits
number_as_text = refl

-- an index under NOCASE isn't asked by a comparison under BINARY
pub other_collation : key_for 0 both (first NoCase ∷ []) ≡ []
other_collation = refl

-- ---- rows

pub same_key : has_key on_both.columns (Int (pos 5) ∷ x ∷ []) (x ∷ Int (pos 5) ∷ []) ≡ true
same_key = refl

pub other_key : has_key on_both.columns (Int (pos 5) ∷ x ∷ []) (Text (codes "y") ∷ Int (pos 5) ∷ []) ≡ false
other_key = refl

-- a key of fewer columns than the index
pub shorter_key : has_key on_both.columns (Int (pos 5) ∷ []) (Text (codes "y") ∷ Int (pos 5) ∷ []) ≡ true
shorter_key = refl

-- a column that the row is too short for is NULL, as where it was added later
pub short_row : has_key on_both.columns (Null ∷ []) (x ∷ []) ≡ true
short_row = refl

-- the row with this a, and a NULL b
abbrev row_of : Value → Row
row_of v = record { rowid = Int (pos 1); values = v ∷ Null ∷ [] }

pub row_found : is_found (on_a ∷ []) (Key 0 (x ∷ [])) (row_of x) ≡ true
row_found = refl

pub row_not_found : is_found (on_a ∷ []) (Key 0 (x ∷ [])) (row_of Null) ≡ false
row_not_found = refl

-- ---- searches

pub by_index : is_search 0 (is_led_by (on_both ∷ on_a ∷ [])) both ≡ true
by_index = refl

pub by_no_index : is_search 0 (is_led_by (index_on (first NoCase ∷ []) ∷ [])) both ≡ false
by_no_index = refl

-- OR joins what no index finds
pub by_either : is_search 0 (is_led_by (on_both ∷ on_a ∷ [])) (Two Or (Two (Compare Equal) a (Const x)) (Two (Compare Equal) b (Digits 5))) ≡ false
by_either = refl

-- nor does one find what is less
pub by_less : is_search 0 (is_led_by (on_both ∷ on_a ∷ [])) (Two (Compare Less) b (Digits 5)) ≡ false
by_less = refl

-- ---- two sources

-- column a of the second source
abbrev second_a : Term
second_a = Cell 1 (At 0) (Some kind.Text) Binary

-- a = 'x' of the second source, and b = 5 of the first
abbrev of_two : Term
of_two = Two And (Two (Compare Equal) second_a (Const x)) (Two (Compare Equal) b (Digits 5))

pub key_of_first : key_for 0 of_two on_both.columns ≡ Int (pos 5) ∷ []
key_of_first = refl

pub key_of_second : key_for 1 of_two on_a.columns ≡ x ∷ []
key_of_second = refl

pub no_key_of_second : key_for 1 of_two on_both.columns ≡ []
no_key_of_second = refl

pub second_by_index : is_search 1 (is_led_by (on_a ∷ [])) of_two ≡ true
second_by_index = refl

pub first_by_no_index : is_search 0 (is_led_by (on_a ∷ [])) of_two ≡ false
first_by_no_index = refl
