-- The values that a condition asks of an index's columns are those that its parts ask for, and there are some where it is a search.
use Rattle.std.proofs.Common.{◌≡◌, refl, sym, ap, ◌∙◌, ℕ, pos, Bool, true, false, ◌&&◌, ◌||◌, ◌==◌, cond, List, [], ◌∷◌, Option, Some, None, Ok, Err, inl, inr, ◌⊎◌, zero, suc}
use mathlib.Core.Bool.{true≢false}
use Rattle.std.specs.Prelude.{Result, IfNone, IfOk, is_ok}
use Rattle.std.specs.List.{list_any}
use Rattle.std.specs.Option.{option_or}
use Rattle.std.specs.Result.{result_ok}
use Rattle.std.proofs.lemmas.Bool.{eqb-true}
use Rattle.std.proofs.lemmas.List.Folds.{list_any-append}
use Rattle.std.proofs.lemmas.Option.{none-some}
use Rattle.sqlval.specs.Conversion.{converted, is_word}
use Rattle.sqlval.specs.Refusals.{Answer, ◌then◌, RealRefused}
use Rattle.sqlval.specs.declared.affinity.Affinity.{Affinity}
use Rattle.sqlval.specs.declared.affinity.Affinity.TheVariants as kind
use Rattle.sqlval.specs.declared.collation.Collation.{Collation}
use Rattle.sqlval.specs.declared.collation.Collation.TheVariants.{Binary, NoCase, RTrim}
use Rattle.sqlval.specs.declared.value.Value.{Value}
use Rattle.sqlval.specs.declared.value.Value.TheVariants.{Int}
use Rattle.catalog.specs.declared.tables.Index.{Index}
use Rattle.catalog.specs.declared.tables.IndexColumn.{IndexColumn}
use Rattle.query_terms.specs.Terms.{Term, Const, Digits, Cell, Two, Between, comparison_index, same_place}
use Rattle.query_terms.specs.Values.{conversion}
use Rattle.query_terms.specs.declared.tree.Comparison.{Comparison}
use Rattle.query_terms.specs.declared.tree.Comparison.TheVariants.{Equal, NotEqual, Less, LessOrEqual, Greater, GreaterOrEqual}
use Rattle.query_terms.specs.declared.tree.Place.{Place}
use Rattle.query_terms.specs.declared.tree.Place.TheVariants.{RowId, At}
use Rattle.query_terms.specs.declared.tree.TwoSided.TheVariants.{Compare, And}
use Rattle.query_names.specs.Calm.{converts, finds, is_calm, is_search, is_side, parts}
use Rattle.query_plan.specs.Asking.{AsksNoRange, IsNotAsked, SeeksNothing, asked_key, compared_key, is_wanted, key_for, key_in, literal_key, led_by}
use Rattle.query_plan.specs.Keys.{AreAsked, AsksPart, IsCompared, IsLiteralKey, is_led_by, is_first, is_same_collation, of_column}
use Rattle.query_plan.specs.Ranges.{AsksHalf}
use Rattle.query_plan.specs.declared.keys.Wanted.{Wanted}
use Rattle.query_plan.specs.Seeking.{no_index}
use Rattle.query_plan.proofs.Others.{word_of}
use Rattle.query_plan.proofs.Parts.{left, right}

-- ---- each value is asked for

the_ok : (answer : Answer Value) (k : Value) → result_ok answer ≡ Some k → answer ≡ Ok k
the_ok (Ok v) k e = ap (λ o. elim o [ None ↦ Ok v | Some w ↦ Ok w ]) e
the_ok (Err refusal) k e = absurd (none-some k e)

key_is : (a : Option Affinity) (t : Term) (k : Value) → literal_key a t ≡ Some k → IsLiteralKey a t k
key_is a (Const v) k e = the_ok (converted (conversion None a) v) k e
key_is a (Digits n) k e = by (is_word (pos n)) e where
  by : (test : Bool) → result_ok (cond test (Ok (Int (pos n))) (Err RealRefused) then converted (conversion None a)) ≡ Some k → converted (conversion None a) (Int (pos n)) ≡ Ok k
  by true e = the_ok (converted (conversion None a) (Int (pos n))) k e
  by false e = absurd (none-some k e)
key_is a _ k e = absurd (none-some k e)

one_collation : (c d : Collation) → is_same_collation c d ≡ true → c ≡ d
one_collation Binary Binary e = refl
one_collation NoCase NoCase e = refl
one_collation RTrim RTrim e = refl
one_collation Binary NoCase e = absurd (true≢false (sym e))
one_collation Binary RTrim e = absurd (true≢false (sym e))
one_collation NoCase Binary e = absurd (true≢false (sym e))
one_collation NoCase RTrim e = absurd (true≢false (sym e))
one_collation RTrim Binary e = absurd (true≢false (sym e))
one_collation RTrim NoCase e = absurd (true≢false (sym e))

one_place : (p q : Place) → same_place p q ≡ true → p ≡ q
one_place RowId RowId e = refl
one_place (At i) (At j) e = ap At (eqb-true i j e)
one_place RowId (At j) e = absurd (true≢false (sym e))
one_place (At i) RowId e = absurd (true≢false (sym e))

-- the comparison at this place among them
abbrev comparison_at : ℕ → Comparison
comparison_at zero = Equal
comparison_at (suc zero) = NotEqual
comparison_at (suc (suc zero)) = Less
comparison_at (suc (suc (suc zero))) = LessOrEqual
comparison_at (suc (suc (suc (suc zero)))) = Greater
comparison_at (suc (suc (suc (suc (suc n))))) = GreaterOrEqual

again : (o : Comparison) → comparison_at (comparison_index o) ≡ o
again Equal = refl
again NotEqual = refl
again Less = refl
again LessOrEqual = refl
again Greater = refl
again GreaterOrEqual = refl

one_comparison : (o p : Comparison) → (comparison_index o == comparison_index p) ≡ true → o ≡ p
one_comparison o p e = sym (again o) ∙ (ap comparison_at (eqb-true (comparison_index o) (comparison_index p) e) ∙ again p)

-- what one of two sides asks for, or else the other
either_asks : (P Q : Type 0) (k : Value) (x y : Option Value) → (x ≡ Some k → P) → (y ≡ Some k → Q) → option_or x y ≡ Some k → P ⊎ Q
either_asks P Q k None y first second e = inr (second e)
either_asks P Q k (Some v) y first second e = inl (first e)

module _ (w : Wanted) (o : Comparison) (k : Value) where
  sides_ask : (p : Comparison) (a b : Term) → p ≡ o → asked_key w a b ≡ Some k → IsCompared w o k (Two (Compare p) a b)
  sides_ask p (Cell s q a c) b same e = by (is_wanted w (Cell s q a c)) refl e where
    by : (test : Bool) → is_wanted w (Cell s q a c) ≡ test → cond test (literal_key a b) None ≡ Some k → IsCompared w o k (Two (Compare p) (Cell s q a c) b)
    by false is e = absurd (none-some k e)
    by true is e =
        (let rest = right (s == w.source) (same_place w.place q && is_same_collation w.collation c) is in (
          same,
          eqb-true s w.source (left (s == w.source) (same_place w.place q && is_same_collation w.collation c) is),
          sym (one_place w.place q (left (same_place w.place q) (is_same_collation w.collation c) rest)),
          sym (one_collation w.collation c (right (same_place w.place q) (is_same_collation w.collation c) rest)),
          key_is a b k e,
        ))
  sides_ask p _ b same e = absurd (none-some k e)

  comparison_asks : (p : Comparison) (a b : Term) → compared_key w o p a b ≡ Some k → IsCompared w o k (Two (Compare p) a b)
  comparison_asks p a b e = by (comparison_index p == comparison_index o) refl e where
    by : (test : Bool) → (comparison_index p == comparison_index o) ≡ test → cond test (asked_key w a b) None ≡ Some k → IsCompared w o k (Two (Compare p) a b)
    by false is e = absurd (none-some k e)
    by true is e = sides_ask p a b (one_comparison p o is) e

  -- the value is that of a comparison, of which BETWEEN is two
  pub half_asks : (t : Term) → key_in w o t ≡ Some k → AsksPart (AsksHalf (IsCompared w o k)) t
  half_asks (Two And a b) e =
      either_asks (AsksPart (AsksHalf (IsCompared w o k)) a) (AsksPart (AsksHalf (IsCompared w o k)) b) k (key_in w o a) (key_in w o b) (half_asks a) (half_asks b) e
  half_asks (Two (Compare p) a b) e = comparison_asks p a b e
  half_asks (Between false a b c) e =
      either_asks (IsCompared w o k (Two (Compare GreaterOrEqual) a b)) (IsCompared w o k (Two (Compare LessOrEqual) a c)) k
      (compared_key w o GreaterOrEqual a b) (compared_key w o LessOrEqual a c) (comparison_asks GreaterOrEqual a b) (comparison_asks LessOrEqual a c) e
  half_asks _ e = absurd (none-some k e)

abbrev is_equal : Comparison → Bool
is_equal Equal = true
is_equal _ = false

module _ (w : Wanted) (k : Value) where
  -- a half of BETWEEN is no comparison by =
  no_half : (p : Comparison) → is_equal p ≡ false → (a b : Term) → IsCompared w Equal k (Two (Compare p) a b) → ⊥
  no_half p other (Cell s q a c) b asked = true≢false (sym (ap is_equal asked.0) ∙ other)
  no_half p other _ b asked = asked

  whole_asks : (t : Term) → AsksHalf (IsCompared w Equal k) t → IsCompared w Equal k t
  whole_asks (Between false a b c) (inl asked) = absurd (no_half GreaterOrEqual refl a b asked)
  whole_asks (Between false a b c) (inr asked) = absurd (no_half LessOrEqual refl a c asked)
  whole_asks t asked = asked

  part_asks : (t : Term) → AsksPart (AsksHalf (IsCompared w Equal k)) t → AsksPart (IsCompared w Equal k) t
  part_asks (Two And a b) (inl asked) = inl (part_asks a asked)
  part_asks (Two And a b) (inr asked) = inr (part_asks b asked)
  part_asks t asked = whole_asks t asked

pub parts_ask : (n : ℕ) (t : Term) (columns : List IndexColumn) → AreAsked n columns (key_for n t columns) t
parts_ask n t [] = tt
parts_ask n t (column ∷ columns) = by (key_in (of_column n column) Equal t) refl (parts_ask n t columns) where
  by : (first : Option Value) → key_in (of_column n column) Equal t ≡ first → AreAsked n columns (key_for n t columns) t → AreAsked n (column ∷ columns) (led_by first (key_for n t columns)) t
  by None is more = tt
  by (Some k) is more = (part_asks (of_column n column) k t (half_asks (of_column n column) Equal k t is), more)

-- ---- where none is, it is no search

abbrev IsThere : Option Value → Type 0
IsThere o = (k : Value) × (o ≡ Some k)

there : (answer : Answer Value) → is_ok answer ≡ true → IsThere (result_ok answer)
there (Ok k) e = (k, refl)
there (Err refusal) e = absurd (true≢false (sym e))

const_there : (a : Affinity) (v : Value) → converts a (Const v) ≡ true → IsThere (result_ok (converted a v))
const_there kind.Blob v e = (v, refl)
const_there kind.Text v e = there (converted kind.Text v) e
const_there kind.Numeric v e = there (converted kind.Numeric v) e
const_there kind.Integer v e = there (converted kind.Integer v) e

number_there : (a : Affinity) (n : ℕ) → IsThere (result_ok (converted a (Int (pos n))))
number_there kind.Blob n = (Int (pos n), refl)
number_there kind.Text n = (_, refl)
number_there kind.Numeric n = (Int (pos n), refl)
number_there kind.Integer n = (Int (pos n), refl)

-- a literal that a column is compared with, without a refusal, is converted
text_there : (s i : ℕ) (a : Option Affinity) (c : Collation) (v : Value) → is_calm (Two (Compare Equal) (Cell s (At i) a c) (Const v)) ≡ true → IsThere (literal_key a (Const v))
text_there s i a c v calm =
    const_there (conversion None a) v (right (is_side (Cell s (At i) a c) && converts (conversion a None) (Cell s (At i) a c)) (converts (conversion None a) (Const v)) calm)

digits_there : (s i : ℕ) (a : Option Affinity) (c : Collation) (n : ℕ) → is_calm (Two (Compare Equal) (Cell s (At i) a c) (Digits n)) ≡ true → IsThere (literal_key a (Digits n))
digits_there s i a c n calm =
    (let it = number_there (conversion None a) n in
    (it.0, ap (λ test. result_ok (cond test (Ok (Int (pos n))) (Err RealRefused) then converted (conversion None a))) (word_of s (At i) a c n calm) ∙ it.1))

some_value : (k : Value) (key : List Value) → k ∷ key ≡ [] → ⊥
some_value k key e = true≢false (ap (λ values. elim values [ [] ↦ false | v ∷ vs ↦ true ]) e)

neither : (x y : Bool) → x || y ≡ false → (x ≡ false) × (y ≡ false)
neither true y e = absurd (true≢false e)
neither false y e = (refl, e)

-- a comparison of a column that begins none of the indexes
module _ (n s i : ℕ) (a : Option Affinity) (c : Collation) (t : Term) (here : (s == n) ≡ true) (key : IsThere (literal_key a t)) where
  abbrev part : Term
  part = Two (Compare Equal) (Cell s (At i) a c) t

  not_first : (columns : List IndexColumn) → key_for n part columns ≡ [] → is_first i c columns ≡ false
  not_first [] e = refl
  not_first (column ∷ columns) e = by (column.place == i && is_same_collation column.collation c) refl where
    asks : (column.place == i && is_same_collation column.collation c) ≡ true → key_in (of_column n column) Equal part ≡ Some key.0
    asks is =
        ap (λ test. cond (test && (column.place == i && is_same_collation column.collation c)) (literal_key a t) None) here
        ∙ (ap (λ test. cond test (literal_key a t) None) is ∙ key.1)

    by : (test : Bool) → (column.place == i && is_same_collation column.collation c) ≡ test → test ≡ false
    by false is = refl
    by true is = absurd (some_value key.0 (key_for n part columns) (sym (ap (λ first. led_by first (key_for n part columns)) (asks is)) ∙ e))

  begins_none : (indexes : List Index) → IsNotAsked n part indexes → is_led_by indexes i c ≡ false
  begins_none [] e = refl
  begins_none (index ∷ indexes) e = ap (λ test. test || is_led_by indexes i c) (not_first index.columns e.0) ∙ begins_none indexes e.1

module _ (n : ℕ) (indexes : List Index) where
  by_column : (s i : ℕ) (a : Option Affinity) (c : Collation) (t : Term) → IsThere (literal_key a t) → IsNotAsked n (Two (Compare Equal) (Cell s (At i) a c) t) indexes → ((s == n) && is_led_by indexes i c) ≡ false
  by_column s i a c t key e = by (s == n) refl where
    by : (test : Bool) → (s == n) ≡ test → (test && is_led_by indexes i c) ≡ false
    by false is = refl
    by true is = begins_none n s i a c t is key indexes e

  of_part : (t : Term) → is_calm t ≡ true → finds n no_index t ≡ false → IsNotAsked n t indexes → finds n (is_led_by indexes) t ≡ false
  of_part (Two (Compare Equal) (Cell s RowId a c) (Digits d)) calm none e = none
  of_part (Two (Compare Equal) (Cell s (At i) a c) (Digits d)) calm none e = by_column s i a c (Digits d) (digits_there s i a c d calm) e
  of_part (Two (Compare Equal) (Cell s (At i) a c) (Const v)) calm none e = by_column s i a c (Const v) (text_there s i a c v calm) e
  of_part _ calm none e = refl

module _ (n : ℕ) (a b : Term) where
  asked_by_neither : (columns : List IndexColumn) → key_for n (Two And a b) columns ≡ [] → (key_for n a columns ≡ []) × (key_for n b columns ≡ [])
  asked_by_neither [] e = (refl, refl)
  asked_by_neither (column ∷ columns) e = by (key_in (of_column n column) Equal a) (key_in (of_column n column) Equal b) refl refl e where
    by : (x y : Option Value) → key_in (of_column n column) Equal a ≡ x → key_in (of_column n column) Equal b ≡ y → led_by (option_or x y) (key_for n (Two And a b) columns) ≡ []
        → (led_by (key_in (of_column n column) Equal a) (key_for n a columns) ≡ []) × (led_by (key_in (of_column n column) Equal b) (key_for n b columns) ≡ [])
    by None None first second e = (ap (λ o. led_by o (key_for n a columns)) first, ap (λ o. led_by o (key_for n b columns)) second)
    by None (Some k) first second e = absurd (some_value k (key_for n (Two And a b) columns) e)
    by (Some k) y first second e = absurd (some_value k (key_for n (Two And a b) columns) e)

  not_asked_by_either : (indexes : List Index) → IsNotAsked n (Two And a b) indexes → IsNotAsked n a indexes × IsNotAsked n b indexes
  not_asked_by_either [] e = (tt, tt)
  not_asked_by_either (index ∷ indexes) e =
      (let x = asked_by_neither index.columns e.0 in let y = not_asked_by_either indexes e.1 in
      ((x.0, y.0), (x.1, y.1)))

unfound : (n : ℕ) (indexes : List Index) (t : Term) → is_calm t ≡ true → list_any (finds n no_index) (parts t) ≡ false → IsNotAsked n t indexes → list_any (finds n (is_led_by indexes)) (parts t) ≡ false
unfound n indexes (Two And a b) calm none e =
    (let x = neither (list_any (finds n no_index) (parts a)) (list_any (finds n no_index) (parts b)) (sym (list_any-append (finds n no_index) (parts a) (parts b)) ∙ none) in
    let y = not_asked_by_either n a b indexes e in
    list_any-append (finds n (is_led_by indexes)) (parts a) (parts b)
    ∙ (ap (λ test. test || list_any (finds n (is_led_by indexes)) (parts b)) (unfound n indexes a (left (is_calm a) (is_calm b) calm) x.0 y.0)
    ∙ unfound n indexes b (right (is_calm a) (is_calm b) calm) x.1 y.1))
unfound n indexes t calm none e = ap (λ test. test || false) (of_part n indexes t calm (neither (finds n no_index t) false none).0 e)

-- a condition that asks for neither a rowid nor an index's first column is no search
pub no_search : (n : ℕ) (indexes : List Index) (t : Term) → is_calm t ≡ true → list_any (finds n no_index) (parts t) ≡ false → IsNotAsked n t indexes → is_search n (is_led_by indexes) t ≡ false
no_search n indexes t calm none e = ap (λ test. test && list_any (finds n (is_led_by indexes)) (parts t)) calm ∙ unfound n indexes t calm none e

-- where neither a key nor a range was found, nothing is sought
pub seeks_nothing : {X E : Type 0} (n : ℕ) (indexes : List Index) (t : Term) → is_calm t ≡ true → list_any (finds n no_index) (parts t) ≡ false → (result : Result (Option X) E)
    → IfOk result (λ found. IfNone found (IsNotAsked n t indexes)) → IfOk result (λ found. IfNone found (AsksNoRange indexes n t)) → IfOk result (λ found. IfNone found (SeeksNothing indexes n t))
seeks_nothing n indexes t calm none (Ok None) key range = (no_search n indexes t calm none key, λ _. range)
seeks_nothing n indexes t calm none (Ok (Some x)) key range = tt
seeks_nothing n indexes t calm none (Err fault) key range = tt
