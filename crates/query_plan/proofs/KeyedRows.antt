-- A condition that seeks a key of a source isn't true beside a row of another one: where a column's value doesn't meet a comparison of the
-- condition, that is false, or NULL.
use Rattle.std.proofs.Common.{◌≡◌, refl, sym, ap, ◌∙◌, subst, ℕ, pos, Bool, true, false, ◌&&◌, List, [], ◌∷◌, slice_index_or, Option, Some, None, Ok}
use mathlib.Core.Bool.{true≢false}
use Rattle.std.specs.Prelude.{slice_get, unwrap_or}
use Rattle.std.specs.Ordering.{is_eq}
use Rattle.std.proofs.lemmas.Option.{unwrap_or-slice_get}
use Rattle.sqlval.specs.Conversion.{converted}
use Rattle.sqlval.specs.Order.{order}
use Rattle.sqlval.specs.Refusals.{Answer, ◌then◌}
use Rattle.sqlval.specs.declared.affinity.Affinity.{Affinity}
use Rattle.sqlval.specs.declared.affinity.Affinity.TheVariants as kind
use Rattle.sqlval.specs.declared.collation.Collation.{Collation}
use Rattle.sqlval.specs.declared.value.Value.{Value}
use Rattle.sqlval.specs.declared.value.Value.TheVariants.{Null, Int, Text, Blob}
use Rattle.catalog.specs.declared.tables.IndexColumn.{IndexColumn}
use Rattle.query_terms.specs.Terms.{Term, Const, Digits, Cell, Two, Between}
use Rattle.query_terms.specs.Values.{Environment, Row, at_row, both_hold, cell, compare, compared, conversion, is_met, of_bool, value}
use Rattle.query_terms.specs.declared.tree.Comparison.{Comparison}
use Rattle.query_terms.specs.declared.tree.Comparison.TheVariants.{Equal, LessOrEqual, GreaterOrEqual}
use Rattle.query_terms.specs.declared.tree.Place.{Place}
use Rattle.query_terms.specs.declared.tree.Place.TheVariants.{At}
use Rattle.query_terms.specs.declared.tree.TwoSided.TheVariants.{Compare, And}
use Rattle.query_names.specs.Calm.{is_calm}
use Rattle.query_names.specs.Readings.{env_of}
use Rattle.query_plan.specs.Keys.{AreAsked, AsksPart, IsAsked, IsCompared, IsLiteralKey, has_key, of_column}
use Rattle.query_plan.specs.Ranges.{AsksHalf}
use Rattle.query_plan.specs.declared.keys.Wanted.{Wanted}
use Rattle.query_plan.proofs.Others.{value_of_digits, word_of}
use Rattle.query_plan.proofs.Untrue.{IsOf, SurvivesAnd, between_is_and, of_whole}

-- ---- what isn't true

-- false or NULL
abbrev IsNotTrue : Option Bool → Type 0
IsNotTrue u = unwrap_or u false ≡ false

untrue_first : (t u : Option Bool) → IsNotTrue t → IsNotTrue (both_hold t u)
untrue_first (Some true) u h = absurd (true≢false h)
untrue_first (Some false) u h = refl
untrue_first None None h = refl
untrue_first None (Some true) h = refl
untrue_first None (Some false) h = refl

untrue_second : (t u : Option Bool) → IsNotTrue u → IsNotTrue (both_hold t u)
untrue_second (Some true) u h = h
untrue_second (Some false) u h = refl
untrue_second None None h = refl
untrue_second None (Some true) h = absurd (true≢false h)
untrue_second None (Some false) h = refl

untrue_survives : SurvivesAnd IsNotTrue
untrue_survives = record { first = untrue_first; second = untrue_second }

abbrev pub LeftOut : Answer Value → Type 0
LeftOut a = IsOf IsNotTrue a

-- ---- a comparison with a key

null_left_out : LeftOut (Ok Null)
null_left_out = (Null, refl, None, refl, refl)

differ : (test : Bool) → test ≡ false → LeftOut (Ok (of_bool test))
differ test e = subst (λ b. LeftOut (Ok (of_bool b))) (sym e) (of_bool false, refl, Some false, refl, refl)

-- values that an operator doesn't hold of
pub unmet : (o : Comparison) (c : Collation) (v k : Value) → is_met o (order c v k) ≡ false → LeftOut (Ok (compared o c v k))
unmet o c Null k e = null_left_out
unmet o c (Int x) Null e = null_left_out
unmet o c (Text x) Null e = null_left_out
unmet o c (Blob x) Null e = null_left_out
unmet o c (Int x) (Int y) e = differ (is_met o (order c (Int x) (Int y))) e
unmet o c (Int x) (Text y) e = differ (is_met o (order c (Int x) (Text y))) e
unmet o c (Int x) (Blob y) e = differ (is_met o (order c (Int x) (Blob y))) e
unmet o c (Text x) (Int y) e = differ (is_met o (order c (Text x) (Int y))) e
unmet o c (Text x) (Text y) e = differ (is_met o (order c (Text x) (Text y))) e
unmet o c (Text x) (Blob y) e = differ (is_met o (order c (Text x) (Blob y))) e
unmet o c (Blob x) (Int y) e = differ (is_met o (order c (Blob x) (Int y))) e
unmet o c (Blob x) (Text y) e = differ (is_met o (order c (Blob x) (Text y))) e
unmet o c (Blob x) (Blob y) e = differ (is_met o (order c (Blob x) (Blob y))) e

-- nor does one hold of NULL
pub unmet_null : (o : Comparison) (c : Collation) (v k : Value) → v ≡ Null → LeftOut (Ok (compared o c v k))
unmet_null o c v k e = subst (λ (w : Value). LeftOut (Ok (compared o c w k))) (sym e) null_left_out

-- a column isn't converted beside a literal
column_stays : (a : Option Affinity) (v : Value) → converted (conversion a None) v ≡ Ok v
column_stays None v = refl
column_stays (Some kind.Blob) v = refl
column_stays (Some kind.Text) v = refl
column_stays (Some kind.Numeric) v = refl
column_stays (Some kind.Integer) v = refl

pair : Value → Value → Answer (Value × Value)
pair v w = Ok (v, w)

-- a column is compared with what its affinity makes of the literal
compares : (o : Comparison) (c : Collation) (a : Option Affinity) (v w k : Value) → converted (conversion None a) w ≡ Ok k → compare o c a None v w ≡ Ok (compared o c v k)
unfolding pair
compares o c a v w k e =
    ap (λ x. (x then λ y. converted (conversion None a) w then λ z. pair y z) then λ p. Ok (compared o c p.0 p.1)) (column_stays a v)
    ∙ ap (λ x. (x then pair v) then λ p. Ok (compared o c p.0 p.1)) e

beside : (o : Comparison) (s : ℕ) (p : Place) (a : Option Affinity) (c : Collation) (t : Term) (k : Value) (env : Environment) → is_calm (Two (Compare o) (Cell s p a c) t) ≡ true → IsLiteralKey a t k
    → value (Two (Compare o) (Cell s p a c) t) env ≡ Ok (compared o c (cell env s p) k)
beside o s p a c (Const w) k env calm is = compares o c a (cell env s p) w k is
beside o s p a c (Digits j) k env calm is =
    ap (λ x. x then λ w. compare o c a None (cell env s p) w) (value_of_digits j env (word_of s p a c j calm))
    ∙ compares o c a (cell env s p) (Int (pos j)) k is
beside o s p a c _ k env calm is = absurd is

-- ---- a condition with a comparison that isn't true

module _ (w : Wanted) (o : Comparison) (k : Value) (env : Environment) (unmet_here : LeftOut (Ok (compared o w.collation (cell env w.source w.place) k))) where
  pub of_part : (t : Term) → is_calm t ≡ true → IsCompared w o k t → LeftOut (value t env)
  of_part (Two (Compare p) (Cell s q a c) t) calm asked = subst LeftOut (sym (beside p s q a c t k env calm asked.4 ∙ same)) unmet_here where
    same : ◌≡◌ {A = Answer Value} (Ok (compared p c (cell env s q) k)) (Ok (compared o w.collation (cell env w.source w.place) k))
    same =
        ap (λ (r : Comparison). Ok (compared r c (cell env s q) k)) asked.0
        ∙ (ap (λ (n : ℕ). Ok (compared o c (cell env n q) k)) asked.1
        ∙ (ap (λ (r : Place). Ok (compared o c (cell env w.source r) k)) asked.2
        ∙ ap (λ (d : Collation). Ok (compared o d (cell env w.source w.place) k)) asked.3))
  of_part _ calm asked = absurd asked

  -- a half of BETWEEN is one side of an AND
  of_half : (t : Term) → is_calm t ≡ true → AsksHalf (IsCompared w o k) t → LeftOut (value t env)
  of_half (Between false a b c) calm asked =
      subst LeftOut (sym (between_is_and a b c env))
      (of_whole IsNotTrue untrue_survives (IsCompared w o k) env of_part (Two And (Two (Compare GreaterOrEqual) a b) (Two (Compare LessOrEqual) a c)) calm asked)
  of_half t calm asked = of_part t calm asked

  -- a condition that asks for the comparison, of which BETWEEN is two
  pub of_halves : (condition : Term) → is_calm condition ≡ true → AsksPart (AsksHalf (IsCompared w o k)) condition → LeftOut (value condition env)
  of_halves condition calm asked = of_whole IsNotTrue untrue_survives (AsksHalf (IsCompared w o k)) env of_half condition calm asked

-- ---- the row of a source

module _ (rows : List Row) (n : ℕ) (row : Row) (here : slice_get rows n ≡ Some row) where
  -- a source's value is its row's
  pub cell_is : (p : Place) → cell (env_of rows) n p ≡ at_row (Some row) p
  cell_is p = ap (λ (r : Option Row). at_row r p) here

  pub column_is : (i : ℕ) → cell (env_of rows) n (At i) ≡ slice_index_or row.values i Null
  column_is i = cell_is (At i) ∙ unwrap_or-slice_get row.values i Null

-- ---- a row of another key

module _ (condition : Term) (calm : is_calm condition ≡ true) (rows : List Row) (n : ℕ) (row : Row) (here : slice_get rows n ≡ Some row) where
  abbrev at : IndexColumn → Value
  at column = slice_index_or row.values column.place Null

  -- a value that isn't tied with the key's
  pub apart : (column : IndexColumn) (k : Value) → AsksPart (IsAsked n column k) condition → is_eq (order column.collation (at column) k) ≡ false → LeftOut (value condition (env_of rows))
  apart column k asked e =
      of_whole IsNotTrue untrue_survives (IsAsked n column k) (env_of rows)
      (of_part (of_column n column) Equal k (env_of rows) (unmet Equal column.collation (cell (env_of rows) n (At column.place)) k
      (ap (λ (v : Value). is_eq (order column.collation v k)) (column_is rows n row here column.place) ∙ e)))
      condition calm asked

  pub of_other_key : (columns : List IndexColumn) (key : List Value) → AreAsked n columns key condition → has_key columns key row.values ≡ false → LeftOut (value condition (env_of rows))
  of_other_key [] [] asked other = absurd (true≢false other)
  of_other_key [] (k ∷ key) asked other = absurd asked
  of_other_key (column ∷ columns) [] asked other = absurd (true≢false other)
  of_other_key (column ∷ columns) (k ∷ key) asked other = by (is_eq (order column.collation (at column) k)) refl (of_other_key columns key asked.1) where
    by : (test : Bool) → is_eq (order column.collation (at column) k) ≡ test → (has_key columns key row.values ≡ false → LeftOut (value condition (env_of rows))) → LeftOut (value condition (env_of rows))
    by false e more = apart column k asked.0 e
    by true e more = more (sym (ap (λ (test : Bool). test && has_key columns key row.values) e) ∙ other)
