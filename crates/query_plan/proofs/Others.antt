-- A condition that seeks a rowid is false for rows of another one.
use Rattle.std.proofs.Common.{◌≡◌, refl, sym, ap, ◌∙◌, subst, ℕ, ℤ, pos, Bool, true, false, ◌&&◌, ◌==◌, cond, Option, Some, None, Ok, Err}
use mathlib.Core.Bool.{true≢false}
use Rattle.std.proofs.lemmas.Bool.{eqb-true}
use Rattle.std.specs.Ordering.{int_cmp, is_eq}
use Rattle.std.specs.declared.cmp.Ordering.{Ordering}
use Rattle.std.specs.declared.cmp.Ordering.TheVariants.{Less, Equal as Same, Greater}
use Rattle.std.proofs.lemmas.Map.Lookups.{exact_signed}
use Rattle.sqlval.specs.Refusals.{Answer, ◌then◌, RealRefused}
use Rattle.sqlval.specs.Conversion.{is_word}
use Rattle.sqlval.specs.declared.affinity.Affinity.{Affinity}
use Rattle.sqlval.specs.declared.affinity.Affinity.TheVariants as kind
use Rattle.sqlval.specs.declared.collation.Collation.{Collation}
use Rattle.sqlval.specs.declared.value.Value.{Value}
use Rattle.sqlval.specs.declared.value.Value.TheVariants.{Int}
use Rattle.query_terms.specs.Terms.{Term, Cell, Digits, Two, collation_of_two}
use Rattle.query_terms.specs.Values.{Environment, both_hold, cell, compare, compared, conversion, of_bool, truth, value}
use Rattle.query_terms.specs.declared.tree.Comparison.TheVariants.{Equal}
use Rattle.query_terms.specs.declared.tree.Place.{Place}
use Rattle.query_terms.specs.declared.tree.Place.TheVariants.{RowId}
use Rattle.query_terms.specs.declared.tree.TwoSided.TheVariants.{Compare}
use Rattle.query_names.specs.Calm.{converts, is_calm, is_side}
use Rattle.query_plan.specs.Seeking.{Seeks, is_rowid}
use Rattle.query_plan.proofs.Parts.{left, right, passing}
use Rattle.query_plan.proofs.Untrue.{SurvivesAnd, IsOf, of_whole}

-- ---- what is false

-- a truth value that is false
abbrev IsFalse : Option Bool → Type 0
IsFalse u = u ≡ Some false

-- an answer that is false
abbrev Fails : Answer Value → Type 0
Fails a = IsOf IsFalse a

fails_bool : Fails (Ok (of_bool false))
fails_bool = (of_bool false, refl, Some false, refl, refl)

false_second : (t u : Option Bool) → u ≡ Some false → both_hold t u ≡ Some false
false_second None u e = ap (both_hold None) e
false_second (Some true) u e = e
false_second (Some false) u e = refl

false_survives : SurvivesAnd IsFalse
false_survives = record { first = λ t u e. ap (λ x. both_hold x u) e; second = false_second }

-- ---- a comparison of rowids

-- integers that differ aren't met by =
unequal : (c : Collation) (rowid : ℤ) (k : ℕ) → (rowid ≡ pos k → ⊥) → compared Equal c (Int rowid) (Int (pos k)) ≡ of_bool false
unequal c rowid k apart = ap (λ b. of_bool b) (by (int_cmp rowid (pos k)) refl) where
  by : (p : Ordering) → int_cmp rowid (pos k) ≡ p → is_eq p ≡ false
  by Less e = refl
  by Same e = absurd (apart (exact_signed rowid (pos k) e))
  by Greater e = refl

-- nor is an integer by a text
fails_compare : (a : Option Affinity) (c : Collation) (rowid : ℤ) (k : ℕ) → (rowid ≡ pos k → ⊥) → Fails (compare Equal c a None (Int rowid) (Int (pos k)))
fails_compare None c rowid k apart = subst Fails (ap Ok (sym (unequal c rowid k apart))) fails_bool
fails_compare (Some kind.Text) c rowid k apart = fails_bool
fails_compare (Some kind.Blob) c rowid k apart = subst Fails (ap Ok (sym (unequal c rowid k apart))) fails_bool
fails_compare (Some kind.Integer) c rowid k apart = subst Fails (ap Ok (sym (unequal c rowid k apart))) fails_bool
fails_compare (Some kind.Numeric) c rowid k apart = subst Fails (ap Ok (sym (unequal c rowid k apart))) fails_bool

-- ---- conditions

-- a number that a column is compared with, without a refusal, fits a word
pub word_of : (s : ℕ) (p : Place) (a : Option Affinity) (c : Collation) (j : ℕ) → is_calm (Two (Compare Equal) (Cell s p a c) (Digits j)) ≡ true → is_word (pos j) ≡ true
word_of s p a c j e =
    left (is_side (Digits j)) (converts (conversion None a) (Digits j))
    (right (is_side (Cell s p a c) && converts (conversion a None) (Cell s p a c)) (is_side (Digits j) && converts (conversion None a) (Digits j)) e)

-- such a number is its value
pub value_of_digits : (j : ℕ) (env : Environment) → is_word (pos j) ≡ true → value (Digits j) env ≡ Ok (Int (pos j))
value_of_digits j env word_is = ap (λ b. cond b (Ok (Int (pos j))) (Err RealRefused)) word_is

module _ (source k : ℕ) (env : Environment) (rowid : ℤ) (at : cell env source RowId ≡ Int rowid) (apart : rowid ≡ pos k → ⊥) where
  fails : (t : Term) → is_calm t ≡ true → is_rowid source k t ≡ true → Fails (value t env)
  fails (Two (Compare Equal) (Cell s RowId a c) (Digits j)) calm both = met where
    same_source : s ≡ source
    same_source = eqb-true s source (left (s == source) (j == k) both)

    same_rowid : j ≡ k
    same_rowid = eqb-true j k (right (s == source) (j == k) both)

    row : cell env s RowId ≡ Int rowid
    row = subst (λ (n : ℕ). cell env n RowId ≡ Int rowid) (sym same_source) at

    met : Fails (value (Two (Compare Equal) (Cell s RowId a c) (Digits j)) env)
    met = subst Fails (sym (ap (λ x. x then λ w. compare Equal (collation_of_two (Cell s RowId a c) (Digits j)) a None (cell env s RowId) w) (value_of_digits j env (word_of s RowId a c j calm))
        ∙ ap (λ v. compare Equal (collation_of_two (Cell s RowId a c) (Digits j)) a None v (Int (pos j))) row))
        (fails_compare a (collation_of_two (Cell s RowId a c) (Digits j)) rowid j (λ e. apart (e ∙ ap pos same_rowid)))
  fails _ calm h = absurd (true≢false (sym h))

-- such a condition is false where the source's rowid is an integer, and not this one
pub fails_of_other : (source k : ℕ) (condition : Term) → Seeks source condition k → (env : Environment) (rowid : ℤ) → cell env source RowId ≡ Int rowid → (rowid ≡ pos k → ⊥)
    → (value condition env then truth) ≡ Ok (Some false)
fails_of_other source k condition seeks env rowid at apart =
    (let f = of_whole IsFalse false_survives (λ t. is_rowid source k t ≡ true) env (fails source k env rowid at apart) condition seeks.calm (passing (is_rowid source k) condition seeks.part) in
    ap (λ x. x then truth) f.1 ∙ (f.3 ∙ ap (λ u. Ok u) f.4))
