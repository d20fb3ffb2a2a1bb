-- A side that is settled beside NEW and OLD, and what follows of a condition there.
use Rattle.std.proofs.Common.{◌≡◌, ◌∙◌, refl, subst, sym, ap, ℕ, zero, suc, ◌<◌, Bool, true, false, List, [], ◌∷◌, ◌++◌, length, Option, Some, None, Result, Ok, Err, slice_get, arith}
use Rattle.std.specs.Option.{option_or}
use Rattle.std.specs.Prelude.{IfSome, unwrap_or}
use Rattle.sqlval.specs.Conversion.{converted}
use Rattle.sqlval.specs.Faults.{IsOrMemory}
use Rattle.sqlval.specs.Refusals.{Answer, ◌then◌}
use Rattle.sqlval.specs.declared.affinity.Affinity.{Affinity}
use Rattle.sqlval.specs.declared.affinity.Affinity.TheVariants as kind
use Rattle.sqlval.specs.declared.collation.Collation.{Collation}
use Rattle.sqlval.specs.declared.collation.Collation.TheVariants.{Binary}
use Rattle.sqlval.specs.declared.fault.Fault.{Fault}
use Rattle.sqlval.specs.declared.value.Value.{Value}
use Rattle.query_terms.specs.Rows.{pair_of}
use Rattle.query_terms.specs.Terms.{Cell, Term, Two, affinity, collation_of_two, written}
use Rattle.query_terms.specs.Values.{Environment, Row, and_after, and_also, at_row, both_hold, cell, compare, compared, conversion, of_truth, truth, value}
use Rattle.query_terms.specs.declared.tree.Comparison.{Comparison}
use Rattle.query_terms.specs.declared.tree.Place.{Place}
use Rattle.query_terms.specs.declared.tree.TwoSided.TheVariants.{And, Compare}
use Rattle.query_names.specs.Readings.{env_of}
use Rattle.executor_programs.specs.Seeking.{FollowsBeside, IsSettledSide}

-- ---- a column beside a value that stays as it is

-- nothing is converted beside a literal
no_conversion : (a : Option Affinity) → conversion a None ≡ kind.Blob
no_conversion None = refl
no_conversion (Some kind.Blob) = refl
no_conversion (Some kind.Text) = refl
no_conversion (Some kind.Numeric) = refl
no_conversion (Some kind.Integer) = refl

-- nothing is converted beside the same affinity
no_conversion_beside : (a : Option Affinity) → conversion a a ≡ kind.Blob
no_conversion_beside None = refl
no_conversion_beside (Some kind.Blob) = refl
no_conversion_beside (Some kind.Text) = refl
no_conversion_beside (Some kind.Numeric) = refl
no_conversion_beside (Some kind.Integer) = refl

module _ (o : Comparison) (c : Collation) (x y : Value) where
  abbrev seen_as : Answer Value → Answer Value → Answer Value
  seen_as v w = pair_of v w then λ p. Ok (compared o c p.0 p.1)

  beside_same : (a : Option Affinity) → compare o c a a x y ≡ Ok (compared o c x y)
  beside_same a = ap (λ k. seen_as (converted k x) (converted k y)) (no_conversion_beside a)

  beside_literal : (a : Option Affinity) → converted (conversion None a) y ≡ Ok y → compare o c a None x y ≡ Ok (compared o c x y)
  beside_literal a stays = ap (λ k. seen_as (converted k x) (converted (conversion None a) y)) (no_conversion a) ∙ ap (seen_as (Ok x)) stays

-- a row before the last
row_before : (beside : List Row) (r : Row) (n : ℕ) → n < length beside → slice_get (beside ++ r ∷ []) n ≡ slice_get beside n
row_before [] r n lt = absurd (omega (arith, lt))
row_before (b ∷ beside) r zero lt = refl
row_before (b ∷ beside) r (suc n) lt = row_before beside r n (omega (arith, lt))

-- ---- what stands for NEW's or OLD's column

-- a literal of the value that a source before the column's own has at a place
pub cell_settled : (beside : List Row) (own : Option Affinity) (v : Value) (literal : Term) → ((env : Environment) → value literal env ≡ Ok v) → affinity literal ≡ None → written literal ≡ None
    → (s : ℕ) (p : Place) (c : Collation) → s < length beside → v ≡ cell (env_of beside) s p → converted (conversion None own) v ≡ Ok v → IsSettledSide beside own (Cell s p own c) literal
cell_settled beside own v literal valued plain bare s p c lt is stays = record {
  same = λ o k x r.
      beside_same o k x (cell (env_of (beside ++ r ∷ [])) s p) own
      ∙ (ap (λ y. Ok (compared o k x y)) (ap (λ row. at_row row p) (row_before beside r s lt) ∙ sym is)
      ∙ (sym (beside_literal o k x v own stays)
      ∙ sym (λ i. valued (env_of (beside ++ r ∷ [])) i then λ y. compare o k own (plain i) x y)));
  collates = λ n q k. ap (λ w. unwrap_or (option_or w (Some k)) Binary) bare;
}

-- ---- what follows from a condition

pair_follows : (beside : List Row) (o : Comparison) (n : ℕ) (p : Place) (own : Option Affinity) (c : Collation) (side literal : Term) → IsSettledSide beside own side literal
    → FollowsBeside beside (Two (Compare o) (Cell n p own c) side) (Two (Compare o) (Cell n p own c) literal)
pair_follows beside o n p own c side literal settled r is_true =
    (let env : Environment = env_of (beside ++ r ∷ []) in
    let x : Value = cell env n p in
    ap (λ k. (value literal env then λ y. compare o k own (affinity literal) x y) then truth) (settled.collates n p c)
    ∙ (ap (λ a. a then truth) (sym (settled.same o (collation_of_two (Cell n p own c) side) x r)) ∙ is_true))

-- what a truth value is read as again
truth_again : (t : Option Bool) → truth (of_truth t) ≡ Ok t
truth_again None = refl
truth_again (Some true) = refl
truth_again (Some false) = refl

-- both sides of an AND that is true are true
module _ (y : Answer Value) where
  true_after : (t : Answer (Option Bool)) → ((t then λ u. and_after u y) then truth) ≡ Ok (Some true) → (t ≡ Ok (Some true)) × ((y then truth) ≡ Ok (Some true))
  true_after (Err r) h = absurd cc
  true_after (Ok (Some false)) h = absurd cc
  true_after (Ok (Some true)) h = (refl, second y h)
    where
      of_truths : (t : Answer (Option Bool)) → ((t then λ u. Ok (of_truth u)) then truth) ≡ t
      of_truths (Err r) = refl
      of_truths (Ok t) = truth_again t

      second : (y : Answer Value) → ((y then λ w. truth w then λ u. Ok (of_truth u)) then truth) ≡ Ok (Some true) → (y then truth) ≡ Ok (Some true)
      second (Err r) h = absurd cc
      second (Ok w) h = sym (of_truths (truth w)) ∙ h
  true_after (Ok None) h = absurd (never y h)
    where
      never_of : (t : Answer (Option Bool)) → ((t then λ u. Ok (of_truth (both_hold None u))) then truth) ≡ Ok (Some true) → ⊥
      never_of (Err r) h = absurd cc
      never_of (Ok None) h = absurd cc
      never_of (Ok (Some true)) h = absurd cc
      never_of (Ok (Some false)) h = absurd cc

      never : (y : Answer Value) → ((y then λ w. truth w then λ u. Ok (of_truth (both_hold None u))) then truth) ≡ Ok (Some true) → ⊥
      never (Err r) h = absurd cc
      never (Ok w) h = never_of (truth w) h

  both_true : (x : Answer Value) → ((x then λ v. and_also v y) then truth) ≡ Ok (Some true) → ((x then truth) ≡ Ok (Some true)) × ((y then truth) ≡ Ok (Some true))
  both_true (Err r) h = absurd cc
  both_true (Ok v) h = true_after (truth v) h

-- AND is true where both sides are
and_true : (x y : Answer Value) → (x then truth) ≡ Ok (Some true) → (y then truth) ≡ Ok (Some true) → ((x then λ v. and_also v y) then truth) ≡ Ok (Some true)
and_true (Err r) y h k = absurd cc
and_true (Ok v) (Err r) h k = absurd cc
and_true (Ok v) (Ok w) h k = ap (λ t. (t then λ u. and_after u (Ok w)) then truth) h ∙ ap (λ t. (t then λ u. Ok (of_truth u)) then truth) k

module _ (beside : List Row) (a b : Term) where
  first_follows : (asked : Term) → FollowsBeside beside a asked → FollowsBeside beside (Two And a b) asked
  first_follows asked follows r is_true = follows r (both_true (value b (env_of (beside ++ r ∷ []))) (value a (env_of (beside ++ r ∷ []))) is_true).0

  second_follows : (asked : Term) → FollowsBeside beside b asked → FollowsBeside beside (Two And a b) asked
  second_follows asked follows r is_true = follows r (both_true (value b (env_of (beside ++ r ∷ []))) (value a (env_of (beside ++ r ∷ []))) is_true).1

  both_follow : (first second : Term) → FollowsBeside beside a first → FollowsBeside beside b second → FollowsBeside beside (Two And a b) (Two And first second)
  both_follow first second f g r is_true =
      (let env : Environment = env_of (beside ++ r ∷ []) in
      and_true (value first env) (value second env) (first_follows first f r is_true) (second_follows second g r is_true))

-- the AND that was made follows, or memory was short
pub both_made : (beside : List Row) (a b first second : Term) (result : Result (Option Term) Fault) → FollowsBeside beside a first → FollowsBeside beside b second
    → IsOrMemory (λ made. IfSome made (λ term. term ≡ Two And first second)) result → IsOrMemory (λ made. IfSome made (FollowsBeside beside (Two And a b))) result
both_made beside a b first second (Err f) left right made = made
both_made beside a b first second (Ok None) left right made = tt
both_made beside a b first second (Ok (Some term)) left right made = subst (FollowsBeside beside (Two And a b)) (sym made) (both_follow beside a b first second left right)

-- the comparison that was made follows, or memory was short
pub pair_made : (beside : List Row) (o : Comparison) (n : ℕ) (p : Place) (own : Option Affinity) (c : Collation) (side literal : Term) (result : Result (Option Term) Fault) → IsSettledSide beside own side literal
    → IsOrMemory (λ made. IfSome made (λ term. term ≡ Two (Compare o) (Cell n p own c) literal)) result
    → IsOrMemory (λ made. IfSome made (FollowsBeside beside (Two (Compare o) (Cell n p own c) side))) result
pair_made beside o n p own c side literal (Err f) settled made = made
pair_made beside o n p own c side literal (Ok None) settled made = tt
pair_made beside o n p own c side literal (Ok (Some term)) settled made =
    subst (FollowsBeside beside (Two (Compare o) (Cell n p own c) side)) (sym made) (pair_follows beside o n p own c side literal settled)
