-- BETWEEN as two sides, the second of which is met where the first doesn't decide.
use Rattle.std.proofs.Common.{◌≡◌, refl, subst, sym, Bool, true, false, Option, Some, None, Result, Ok, Err}
use Rattle.sqlval.specs.Refusals.{Answer, ◌then◌}
use Rattle.sqlval.specs.declared.fault.Fault.{Fault}
use Rattle.sqlval.specs.declared.value.Value.{Value}
use Rattle.query_terms.specs.Outcome.{Answers}
use Rattle.query_terms.specs.Rows.{and_truth, both_sides, compared_to, manner_of}
use Rattle.query_terms.specs.Terms.{Term, Between}
use Rattle.query_terms.specs.declared.tree.Comparison.TheVariants.{GreaterOrEqual, LessOrEqual}
use Rattle.query_terms.specs.Values.{Environment, and_after, and_also, both_hold, compared_as, of_truth, truth, turned, value}

abbrev then_turned : Bool → Answer (Option Bool) → Answer Value
then_turned n a = a then λ t. turned n (of_truth t)

last : (n : Bool) (t : Option Bool) (a : Answer (Option Bool)) → ((a then λ u. Ok (of_truth (both_hold t u))) then turned n) ≡ then_turned n (a then λ u. Ok (both_hold t u))
last n t (Err r) = refl
last n t (Ok u) = refl

answered : (n : Bool) (t : Option Bool) (a : Answer Value) → ((a then λ w. truth w then λ u. Ok (of_truth (both_hold t u))) then turned n) ≡ then_turned n ((a then truth) then λ u. Ok (both_hold t u))
answered n t (Err r) = refl
answered n t (Ok w) = last n t (truth w)

regrouped : (n : Bool) (t : Option Bool) (other : Answer Value) (f : Value → Answer Value)
    → (((other then f) then λ w. truth w then λ u. Ok (of_truth (both_hold t u))) then turned n) ≡ then_turned n ((other then λ w. f w then truth) then λ u. Ok (both_hold t u))
regrouped n t (Err r) f = refl
regrouped n t (Ok w) f = answered n t (f w)

second : (n : Bool) (t : Option Bool) (other : Answer Value) (f : Value → Answer Value) → (and_after t (other then f) then turned n) ≡ then_turned n (and_truth t (other then λ w. f w then truth))
second n (Some false) other f = refl
second n (Some true) other f = regrouped n (Some true) other f
second n None other f = regrouped n None other f

first : (n : Bool) (t : Answer (Option Bool)) (other : Answer Value) (f : Value → Answer Value)
    → ((t then λ u. and_after u (other then f)) then turned n) ≡ then_turned n (t then λ u. and_truth u (other then λ w. f w then truth))
first n (Err r) other f = refl
first n (Ok t) other f = second n t other f

compared : (n : Bool) (a : Answer Value) (other : Answer Value) (f : Value → Answer Value)
    → ((a then λ t. and_also t (other then f)) then turned n) ≡ then_turned n ((a then truth) then λ u. and_truth u (other then λ w. f w then truth))
compared n (Err r) other f = refl
compared n (Ok v) other f = first n (truth v) other f

low : (n : Bool) (a : Answer Value) (g : Value → Answer Value) (other : Answer Value) (f : Value → Answer Value)
    → ((a then λ w. g w then λ t. and_also t (other then f)) then turned n) ≡ then_turned n ((a then λ w. g w then truth) then λ u. and_truth u (other then λ w. f w then truth))
low n (Err r) g other f = refl
low n (Ok w) g other f = compared n (g w) other f

in_limits : (n : Bool) (a b c : Term) (env : Environment)
    → value (Between n a b c) env
    ≡ (value a env then λ v. then_turned n (both_sides (compared_to GreaterOrEqual (manner_of a b) v (value b env)) (compared_to LessOrEqual (manner_of a c) v (value c env))))
in_limits n a b c env = by (value a env)
  where
    by : (x : Answer Value) → (x then λ v. (value b env then λ w. compared_as GreaterOrEqual a b v w then λ t. and_also t (value c env then λ u. compared_as LessOrEqual a c v u)) then turned n)
        ≡ (x then λ v. then_turned n (both_sides (compared_to GreaterOrEqual (manner_of a b) v (value b env)) (compared_to LessOrEqual (manner_of a c) v (value c env))))
    by (Err r) = refl
    by (Ok v) = low n (value b env) (compared_as GreaterOrEqual a b v) (value c env) (compared_as LessOrEqual a c v)

-- both sides of an operand with this value
abbrev sides_of : Term → Term → Term → Environment → Value → Answer (Option Bool)
sides_of a b c env v = both_sides (compared_to GreaterOrEqual (manner_of a b) v (value b env)) (compared_to LessOrEqual (manner_of a c) v (value c env))

-- what answers as both sides under NOT answers as BETWEEN
pub between_again : (n : Bool) (a b c : Term) (env : Environment) (w v : Value) (result : Result Value Fault) → value a env ≡ Ok v → w ≡ v
    → Answers (sides_of a b c env w then λ t. turned n (of_truth t)) result → Answers (value (Between n a b c) env) result
between_again n a b c env w v result is same given =
    subst (λ x. Answers x result) (sym (in_limits n a b c env))
    (subst (λ x. Answers (x then λ u. then_turned n (sides_of a b c env u)) result) (sym is)
    (subst (λ u. Answers (then_turned n (sides_of a b c env u)) result) same given))
