-- Operators over the pair of their operands' values.
use Rattle.std.proofs.Common.{◌≡◌, refl, subst, Bool, true, false, not, if◌then◌else◌, Result, Ok, Err}
use Rattle.sqlval.specs.Refusals.{Answer, ◌then◌}
use Rattle.sqlval.specs.declared.fault.Fault.{Fault}
use Rattle.sqlval.specs.declared.value.Value.{Value}
use Rattle.query_terms.specs.Outcome.{Answers}
use Rattle.query_terms.specs.Rows.{manner_of, pair_of}
use Rattle.query_terms.specs.Terms.{Term, Two}
use Rattle.query_terms.specs.declared.comparing.Manner.{Manner}
use Rattle.query_terms.specs.declared.tree.Arithmetic.{Arithmetic}
use Rattle.query_terms.specs.declared.tree.Comparison.{Comparison}
use Rattle.query_terms.specs.declared.tree.TwoSided.TheVariants as by
use Rattle.query_terms.specs.Values.{Environment, arithmetic, compare, compared_as, concat, of_bool, on_numbers, same, same_as, value}

through : {X : Type 0} (a b : Answer Value) (f : Value → Value → Answer X) → (pair_of a b then λ p. f p.0 p.1) ≡ (a then λ v. b then f v)
through (Err r) b f = refl
through (Ok v) (Err r) f = refl
through (Ok v) (Ok w) f = refl

regrouped : {X Y : Type 0} (a : Answer X) (f : X → Answer Bool) (g : Bool → Answer Y) → ((a then f) then g) ≡ (a then λ p. f p then g)
regrouped (Err r) f g = refl
regrouped (Ok p) f g = refl

pub compared : (o : Comparison) (a b : Term) (env : Environment) (m : Manner) (result : Result Value Fault) → m ≡ manner_of a b
    → Answers (pair_of (value a env) (value b env) then λ p. compare o m.collation m.left m.right p.0 p.1) result
    → Answers (value (Two (by.Compare o) a b) env) result
compared o a b env m result is given =
    subst (λ x. Answers x result) (through (value a env) (value b env) (compared_as o a b))
    (subst (λ n. Answers (pair_of (value a env) (value b env) then λ p. compare o n.collation n.left n.right p.0 p.1) result) is given)

pub calculated : (o : Arithmetic) (a b : Term) (env : Environment) (result : Result Value Fault)
    → Answers (pair_of (value a env) (value b env) then λ p. on_numbers (arithmetic o) p.0 p.1) result
    → Answers (value (Two (by.Calculate o) a b) env) result
calculated o a b env result given = subst (λ x. Answers x result) (through (value a env) (value b env) (on_numbers (arithmetic o))) given

pub concatenated : (a b : Term) (env : Environment) (result : Result Value Fault)
    → Answers (pair_of (value a env) (value b env) then λ p. concat p.0 p.1) result
    → Answers (value (Two by.Concatenate a b) env) result
concatenated a b env result given = subst (λ x. Answers x result) (through (value a env) (value b env) concat) given

-- what IS and IS NOT answer
abbrev told : Bool → Bool → Answer Value
told n t = Ok (of_bool (if n then not t else t))

told_of : (n : Bool) (a b : Term) (env : Environment)
    → (value a env then λ v. value b env then λ w. same_as a b v w then told n) ≡ value (Two (if n then by.IsNot else by.Is) a b) env
told_of true a b env = refl
told_of false a b env = refl

pub told_apart : (n : Bool) (a b : Term) (env : Environment) (m : Manner) (result : Result Value Fault) → m ≡ manner_of a b
    → Answers ((pair_of (value a env) (value b env) then λ p. same m.collation m.left m.right p.0 p.1) then λ t. Ok (of_bool (if n then not t else t))) result
    → Answers (value (Two (if n then by.IsNot else by.Is) a b) env) result
told_apart n a b env m result is given =
    subst (λ x. Answers x result) (told_of n a b env)
    (subst (λ x. Answers x result) (through (value a env) (value b env) (λ v w. same_as a b v w then told n))
    (subst (λ x. Answers x result) (regrouped (pair_of (value a env) (value b env)) (λ p. same_as a b p.0 p.1) (told n))
    (subst (λ o. Answers ((pair_of (value a env) (value b env) then λ p. same o.collation o.left o.right p.0 p.1) then told n) result) is given)))
