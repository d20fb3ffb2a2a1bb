-- No term beside NEW and OLD is refused for a disk; and each row has a value for each of its terms.
use Rattle.std.proofs.Common.{◌≡◌, ◌∙◌, inl, inr, refl, sym, ap, subst, ℕ, suc, Bool, true, false, ◌&&◌, ◌==◌, List, [], ◌∷◌, length, map, Option, Some, None, Result, Ok, Err, arith}
use Rattle.std.specs.Prelude.{IfErr, IfOk, IsErrAnd, unwrap_or}
use Rattle.std.specs.List.{AllByRecursion, list_all}
use Rattle.std.proofs.lemmas.Bool.{false≢true}
use Rattle.std.proofs.lemmas.Bool.Decides.{nat_tests}
use Rattle.sqlval.specs.Faults.{IsNotDiskFault}
use Rattle.sqlval.specs.Refusals.{Answer, ◌then◌, all_answers}
use Rattle.sqlval.specs.declared.fault.Fault.{Fault}
use Rattle.sqlval.specs.declared.value.Value.{Value}
use Rattle.query_answer.specs.Answers.{HaveWidth}
use Rattle.query_names.specs.Readings.{holds, values}
use Rattle.query_names.proofs.QuietValues.{of_holds, of_values, values_quietly}
use Rattle.query_terms.specs.Outcome.{AnswersBy, IsRefusedBy}
use Rattle.query_terms.specs.Terms.{Term}
use Rattle.query_terms.specs.Values.{Environment, Row, value}
use Rattle.query_terms.proofs.Quiet.{IsQuiet, memory_is_quiet, next, quiet_fault}
use Rattle.executor_programs.specs.Outer.{is_true}

quietly : {A : Type 0} (a : Answer A) (f : Fault) → IsQuiet a → IsRefusedBy a f → IsNotDiskFault f
quietly a f quiet (inl memory) = memory_is_quiet f memory
quietly a f quiet (inr e) = quiet_fault f (subst IsQuiet e quiet)

of_condition : (c : Option Term) (rows : List Row) → IsQuiet (is_true c rows)
of_condition None rows = tt
of_condition (Some t) rows = next (holds t rows) (λ test. Ok (unwrap_or test false)) (of_holds t rows) (λ test. tt)

pub test_quietly : (c : Option Term) (rows : List Row) (f : Fault) → IsRefusedBy (is_true c rows) f → IsNotDiskFault f
test_quietly c rows f why = quietly (is_true c rows) f (of_condition c rows) why

pub condition_quietly : (c : Option Term) (rows : List Row) (result : Result Bool Fault) → AnswersBy (λ test. test) (is_true c rows) result → IfErr result (λ fault. IsNotDiskFault fault)
condition_quietly c rows (Ok test) is = tt
condition_quietly c rows (Err f) is = test_quietly c rows f is

pub terms_quietly : (env : Environment) (terms : List Term) (f : Fault) → IsRefusedBy (values env terms) f → IsNotDiskFault f
terms_quietly env terms f why = quietly (values env terms) f (of_values env terms) why

pub rows_quietly : {X : Type 0} (view : X → List (List Value)) (env : Environment) (rows : List (List Term)) (result : Result X Fault) → AnswersBy view (all_answers (map (values env) rows)) result
    → IfErr result (λ fault. IsNotDiskFault fault)
rows_quietly view env rows (Ok x) is = tt
rows_quietly view env rows (Err f) is = values_quietly env rows f is

-- a call that hands a refusal on
pub handed_on : {X : Type 0} (result : Result X Fault) (f : Fault) → IsErrAnd result (λ e. e ≡ f) → IsNotDiskFault f → IfErr result (λ fault. IsNotDiskFault fault)
handed_on (Ok x) f same why = tt
handed_on (Err e) f same why = subst IsNotDiskFault (sym same) why

-- ---- each row has as many values as terms

abbrev Wide : {A : Type 0} → ℕ → List (List A) → Type 0
Wide n rows = AllByRecursion (λ row. length row ≡ n) rows

same_count : (n m : ℕ) → (m == n) ≡ true → m ≡ n
same_count n m e = grind (arith, nat_tests)

terms_wide : (n : ℕ) (rows : List (List Term)) → list_all (λ row. length row == n) rows ≡ true → Wide n rows
terms_wide n [] h = tt
terms_wide n (row ∷ rows) h = by (λ rest. terms_wide n rows rest) (length row == n) refl h
  where
    by : (list_all (λ row. length row == n) rows ≡ true → Wide n rows) → (b : Bool) → (length row == n) ≡ b → b && list_all (λ row. length row == n) rows ≡ true → Wide n (row ∷ rows)
    by go true e rest = (same_count n (length row) e, go rest)
    by go false e rest = absurd (false≢true rest)

then_has : {A B : Type 0} (P : A → Type 0) (Q : B → Type 0) (a : Answer A) (f : A → Answer B) → IfOk a P → ((x : A) → P x → IfOk (f x) Q) → IfOk (a then f) Q
then_has P Q (Ok x) f p go = go x p
then_has P Q (Err r) f p go = tt

anything : {A : Type 0} (a : Answer A) → IfOk a (λ x. Unit {0})
anything (Ok x) = tt
anything (Err r) = tt

as_many : (env : Environment) (terms : List Term) → IfOk (values env terms) (λ vs. length vs ≡ length terms)
as_many env [] = refl
as_many env (t ∷ ts) =
    then_has (λ x. Unit {0}) (λ vs. length vs ≡ suc (length ts)) (value t env) (λ v. values env ts then λ vs. Ok (v ∷ vs)) (anything (value t env)) (λ v u.
    then_has (λ vs. length vs ≡ length ts) (λ vs. length vs ≡ suc (length ts)) (values env ts) (λ vs. Ok (v ∷ vs)) (as_many env ts) (λ vs e. ap suc e))

values_wide : (env : Environment) (n : ℕ) (rows : List (List Term)) → Wide n rows → IfOk (all_answers (map (values env) rows)) (Wide n)
values_wide env n [] h = tt
values_wide env n (ts ∷ rows) h =
    then_has (λ vs. length vs ≡ length ts) (Wide n) (values env ts) (λ vs. all_answers (map (values env) rows) then λ more. Ok (vs ∷ more)) (as_many env ts) (λ vs e.
    then_has (Wide n) (Wide n) (all_answers (map (values env) rows)) (λ more. Ok (vs ∷ more)) (values_wide env n rows h.1) (λ more hs. (e ∙ h.0, hs)))

pub rows_wide : {X : Type 0} (view : X → List (List Value)) (env : Environment) (n : ℕ) (terms : List (List Term)) (result : Result X Fault) → AnswersBy view (all_answers (map (values env) terms)) result
    → list_all (λ row. length row == n) terms ≡ true → IfOk result (λ x. HaveWidth n (view x))
rows_wide view env n terms (Err f) answers wide = tt
rows_wide view env n terms (Ok x) answers wide = subst (λ (a : Answer (List (List Value))). IfOk a (Wide n)) answers (values_wide env n terms (terms_wide n terms wide))
