-- The rows of VALUES, by their names and as values.
use Rattle.std.proofs.Common.{◌≡◌, ◌∙◌, refl, sym, ap, subst, ℕ, suc, Bool, true, false, not, ◌||◌, ◌==◌, List, [], ◌∷◌, length, map, Result, Ok, Err, arith}
use Rattle.std.specs.Prelude.{IfErr, IfOk}
use Rattle.std.specs.List.{AllByRecursion, list_any}
use Rattle.std.proofs.lemmas.Bool.{false≢true}
use Rattle.std.proofs.lemmas.Bool.Decides.{nat_tests}
use Rattle.sqlval.specs.Faults.{IsNotDiskFault}
use Rattle.sqlval.specs.Refusals.{Answer, ◌then◌, all_answers}
use Rattle.sqlval.specs.declared.fault.Fault.{Fault}
use Rattle.sqlval.specs.declared.value.Value.{Value}
use Rattle.sql_syntax.specs.Tree.{Tree}
use Rattle.query_names.specs.Checked.{Checked, Meant, both, known_all, meant}
use Rattle.query_names.specs.Expressions.{resolve}
use Rattle.query_names.specs.Readings.{env_of, values}
use Rattle.query_answer.specs.Answers.{HaveWidth}
use Rattle.query_names.proofs.QuietValues.{values_quietly}
use Rattle.query_terms.specs.Outcome.{AnswersBy}
use Rattle.query_terms.specs.Terms.{Term}
use Rattle.query_terms.specs.Values.{Environment, value}

-- a row by its names
abbrev pub row_known : List Tree → Checked (List Term)
row_known row = known_all (map (resolve false []) row)

-- ---- each row has as many values as are written

abbrev pub other : ℕ → List (List Tree) → Bool
other n rows = list_any (λ row. not (n == length row)) rows

both_count : {A : Type 0} (k : Checked A) (l : Checked (List A)) (n : ℕ) → length (meant l) ≡ n → length (meant (both (λ x xs. x ∷ xs) k l)) ≡ suc n
both_count (Meant x rs) (Meant xs ss) n e = ap suc e

row_count : (row : List Tree) → length (meant (row_known row)) ≡ length row
row_count [] = refl
row_count (e ∷ row) = both_count (resolve false [] e) (row_known row) (length row) (row_count row)

abbrev Wide : {A : Type 0} → ℕ → List (List A) → Type 0
Wide n rows = AllByRecursion (λ row. length row ≡ n) rows

both_wide : {A : Type 0} (n : ℕ) (k : Checked (List A)) (l : Checked (List (List A))) → length (meant k) ≡ n → Wide n (meant l) → Wide n (meant (both (λ x xs. x ∷ xs) k l))
both_wide n (Meant x rs) (Meant xs ss) e h = (e, h)

same_count : (n m : ℕ) → (n == m) ≡ true → m ≡ n
same_count n m e = grind (arith, nat_tests)

terms_wide : (n : ℕ) (rows : List (List Tree)) → other n rows ≡ false → Wide n (meant (known_all (map row_known rows)))
terms_wide n [] h = tt
terms_wide n (row ∷ rows) h = by (λ rest. terms_wide n rows rest) (n == length row) refl h
  where
    by : (other n rows ≡ false → Wide n (meant (known_all (map row_known rows)))) → (b : Bool) → (n == length row) ≡ b → (not b || other n rows) ≡ false
        → Wide n (meant (known_all (map row_known (row ∷ rows))))
    by wide true e rest = both_wide n (row_known row) (known_all (map row_known rows)) (row_count row ∙ same_count n (length row) e) (wide rest)
    by wide false e rest = absurd (false≢true (sym rest))

then_has : {A B : Type 0} (P : A → Type 0) (Q : B → Type 0) (a : Answer A) (f : A → Answer B) → IfOk a P → ((x : A) → P x → IfOk (f x) Q) → IfOk (a then f) Q
then_has P Q (Ok x) f p go = go x p
then_has P Q (Err r) f p go = tt

anything : {A : Type 0} (a : Answer A) → IfOk a (λ x. Unit {0})
anything (Ok x) = tt
anything (Err r) = tt

as_many : (terms : List Term) → IfOk (values (env_of []) terms) (λ vs. length vs ≡ length terms)
as_many [] = refl
as_many (t ∷ ts) =
    then_has (λ x. Unit {0}) (λ vs. length vs ≡ suc (length ts)) (value t (env_of [])) (λ v. values (env_of []) ts then λ vs. Ok (v ∷ vs)) (anything (value t (env_of []))) (λ v u.
    then_has (λ vs. length vs ≡ length ts) (λ vs. length vs ≡ suc (length ts)) (values (env_of []) ts) (λ vs. Ok (v ∷ vs)) (as_many ts) (λ vs e. ap suc e))

values_wide : (n : ℕ) (rows : List (List Term)) → Wide n rows → IfOk (all_answers (map (values (env_of [])) rows)) (Wide n)
values_wide n [] h = tt
values_wide n (ts ∷ rows) h =
    then_has (λ vs. length vs ≡ length ts) (Wide n) (values (env_of []) ts) (λ vs. all_answers (map (values (env_of [])) rows) then λ more. Ok (vs ∷ more)) (as_many ts) (λ vs e.
    then_has (Wide n) (Wide n) (all_answers (map (values (env_of [])) rows)) (λ more. Ok (vs ∷ more)) (values_wide n rows h.1) (λ more hs. (e ∙ h.0, hs)))

-- whatever is told of the answer
pub evaluated_wide : {X : Type 0} (view : X → List (List Value)) (n : ℕ) (rows : List (List Tree)) (terms : List (List Term)) (result : Result X Fault) → other n rows ≡ false → known_all (map row_known rows) ≡ Meant terms []
    → AnswersBy view (all_answers (map (values (env_of [])) terms)) result → IfOk result (λ x. HaveWidth n (view x))
evaluated_wide view n rows terms (Err f) is named answers = tt
evaluated_wide view n rows terms (Ok x) is named answers =
    subst (λ (a : Answer (List (List Value))). IfOk a (Wide n)) answers (values_wide n terms (subst (λ (k : Checked (List (List Term))). Wide n (meant k)) named (terms_wide n rows is)))

-- ---- why they are refused

-- no value is refused for a disk
pub evaluated_quietly : {X : Type 0} (view : X → List (List Value)) (env : Environment) (rows : List (List Term)) (result : Result X Fault) → AnswersBy view (all_answers (map (values env) rows)) result
    → IfErr result (λ fault. IsNotDiskFault fault)
evaluated_quietly view env rows (Ok x) is = tt
evaluated_quietly view env rows (Err f) is = values_quietly env rows f is
