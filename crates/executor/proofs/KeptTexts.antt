-- What a text creates, read from it.
use Rattle.std.proofs.Common.{◌≡◌, refl, sym, subst, ◌∙◌, List, ℕ, Result, Ok, Err}
use Rattle.std.specs.Prelude.{IsErrAnd}
use Rattle.sqlval.specs.Faults.{IsOrMemory}
use Rattle.sqlval.specs.Gives.{Gives, Refuses}
use Rattle.sqlval.specs.declared.fault.Fault.{Fault}
use Rattle.sqlval.specs.declared.fault.Fault.TheVariants as fault
use Rattle.sql_syntax.specs.declared.create.NewObject.{NewObject}
use Rattle.sql_syntax.specs.declared.statement.Statement.{Statement}
use Rattle.sql_syntax.specs.declared.statement.Statement.TheVariants as statement

-- the statement that creates it
abbrev pub creating : List ℕ → NewObject → Statement
creating sql made = statement.Create (record { sql = sql; object = made })

-- what is a statement is refused for the lack of memory alone
alone : (f : Fault) (s : Statement) → Refuses f (Ok s) → f ≡ fault.Memory
alone fault.Memory s h = refl
alone f s h = absurd cc

-- a refusal for the lack of memory that is handed on
pub passed : {A : Type 0} (d : A) (r : Result A Fault) (f : Fault) → IsErrAnd r (λ e. e ≡ f) → f ≡ fault.Memory → IsOrMemory (λ x. x ≡ d) r
passed d (Ok x) f is memory = absurd is
passed d (Err e) f is memory = is ∙ memory

pub unread : (made : NewObject) (r : Result NewObject Fault) (f : Fault) (s : Statement) → IsErrAnd r (λ e. e ≡ f) → Gives {X = Statement} (λ s. s) (Err f) (Ok s) → IsOrMemory (λ object. object ≡ made) r
unread made r f s is given = passed made r f is (alone f s given)

same_statement : (s t : Statement) → ◌≡◌ {A = Result Statement Fault} (Ok s) (Ok t) → t ≡ s
same_statement s t e = cc

-- what a call answers is this
pub answered : {A : Type 0} (d : A) (r : Result A Fault) → r ≡ Ok d → IsOrMemory (λ x. x ≡ d) r
answered {A} d r is = subst (IsOrMemory (λ (x : A). x ≡ d)) (sym is) refl

pub is_made : (made : NewObject) (sql : List ℕ) (s : Statement) (r : Result NewObject Fault) → Gives {X = Statement} (λ s. s) (Ok s) (Ok (creating sql made)) → (s ≡ creating sql made → r ≡ Ok made)
    → IsOrMemory (λ object. object ≡ made) r
is_made made sql s r given then_is = answered made r (then_is (same_statement (creating sql made) s given))
