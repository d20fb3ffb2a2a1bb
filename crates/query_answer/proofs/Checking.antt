-- How an aggregate's argument is checked.
use Rattle.std.proofs.Common.{◌≡◌, ◌∙◌, refl, sym, ap, subst, Ok}
use Rattle.std.specs.Prelude.{Result, ⊤}
use Rattle.sqlval.specs.Refusals.{Answer, ◌then◌}
use Rattle.sqlval.specs.declared.fault.Fault.{Fault}
use Rattle.sqlval.specs.declared.value.Value.{Value}
use Rattle.query_terms.specs.Outcome.{AnswersBy}
use Rattle.query_terms.specs.Terms.{Term, Total}
use Rattle.query_terms.specs.Values.{Environment, counted, value}
use Rattle.query_terms.specs.declared.tree.Aggregate.{Aggregate}
use Rattle.query_terms.specs.declared.tree.Aggregate.TheVariants.{CountAll, Count, Sum, Min, Max}
use Rattle.query_answer.specs.Checks.{checked, passed}

-- all but count(*) are checked by their argument's value
checked_other : (g : Aggregate) (e : Term) (env : Environment) → (g ≡ CountAll → ⊥) → checked (Total g e) env ≡ passed (value e env then counted g)
checked_other CountAll e env other = absurd (other refl)
checked_other Count e env other = refl
checked_other Sum e env other = refl
checked_other Min e env other = refl
checked_other Max e env other = refl

pub argument_checked : (g : Aggregate) (e : Term) (env : Environment) (v w : Value) (r : Result ⊤ Fault) → (g ≡ CountAll → ⊥) → value e env ≡ Ok v → w ≡ v
    → AnswersBy (λ u. tt) (passed (counted g w)) r → AnswersBy (λ u. tt) (checked (Total g e) env) r
argument_checked g e env v w r other is same answers =
    subst (λ (a : Answer ⊤). AnswersBy (λ (u : ⊤). tt) a r)
    (ap (λ (x : Value). passed (counted g x)) same ∙ (sym (ap (λ (a : Answer Value). passed (a then counted g)) is) ∙ sym (checked_other g e env other))) answers
