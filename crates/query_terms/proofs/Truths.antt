-- The truth of a value that a truth made.
use Rattle.std.proofs.Common.{◌≡◌, refl, ap, ◌∙◌, inl, inr, Option, Some, None, Bool, true, false, not, Result, Ok, Err}
use Rattle.sqlval.specs.Refusals.{Answer, ◌then◌}
use Rattle.sqlval.specs.declared.fault.Fault.{Fault}
use Rattle.sqlval.specs.declared.value.Value.{Value}
use Rattle.query_terms.specs.Outcome.{Answers, AnswersBy}
use Rattle.query_terms.specs.Values.{of_truth, truth, turned}

again : (t : Option Bool) → truth (of_truth t) ≡ Ok t
again None = refl
again (Some true) = refl
again (Some false) = refl

-- what answers as a value answers as its truth
pub truth_again : (a : Answer Value) (result : Result (Option Bool) Fault) → AnswersBy of_truth a result → Answers (a then truth) result
truth_again a (Ok t) is = ap (λ b. b then truth) is ∙ again t
truth_again a (Err f) (inl memory) = inl memory
truth_again a (Err f) (inr refused) = inr (ap (λ b. b then truth) refused)

-- NOT of what is true or false
pub other : (b : Bool) → turned true (of_truth (Some b)) ≡ Ok (of_truth (Some (not b)))
other true = refl
other false = refl
