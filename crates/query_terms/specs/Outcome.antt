-- What a call answered, beside the answer of a definition.
use Rattle.std.specs.Prelude.{◌≡◌, ◌⊎◌, Result, Ok, Err}
use Rattle.sqlval.specs.Refusals.{Answer, refusal_of}
use Rattle.sqlval.specs.declared.fault.Fault.{Fault}
use Rattle.sqlval.specs.declared.fault.Fault.TheVariants.{Memory}

-- the refusal of the answer, or no memory
abbrev pub IsRefusedBy : {A : Type 0} → Answer A → Fault → Type 0
IsRefusedBy answer fault = (fault ≡ Memory) ⊎ (answer ≡ Err (refusal_of fault))

-- what a call answered is, seen by `view`, the answer or its refusal, unless memory ran out
abbrev pub AnswersBy : {X A : Type 0} → (X → A) → Answer A → Result X Fault → Type 0
AnswersBy view answer (Ok x) = answer ≡ Ok (view x)
AnswersBy view answer (Err fault) = IsRefusedBy answer fault

-- the same of a call that answers what the definition does
abbrev pub Answers : {A : Type 0} → Answer A → Result A Fault → Type 0
Answers answer result = AnswersBy (λ x. x) answer result
