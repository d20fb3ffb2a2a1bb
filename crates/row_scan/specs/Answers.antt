-- Answers one after another, or the first refusal.
use Rattle.std.specs.Prelude.{List, [], ◌∷◌, ◌++◌, map, Result, Ok, Err}
use Rattle.sqlval.specs.declared.fault.Fault.{Fault}

-- what follows an answer, where it isn't refused
infixl 10 ◌and◌
abbrev pub ◌and◌ : {A B : Type 0} → Result A Fault → (A → Result B Fault) → Result B Fault
(Ok x) and f = f x
(Err fault) and f = Err fault

-- each of the answers, or the first refusal
abbrev pub every : {A : Type 0} → List (Result A Fault) → Result (List A) Fault
every [] = Ok []
every (a ∷ rest) = a and λ x. every rest and λ xs. Ok (x ∷ xs)

-- what was given before, and what is still given
abbrev pub with_front : {A : Type 0} → List A → Result (List A) Fault → Result (List A) Fault
with_front front rest = rest and λ xs. Ok (front ++ xs)

-- what is given in all, where this was given before and these items are left
abbrev pub left : {A X : Type 0} → (X → Result A Fault) → List X → List A → Result (List A) Fault
left f xs front = with_front front (every (map f xs))
