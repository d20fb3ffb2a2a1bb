-- Answers one after another, of which the first refusal counts.
use Rattle.std.proofs.Common.{◌≡◌, inl, inr, List, [], ◌∷◌, ◌++◌, map, Ok, Err, refl, ap, append_assoc}
use Rattle.query_terms.specs.Outcome.{IsRefusedBy}
use Rattle.sqlval.specs.Refusals.{Answer, ◌then◌, all_answers}
use Rattle.sqlval.specs.declared.fault.Fault.{Fault}

-- what was given before, and what is still given
abbrev pub with_front : {A : Type 0} → List A → Answer (List A) → Answer (List A)
with_front front rest = rest then λ xs. Ok (front ++ xs)

-- what is left of a list decides
abbrev pub left : {A X : Type 0} → (X → Answer A) → List X → List A → Answer (List A)
left f xs front = with_front front (all_answers (map f xs))

regroup : {A : Type 0} (front : List A) (x : A) (rest : Answer (List A)) → with_front front (rest then λ xs. Ok (x ∷ xs)) ≡ with_front (front ++ x ∷ []) rest
regroup {A} front x (Ok xs) = ap (λ (vs : List A). Ok vs) (simp append_assoc)
regroup front x (Err fault) = refl

pub one_on : {A X : Type 0} (f : X → Answer A) (x : X) (xs : List X) (front : List A) (y : A) → f x ≡ Ok y → left f (x ∷ xs) front ≡ left f xs (front ++ y ∷ [])
one_on f x xs front y h = rw h (regroup front y (all_answers (map f xs)))

-- a refusal stays what it is, whatever was to follow
pub refuses_on : {A B : Type 0} (fault : Fault) (a : Answer A) (k : A → Answer B) → IsRefusedBy a fault → IsRefusedBy (a then k) fault
refuses_on fault a k (inl m) = inl m
refuses_on fault a k (inr e) = inr (ap (λ r. r then k) e)
