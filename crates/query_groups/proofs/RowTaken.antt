-- What an answer says of the arguments that it came from.
use Rattle.std.proofs.Common.{◌≡◌, ◌∙◌, sym, refl, ap, Ok, Err, Result, inl, inr, List}
use Rattle.sqlval.specs.Refusals.{Answer, ◌then◌}
use Rattle.sqlval.specs.declared.fault.Fault.{Fault}
use Rattle.query_terms.specs.Outcome.{AnswersBy, IsRefusedBy}
use Rattle.query_terms.specs.Terms.{Term}
use Rattle.query_terms.specs.Values.{Row}
use Rattle.query_totals.specs.Totals.{arguments_at}
use Rattle.query_groups.specs.Keeping.{TakesArguments}

pub refused_before : {A B : Type 0} (a : Answer A) (x : B) (fault : Fault) → IsRefusedBy (a then λ v. let l : Answer B = Ok x in l) fault → IsRefusedBy a fault
refused_before (Ok v) x fault (inl m) = inl m
refused_before (Ok v) x fault (inr e) = absurd cc
refused_before (Err r) x fault (inl m) = inl m
refused_before (Err r) x fault (inr e) = inr (ap (λ b. elim b [ Ok v ↦ Err r | Err s ↦ Err s ]) e)

pub was_taken : {A B : Type 0} (a : Answer A) (x y : B) → (a then λ v. let l : Answer B = Ok x in l) ≡ Ok y → (v : A) × (a ≡ Ok v)
was_taken (Ok v) x y e = (v, refl)
was_taken (Err r) x y e = absurd cc

pub is_taken : {A B : Type 0} (a : Answer A) (x y : B) → (a then λ v. let l : Answer B = Ok x in l) ≡ Ok y → x ≡ y
is_taken (Ok v) x y e = cc
is_taken (Err r) x y e = absurd cc

-- what was answered of a row's arguments
pub takes : {B : Type 0} (ts : List Term) (now : List Row) (Is : Type 0) (x y : B) (result : Result Unit Fault) → AnswersBy (λ u. y) (arguments_at ts now then λ vs. let l : Answer B = Ok x in l) result → (x ≡ y → Is) → TakesArguments ts now Is result
takes ts now Is x y (Ok u) h k = (was_taken (arguments_at ts now) x y h, k (is_taken (arguments_at ts now) x y h))
takes ts now Is x y (Err fault) h k = refused_before (arguments_at ts now) x fault h

-- ---- an answer that another is made of

pub same_answer : {A : Type 0} (x y : A) → (let a : Answer A = Ok x in a) ≡ Ok y → x ≡ y
same_answer x y e = cc

pub opened : {A B : Type 0} (a : Answer A) (f : A → B) (y : B) → (a then λ v. let l : Answer B = Ok (f v) in l) ≡ Ok y → (v : A) × (a ≡ Ok v)
opened (Ok v) f y e = (v, refl)
opened (Err r) f y e = absurd cc

pub made_of : {A B : Type 0} (a : Answer A) (f : A → B) (v : A) (y : B) → (a then λ w. let l : Answer B = Ok (f w) in l) ≡ Ok y → a ≡ Ok v → y ≡ f v
made_of {A} {B} a f v y e h = sym (same_answer (f v) y (sym (ap (λ b. b then λ w. let l : Answer B = Ok (f w) in l) h) ∙ e))

pub refused_first : {A B : Type 0} (a : Answer A) (f : A → B) (fault : Fault) → IsRefusedBy (a then λ v. let l : Answer B = Ok (f v) in l) fault → IsRefusedBy a fault
refused_first (Ok v) f fault (inl m) = inl m
refused_first (Ok v) f fault (inr e) = absurd cc
refused_first (Err r) f fault (inl m) = inl m
refused_first (Err r) f fault (inr e) = inr (ap (λ b. elim b [ Ok v ↦ Err r | Err s ↦ Err s ]) e)
