-- What is looked up one after another: refusals of the first and of what follows.
use Rattle.std.proofs.Common.{◌≡◌, refl, sym, ap, subst, ◌∙◌, inl, inr, List, [], ◌++◌, Result, Ok, Err}
use Rattle.std.specs.Prelude.{IsErrAnd}
use Rattle.std.proofs.lemmas.List.Elements.{Contains-append_left, Contains-append_right}
use Rattle.sqlval.specs.Refusals.{Refusal, refusal_of}
use Rattle.sqlval.specs.declared.fault.Fault.{Fault}
use Rattle.query_names.specs.Bound.{IsFaultOf}
use Rattle.query_names.specs.Checked.{Checked, Meant, meant, faults, also, ◌and_then◌}
use Rattle.query_names.specs.Named.{NamesBy}

pub also_nothing : {A : Type 0} (k : Checked A) → also [] k ≡ k
also_nothing (Meant x rs) = refl

-- what isn't refused is followed by what is made of it
pub then_good : {A B : Type 0} (k : Checked A) (f : A → Checked B) (x : A) → k ≡ Meant x [] → (k and_then f) ≡ f x
then_good k f x h = ap (λ j. j and_then f) h ∙ also_nothing (f x)

pub in_front : (rs ss : List Refusal) (fault : Fault) → IsFaultOf rs fault → IsFaultOf (rs ++ ss) fault
in_front rs ss fault (inl m) = inl m
in_front rs ss fault (inr h) = inr (Contains-append_left rs ss (refusal_of fault) h)

pub in_back : (rs ss : List Refusal) (fault : Fault) → IsFaultOf ss fault → IsFaultOf (rs ++ ss) fault
in_back rs ss fault (inl m) = inl m
in_back rs ss fault (inr h) = inr (Contains-append_right rs ss (refusal_of fault) h)

front : {A : Type 0} (rs : List Refusal) (k : Checked A) (fault : Fault) → IsFaultOf rs fault → IsFaultOf (faults (also rs k)) fault
front rs (Meant x ss) fault h = in_front rs ss fault h

back : {A : Type 0} (rs : List Refusal) (k : Checked A) (fault : Fault) → IsFaultOf (faults k) fault → IsFaultOf (faults (also rs k)) fault
back rs (Meant x ss) fault h = in_back rs ss fault h

pub refused_first : {A B : Type 0} (k : Checked A) (f : A → Checked B) (fault : Fault) → IsFaultOf (faults k) fault → IsFaultOf (faults (k and_then f)) fault
refused_first (Meant x rs) f fault h = front rs (f x) fault h

pub refused_later : {A B : Type 0} (k : Checked A) (f : A → Checked B) (fault : Fault) → IsFaultOf (faults (f (meant k))) fault → IsFaultOf (faults (k and_then f)) fault
refused_later (Meant x rs) f fault h = back rs (f x) fault h

-- a fault that is handed on by `?`
pub handed_on : {X A : Type 0} (view : X → A) (k : Checked A) (fault : Fault) (result : Result X Fault) → IsErrAnd result (λ e. e ≡ fault) → IsFaultOf (faults k) fault → NamesBy view k result
handed_on view k fault (Ok x) same h = absurd same
handed_on view k fault (Err e) same h = subst (λ f. IsFaultOf (faults k) f) (sym same) h
