-- Refusals of parts are refusals of the whole.
use Rattle.std.proofs.Common.{inl, inr, ◌++◌}
use Rattle.std.proofs.lemmas.List.Elements.{Contains-append_left, Contains-append_right}
use Rattle.sqlval.specs.Refusals.{refusal_of}
use Rattle.sqlval.specs.declared.fault.Fault.{Fault}
use Rattle.query_names.specs.Bound.{IsFaultOf}
use Rattle.query_names.specs.Checked.{Checked, Meant, all_three, both, faults, known_map}

pub left : {A B C : Type 0} (f : A → B → C) (a : Checked A) (b : Checked B) (fault : Fault) → IsFaultOf (faults a) fault → IsFaultOf (faults (both f a b)) fault
left f (Meant x rs) (Meant y ss) fault (inl m) = inl m
left f (Meant x rs) (Meant y ss) fault (inr h) = inr (Contains-append_left rs ss (refusal_of fault) h)

pub right : {A B C : Type 0} (f : A → B → C) (a : Checked A) (b : Checked B) (fault : Fault) → IsFaultOf (faults b) fault → IsFaultOf (faults (both f a b)) fault
right f (Meant x rs) (Meant y ss) fault (inl m) = inl m
right f (Meant x rs) (Meant y ss) fault (inr h) = inr (Contains-append_right rs ss (refusal_of fault) h)

pub mapped : {A B : Type 0} (f : A → B) (a : Checked A) (fault : Fault) → IsFaultOf (faults a) fault → IsFaultOf (faults (known_map f a)) fault
mapped f (Meant x rs) fault h = h

pub first : {A B C D : Type 0} (f : A → B → C → D) (a : Checked A) (b : Checked B) (c : Checked C) (fault : Fault) → IsFaultOf (faults a) fault → IsFaultOf (faults (all_three f a b c)) fault
first f (Meant x rs) (Meant y ss) (Meant z ts) fault (inl m) = inl m
first f (Meant x rs) (Meant y ss) (Meant z ts) fault (inr h) = inr (Contains-append_left (rs ++ ss) ts (refusal_of fault) (Contains-append_left rs ss (refusal_of fault) h))

pub second : {A B C D : Type 0} (f : A → B → C → D) (a : Checked A) (b : Checked B) (c : Checked C) (fault : Fault) → IsFaultOf (faults b) fault → IsFaultOf (faults (all_three f a b c)) fault
second f (Meant x rs) (Meant y ss) (Meant z ts) fault (inl m) = inl m
second f (Meant x rs) (Meant y ss) (Meant z ts) fault (inr h) = inr (Contains-append_left (rs ++ ss) ts (refusal_of fault) (Contains-append_right rs ss (refusal_of fault) h))

pub third : {A B C D : Type 0} (f : A → B → C → D) (a : Checked A) (b : Checked B) (c : Checked C) (fault : Fault) → IsFaultOf (faults c) fault → IsFaultOf (faults (all_three f a b c)) fault
third f (Meant x rs) (Meant y ss) (Meant z ts) fault (inl m) = inl m
third f (Meant x rs) (Meant y ss) (Meant z ts) fault (inr h) = inr (Contains-append_right (rs ++ ss) ts (refusal_of fault) h)
