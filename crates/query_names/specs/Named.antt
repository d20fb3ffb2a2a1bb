-- What a call looked up, beside what its text stands for.
use Rattle.std.specs.Prelude.{◌≡◌, [], Result, Ok, Err}
use Rattle.sqlval.specs.declared.fault.Fault.{Fault}
use Rattle.query_names.specs.Bound.{IsFaultOf}
use Rattle.query_names.specs.Checked.{Checked, Meant, faults}

-- What was looked up, seen by `view`, is what the text stands for, of which nothing is refused; or the fault is one of its refusals,
-- or no memory.
abbrev pub NamesBy : {X A : Type 0} → (X → A) → Checked A → Result X Fault → Type 0
NamesBy view k (Ok x) = k ≡ Meant (view x) []
NamesBy view k (Err f) = IsFaultOf (faults k) f

-- the same of a call that gives what the text stands for
abbrev pub Names : {A : Type 0} → Checked A → Result A Fault → Type 0
Names k result = NamesBy (λ x. x) k result
