-- What a bound query reads.
use Rattle.std.proofs.Common.{◌≡◌, inl, inr, sym, ap, subst, ◌∙◌, List, [], MatchResult, Result, Ok, Err}
use Rattle.std.specs.Prelude.{Contains, IsErrAnd}
use Rattle.sqlval.specs.Faults.{IsOutside}
use Rattle.sqlval.specs.Refusals.{Answer, refusal_of}
use Rattle.sqlval.specs.declared.fault.Fault.{Fault}
use Rattle.sqlval.specs.declared.value.Value.{Value}
use Rattle.query_names.specs.Bound.{IsFaultOf}
use Rattle.query_names.specs.Checked.{Checked, Meant, faults}
use Rattle.query_terms.specs.Outcome.{AnswersBy}
use Rattle.row_scan.specs.Trees.{AnswersOrFails}
use Rattle.executor.specs.Reading.{AnswersRead}

abbrev pub Rows : Type 0
Rows = List (List Value)

pub answers : {X : Type 0} (view : X → Rows) (answer : Answer Rows) (result : Result X Fault) → AnswersBy view answer result → AnswersOrFails view answer result
answers view answer (Ok x) is = is
answers view answer (Err e) (inl memory) = inl (inl memory)
answers view answer (Err e) (inr refused) = inr refused

pub bound_read : {X : Type 0} (view : X → Rows) (answer : Answer Rows) (read : Checked (Answer Rows)) (result : Result X Fault) → read ≡ Meant answer [] → AnswersOrFails view answer result → AnswersRead view read result
bound_read view answer read (Ok x) is answered = is ∙ ap (λ a. Meant a []) answered
bound_read view answer read (Err e) is (inl outside) = inl outside
bound_read view answer read (Err e) is (inr refused) = inr (inr (is ∙ ap (λ a. Meant a []) refused))

-- a refusal that the text has
pub refused_by_text : {X : Type 0} (view : X → Rows) (read : Checked (Answer Rows)) (f : Fault) → IsFaultOf (faults read) f → AnswersRead view read (Err f)
refused_by_text view read f (inl memory) = inl (inl memory)
refused_by_text view read f (inr has) = inr (inl has)

pub unbound_read : {X : Type 0} (view : X → Rows) (read : Checked (Answer Rows)) (result : Result X Fault) (f : Fault) → IsErrAnd result (λ e. e ≡ f) → IsFaultOf (faults read) f → AnswersRead view read result
unbound_read view read (Ok x) f is why = absurd is
unbound_read view read (Err e) f is (inl memory) = inl (inl (is ∙ memory))
unbound_read view read (Err e) f is (inr has) = inr (inl (subst (λ (x : Fault). Contains (faults read) (refusal_of x)) (sym is) has))

-- where memory is short, or a disk's call fails, before the rows are there
pub outside_fails : {X : Type 0} (view : X → Rows) (answer : Answer Rows) (result : Result X Fault) (f : Fault) → IsErrAnd result (λ e. e ≡ f) → IsOutside f → AnswersOrFails view answer result
outside_fails view answer (Ok x) f is outside = absurd is
outside_fails view answer (Err e) f is outside = inl (subst IsOutside (sym is) outside)

-- a refusal that a call hands on has its cause
pub handed_on : {X : Type 0} (P : X → Type 0) (Q : Fault → Type 0) (r : Result X Fault) (f : Fault) → IsErrAnd r (λ e. e ≡ f) → Q f → MatchResult r P Q
handed_on P Q (Ok x) f is why = absurd is
handed_on P Q (Err e) f is why = subst Q (sym is) why
