-- A blank file is refused as such.
use Rattle.std.proofs.Common.{◌≡◌, inl, inr, sym, subst, ◌∙◌, Bool, true, ℕ, List}
use Rattle.std.specs.Prelude.{Result, Ok, Err, MatchResult, IfErr, IsErrAnd}
use Rattle.sqlval.specs.declared.fault.Fault.{Fault}
use Rattle.sqlval.specs.declared.fault.Fault.TheVariants.{Io, Blank}
use Rattle.wal.specs.Refusals.{IsOpenRefusal}
use Rattle.engine.specs.Creating.{is_blank_content}
use Rattle.engine.specs.Opening.{TellsBlank}

-- what is answered of these bytes
abbrev pub AnswersBlank : {T : Type 0} → List ℕ → Result T Fault → Type 0
AnswersBlank bytes result = MatchResult result (λ _. is_blank_content bytes ≡ true → ⊥) (TellsBlank bytes)

pub failed : (bytes : List ℕ) (fault : Fault) → fault ≡ Io → TellsBlank bytes fault
failed bytes fault io = record { only = λ is. (let bad : Io ≡ Blank = sym io ∙ is in cc); always = λ blank. inr io }

-- the first refusal, of a file that is blank
pub told_blank : (bytes : List ℕ) (fault : Fault) → fault ≡ Blank → is_blank_content bytes ≡ true → TellsBlank bytes fault
told_blank bytes fault is blank = record { only = λ is. blank; always = λ blank. inl is }

-- a refusal of another kind, of a file that isn't
pub other_refusal : (bytes : List ℕ) (fault : Fault) → (is_blank_content bytes ≡ true → ⊥) → (fault ≡ Blank → ⊥) → TellsBlank bytes fault
other_refusal bytes fault isnt other = record { only = λ is. absurd (other is); always = λ blank. absurd (isnt blank) }

-- reading two files isn't refused so
pub open_not_blank : (called cannot : Type 0) (fault : Fault) → IsOpenRefusal called cannot fault → fault ≡ Blank → ⊥
open_not_blank called cannot fault refusal is = subst (λ (f : Fault). IsOpenRefusal called cannot f) is refusal

pub call_failed : {T : Type 0} (bytes : List ℕ) (result : Result T Fault) (fault : Fault) → IsErrAnd result (λ e. e ≡ fault) → fault ≡ Io → AnswersBlank bytes result
call_failed bytes (Ok x) fault is io = absurd is
call_failed bytes (Err e) fault is io = failed bytes e (is ∙ io)

pub no_blank : {T : Type 0} (bytes : List ℕ) (result : Result T Fault) → (is_blank_content bytes ≡ true → ⊥) → IfErr result (λ fault. fault ≡ Blank → ⊥) → AnswersBlank bytes result
no_blank bytes (Ok x) isnt other = isnt
no_blank bytes (Err e) isnt other = other_refusal bytes e isnt other
