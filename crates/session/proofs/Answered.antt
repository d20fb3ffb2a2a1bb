-- Which refusals and faults end a transaction.
use Rattle.std.proofs.Common.{◌≡◌, ◌⊎◌, inl, inr, refl, sym, ap, subst, ◌∙◌, ℕ, List, Bool, true, false, cond}
use Rattle.std.proofs.lemmas.Bool.{false≢true}
use Rattle.sqlval.specs.Refusals.{Refusal, Memory, Io, NotADatabase, Unsupported, Damaged, Full, Syntax, NoSuch, Exists, Ambiguous, Misuse, Busy, StaleSnapshot, NoTransaction, InTransaction, NoSavepoint, NotNull, Unique, Check, Raised, RaisedRollback, RealRefused, TypeRefused, RowidFull, RowidMismatch, TooLong, RowChangedBefore, ViewReadOnly, Failed, Blank, Journal, refusal_of}
use Rattle.sqlval.specs.declared.fault.Fault.{Fault}
use Rattle.sqlval.specs.declared.fault.Fault.TheVariants as fault
use Rattle.sqlval.specs.declared.fault.RaisedText.{RaisedText}
use Rattle.session.specs.Endings.{ends_transaction, without_end}
use Rattle.session.specs.Machine.{Machine}
use Rattle.session.specs.Outcomes.{answered, left_by}
use Rattle.session.specs.Steps.{is_free}

-- it is RAISE(ROLLBACK)
abbrev pub is_ending : Refusal → Bool
is_ending (RaisedRollback text) = true
is_ending _ = false

-- it is RAISE
abbrev pub is_raise : Refusal → Bool
is_raise (Raised text) = true
is_raise (RaisedRollback text) = true
is_raise _ = false

-- a refusal that is answered as it is, and leaves the machine
pub record IsPlain (r : Refusal) : Type 0 where
  pub answer : answered r ≡ r
  pub left : (m : Machine) (c : ℕ) → left_by m c r ≡ m

-- RAISE(ROLLBACK), with its text
pub record IsEnding (r : Refusal) : Type 0 where
  pub text : List ℕ
  pub is : r ≡ RaisedRollback text

pub either_way : (r : Refusal) → IsPlain r ⊎ IsEnding r
either_way Memory = inl (record { answer = refl; left = λ m c. refl })
either_way Io = inl (record { answer = refl; left = λ m c. refl })
either_way NotADatabase = inl (record { answer = refl; left = λ m c. refl })
either_way Unsupported = inl (record { answer = refl; left = λ m c. refl })
either_way Damaged = inl (record { answer = refl; left = λ m c. refl })
either_way Full = inl (record { answer = refl; left = λ m c. refl })
either_way (Syntax place) = inl (record { answer = refl; left = λ m c. refl })
either_way NoSuch = inl (record { answer = refl; left = λ m c. refl })
either_way Exists = inl (record { answer = refl; left = λ m c. refl })
either_way Ambiguous = inl (record { answer = refl; left = λ m c. refl })
either_way Misuse = inl (record { answer = refl; left = λ m c. refl })
either_way Busy = inl (record { answer = refl; left = λ m c. refl })
either_way StaleSnapshot = inl (record { answer = refl; left = λ m c. refl })
either_way NoTransaction = inl (record { answer = refl; left = λ m c. refl })
either_way InTransaction = inl (record { answer = refl; left = λ m c. refl })
either_way NoSavepoint = inl (record { answer = refl; left = λ m c. refl })
either_way NotNull = inl (record { answer = refl; left = λ m c. refl })
either_way Unique = inl (record { answer = refl; left = λ m c. refl })
either_way Check = inl (record { answer = refl; left = λ m c. refl })
either_way (Raised text) = inl (record { answer = refl; left = λ m c. refl })
either_way RealRefused = inl (record { answer = refl; left = λ m c. refl })
either_way TypeRefused = inl (record { answer = refl; left = λ m c. refl })
either_way RowidFull = inl (record { answer = refl; left = λ m c. refl })
either_way RowidMismatch = inl (record { answer = refl; left = λ m c. refl })
either_way TooLong = inl (record { answer = refl; left = λ m c. refl })
either_way RowChangedBefore = inl (record { answer = refl; left = λ m c. refl })
either_way ViewReadOnly = inl (record { answer = refl; left = λ m c. refl })
either_way Failed = inl (record { answer = refl; left = λ m c. refl })
either_way Blank = inl (record { answer = refl; left = λ m c. refl })
either_way Journal = inl (record { answer = refl; left = λ m c. refl })
either_way (RaisedRollback text) = inr (record { text = text; is = refl })

-- what memory or room is short for ends nothing
pub free_is_plain : (r : Refusal) → is_free r ≡ true → IsPlain r
free_is_plain r free = by_way (either_way r)
  where
    by_way : IsPlain r ⊎ IsEnding r → IsPlain r
    by_way (inl plain) = plain
    by_way (inr ends) = absurd (false≢true (ap is_free (sym ends.is) ∙ free))

-- what is answered is never RAISE(ROLLBACK), and it is RAISE where the refusal is
pub answer_raises : (r : Refusal) → is_raise (answered r) ≡ is_raise r
answer_raises r = by_way (either_way r)
  where
    by_way : IsPlain r ⊎ IsEnding r → is_raise (answered r) ≡ is_raise r
    by_way (inl plain) = ap is_raise plain.answer
    by_way (inr ends) = ap (λ (x : Refusal). is_raise (answered x)) ends.is ∙ ap is_raise (sym ends.is)

-- the committed databases stay
pub left_history : (m : Machine) (c : ℕ) (r : Refusal) → (left_by m c r).history ≡ m.history
left_history m c r = by_way (either_way r)
  where
    by_way : IsPlain r ⊎ IsEnding r → (left_by m c r).history ≡ m.history
    by_way (inl plain) = ap (λ (x : Machine). x.history) (plain.left m c)
    by_way (inr ends) = ap (λ (x : Refusal). (left_by m c x).history) ends.is

-- ---- faults

-- a fault that ends no transaction
pub record IsPlainFault (f : Fault) : Type 0 where
  pub never : ends_transaction f ≡ false
  pub plain : IsPlain (refusal_of f)

-- one that does
pub record IsEndingFault (f : Fault) : Type 0 where
  pub raised : RaisedText
  pub is : f ≡ fault.Raised raised
  pub ends : raised.ends ≡ true

raised_way : (raised : RaisedText) (b : Bool) → raised.ends ≡ b → IsPlainFault (fault.Raised raised) ⊎ IsEndingFault (fault.Raised raised)
raised_way raised true is = inr (record { raised = raised; is = refl; ends = is })
raised_way raised false is = inl (record { never = is; plain = subst (λ (b : Bool). IsPlain (cond b (RaisedRollback raised.text) (Raised raised.text))) (sym is) (record { answer = refl; left = λ m c. refl }) })

pub fault_way : (f : Fault) → IsPlainFault f ⊎ IsEndingFault f
fault_way fault.Memory = inl (record { never = refl; plain = record { answer = refl; left = λ m c. refl } })
fault_way fault.Io = inl (record { never = refl; plain = record { answer = refl; left = λ m c. refl } })
fault_way fault.NotADatabase = inl (record { never = refl; plain = record { answer = refl; left = λ m c. refl } })
fault_way (fault.Unsupported feature) = inl (record { never = refl; plain = record { answer = refl; left = λ m c. refl } })
fault_way (fault.Damaged damage page) = inl (record { never = refl; plain = record { answer = refl; left = λ m c. refl } })
fault_way fault.Full = inl (record { never = refl; plain = record { answer = refl; left = λ m c. refl } })
fault_way (fault.Syntax place) = inl (record { never = refl; plain = record { answer = refl; left = λ m c. refl } })
fault_way (fault.NoSuch kind name) = inl (record { never = refl; plain = record { answer = refl; left = λ m c. refl } })
fault_way (fault.Exists name) = inl (record { never = refl; plain = record { answer = refl; left = λ m c. refl } })
fault_way (fault.Ambiguous name) = inl (record { never = refl; plain = record { answer = refl; left = λ m c. refl } })
fault_way (fault.Misuse misuse) = inl (record { never = refl; plain = record { answer = refl; left = λ m c. refl } })
fault_way fault.Busy = inl (record { never = refl; plain = record { answer = refl; left = λ m c. refl } })
fault_way fault.StaleSnapshot = inl (record { never = refl; plain = record { answer = refl; left = λ m c. refl } })
fault_way fault.NoTransaction = inl (record { never = refl; plain = record { answer = refl; left = λ m c. refl } })
fault_way fault.InTransaction = inl (record { never = refl; plain = record { answer = refl; left = λ m c. refl } })
fault_way fault.NoSavepoint = inl (record { never = refl; plain = record { answer = refl; left = λ m c. refl } })
fault_way fault.NotNull = inl (record { never = refl; plain = record { answer = refl; left = λ m c. refl } })
fault_way fault.Unique = inl (record { never = refl; plain = record { answer = refl; left = λ m c. refl } })
fault_way fault.Check = inl (record { never = refl; plain = record { answer = refl; left = λ m c. refl } })
fault_way (fault.Raised raised) = raised_way raised raised.ends refl
fault_way fault.RealRefused = inl (record { never = refl; plain = record { answer = refl; left = λ m c. refl } })
fault_way fault.TypeRefused = inl (record { never = refl; plain = record { answer = refl; left = λ m c. refl } })
fault_way fault.RowidFull = inl (record { never = refl; plain = record { answer = refl; left = λ m c. refl } })
fault_way fault.RowidMismatch = inl (record { never = refl; plain = record { answer = refl; left = λ m c. refl } })
fault_way fault.TooLong = inl (record { never = refl; plain = record { answer = refl; left = λ m c. refl } })
fault_way fault.RowChangedBefore = inl (record { never = refl; plain = record { answer = refl; left = λ m c. refl } })
fault_way fault.ViewReadOnly = inl (record { never = refl; plain = record { answer = refl; left = λ m c. refl } })
fault_way fault.Failed = inl (record { never = refl; plain = record { answer = refl; left = λ m c. refl } })
fault_way fault.Blank = inl (record { never = refl; plain = record { answer = refl; left = λ m c. refl } })
fault_way fault.Journal = inl (record { never = refl; plain = record { answer = refl; left = λ m c. refl } })

-- what ends a transaction is RAISE(ROLLBACK)
abbrev pub ending_refusal : (f : Fault) → IsEndingFault f → IsEnding (refusal_of f)
ending_refusal f ends = record {
  text = ends.raised.text;
  is = ap refusal_of ends.is ∙ ap (λ (b : Bool). cond b (RaisedRollback ends.raised.text) (Raised ends.raised.text)) ends.ends;
}

-- and it is answered as RAISE with its text
pub answered_fault : (f : Fault) → IsEndingFault f → refusal_of (without_end f) ≡ answered (refusal_of f)
answered_fault f ends = ap (λ (x : Fault). refusal_of (without_end x)) ends.is ∙ sym (ap answered (ending_refusal f ends).is)

-- a fault that ends a transaction is answered as no other fault
pub ended_is_raised : (f e : Fault) → IsEndingFault f → without_end f ≡ e → is_raise (refusal_of e) ≡ true
ended_is_raised f e ends is = ap (λ (x : Fault). is_raise (refusal_of x)) (sym is) ∙ ap (λ (x : Fault). is_raise (refusal_of (without_end x))) ends.is
