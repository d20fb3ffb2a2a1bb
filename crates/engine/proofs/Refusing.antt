-- Why statements are refused: a database is full where it may be.
use Rattle.std.proofs.Common.{◌≡◌, ◌⊎◌, inl, inr, refl, sym, subst, ◌∙◌, ℕ, Bool}
use Rattle.std.specs.Prelude.{IsFalse, IsTrue, Result, Ok, Err, IfOk, IfErr, OnOk, IsErrAnd}
use Rattle.std.proofs.lemmas.Bool.{false≢true}
use Rattle.sqlval.specs.declared.fault.Fault.{Fault}
use Rattle.sqlval.specs.declared.fault.Fault.TheVariants.{Memory, Io, NotADatabase, Unsupported, Damaged, Full, Syntax, NoSuch, Exists, Ambiguous, Misuse, Busy, StaleSnapshot, NoTransaction, InTransaction, NoSavepoint, NotNull, Unique, Check, Raised, RealRefused, TypeRefused, RowidFull, RowidMismatch, TooLong, RowChangedBefore, ViewReadOnly, Failed, Blank, Journal}
use Rattle.sqlval.specs.declared.fault.Damage.TheVariants as damages
use Rattle.sqlval.specs.declared.fault.Feature.TheVariants as features
use Rattle.wal.specs.Refusals.{IsCutRefusal, IsOpenRefusal}
use Rattle.pages.specs.Calls.{Causes, IsCause}

pub full_of : {T : Type 0} (flag : Bool) (result : Result T Fault) (old new : ℕ × ℕ) → Causes result old new (IsTrue flag) → result ≡ Err Full → IsTrue flag
full_of flag result old new causes is = (let why : IsCause old new (IsTrue flag) Full = subst (λ r. IfErr r (IsCause old new (IsTrue flag))) is causes.why in why.full refl)

-- of a refused call nothing is to be shown where it answers Ok
pub never_ok : {T : Type 0} (P : Type 0) (result : Result T Fault) (fault : Fault) → IsErrAnd result (λ e. e ≡ fault) → OnOk result P
never_ok P (Ok x) fault is = absurd is
never_ok P (Err e) fault is = tt

-- what follows of the refusal that a call's refusal is
pub no_ok : {T : Type 0} (P : T → Type 0) (result : Result T Fault) (fault : Fault) → IsErrAnd result (λ e. e ≡ fault) → IfOk result P
no_ok P (Ok x) fault is = absurd is
no_ok P (Err e) fault is = tt

pub on_err : {T : Type 0} (P : Fault → Type 0) (result : Result T Fault) (fault : Fault) → IsErrAnd result (λ e. e ≡ fault) → P fault → IfErr result P
on_err P (Ok x) fault is holds = tt
on_err P (Err e) fault is holds = subst P (sym is) holds

-- a cut of the log is refused where a call fails, or one had failed before, and then it left the log as it was
pub cut_why : {D : Type 0} (has_failed : Bool) (old new : D) (failed fails : ℕ) (fault : Fault) → IsCutRefusal has_failed old new failed fails fault → (fault ≡ Io) ⊎ (new ≡ old) × IsTrue has_failed
cut_why has_failed old new failed fails Io refusal = inl refl
cut_why has_failed old new failed fails Failed refusal = inr refusal
cut_why has_failed old new failed fails NotADatabase refusal = absurd refusal
cut_why has_failed old new failed fails (Unsupported feature) refusal = absurd refusal
cut_why has_failed old new failed fails (Damaged damage page) refusal = absurd refusal
cut_why has_failed old new failed fails Full refusal = absurd refusal
cut_why has_failed old new failed fails (Syntax at) refusal = absurd refusal
cut_why has_failed old new failed fails (NoSuch kind name) refusal = absurd refusal
cut_why has_failed old new failed fails (Exists name) refusal = absurd refusal
cut_why has_failed old new failed fails (Ambiguous name) refusal = absurd refusal
cut_why has_failed old new failed fails (Misuse misuse) refusal = absurd refusal
cut_why has_failed old new failed fails Busy refusal = absurd refusal
cut_why has_failed old new failed fails StaleSnapshot refusal = absurd refusal
cut_why has_failed old new failed fails NoTransaction refusal = absurd refusal
cut_why has_failed old new failed fails InTransaction refusal = absurd refusal
cut_why has_failed old new failed fails NoSavepoint refusal = absurd refusal
cut_why has_failed old new failed fails NotNull refusal = absurd refusal
cut_why has_failed old new failed fails Unique refusal = absurd refusal
cut_why has_failed old new failed fails Check refusal = absurd refusal
cut_why has_failed old new failed fails (Raised text) refusal = absurd refusal
cut_why has_failed old new failed fails RealRefused refusal = absurd refusal
cut_why has_failed old new failed fails TypeRefused refusal = absurd refusal
cut_why has_failed old new failed fails RowidFull refusal = absurd refusal
cut_why has_failed old new failed fails RowidMismatch refusal = absurd refusal
cut_why has_failed old new failed fails TooLong refusal = absurd refusal
cut_why has_failed old new failed fails RowChangedBefore refusal = absurd refusal
cut_why has_failed old new failed fails ViewReadOnly refusal = absurd refusal
cut_why has_failed old new failed fails Blank refusal = absurd refusal
cut_why has_failed old new failed fails Journal refusal = absurd refusal
cut_why has_failed old new failed fails Memory refusal = absurd refusal

-- a refusal except for a failed call left the log as it was
pub cut_kept : {D : Type 0} (has_failed : Bool) (old new : D) (failed fails : ℕ) (fault : Fault) → IsCutRefusal has_failed old new failed fails fault → (fault ≡ Io → ⊥) → new ≡ old
cut_kept has_failed old new failed fails fault refusal other = elim (cut_why has_failed old new failed fails fault refusal) [ inl io ↦ absurd (other io) | inr kept ↦ kept.0 ]

-- where none had failed before, a call fails
pub cut_failed : {D : Type 0} (has_failed : Bool) (old new : D) (failed fails : ℕ) (fault : Fault) → IsCutRefusal has_failed old new failed fails fault → IsFalse has_failed → fault ≡ Io
cut_failed has_failed old new failed fails fault refusal whole = elim (cut_why has_failed old new failed fails fault refusal) [ inl io ↦ io | inr kept ↦ absurd (false≢true (sym whole ∙ kept.1)) ]

-- files that can be opened are refused when out of memory, or where a call fails
pub open_why : (has_called cannot : Type 0) (fault : Fault) → IsOpenRefusal has_called cannot fault → (fault ≡ Memory) ⊎ (fault ≡ Io) ⊎ cannot
open_why has_called cannot Memory refusal = inl refl
open_why has_called cannot Io refusal = inr (inl refl)
open_why has_called cannot (Damaged damages.Header page) refusal = inr (inr refusal.1)
open_why has_called cannot (Damaged damages.Size page) refusal = inr (inr refusal.1)
open_why has_called cannot (Damaged damages.Page page) refusal = absurd refusal
open_why has_called cannot (Damaged damages.Cell page) refusal = absurd refusal
open_why has_called cannot (Damaged damages.FreeSpace page) refusal = absurd refusal
open_why has_called cannot (Damaged damages.Record page) refusal = absurd refusal
open_why has_called cannot (Damaged damages.Order page) refusal = absurd refusal
open_why has_called cannot (Damaged damages.Depth page) refusal = absurd refusal
open_why has_called cannot (Damaged damages.UsedTwice page) refusal = absurd refusal
open_why has_called cannot (Damaged damages.Unused page) refusal = absurd refusal
open_why has_called cannot (Damaged damages.Freelist page) refusal = absurd refusal
open_why has_called cannot (Damaged damages.Schema page) refusal = absurd refusal
open_why has_called cannot (Damaged damages.Index page) refusal = absurd refusal
open_why has_called cannot (Unsupported features.Float) refusal = absurd refusal
open_why has_called cannot (Unsupported features.RealColumn) refusal = absurd refusal
open_why has_called cannot (Unsupported features.PageSize) refusal = inr (inr refusal)
open_why has_called cannot (Unsupported features.FileVersion) refusal = absurd refusal
open_why has_called cannot (Unsupported features.ReservedBytes) refusal = absurd refusal
open_why has_called cannot (Unsupported features.SchemaFormat) refusal = absurd refusal
open_why has_called cannot (Unsupported features.Encoding) refusal = absurd refusal
open_why has_called cannot (Unsupported features.AutoVacuum) refusal = absurd refusal
open_why has_called cannot (Unsupported features.LogFormat) refusal = inr (inr refusal)
open_why has_called cannot (Unsupported features.PageKind) refusal = absurd refusal
open_why has_called cannot (Unsupported features.ColumnCount) refusal = absurd refusal
open_why has_called cannot (Unsupported features.SchemaObject) refusal = absurd refusal
open_why has_called cannot (Unsupported features.Limit) refusal = inr (inr refusal)
open_why has_called cannot (Unsupported features.Statement) refusal = absurd refusal
open_why has_called cannot (Unsupported features.StatementForm) refusal = absurd refusal
open_why has_called cannot (Unsupported features.Connection) refusal = absurd refusal
open_why has_called cannot Full refusal = absurd refusal
open_why has_called cannot (Syntax at) refusal = absurd refusal
open_why has_called cannot (NoSuch kind name) refusal = absurd refusal
open_why has_called cannot (Exists name) refusal = absurd refusal
open_why has_called cannot (Ambiguous name) refusal = absurd refusal
open_why has_called cannot (Misuse misuse) refusal = absurd refusal
open_why has_called cannot Busy refusal = absurd refusal
open_why has_called cannot StaleSnapshot refusal = absurd refusal
open_why has_called cannot NoTransaction refusal = absurd refusal
open_why has_called cannot InTransaction refusal = absurd refusal
open_why has_called cannot NoSavepoint refusal = absurd refusal
open_why has_called cannot NotNull refusal = absurd refusal
open_why has_called cannot Unique refusal = absurd refusal
open_why has_called cannot Check refusal = absurd refusal
open_why has_called cannot (Raised text) refusal = absurd refusal
open_why has_called cannot RealRefused refusal = absurd refusal
open_why has_called cannot TypeRefused refusal = absurd refusal
open_why has_called cannot RowidFull refusal = absurd refusal
open_why has_called cannot RowidMismatch refusal = absurd refusal
open_why has_called cannot TooLong refusal = absurd refusal
open_why has_called cannot RowChangedBefore refusal = absurd refusal
open_why has_called cannot ViewReadOnly refusal = absurd refusal
open_why has_called cannot Blank refusal = absurd refusal
open_why has_called cannot Journal refusal = absurd refusal
open_why has_called cannot Failed refusal = absurd refusal
open_why has_called cannot NotADatabase refusal = absurd refusal
