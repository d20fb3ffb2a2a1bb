-- Which refusals of opening there are.
use Rattle.std.proofs.Common.{◌≡◌, inl, inr, sym, subst, ℕ, List, Bool, true, false, Option, Some, None}
use Rattle.std.specs.Prelude.{IfErr, IsErrAnd, IsFalse, Result, Ok, Err, if◌then◌else◌}
use Rattle.sqlval.specs.declared.fault.Fault.{Fault}
use Rattle.sqlval.specs.declared.fault.Fault.TheVariants.{Memory, Io, NotADatabase, Unsupported, Damaged, Full, Syntax, NoSuch, Exists, Ambiguous, Misuse, Busy, StaleSnapshot, NoTransaction, InTransaction, NoSavepoint, NotNull, Unique, Check, Raised, RealRefused, TypeRefused, RowidFull, RowidMismatch, TooLong, RowChangedBefore, ViewReadOnly, Failed, Blank, Journal}
use Rattle.sqlval.specs.declared.fault.Damage.TheVariants as damage
use Rattle.sqlval.specs.declared.fault.Feature.{Feature}
use Rattle.db_header.specs.Reading.{feature_of, fields_of, has_text, header_at, is_fixed, unless}
use Rattle.db_header.specs.declared.fields.Header.{Header}
use Rattle.wal.specs.Refusals.{IsCutRefusal, IsOpenRefusal}
use Rattle.db_load.specs.Loading.{IsLoadFault}
use Rattle.engine.specs.Opening.{IsOpenFault}
use Rattle.engine.proofs.Refusing.{cut_failed, on_err}

-- memory
pub memory_listed : {T : Type 0} (result : Result T Fault) → IfErr result (λ fault. fault ≡ Memory) → IfErr result IsLoadFault
memory_listed (Ok x) memory = tt
memory_listed (Err fault) memory = subst IsLoadFault (sym memory) tt

-- a call of a disk
pub io_listed : (fault : Fault) → fault ≡ Io → IsLoadFault fault
io_listed fault io = subst IsLoadFault (sym io) tt

pub call_listed : {T : Type 0} (result : Result T Fault) (fault : Fault) → IsErrAnd result (λ e. e ≡ fault) → fault ≡ Io → IfErr result IsOpenFault
call_listed result fault same io = on_err IsOpenFault result fault same (inl (io_listed fault io))

-- the log's cut
pub cut_listed : {D : Type 0} (has_failed : Bool) (old new : D) (failed fails : ℕ) (fault : Fault) → IsCutRefusal has_failed old new failed fails fault → IsFalse has_failed → IsLoadFault fault
cut_listed has_failed old new failed fails fault refusal whole = io_listed fault (cut_failed has_failed old new failed fails fault refusal whole)

-- the log
pub log_listed : (called cannot : Type 0) (fault : Fault) → IsOpenRefusal called cannot fault → IsLoadFault fault
log_listed called cannot Memory refusal = tt
log_listed called cannot Io refusal = tt
log_listed called cannot NotADatabase refusal = tt
log_listed called cannot (Unsupported feature) refusal = tt
log_listed called cannot (Damaged damage page) refusal = tt
log_listed called cannot Full refusal = absurd refusal
log_listed called cannot (Syntax at) refusal = absurd refusal
log_listed called cannot (NoSuch kind name) refusal = absurd refusal
log_listed called cannot (Exists name) refusal = absurd refusal
log_listed called cannot (Ambiguous name) refusal = absurd refusal
log_listed called cannot (Misuse misuse) refusal = absurd refusal
log_listed called cannot Busy refusal = absurd refusal
log_listed called cannot StaleSnapshot refusal = absurd refusal
log_listed called cannot NoTransaction refusal = absurd refusal
log_listed called cannot InTransaction refusal = absurd refusal
log_listed called cannot NoSavepoint refusal = absurd refusal
log_listed called cannot NotNull refusal = absurd refusal
log_listed called cannot Unique refusal = absurd refusal
log_listed called cannot Check refusal = absurd refusal
log_listed called cannot (Raised text) refusal = absurd refusal
log_listed called cannot RealRefused refusal = absurd refusal
log_listed called cannot TypeRefused refusal = absurd refusal
log_listed called cannot RowidFull refusal = absurd refusal
log_listed called cannot RowidMismatch refusal = absurd refusal
log_listed called cannot TooLong refusal = absurd refusal
log_listed called cannot RowChangedBefore refusal = absurd refusal
log_listed called cannot ViewReadOnly refusal = absurd refusal
log_listed called cannot Failed refusal = absurd refusal
log_listed called cannot Blank refusal = absurd refusal
log_listed called cannot Journal refusal = absurd refusal

-- none of these is a blank file's
pub load_not_blank : (fault : Fault) → IsLoadFault fault → fault ≡ Blank → ⊥
load_not_blank fault listed is = subst IsLoadFault is listed

-- the header
abbrev HeaderListed : Result Header Fault → Type 0
HeaderListed result = IfErr result IsOpenFault

each_header : (has : Bool) (feature : Option Feature) (fixed : Bool) (h : Header) → IfErr (if has then unless feature (if fixed then Ok h else Err (Damaged damage.Header 1)) else Err NotADatabase) IsOpenFault
each_header false feature fixed h = inl tt
each_header true (Some f) fixed h = inl tt
each_header true None true h = tt
each_header true None false h = inl tt

pub header_listed : (bytes : List ℕ) (result : Result Header Fault) → result ≡ header_at bytes → IfErr result IsOpenFault
unfolding header_at has_text
header_listed bytes result is = subst HeaderListed (sym is) (each_header (has_text bytes) (feature_of bytes) (is_fixed bytes) (fields_of bytes))
