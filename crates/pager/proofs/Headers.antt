-- A header is refused for nothing of the files' calls or limits.
use Rattle.std.proofs.Common.{◌≡◌, sym, subst, ℕ, List, Bool, true, false}
use Rattle.std.specs.Prelude.{Result, Ok, Err, Option, Some, None, IfErr, if◌then◌else◌}
use Rattle.sqlval.specs.Faults.{IsNotDiskFault}
use Rattle.db_header.specs.declared.fields.Header.{Header}
use Rattle.db_header.specs.Reading.{header_at, has_text, feature_of, is_fixed, fields_of, unless}
use Rattle.sqlval.specs.declared.fault.Fault.{Fault}
use Rattle.sqlval.specs.declared.fault.Fault.TheVariants.{NotADatabase, Unsupported, Damaged, Io, Full, Blank}
use Rattle.sqlval.specs.declared.fault.Feature.{Feature}
use Rattle.sqlval.specs.declared.fault.Damage.TheVariants as damage

abbrev NoFile : Result Header Fault → Type 0
NoFile result = IfErr result (λ fault. IsNotDiskFault fault)

each_header : (has : Bool) (feature : Option Feature) (fixed : Bool) (h : Header) → IfErr (if has then unless feature (if fixed then Ok h else Err (Damaged damage.Header 1)) else Err NotADatabase) (λ fault. IsNotDiskFault fault)
each_header false feature fixed h = ((λ bad. (let b : NotADatabase ≡ Io = bad in cc)), (λ bad. (let b : NotADatabase ≡ Full = bad in cc)))
each_header true (Some f) fixed h = ((λ bad. (let b : Unsupported f ≡ Io = bad in cc)), (λ bad. (let b : Unsupported f ≡ Full = bad in cc)))
each_header true None true h = tt
each_header true None false h = ((λ bad. (let b : Damaged damage.Header 1 ≡ Io = bad in cc)), (λ bad. (let b : Damaged damage.Header 1 ≡ Full = bad in cc)))

pub header_fault : (bytes : List ℕ) (result : Result Header Fault) → result ≡ header_at bytes → IfErr result (λ fault. IsNotDiskFault fault)
unfolding header_at has_text
header_fault bytes result is = subst NoFile (sym is) (each_header (has_text bytes) (feature_of bytes) (is_fixed bytes) (fields_of bytes))

-- nor is it a blank file's refusal
abbrev pub IsNotBlankFault : Result Header Fault → Type 0
IsNotBlankFault result = IfErr result (λ fault. fault ≡ Blank → ⊥)

no_blank_header : (has : Bool) (feature : Option Feature) (fixed : Bool) (h : Header) → IsNotBlankFault (if has then unless feature (if fixed then Ok h else Err (Damaged damage.Header 1)) else Err NotADatabase)
no_blank_header false feature fixed h = λ bad. (let b : NotADatabase ≡ Blank = bad in cc)
no_blank_header true (Some f) fixed h = λ bad. (let b : Unsupported f ≡ Blank = bad in cc)
no_blank_header true None true h = tt
no_blank_header true None false h = λ bad. (let b : Damaged damage.Header 1 ≡ Blank = bad in cc)

pub header_not_blank : (bytes : List ℕ) (result : Result Header Fault) → result ≡ header_at bytes → IsNotBlankFault result
unfolding header_at has_text
header_not_blank bytes result is = subst IsNotBlankFault (sym is) (no_blank_header (has_text bytes) (feature_of bytes) (is_fixed bytes) (fields_of bytes))
