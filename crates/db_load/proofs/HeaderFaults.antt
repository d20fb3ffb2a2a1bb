-- A header is refused for nothing of a disk's calls.
use Rattle.std.proofs.Common.{◌≡◌, sym, subst, ℕ, List, Bool, true, false}
use Rattle.std.specs.Prelude.{Result, Ok, Err, Option, Some, None, IfErr, if◌then◌else◌}
use Rattle.sqlval.specs.Faults.{IsNotDiskFault}
use Rattle.sqlval.specs.declared.fault.Fault.{Fault}
use Rattle.sqlval.specs.declared.fault.Fault.TheVariants.{NotADatabase, Unsupported, Damaged, Io, Full}
use Rattle.sqlval.specs.declared.fault.Feature.{Feature}
use Rattle.sqlval.specs.declared.fault.Damage.TheVariants as damage
use Rattle.db_header.specs.Reading.{header_at, has_text, feature_of, is_fixed, fields_of, unless}
use Rattle.db_header.specs.declared.fields.Header.{Header}

abbrev NoDisk : Result Header Fault → Type 0
NoDisk result = IfErr result IsNotDiskFault

each_header : (has : Bool) (feature : Option Feature) (fixed : Bool) (h : Header) → NoDisk (if has then unless feature (if fixed then Ok h else Err (Damaged damage.Header 1)) else Err NotADatabase)
each_header false feature fixed h = ((λ bad. (let b : NotADatabase ≡ Io = bad in cc)), (λ bad. (let b : NotADatabase ≡ Full = bad in cc)))
each_header true (Some f) fixed h = ((λ bad. (let b : Unsupported f ≡ Io = bad in cc)), (λ bad. (let b : Unsupported f ≡ Full = bad in cc)))
each_header true None true h = tt
each_header true None false h = ((λ bad. (let b : Damaged damage.Header 1 ≡ Io = bad in cc)), (λ bad. (let b : Damaged damage.Header 1 ≡ Full = bad in cc)))

pub header_fault : (bytes : List ℕ) (result : Result Header Fault) → result ≡ header_at bytes → NoDisk result
unfolding header_at has_text
header_fault bytes result is = subst NoDisk (sym is) (each_header (has_text bytes) (feature_of bytes) (is_fixed bytes) (fields_of bytes))
