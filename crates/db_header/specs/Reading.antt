-- Reading a header, with the first refusal.
use Rattle.sqlval.specs.PageSizes.{is_size}
use Rattle.std.specs.Prelude.{ℕ, List, [], ◌∷◌, length, replicate, Bool, ◌==◌, ◌&&◌, nat_le, not, Option, Some, None, Result, Ok, Err, if◌then◌else◌}
use Rattle.std.specs.Str.{bytes_eq}
use Rattle.sqlval.specs.declared.fault.Fault.{Fault}
use Rattle.sqlval.specs.declared.fault.Fault.TheVariants.{NotADatabase, Unsupported, Damaged}
use Rattle.sqlval.specs.declared.fault.Feature.{Feature}
use Rattle.sqlval.specs.declared.fault.Damage.TheVariants as Damage
use Rattle.db_header.specs.declared.fields.Header.{Header}
use Rattle.db_header.specs.Header.{magic, two_at, four_at, part, size_said}

-- whether the bytes are long enough and begin as those of a database file do
unfoldable pub has_text : List ℕ → Bool
has_text bytes = nat_le 100 (length bytes) && bytes_eq (part 0 16 bytes) magic

-- the first thing outside what is supported
unfoldable pub feature_of : List ℕ → Option Feature
feature_of bytes =
    if not (is_size (size_said (two_at 16 bytes))) then Some Feature.PageSize
    else (if not (bytes_eq (part 18 2 bytes) (2 ∷ 2 ∷ [])) then Some Feature.FileVersion
    else (if not (bytes_eq (part 20 1 bytes) (0 ∷ [])) then Some Feature.ReservedBytes
    else (if not (four_at 44 bytes == 4) then Some Feature.SchemaFormat
    else (if not (four_at 52 bytes == 0) then Some Feature.AutoVacuum
    else (if not (four_at 64 bytes == 0) then Some Feature.AutoVacuum
    else (if not (four_at 56 bytes == 1) then Some Feature.Encoding else None))))))

-- whether the bytes that are the same in every file are so
unfoldable pub is_fixed : List ℕ → Bool
is_fixed bytes = bytes_eq (part 21 3 bytes) (64 ∷ 32 ∷ 32 ∷ []) && bytes_eq (part 72 20 bytes) (replicate 20 0)

-- what the numbers say
unfoldable pub fields_of : List ℕ → Header
fields_of bytes =
    record {
      page_size = size_said (two_at 16 bytes);
      change_counter = four_at 24 bytes;
      size = four_at 28 bytes;
      freelist_trunk = four_at 32 bytes;
      freelist_count = four_at 36 bytes;
      schema_cookie = four_at 40 bytes;
      default_cache_size = four_at 48 bytes;
      user_version = four_at 60 bytes;
      application_id = four_at 68 bytes;
      version_valid_for = four_at 92 bytes;
      writer_version = four_at 96 bytes;
    }

-- a refusal for a feature that isn't supported
abbrev pub unless : Option Feature → Result Header Fault → Result Header Fault
unless None read = read
unless (Some feature) read = Err (Unsupported feature)

-- the header at the front, or the first refusal
unfoldable pub header_at : List ℕ → Result Header Fault
header_at bytes =
    if has_text bytes then unless (feature_of bytes) (if is_fixed bytes then Ok (fields_of bytes) else Err (Damaged Damage.Header 1))
    else Err NotADatabase
