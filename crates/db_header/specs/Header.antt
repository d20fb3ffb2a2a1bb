-- What the first 100 bytes of a database file say (Database File Format, "The Database Header").
use Rattle.sqlval.specs.PageSizes.{IsPageSize}
use Rattle.std.specs.Prelude.{◌≡◌, ◌≤◌, ◌&&◌, ℕ, List, [], ◌∷◌, ◌++◌, length, take, drop, replicate, codes, not, ◌==◌, Option, Some, None, if◌then◌else◌}
use Rattle.byteorder.specs.Endian.{big_number}
use Rattle.db_header.specs.declared.fields.Header.{Header}

-- the text at the front and a zero byte (Database File Format, "Magic Header String")
abbrev pub magic : List ℕ
magic = codes "SQLite format 3" ++ 0 ∷ []

-- the number in the two bytes from an offset on, big-endian
unfoldable pub two_at : ℕ → List ℕ → ℕ
two_at offset bytes = big_number 2 (drop offset bytes)

-- the number in the four bytes from an offset on, big-endian
unfoldable pub four_at : ℕ → List ℕ → ℕ
four_at offset bytes = big_number 4 (drop offset bytes)

-- the page size that a number of two bytes says: 1 stands for 65536 (Database File Format, "Page Size")
unfoldable pub size_said : ℕ → ℕ
size_said number = if number == 1 then 65536 else number

-- so many bytes from an offset on
abbrev pub part : ℕ → ℕ → List ℕ → List ℕ
part offset size bytes = take size (drop offset bytes)

-- The first 100 bytes are a header that says this (Database File Format, "The Database Header", the table of
-- fields): a file in WAL mode with no reserved bytes, schema format 4, UTF-8 and no auto-vacuum.
pub record IsHeader (bytes : List ℕ) (header : Header) : Type 0 where
  pub long : 100 ≤ length bytes
  pub text : part 0 16 bytes ≡ magic
  pub page_size : size_said (two_at 16 bytes) ≡ header.page_size
  pub served : IsPageSize header.page_size
  pub versions : part 18 2 bytes ≡ 2 ∷ 2 ∷ []
  pub reserved : part 20 1 bytes ≡ 0 ∷ []
  pub fractions : part 21 3 bytes ≡ 64 ∷ 32 ∷ 32 ∷ []
  pub change_counter : four_at 24 bytes ≡ header.change_counter
  pub size : four_at 28 bytes ≡ header.size
  pub freelist_trunk : four_at 32 bytes ≡ header.freelist_trunk
  pub freelist_count : four_at 36 bytes ≡ header.freelist_count
  pub schema_cookie : four_at 40 bytes ≡ header.schema_cookie
  pub schema_format : four_at 44 bytes ≡ 4
  pub default_cache_size : four_at 48 bytes ≡ header.default_cache_size
  pub largest_root : four_at 52 bytes ≡ 0
  pub encoding : four_at 56 bytes ≡ 1
  pub user_version : four_at 60 bytes ≡ header.user_version
  pub vacuum : four_at 64 bytes ≡ 0
  pub application_id : four_at 68 bytes ≡ header.application_id
  pub zeros : part 72 20 bytes ≡ replicate 20 0
  pub version_valid_for : four_at 92 bytes ≡ header.version_valid_for
  pub writer_version : four_at 96 bytes ≡ header.writer_version

-- the header of a database of one page with no object
abbrev pub empty_of : ℕ → Header
empty_of page_size =
    record {
      page_size = page_size;
      change_counter = 1;
      size = 1;
      freelist_trunk = 0;
      freelist_count = 0;
      schema_cookie = 0;
      default_cache_size = 0;
      user_version = 0;
      application_id = 0;
      version_valid_for = 1;
      writer_version = 3007000;
    }

-- the number of pages, where it isn't 0 and was written at the last change (Database File Format, "In-header
-- database size")
abbrev pub counted_of : Header → Option ℕ
counted_of header = if not (header.size == 0) && header.change_counter == header.version_valid_for then Some header.size else None
