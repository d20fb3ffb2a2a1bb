-- The spelling of a header (Database File Format, "The Database Header").
use Rattle.std.specs.Prelude.{◌≡◌, ◌≤◌, ◌<◌, ℕ, List, length, take, slice_index}
use Rattle.byteorder.specs.Endian.{big_number}
use Rattle.db_header.specs.Header.{size_said}

-- each number is a byte
abbrev pub IsBytes : List ℕ → Type 0
IsBytes bytes = (i : ℕ) → slice_index bytes i < 256

-- two bytes that spell a page size, big-endian, are these
abbrev pub IsOnlySizeSpelling : ℕ → List ℕ → Type 0
IsOnlySizeSpelling size spelling = (bytes : List ℕ) → 2 ≤ length bytes → IsBytes bytes → size_said (big_number 2 bytes) ≡ size → take 2 bytes ≡ spelling

-- so many bytes that spell a number, big-endian, are these
abbrev pub IsOnlySpelling : ℕ → ℕ → List ℕ → Type 0
IsOnlySpelling size n spelling = (bytes : List ℕ) → size ≤ length bytes → IsBytes bytes → big_number size bytes ≡ n → take size bytes ≡ spelling
