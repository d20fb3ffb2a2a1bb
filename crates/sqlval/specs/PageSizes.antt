-- The sizes that a page may have (Database File Format, "Page Size").
use Rattle.std.specs.Prelude.{◌≡◌, ◌≤◌, ◌^◌, ◌==◌, ◌||◌, ℕ, Bool}

-- a power of two from 512 to 65536
pub record IsPageSize (size : ℕ) : Type 0 where
  pub exponent : ℕ
  pub low : 9 ≤ exponent
  pub high : exponent ≤ 16
  pub power : size ≡ 2 ^ exponent

-- its test
unfoldable pub is_size : ℕ → Bool
is_size size = size == 512 || (size == 1024 || (size == 2048 || (size == 4096 || (size == 8192 || (size == 16384 || (size == 32768 || size == 65536))))))
