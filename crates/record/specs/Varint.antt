-- Variable-length integers: one to nine bytes, the high bits first (Database File Format, "B-tree Pages").
use Rattle.std.specs.Prelude.{◌≡◌, ◌⊎◌, ◌<◌, ◌≤◌, ◌^◌, ◌+◌, ◌-◌, ◌*◌, ◌/◌, ◌%◌, ℕ, zero, suc, List, [], ◌∷◌, ◌++◌, length, map, fold, Option, Some, None, nat_lt, if◌then◌else◌}
use Rattle.std.specs.List.{AllByRecursion}

-- ---- the relation

-- the number with these digits to base 128
abbrev pub base128 : List ℕ → ℕ
base128 digits = fold (λ n digit. 128 * n + digit) 0 digits

-- these digits with the top bit set
abbrev pub marked : List ℕ → List ℕ
marked digits = map (λ digit. 128 + digit) digits

-- each is a digit to base 128
abbrev pub AreDigits : List ℕ → Type 0
AreDigits digits = AllByRecursion (λ digit. digit < 128) digits

-- Of `most` bytes that go on at most, `count` with the number `high` came. Where fewer than that many came, the last
-- byte gives seven bits, else eight.
abbrev pub Ends : ℕ → ℕ → ℕ → ℕ → ℕ → Type 0
Ends most count high last n = ((count < most) × (last < 128) × (n ≡ 128 * high + last)) ⊎ ((count ≡ most) × (last < 256) × (n ≡ 256 * high + last))

-- The bytes are one whole varint of n (Database File Format, "B-tree Pages"): bytes with the top bit set, and one last byte.
pub record IsVarint (bytes : List ℕ) (n : ℕ) : Type 0 where
  pub high : List ℕ
  pub last : ℕ
  pub spelled : bytes ≡ marked high ++ last ∷ []
  pub seven : AreDigits high
  pub ends : Ends 8 (length high) (base128 high) last n

-- and no varint of n is shorter
pub record IsShortestVarint (bytes : List ℕ) (n : ℕ) : Type 0 where
  pub is : IsVarint bytes n
  pub least : (other : List ℕ) → IsVarint other n → length bytes ≤ length other

-- ---- reading from left to right

-- the number that goes on where `left` bytes may still go on and `high` came before
abbrev pub varint_from : ℕ → ℕ → List ℕ → Option (ℕ × List ℕ)
varint_from left high [] = None
varint_from zero high (byte ∷ bytes) = Some (high * 256 + byte, bytes)
varint_from (suc left) high (byte ∷ bytes) =
    if nat_lt byte 128 then Some (high * 128 + byte, bytes) else varint_from left (high * 128 + (byte - 128)) bytes

-- the number at the front, and the bytes after it
unfoldable pub varint_at : List ℕ → Option (ℕ × List ℕ)
varint_at bytes = varint_from 8 0 bytes

-- ---- writing: the one shortest spelling

-- the lowest digits of n to base 128, the highest of them first
abbrev pub digits : ℕ → ℕ → List ℕ
digits zero n = []
digits (suc count) n = digits count (n / 128) ++ n % 128 ∷ []

-- how many bytes go on before the last
unfoldable pub high_count : ℕ → ℕ
high_count n =
    if nat_lt n (2 ^ 7) then 0
    else (if nat_lt n (2 ^ 14) then 1
    else (if nat_lt n (2 ^ 21) then 2
    else (if nat_lt n (2 ^ 28) then 3
    else (if nat_lt n (2 ^ 35) then 4
    else (if nat_lt n (2 ^ 42) then 5
    else (if nat_lt n (2 ^ 49) then 6
    else (if nat_lt n (2 ^ 56) then 7 else 8)))))))

-- the bytes of so many digits that go on
abbrev pub going_on : ℕ → ℕ → List ℕ
going_on count n = marked (digits count n)

-- the writer's spelling of a number
unfoldable pub varint : ℕ → List ℕ
varint n =
    if nat_lt n (2 ^ 56) then going_on (high_count n) (n / 128) ++ n % 128 ∷ []
    else going_on 8 (n / 256) ++ n % 256 ∷ []
