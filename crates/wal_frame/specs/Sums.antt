-- The sums of a log (Database File Format, "Checksum Algorithm").
use Rattle.std.specs.Prelude.{ℕ, ◌+◌, ◌%◌, ◌^◌, List, [], ◌∷◌}
use Rattle.std.specs.Int.{w32, from_be_bytes, from_le_bytes}
use Rattle.wal_frame.specs.declared.sums.Sum.{Sum}
use Rattle.wal_frame.specs.declared.sums.WordOrder.{WordOrder}
use Rattle.wal_frame.specs.declared.sums.WordOrder.TheVariants.{Big, Little}

-- the word that four bytes are
abbrev pub word_of : WordOrder → List ℕ → ℕ
word_of Big bytes = from_be_bytes w32 bytes
word_of Little bytes = from_le_bytes w32 bytes

-- the words of these bytes, four bytes each; fewer at the end are none
abbrev pub words : WordOrder → List ℕ → List ℕ
words order (a ∷ b ∷ c ∷ d ∷ rest) = word_of order (a ∷ b ∷ c ∷ d ∷ []) ∷ words order rest
words order _ = []

-- a sum modulo 2^32
abbrev pub plus : ℕ → ℕ → ℕ
plus a b = (a + b) % 2 ^ 32

-- the first sum grows by a word and the second sum, then the second by the next word and the first
abbrev pub next : Sum → ℕ → ℕ → Sum
next sum x y = record {
  first = plus sum.first (plus x sum.second);
  second = plus sum.second (plus y (plus sum.first (plus x sum.second)));
}

-- the sums carried over these words, in pairs; a single one at the end is none
abbrev pub carried : Sum → List ℕ → Sum
carried sum (x ∷ y ∷ rest) = carried (next sum x y) rest
carried sum _ = sum

-- the sums of no word
abbrev pub zero_sum : Sum
zero_sum = record { first = 0; second = 0 }
