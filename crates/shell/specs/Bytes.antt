-- Characters of a text, as far as their number goes.
use Rattle.std.specs.Prelude.{ℕ, Bool, ◌||◌, List, nat_lt, nat_le}
use Rattle.std.specs.List.{count_by}

-- the first byte of a character of UTF-8
abbrev pub begins_character : ℕ → Bool
begins_character b = nat_lt b 128 || nat_le 192 b

-- how many characters a text has
abbrev pub character_count : List ℕ → ℕ
character_count text = count_by begins_character text
