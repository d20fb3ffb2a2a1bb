-- Classes of bytes (SQL As Understood By SQLite, "SQLite Keywords" and "Literal Values").
use Rattle.std.specs.Prelude.{ℕ, Bool, ◌||◌, ◌==◌, nat_le}
use Rattle.std.specs.Char.{is_ascii_digit, is_ascii_alphabetic, is_ascii_hexdigit}
use Rattle.sql_lexer.specs.declared.class.Class.{Class}
use Rattle.sql_lexer.specs.declared.class.Class.TheVariants as class

-- space, tab, line feed, form feed, return
abbrev pub is_space : ℕ → Bool
is_space b = b == 32 || b == 9 || b == 10 || b == 12 || b == 13

-- a letter, `_`, or a part of a character past ASCII
abbrev pub begins_word : ℕ → Bool
begins_word b = is_ascii_alphabetic b || b == 95 || nat_le 128 b

abbrev pub is_in : Class → ℕ → Bool
is_in class.Word b = begins_word b || is_ascii_digit b || b == 36
is_in class.Digit b = is_ascii_digit b
is_in class.Hex b = is_ascii_hexdigit b
