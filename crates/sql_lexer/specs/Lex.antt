-- Which token stands at the front of a text, and the tokens of a whole text (SQL As Understood By SQLite, "SQL Comment
-- Syntax" and "Literal Values").
use Rattle.std.specs.Prelude.{ℕ, zero, suc, ◌+◌, ◌-◌, ◌*◌, ◌^◌, ◌%◌, Bool, true, false, not, ◌&&◌, ◌||◌, if◌then◌else◌, ◌==◌, nat_lt, List, [], ◌∷◌, length, take, drop, Option, Some, None, Result, Ok, Err}
use Rattle.std.specs.Char.{is_ascii_digit}
use Rattle.std.specs.List.{prefix_len}
use Rattle.std.specs.Str.{str_eq_ignore_ascii_case}
use Rattle.sqlval.specs.declared.fault.Fault.{Fault}
use Rattle.sqlval.specs.declared.fault.Fault.TheVariants.{Syntax, RealRefused, TooLong}
use Rattle.sql_lexer.specs.Bytes.{is_space, begins_word, is_in}
use Rattle.sql_lexer.specs.Words.{words}
use Rattle.sql_lexer.specs.declared.class.Class.TheVariants as class
use Rattle.sql_lexer.specs.declared.keyword.Keyword.{Keyword}
use Rattle.sql_lexer.specs.declared.token.Kind.{Kind}
use Rattle.sql_lexer.specs.declared.token.Kind.TheVariants as k
use Rattle.sql_lexer.specs.declared.token.Token.{Token}

abbrev pub Text : Type 0
Text = List ℕ

-- a token
pub record Lexed : Type 0 where
  pub kind : Kind
  pub text : Text
  pub start : ℕ

abbrev pub seen : Token → Lexed
seen t = record { kind = t.kind; text = t.text.now; start = t.start }

-- the byte at the front, and 0 at the end
abbrev pub next_byte : Text → ℕ
next_byte [] = 0
next_byte (b ∷ z) = b

abbrev pub plus : ℕ → Option ℕ → Option ℕ
plus n None = None
plus n (Some m) = Some (n + m)

-- ---- between tokens

-- how many bytes a line goes on
abbrev pub line : Text → ℕ
line z = prefix_len (λ b. not (b == 10)) z

-- how many bytes go up to the end of a comment in `/*` and `*/`, its end with them
unfoldable pub comment : Text → Option ℕ
comment [] = None
comment (b ∷ z) = if b == 42 && next_byte z == 47 then Some 2 else plus 1 (comment z)

abbrev pub block : Option ℕ → ℕ
block None = 0
block (Some n) = n + 2

-- how many bytes the space or comment at the front has
unfoldable pub piece : Text → ℕ
piece [] = 0
piece (b ∷ []) = if is_space b then 1 else 0
piece (b ∷ c ∷ z) =
    if is_space b then 1 else (if b == 45 && c == 45 then line z + 2 else (if b == 47 && c == 42 then block (comment z) else 0))

-- the text after its first spaces and comments, of which the number bounds how many
unfoldable pub gap_from : ℕ → Text → Text
gap_from zero z = z
gap_from (suc n) z = if piece z == 0 then z else gap_from n (drop (piece z) z)

-- the text after the spaces and comments at its front
abbrev pub gap : Text → Text
gap z = gap_from (length z) z

-- ---- one token

abbrev pub lookup : List (Text × Keyword) → Text → Option Keyword
lookup [] word = None
lookup (k ∷ ks) word = if str_eq_ignore_ascii_case k.0 word then Some k.1 else lookup ks word

-- the reserved word that is spelled so
unfoldable pub reserved : Text → Option Keyword
reserved = lookup words

abbrev pub word_kind : Option Keyword → Kind
word_kind None = k.Name
word_kind (Some w) = k.Word w

unfoldable pub word : Text → Kind × ℕ
word z = let n = prefix_len (is_in class.Word) z in (word_kind (reserved (take n z)), n)

-- How many bytes go up to the closing quote, that with them.
unfoldable mutual
  pub closing : ℕ → Text → Option ℕ
  closing q [] = None
  closing q (b ∷ z) = if b == q then second q z else plus 1 (closing q z)

  -- after a quote
  pub second : ℕ → Text → Option ℕ
  second q [] = Some 1
  second q (c ∷ z) = if c == q then plus 2 (closing q z) else Some 1

-- how many bytes a blob has after `X'`
unfoldable pub blob : Text → Option ℕ
blob z = let n = prefix_len (is_in class.Hex) z in if n % 2 == 0 && next_byte (drop n z) == 39 then Some (n + 1) else None

-- the value of decimal digits after those of a number
abbrev pub number_from : ℕ → Text → ℕ
number_from n [] = n
number_from n (b ∷ z) = number_from (n * 10 + (b - 48)) z

abbrev pub digits : Text → ℕ
digits z = prefix_len (is_in class.Digit) z

-- how many bytes a point and the digits after it have
unfoldable pub fraction : Text → ℕ
fraction [] = 0
fraction (b ∷ z) = if b == 46 then digits z + 1 else 0

abbrev pub sign : Text → ℕ
sign z = if next_byte z == 43 || next_byte z == 45 then 1 else 0

-- how many bytes an exponent has
unfoldable pub exponent : Text → ℕ
exponent [] = 0
exponent (b ∷ z) =
    if (b == 101 || b == 69) && nat_lt 0 (digits (drop (sign z) z)) then digits (drop (sign z) z) + (sign z + 1) else 0

-- whether a number of this value may stand, after a minus or not
abbrev pub is_whole : Bool → ℕ → Bool
is_whole after_minus n = nat_lt n (2 ^ 63) || (n == 2 ^ 63 && after_minus)

abbrev pub whole_by : Bool → ℕ → ℕ → Result (Kind × ℕ) Fault
whole_by after_minus n len = if is_whole after_minus n then Ok (k.Integer n, len) else Err RealRefused

unfoldable pub real_len : Text → ℕ
real_len z = fraction z + exponent (drop (fraction z) z)

abbrev pub number_by : ℕ → Bool → Text → ℕ → ℕ → Result (Kind × ℕ) Fault
number_by start after_minus z whole real =
    if is_in class.Word (next_byte (drop (whole + real) z)) then Err (Syntax start)
    else (if real == 0 then whole_by after_minus (number_from 0 (take whole z)) whole else Err RealRefused)

unfoldable pub number : ℕ → Bool → Text → Result (Kind × ℕ) Fault
number start after_minus z = number_by start after_minus z (digits z) (real_len (drop (digits z) z))

abbrev pub pair : ℕ → ℕ → Option Kind
pair b c =
    if b == 124 && c == 124 then Some k.Bars else (if b == 61 && c == 61 then Some k.DoubleEqual
    else (if (b == 60 && c == 62) || (b == 33 && c == 61) then Some k.NotEqual
    else (if b == 60 && c == 61 then Some k.LessOrEqual else (if b == 62 && c == 61 then Some k.GreaterOrEqual else None))))

abbrev pub single : ℕ → Option Kind
single b =
    if b == 46 then Some k.Dot else (if b == 44 then Some k.Comma else (if b == 59 then Some k.Semicolon
    else (if b == 40 then Some k.LeftParen else (if b == 41 then Some k.RightParen else (if b == 42 then Some k.Star
    else (if b == 43 then Some k.Plus else (if b == 45 then Some k.Minus else (if b == 47 then Some k.Slash
    else (if b == 37 then Some k.Percent else (if b == 61 then Some k.Equal else (if b == 60 then Some k.Less
    else (if b == 62 then Some k.Greater else None))))))))))))

abbrev pub long : ℕ → Option Kind → Option (Kind × ℕ)
long n None = None
long n (Some kind) = Some (kind, n)

abbrev pub or_else : {A : Type 0} → Option A → Option A → Option A
or_else None other = other
or_else (Some a) other = Some a

-- the mark that two bytes begin; an open comment that has no end is none
abbrev pub begun : ℕ → ℕ → Option (Kind × ℕ)
begun b c = if b == 47 && c == 42 then None else or_else (long 2 (pair b c)) (long 1 (single b))

-- a mark
unfoldable pub mark : Text → Option (Kind × ℕ)
mark [] = None
mark (b ∷ []) = long 1 (single b)
mark (b ∷ c ∷ z) = begun b c

abbrev pub quoted : Kind → ℕ → Option ℕ → Option (Kind × ℕ)
quoted kind n None = None
quoted kind n (Some m) = Some (kind, m + n)

-- a token that is no number
unfoldable pub other : Text → Option (Kind × ℕ)
other [] = None
other (b ∷ z) =
    if b == 88 && next_byte z == 39 then quoted k.Blob 2 (blob (drop 1 z))
    else (if b == 39 then quoted k.Text 1 (closing 39 z)
    else (if b == 34 then quoted k.QuotedName 1 (closing 34 z)
    else (if begins_word b then Some (word (b ∷ z)) else mark (b ∷ z))))

abbrev pub found_or : ℕ → Option (Kind × ℕ) → Result (Kind × ℕ) Fault
found_or start None = Err (Syntax start)
found_or start (Some t) = Ok t

-- the kind and the length of the token at the front
unfoldable pub front : ℕ → Bool → Text → Result (Kind × ℕ) Fault
front start after_minus z = if is_ascii_digit (next_byte z) then number start after_minus z else found_or start (other z)

-- ---- all tokens

abbrev pub is_minus : Kind → Bool
is_minus k.Minus = true
is_minus _ = false

abbrev pub onto : Lexed → Result (List Lexed) Fault → Result (List Lexed) Fault
onto t (Ok ts) = Ok (t ∷ ts)
onto t (Err e) = Err e

-- the token at the front of z, and those after it
abbrev pub cut_by : (Bool → Text → Result (List Lexed) Fault) → ℕ → Text → Result (Kind × ℕ) Fault → Result (List Lexed) Fault
cut_by go start z (Err e) = Err e
cut_by go start z (Ok t) = onto (record { kind = t.0; text = take t.1 z; start = start }) (go (is_minus t.0) (gap (drop t.1 z)))

-- The tokens of the rest of a text, which begins with one; the first number bounds how many, the second is the length of the
-- whole text.
unfoldable pub tokens_from : ℕ → ℕ → Bool → Text → Result (List Lexed) Fault
tokens_from n total after_minus [] = Ok []
tokens_from zero total after_minus (b ∷ z) = Ok []
tokens_from (suc n) total after_minus (b ∷ z) =
    cut_by (tokens_from n total) (total - length (b ∷ z)) (b ∷ z) (front (total - length (b ∷ z)) after_minus (b ∷ z))

-- the tokens of a text, or why it is refused
unfoldable pub tokens : Text → Result (List Lexed) Fault
tokens z = if nat_lt 65536 (length z) then Err TooLong else tokens_from (length z) (length z) false (gap z)
