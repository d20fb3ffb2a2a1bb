-- The pieces of a text: spaces, comments, words, what stands in quotes, and single bytes (SQL As Understood By SQLite, "SQL Comment
-- Syntax" and "Literal Values").
use Rattle.std.specs.Prelude.{ℕ, zero, suc, ◌+◌, ◌-◌, min, Bool, ◌&&◌, ◌||◌, if◌then◌else◌, ◌==◌, List, [], ◌∷◌, length, take, drop, Option, Some, None, codes}
use Rattle.std.specs.List.{prefix_len}
use Rattle.std.specs.Str.{str_eq_ignore_ascii_case}
use Rattle.sql_lexer.specs.Bytes.{is_space, is_in}
use Rattle.sql_lexer.specs.Lex.{Text, line, comment, plus, next_byte}
use Rattle.sql_lexer.specs.declared.class.Class.TheVariants as class
use Rattle.shell.specs.declared.pieces.Sort.{Sort}
use Rattle.shell.specs.declared.pieces.Sort.TheVariants as s

-- how many bytes go up to the next of these, that with them
unfoldable pub up_to : ℕ → Text → Option ℕ
up_to q [] = None
up_to q (b ∷ z) = if b == q then Some 1 else plus 1 (up_to q z)

-- a star before a slash, which ends a comment
abbrev pub is_end : ℕ → Text → Bool
is_end b z = b == 42 && next_byte z == 47

-- what a word is to the end of a statement, in letters of any case
abbrev pub sort_of : Text → Sort
sort_of w =
    if str_eq_ignore_ascii_case w (codes "CREATE") then s.Create
    else (if str_eq_ignore_ascii_case w (codes "TEMP") || str_eq_ignore_ascii_case w (codes "TEMPORARY") then s.Temp
    else (if str_eq_ignore_ascii_case w (codes "TRIGGER") then s.Trigger
    else (if str_eq_ignore_ascii_case w (codes "END") then s.End
    else (if str_eq_ignore_ascii_case w (codes "EXPLAIN") then s.Explain else s.Other))))

-- a piece of so many bytes, then those up to its end; without an end it is open, and takes the rest
abbrev pub closed : Sort → ℕ → ℕ → Option ℕ → Sort × ℕ
closed sort begun rest None = (s.Open, begun + rest)
closed sort begun rest (Some n) = (sort, begun + n)

abbrev pub word_or_byte_by : Text → ℕ → Sort × ℕ
word_or_byte_by z n = if n == 0 then (s.Other, min (length z) 1) else (sort_of (take n z), n)

-- a word, or one byte
unfoldable pub word_or_byte : Text → Sort × ℕ
word_or_byte z = word_or_byte_by z (prefix_len (is_in class.Word) z)

-- the sort and the length of the piece at the front
unfoldable pub front : Text → Sort × ℕ
front [] = word_or_byte []
front (b ∷ z) =
    if b == 39 || b == 34 then closed s.Other 1 (length z) (up_to b z)
    else (if b == 45 && next_byte z == 45 then (s.Gap, 2 + line (drop 1 z))
    else (if b == 47 && next_byte z == 42 then closed s.Gap 2 (length (drop 1 z)) (comment (drop 1 z))
    else (if b == 59 then (s.Semicolon, 1)
    else (if is_space b then (s.Gap, 1) else word_or_byte (b ∷ z)))))

-- the pieces of a text, after so many bytes of one that has begun
unfoldable pub pieces_from_inside : ℕ → Text → List (Sort × ℕ)
pieces_from_inside k [] = []
pieces_from_inside zero (b ∷ z) = front (b ∷ z) ∷ pieces_from_inside ((front (b ∷ z)).1 - 1) z
pieces_from_inside (suc k) (b ∷ z) = pieces_from_inside k z

-- the pieces of a text
abbrev pub text_pieces : Text → List (Sort × ℕ)
text_pieces z = pieces_from_inside 0 z
