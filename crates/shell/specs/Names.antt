-- Names as SQL has them (SQL As Understood By SQLite, "SQLite Keywords").
use Rattle.std.specs.Prelude.{ℕ, Bool, false, not, ◌&&◌, ◌==◌, if◌then◌else◌, List, [], ◌∷◌, length, map, Result, Ok, Err}
use Rattle.std.specs.Str.{str_eq_ignore_ascii_case}
use Rattle.sqlval.specs.declared.fault.Fault.{Fault}
use Rattle.sql_lexer.specs.Lex.{Text, Lexed, tokens}
use Rattle.sql_lexer.specs.declared.token.Kind.{Kind}
use Rattle.sql_lexer.specs.declared.token.Kind.TheVariants as k
use Rattle.shell.specs.Cells.{in_quotes}
use Rattle.shell.specs.declared.names.TheConstants.{KEPT}
use Rattle.std.specs.List.{list_any}

-- a word of the table, in letters of any case
abbrev pub is_kept_word : Text → Bool
is_kept_word name = list_any (λ word. str_eq_ignore_ascii_case word name) (map (λ word. word.now) KEPT)

abbrev pub is_name_by : Kind → ℕ → ℕ → Bool
is_name_by k.Name n len = n == len
is_name_by _ n len = false

-- a name of so many bytes
abbrev pub is_name : Lexed → ℕ → Bool
is_name t len = is_name_by t.kind (length t.text) len

abbrev pub is_one_name : List Lexed → ℕ → Bool
is_one_name [] len = false
is_one_name (t ∷ []) len = is_name t len
is_one_name (t ∷ u ∷ ts) len = false

abbrev pub is_name_in : ℕ → Result (List Lexed) Fault → Bool
is_name_in len (Ok ts) = is_one_name ts len
is_name_in len (Err fault) = false

-- the lexer reads one token, a name, which is the whole text
abbrev pub reads_as_name : Text → Bool
reads_as_name name = is_name_in (length name) (tokens name)

-- a name that needs no quotes
unfoldable pub is_plain : Text → Bool
is_plain name = reads_as_name name && not (is_kept_word name)

-- a name, between quotes where it needs them
unfoldable pub name_text : Text → Text
name_text name = if is_plain name then name else in_quotes 34 name
