-- The text of replies.
use Rattle.std.specs.Prelude.{ℕ, List, [], ◌∷◌, ◌++◌, ◌==◌, if◌then◌else◌, codes, decimal, Result, Ok, Err}
use Rattle.std.specs.Fmt.{signed_decimal}
use Rattle.std.specs.List.{flat_map}
use Rattle.hex.specs.Hex.{encode_upper}
use Rattle.sqlval.specs.declared.fault.Fault.{Fault}
use Rattle.sqlval.specs.declared.fault.Fault.TheVariants.{Syntax, Raised}
use Rattle.sqlval.specs.Titles.{title_of}
use Rattle.sqlval.specs.declared.value.Value.{Value}
use Rattle.sqlval.specs.declared.value.Value.TheVariants as value

-- a byte of a text, a quote twice
abbrev pub doubled : ℕ → List ℕ
doubled byte = if byte == 39 then 39 ∷ 39 ∷ [] else byte ∷ []

-- a text between quotes, its own quotes doubled
abbrev pub quoted : List ℕ → List ℕ
quoted text = 39 ∷ flat_map doubled text ++ 39 ∷ []

-- a value as a literal of SQL
abbrev pub literal : Value → List ℕ
literal value.Null = codes "NULL"
literal (value.Int n) = signed_decimal n
literal (value.Text t) = quoted t
literal (value.Blob b) = codes "X'" ++ encode_upper b ++ 39 ∷ []

-- the values of a row as literals, joined by bars
abbrev pub row_text : List Value → List ℕ
row_text [] = []
row_text (value ∷ values) = literal value ++ flat_map (λ next. 124 ∷ literal next) values

-- a row as a line
abbrev pub row_line : List Value → List ℕ
row_line row = row_text row ++ 10 ∷ []

-- what is said of a refusal besides: where a syntax error begins, and the text that was raised
abbrev pub detail_of : Fault → List ℕ
detail_of (Syntax at) = 32 ∷ decimal at
detail_of (Raised raised) = 32 ∷ quoted raised.text
detail_of fault = []

-- a refusal as a line
abbrev pub refusal_line : Fault → List ℕ
refusal_line fault = codes "error " ++ title_of fault ++ detail_of fault ++ 10 ∷ []

-- a reply: its rows, each a line, and then `ok`; or one line for a refusal
abbrev pub reply_text : Result (List (List Value)) Fault → List ℕ
reply_text (Ok rows) = flat_map row_line rows ++ codes "ok" ++ 10 ∷ []
reply_text (Err fault) = refusal_line fault

-- the replies to the lines of an input, one after another
abbrev pub output_text : List (Result (List (List Value)) Fault) → List ℕ
output_text replies = flat_map reply_text replies
