-- Values as text (SQL As Understood By SQLite, "Literal Values"; Command Line Shell For SQLite, "CSV Output").
use Rattle.std.specs.Prelude.{ℕ, Bool, ◌||◌, nat_lt, nat_le, ◌+◌, List, [], ◌∷◌, ◌++◌, length, ◌==◌, if◌then◌else◌, codes}
use Rattle.std.specs.Fmt.{signed_decimal}
use Rattle.std.specs.List.{flat_map, list_any}
use Rattle.hex.specs.Hex.{encode_upper}
use Rattle.sqlval.specs.declared.value.Value.{Value}
use Rattle.sqlval.specs.declared.value.Value.TheVariants as value

-- a byte of a text between quotes, the quote twice
abbrev pub twice : ℕ → ℕ → List ℕ
twice quote byte = if byte == quote then quote ∷ byte ∷ [] else byte ∷ []

-- a text between quotes, its own quotes doubled
abbrev pub in_quotes : ℕ → List ℕ → List ℕ
in_quotes quote text = quote ∷ flat_map (twice quote) text ++ quote ∷ []

abbrev pub blob_literal : List ℕ → List ℕ
blob_literal bytes = codes "X'" ++ encode_upper bytes ++ 39 ∷ []

-- a value as a literal of SQL
abbrev pub sql_literal : Value → List ℕ
sql_literal value.Null = codes "NULL"
sql_literal (value.Int n) = signed_decimal n
sql_literal (value.Text t) = in_quotes 39 t
sql_literal (value.Blob b) = blob_literal b

-- a value as people read it
abbrev pub plain : Value → List ℕ
plain value.Null = []
plain (value.Int n) = signed_decimal n
plain (value.Text t) = t
plain (value.Blob b) = blob_literal b

-- spaces, bytes that control a terminal, quotes, commas, and what isn't ASCII
abbrev pub wants_quotes : ℕ → Bool
wants_quotes b = nat_le b 32 || b == 34 || b == 39 || b == 44 || nat_le 127 b

-- no byte at all, or one that wants quotes
abbrev pub is_quoted : List ℕ → Bool
is_quoted text = length text == 0 || list_any wants_quotes text

-- a text as a field of CSV
abbrev pub csv_text : List ℕ → List ℕ
csv_text text = if is_quoted text then in_quotes 34 text else text

-- a value as a field of CSV
abbrev pub csv_field : Value → List ℕ
csv_field value.Null = []
csv_field v = csv_text (plain v)

-- a byte as it is shown in one line
abbrev pub visible : ℕ → List ℕ
visible b = if nat_lt b 32 then 94 ∷ (64 + b) ∷ [] else (if b == 127 then 94 ∷ 63 ∷ [] else b ∷ [])

-- a name in a table
abbrev pub heading_text : List ℕ → List ℕ
heading_text name = flat_map visible name

-- a value in a table
abbrev pub cell_text : Value → List ℕ
cell_text v = flat_map visible (plain v)
