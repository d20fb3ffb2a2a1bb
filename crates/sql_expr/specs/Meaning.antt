-- What a token means by its kind and its spelling (SQL As Understood By SQLite, "Literal Values").
use Rattle.std.specs.Prelude.{◌≡◌, ◌≢◌, ℕ, true, List, [], ◌∷◌, ◌++◌, Ok}
use Rattle.hex.specs.Hex.{decode_of}
use Rattle.sql_lexer.specs.Cut.{doubled}
use Rattle.sql_lexer.specs.Lex.{next_byte}
use Rattle.sql_lexer.specs.declared.token.Kind.{Kind}
use Rattle.sql_lexer.specs.declared.token.Kind.TheVariants as k
use Rattle.sql_expr.specs.Symbols.{Symbol, Plain, Name, Text, Blob, is_plain}

pub data Means : Kind → List ℕ → Symbol → Type 0 where
  -- a name without quotes is its spelling
  plain_name : {z : List ℕ} → next_byte z ≢ 34 → Means k.Name z (Name z)
  -- a name with quotes, its own quotes doubled
  quoted_name : (z : List ℕ) → Means k.QuotedName (34 ∷ doubled 34 z ++ 34 ∷ []) (Name z)
  text : (z : List ℕ) → Means k.Text (39 ∷ doubled 39 z ++ 39 ∷ []) (Text z)
  -- two hexadecimal digits a byte
  blob : (digits : List ℕ) {bytes : List ℕ} → decode_of digits ≡ Ok bytes → Means k.Blob (88 ∷ 39 ∷ digits ++ 39 ∷ []) (Blob bytes)
  -- a word, a mark, an integer: its kind says all
  plain : {kind : Kind} {z : List ℕ} → is_plain kind ≡ true → Means kind z (Plain kind)
