-- Which texts are which statement.
use Rattle.std.specs.Prelude.{ℕ, ◌+◌, Bool, true, false, if◌then◌else◌, List, [], ◌∷◌, length, map, slice_range}
use Rattle.sql_lexer.specs.Cut.{Cuts}
use Rattle.sql_lexer.specs.Lex.{Lexed}
use Rattle.sql_lexer.specs.declared.token.Kind.{Kind}
use Rattle.sql_lexer.specs.declared.token.Kind.TheVariants as k
use Rattle.sql_syntax.specs.declared.statement.Statement.{Statement}
use Rattle.sql_expr.specs.Symbols.{Symbol, meant}
use Rattle.sql_grammar.specs.Statements.{IsText, IsUnsupported}

-- what the tokens of a text mean
abbrev pub pieces_of : List Lexed → List Symbol
pieces_of ts = map (λ t. meant t.kind t.text) ts

abbrev pub is_semicolon : Kind → Bool
is_semicolon k.Semicolon = true
is_semicolon _ = false

-- where the last token ends that is no closing semicolon, or this place where there is none
abbrev pub body_end : ℕ → List Lexed → ℕ
body_end at [] = at
body_end at (t ∷ []) = if is_semicolon t.kind then at else t.start + length t.text
body_end at (t ∷ u ∷ ts) = body_end (t.start + length t.text) (u ∷ ts)

-- the text from the first to the last token, without a closing semicolon
abbrev pub sql_in : List ℕ → List Lexed → List ℕ
sql_in z [] = []
sql_in z (t ∷ ts) = slice_range z t.start (body_end t.start (t ∷ ts))

-- The text is this statement: it is cut into tokens, and what they mean is the statement with an optional closing semicolon.
pub record IsStatementText (text : List ℕ) (s : Statement) : Type 0 where
  pub tokens : List Lexed
  pub cut : Cuts 0 false text tokens
  pub at : IsText (sql_in text tokens) (pieces_of tokens) s

-- the text is one that SQL has and that is not supported
pub record IsUnsupportedText (text : List ℕ) : Type 0 where
  pub tokens : List Lexed
  pub cut : Cuts 0 false text tokens
  pub at : IsUnsupported (pieces_of tokens)
