-- Tokens by what they mean, without where they stand: the grammar's letters.
use Rattle.std.specs.Prelude.{ℕ, Bool, true, false, Option, Some, None, List, [], map, slice_get}
use Rattle.sql_lexer.specs.declared.keyword.Keyword.{Keyword}
use Rattle.sql_lexer.specs.declared.token.Kind.{Kind}
use Rattle.sql_lexer.specs.declared.token.Kind.TheVariants as k
use Rattle.sql_lexer.specs.declared.token.Token.{Token}
use Rattle.sql_lexer.specs.contracts.keyword.KeywordPartialEq.TheImpl as keyword_eq
use Rattle.sql_lexer.specs.contracts.token.KindPartialEq.TheImpl as kind_eq
use Rattle.sql_expr.specs.declared.token.TokenAt.{TokenAt}
use Rattle.sql_expr.specs.Spelling.{name_spelled, text_spelled, blob_spelled}

pub data Symbol : Type 0 where
  -- a reserved word, a mark or an integer
  Plain : Kind → Symbol
  -- a name, with quotes or without
  Name : List ℕ → Symbol
  Text : List ℕ → Symbol
  Blob : List ℕ → Symbol

-- a reserved word
abbrev pub word : Keyword → Symbol
word w = Plain (k.Word w)

-- a mark
abbrev pub mark : Kind → Symbol
mark kind = Plain kind

-- what a token of this kind and spelling means
abbrev pub meant : Kind → List ℕ → Symbol
meant k.Name z = Name (name_spelled z)
meant k.QuotedName z = Name (name_spelled z)
meant k.Text z = Text (text_spelled z)
meant k.Blob z = Blob (blob_spelled z)
meant kind z = Plain kind

-- the tokens of a statement
abbrev pub symbols : List Token → List Symbol
symbols ts = map (λ t. meant t.kind t.text.now) ts

-- a token's spelling, and nothing where there is no token
abbrev pub text_in : Option Token → List ℕ
text_in None = []
text_in (Some t) = t.text.now

-- the spelling of the token at a place
abbrev pub spelling_at : List Token → ℕ → List ℕ
spelling_at ts n = text_in (slice_get ts n)

-- the rest of a statement, where the first list are all its tokens
abbrev pub seen : List Token → List TokenAt → List Symbol
seen whole ts = map (λ t. meant t.kind (spelling_at whole t.place)) ts

-- whether both are one word
abbrev pub same_word : Keyword → Keyword → Bool
same_word = (keyword_eq.ghosts).eq

-- whether both are one kind, an integer's value with it
abbrev pub same_kind : Kind → Kind → Bool
same_kind = (kind_eq.ghosts).eq

-- whether it is this word
abbrev pub is_word : Keyword → Symbol → Bool
is_word w (Plain (k.Word v)) = same_word v w
is_word w _ = false

-- whether it is this word, mark or integer
abbrev pub is_mark : Kind → Symbol → Bool
is_mark kind (Plain other) = same_kind other kind
is_mark kind _ = false

-- whether nothing but the kind of such a token matters
abbrev pub is_plain : Kind → Bool
is_plain k.Name = false
is_plain k.QuotedName = false
is_plain k.Text = false
is_plain k.Blob = false
is_plain _ = true
