-- What may follow an expression: nothing that goes on with it.
use Rattle.std.specs.Prelude.{◌≡◌, ◌<◌, ℕ, Bool, true, false, List, [], ◌∷◌, None}
use Rattle.sql_lexer.specs.declared.keyword.Keyword.{Keyword}
use Rattle.sql_lexer.specs.declared.token.Kind.TheVariants as t
use Rattle.sql_expr.specs.Symbols.{Symbol, Plain, Name}
use Rattle.sql_expr.specs.Reading.{after_word, goes_on}

-- no piece that goes on with a name
abbrev pub ends_name : List Symbol → Bool
ends_name [] = true
ends_name (Plain t.Dot ∷ ts) = false
ends_name (Plain t.LeftParen ∷ ts) = false
ends_name _ = true

-- nothing that goes on with a chain of a level below this one
pub record Follows (r : ℕ) (rest : List Symbol) : Type 0 where
  pub alone : ends_name rest ≡ true
  pub quiet : (k : ℕ) → 0 < k → k < r → goes_on k rest ≡ false

-- no comma
abbrev pub ends_list : List Symbol → Bool
ends_list [] = true
ends_list (Plain t.Comma ∷ ts) = false
ends_list _ = true

-- no name
abbrev pub lacks_name : List Symbol → Bool
lacks_name (Name c ∷ ts) = false
lacks_name _ = true

-- no open parenthesis
abbrev pub lacks_paren : List Symbol → Bool
lacks_paren (Plain t.LeftParen ∷ ts) = false
lacks_paren _ = true

-- what may follow an expression
abbrev pub EndsExpression : List Symbol → Type 0
EndsExpression rest = Follows 11 rest

-- what may follow a list of expressions
abbrev pub EndsList : List Symbol → Type 0
EndsList rest = Follows 11 rest × (ends_list rest ≡ true)

-- anything
abbrev pub Anything : List Symbol → Type 0
Anything rest = Unit {0}

-- what may follow an expression after a word that may be left out
abbrev pub EndsAfter : Keyword → List Symbol → Type 0
EndsAfter keyword rest = Follows 11 rest × (after_word keyword rest ≡ None)
