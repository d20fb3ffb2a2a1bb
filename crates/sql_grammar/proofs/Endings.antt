-- What comes next goes on with no part before it.
use Rattle.std.proofs.Common.{◌≡◌, ℕ, true, false, None, List, [], ◌∷◌, refl, sym, subst, arith}
use Rattle.sql_lexer.specs.declared.keyword.Keyword.{Keyword}
use Rattle.sql_lexer.specs.declared.token.Kind.TheVariants as k
use Rattle.sql_expr.specs.Follows.{EndsExpression, ends_name, ends_list}
use Rattle.sql_expr.specs.Symbols.{Symbol, Plain, Name, word, same_word}
use Rattle.sql_expr.specs.Reading.{after_word, binds}
use Rattle.sql_expr.proofs.Again.{follows_by, follows_end}
use Rattle.sql_grammar.specs.Changes.{EndsStatement}

pub follows_piece : (p : Symbol) (rest : List Symbol) → ends_name (p ∷ rest) ≡ true → binds p ≡ 0 → EndsExpression (p ∷ rest)
follows_piece p rest e none = follows_by 11 p rest e (λ n q l h. omega (arith, none))

pub ends_expression : (rest : List Symbol) → EndsStatement rest → EndsExpression rest
ends_expression [] f = follows_end 11
ends_expression (p ∷ rest) f = subst (λ (p : Symbol). EndsExpression (p ∷ rest)) (sym f) (follows_piece (Plain k.Semicolon) rest refl refl)

pub ends_items : (rest : List Symbol) → EndsStatement rest → ends_list rest ≡ true
ends_items [] f = refl
ends_items (p ∷ rest) f = subst (λ (p : Symbol). ends_list (p ∷ rest) ≡ true) (sym f) refl

pub lacks_word : (v : Keyword) (rest : List Symbol) → EndsStatement rest → after_word v rest ≡ None
unfolding after_word
lacks_word v [] f = refl
lacks_word v (p ∷ rest) f = subst (λ (p : Symbol). after_word v (p ∷ rest) ≡ None) (sym f) refl

-- ---- words and pieces that are not the word asked for

pub follows_word : (v : Keyword) (rest : List Symbol) → binds (word v) ≡ 0 → EndsExpression (word v ∷ rest)
follows_word v rest none = follows_by 11 (word v) rest refl (λ n p l e. omega (arith, none))

pub word_none : (v u : Keyword) (ts : List Symbol) → same_word u v ≡ false → after_word v (word u ∷ ts) ≡ None
unfolding after_word
word_none v u ts e = rw e refl

pub comma_none : (v : Keyword) (ts : List Symbol) → after_word v (Plain k.Comma ∷ ts) ≡ None
unfolding after_word
comma_none v ts = refl

pub name_none : (v : Keyword) (c : List ℕ) (ts : List Symbol) → after_word v (Name c ∷ ts) ≡ None
unfolding after_word
name_none v c ts = refl
