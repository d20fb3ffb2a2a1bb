-- The parts of statements that expressions and names are.
use Rattle.std.proofs.Common.{◌≡◌, ℕ, true, List, [], ◌∷◌, ◌++◌, Ok, refl, subst}
use Rattle.sql_lexer.specs.declared.keyword.Keyword.{Keyword}
use Rattle.sql_lexer.specs.declared.token.Kind.TheVariants as k
use Rattle.sql_expr.specs.Exact.{Used, Single}
use Rattle.sql_expr.specs.Follows.{EndsExpression, EndsList, EndsAfter, Anything, ends_list, lacks_name, lacks_paren}
use Rattle.sql_expr.specs.Grammar.{IsExpression, AreExpressions, IsName, IsNames, Enclosed, Optional, Preceded}
use Rattle.sql_expr.specs.Limits.{unlimited, is_shallow, are_shallow, if_given}
use Rattle.sql_expr.specs.Symbols.{Symbol, Plain, word}
use Rattle.sql_expr.specs.Reading.{name_from, names_from, name_row_from, maybe_name_from, maybe_name_row_from, expression_from, expressions_from, row_from, enclosed_from, maybe_after_from, integer_from}
use Rattle.sql_expr.proofs.Again.{follows_paren, ends_paren}
use Rattle.sql_expr.proofs.Exactly as exactly
use Rattle.sql_expr.proofs.Parts as parts
use Rattle.sql_expr.proofs.Takes.{ok_is}
use Rattle.sql_grammar.specs.Queries as q
use Rattle.sql_grammar.specs.Queries.{IsInteger}
use Rattle.sql_grammar.proofs.Exact.{exactly}
use Rattle.sql_grammar.proofs.Law.{Law, free, single_enclosed, single_maybe}

pub exact_expression : Law expression_from IsExpression is_shallow EndsExpression
exact_expression = record { exact = exactly.exact_expression; single = exactly.single_expression }

pub exact_expressions : Law expressions_from AreExpressions are_shallow EndsList
exact_expressions = record { exact = exactly.exact_expressions; single = exactly.single_expressions }

pub exact_row : Law row_from (Enclosed AreExpressions) are_shallow Anything
exact_row = record { exact = parts.exact_row; single = single_enclosed exactly.single_expressions (λ rest. ends_paren rest) }

pub exact_enclosed_expression : Law enclosed_from (Enclosed IsExpression) is_shallow Anything
exact_enclosed_expression = record { exact = parts.exact_enclosed_expression; single = single_enclosed exactly.single_expression (λ rest. follows_paren 11 rest) }

pub exact_maybe_after : (keyword : Keyword) → Law (maybe_after_from keyword) (Optional (Preceded (word keyword) IsExpression)) (if_given is_shallow) (EndsAfter keyword)
exact_maybe_after keyword = record { exact = parts.exact_maybe_after keyword; single = single_maybe exactly.single_expression keyword }

pub exact_name : Law name_from IsName unlimited Anything
exact_name = free (λ c. refl) parts.exact_name

pub exact_names : Law names_from IsNames unlimited (λ rest. ends_list rest ≡ true)
exact_names = free (λ cs. refl) parts.exact_names

pub exact_name_row : Law name_row_from (Enclosed IsNames) unlimited Anything
exact_name_row = free (λ cs. refl) parts.exact_name_row

pub exact_maybe_name : Law maybe_name_from (Optional IsName) unlimited (λ rest. lacks_name rest ≡ true)
exact_maybe_name = free (λ c. refl) parts.exact_maybe_name

pub exact_maybe_name_row : Law maybe_name_row_from (Optional (Enclosed IsNames)) unlimited (λ rest. lacks_paren rest ≡ true)
exact_maybe_name_row = free (λ cs. refl) parts.exact_maybe_name_row

-- ---- numbers

integer_takes : (ts : List Symbol) (x : ℕ × List Symbol) → integer_from ts ≡ Ok x → Used IsInteger unlimited ts x
unfolding integer_from
integer_takes [] x h = absurd cc
integer_takes (Plain (k.Integer n) ∷ ts) x h = subst (Used IsInteger unlimited (Plain (k.Integer n) ∷ ts)) (ok_is _ _ h) (record { used = Plain (k.Integer n) ∷ []; parts = refl; at = q.integer; within = refl })
integer_takes (_ ∷ ts) x h = absurd cc

integer_reads : (us : List Symbol) (n : ℕ) (rest : List Symbol) → IsInteger us n → Unit {0} → integer_from (us ++ rest) ≡ Ok (n, rest)
unfolding integer_from
integer_reads _ n rest q.integer f = refl

integer_single : Single IsInteger Anything
integer_single _ _ m n rest after q.integer q.integer f g same = (same_number m n rest after same, same_rest m n rest after same)
  where
    same_number : (m n : ℕ) (us vs : List Symbol) → Plain (k.Integer m) ∷ us ≡ Plain (k.Integer n) ∷ vs → m ≡ n
    same_number m n us vs h = cc

    same_rest : (m n : ℕ) (us vs : List Symbol) → Plain (k.Integer m) ∷ us ≡ Plain (k.Integer n) ∷ vs → us ≡ vs
    same_rest m n us vs h = cc

pub exact_integer : Law integer_from IsInteger unlimited Anything
exact_integer = exactly integer_takes integer_reads integer_single
