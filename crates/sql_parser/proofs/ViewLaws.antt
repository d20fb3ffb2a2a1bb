-- Views are read exactly.
use Rattle.std.proofs.Common.{◌≡◌, ℕ, true, Option, List, [], ◌∷◌, ◌++◌, refl, sym, subst}
use Rattle.sql_lexer.specs.declared.keyword.Keyword.TheVariants as w
use Rattle.sql_syntax.specs.declared.create.ViewDefinition.{ViewDefinition}
use Rattle.sql_syntax.specs.declared.query.Query.{Query}
use Rattle.sql_expr.specs.Follows.{lacks_paren}
use Rattle.sql_expr.specs.Grammar.{IsName, IsNames, Enclosed, Optional, Preceded, preceded}
use Rattle.sql_expr.specs.Symbols.{Symbol, Name, word}
use Rattle.sql_grammar.specs.Changes.{EndsStatement}
use Rattle.sql_grammar.specs.Limits.{few_if}
use Rattle.sql_grammar.specs.Objects as g
use Rattle.sql_grammar.specs.Objects.{IsView, is_view_within}
use Rattle.sql_parser.specs.ObjectReading as reading
use Rattle.sql_parser.specs.ObjectReading.{view_columns_from, view_from}
use Rattle.sql_grammar.specs.Parts.{Both, pair}
use Rattle.sql_grammar.specs.Queries.{IsQuery}
use Rattle.sql_grammar.proofs.Bases.{exact_name, exact_maybe_name_row}
use Rattle.sql_grammar.proofs.Law.{Law}
use Rattle.sql_grammar.proofs.Exact.{exact_both, exact_made, exact_behind, exact_limited}
use Rattle.sql_query.proofs.SelectLaws.{exact_query}

exact_view_columns : Law view_columns_from (Optional (Enclosed IsNames)) few_if (λ rest. lacks_paren rest ≡ true)
unfolding view_columns_from
exact_view_columns = exact_limited few_if exact_maybe_name_row

abbrev Viewed : List Symbol → (List ℕ × Option (List (List ℕ))) × Query → Type 0
Viewed = Both (Both IsName (Optional (Enclosed IsNames))) (Preceded (word w.As) IsQuery)

view_forth : (us : List Symbol) (x : (List ℕ × Option (List (List ℕ))) × Query) → Viewed us x → IsView us (reading.view x)
view_forth _ _ (pair {b = s} (pair {vs = ns} {a = n} {b = c} name o) (preceded {ts = ss} i)) =
    subst (λ (us : List Symbol). IsView (us ++ ns ++ word w.As ∷ ss) (reading.view ((n, c), s))) (sym name) (g.view o i)

view_back : (us : List Symbol) (v : ViewDefinition) → IsView us v → (x : (List ℕ × Option (List (List ℕ))) × Query) × (Viewed us x) × (reading.view x ≡ v)
view_back _ _ (g.view {ns = ns} {n = n} {columns = c} {q = s} o i) = (((n, c), s), pair {us = Name n ∷ ns} (pair {us = Name n ∷ []} refl o) (preceded i), refl)

as_lacks_paren : (us : List Symbol) (s : Query) (rest : List Symbol) → Preceded (word w.As) IsQuery us s → EndsStatement rest → lacks_paren (us ++ rest) ≡ true
as_lacks_paren _ s rest (preceded i) f = refl

pub exact_view : Law view_from IsView is_view_within EndsStatement
unfolding view_from
exact_view =
    exact_made reading.view IsView is_view_within (exact_both (exact_both exact_name exact_view_columns (λ vs b rest s f. tt)) (exact_behind w.As exact_query) as_lacks_paren) view_forth view_back (λ x. refl)
