-- Queries are read exactly.
use Rattle.std.proofs.Common.{◌≡◌, ℕ, suc, ◌<◌, Bool, true, ◌&&◌, Option, None, List, [], ◌∷◌, ◌++◌, refl, sym, ap, subst, ◌∙◌, append_assoc, arith}
use Rattle.sql_lexer.specs.declared.keyword.Keyword.TheVariants as w
use Rattle.sql_lexer.specs.declared.token.Kind.TheVariants as k
use Rattle.sql_syntax.specs.Tree.{Tree}
use Rattle.sql_syntax.specs.declared.query.FromClause.{FromClause}
use Rattle.sql_syntax.specs.declared.query.Limit.{Limit}
use Rattle.sql_syntax.specs.declared.query.OrderTerm.{OrderTerm}
use Rattle.sql_syntax.specs.declared.query.Query.{Query}
use Rattle.sql_syntax.specs.declared.query.ResultItem.{ResultItem}
use Rattle.sql_expr.specs.Grammar.{IsExpression, Optional, left_out, given, Preceded, preceded}
use Rattle.sql_expr.specs.Limits.{unlimited, is_shallow, are_shallow, if_given}
use Rattle.sql_expr.specs.Symbols.{Symbol, Plain, word}
use Rattle.sql_expr.specs.Reading.{after_word, maybe_after_from, after_comma}
use Rattle.sql_expr.proofs.Again.{begins, begun}
use Rattle.sql_grammar.specs.Changes.{EndsStatement}
use Rattle.sql_grammar.specs.Within.{all_fit, is_term_within, are_results_within, is_from_within, is_selection_within}
use Rattle.sql_grammar.specs.Parts.{Both, pair, Said, Listed, last, next}
use Rattle.sql_grammar.specs.Queries as q
use Rattle.sql_grammar.specs.Queries.{IsResult, IsFrom, IsGroups, IsOrder, IsLimit, IsSelection, IsQuery}
use Rattle.sql_query.specs.QueryReading as reading
use Rattle.sql_query.specs.QueryReading.{distinct_from, results_from, sources_from, groups_from, order_from, limit_from, selection_from, query_from}
use Rattle.sql_grammar.specs.Readers.{maybe}
use Rattle.sql_grammar.proofs.Bases.{exact_maybe_after}
use Rattle.sql_grammar.proofs.Law.{Law}
use Rattle.sql_grammar.proofs.Exact.{weaker, exact_both, exact_made, exact_maybe, exact_behind, exact_said, any, and_one}
use Rattle.sql_query.proofs.JoinLaws.{EndsFrom, exact_sources}
use Rattle.sql_query.proofs.QueryLaws.{place, by_place, clause_expression, clause_list, clause_name, clause_word, exact_groups, exact_order, exact_limit}
use Rattle.sql_query.proofs.ResultLaws.{exact_results}

-- ---- what comes after a clause

-- a clause after the one of this place, or the end
abbrev Later : ℕ → List Symbol → Type 0
Later n rest = n < place rest

later_less : (n : ℕ) (rest : List Symbol) → Later (suc n) rest → Later n rest
later_less n rest h = omega (arith, h)

some_clause : (n : ℕ) (rest : List Symbol) → Later n rest → Later 0 rest
some_clause n rest h = omega (arith, h)

later_from : (rest : List Symbol) → Later 1 rest → after_word w.From rest ≡ None
unfolding after_word
later_from rest h =
    by_place (λ (us : List Symbol). Later 1 us → after_word w.From us ≡ None) (λ h. refl) (λ ts h. refl) (λ ts h. refl) (λ ts h. refl) (λ ts h. refl) (λ ts h. refl)
    (λ ts h. absurd (omega (arith, h))) rest (some_clause 1 rest h) h

later_where : (rest : List Symbol) → Later 2 rest → after_word w.Where rest ≡ None
unfolding after_word
later_where rest h =
    by_place (λ (us : List Symbol). Later 2 us → after_word w.Where us ≡ None) (λ h. refl) (λ ts h. refl) (λ ts h. refl) (λ ts h. refl) (λ ts h. refl)
    (λ ts h. absurd (omega (arith, h))) (λ ts h. absurd (omega (arith, h))) rest (some_clause 2 rest h) h

later_group : (rest : List Symbol) → Later 3 rest → after_word w.Group rest ≡ None
unfolding after_word
later_group rest h =
    by_place (λ (us : List Symbol). Later 3 us → after_word w.Group us ≡ None) (λ h. refl) (λ ts h. refl) (λ ts h. refl) (λ ts h. refl)
    (λ ts h. absurd (omega (arith, h))) (λ ts h. absurd (omega (arith, h))) (λ ts h. absurd (omega (arith, h))) rest (some_clause 3 rest h) h

later_order : (rest : List Symbol) → Later 4 rest → after_word w.Order rest ≡ None
unfolding after_word
later_order rest h =
    by_place (λ (us : List Symbol). Later 4 us → after_word w.Order us ≡ None) (λ h. refl) (λ ts h. refl) (λ ts h. refl)
    (λ ts h. absurd (omega (arith, h))) (λ ts h. absurd (omega (arith, h))) (λ ts h. absurd (omega (arith, h))) (λ ts h. absurd (omega (arith, h))) rest (some_clause 4 rest h) h

later_limit : (rest : List Symbol) → Later 5 rest → after_word w.Limit rest ≡ None
unfolding after_word
later_limit rest h =
    by_place (λ (us : List Symbol). Later 5 us → after_word w.Limit us ≡ None) (λ h. refl) (λ ts h. refl)
    (λ ts h. absurd (omega (arith, h))) (λ ts h. absurd (omega (arith, h))) (λ ts h. absurd (omega (arith, h))) (λ ts h. absurd (omega (arith, h)))
    (λ ts h. absurd (omega (arith, h))) rest (some_clause 5 rest h) h

no_comma : (rest : List Symbol) → 0 < place rest → after_comma rest ≡ None
unfolding after_comma
no_comma = by_place (λ (us : List Symbol). after_comma us ≡ None) refl (λ ts. refl) (λ ts. refl) (λ ts. refl) (λ ts. refl) (λ ts. refl) (λ ts. refl)

all_later : (rest : List Symbol) → EndsStatement rest → Later 5 rest
all_later [] f = omega arith
all_later (p ∷ rest) f = subst (λ (p : Symbol). Later 5 (p ∷ rest)) (sym f) (omega arith)

-- ---- each clause

exact_distinct : Law distinct_from (Said (word w.Distinct)) unlimited (λ rest. after_word w.Distinct rest ≡ None)
unfolding distinct_from
exact_distinct = exact_said w.Distinct

exact_columns : Law results_from (Listed IsResult) are_results_within (Later 0)
exact_columns = weaker (Later 0) (λ rest h. ((clause_expression rest h, clause_word w.As (refl, refl, refl, refl, refl) rest h), clause_list rest h)) exact_results

ends_sources : (rest : List Symbol) → 0 < place rest → EndsFrom rest
ends_sources rest h = (
  ((clause_word w.As (refl, refl, refl, refl, refl) rest h, clause_name rest h), clause_expression rest h),
  (no_comma rest h, clause_word w.Join (refl, refl, refl, refl, refl) rest h, clause_word w.Inner (refl, refl, refl, refl, refl) rest h, clause_word w.Left (refl, refl, refl, refl, refl) rest h),
)

exact_from : Law (maybe w.From sources_from) (Optional (Preceded (word w.From) IsFrom)) (if_given is_from_within) (Later 1)
exact_from = weaker (Later 1) (λ rest h. (ends_sources rest (some_clause 1 rest h), later_from rest h)) (exact_maybe w.From exact_sources)

exact_where : Law (maybe_after_from w.Where) (Optional (Preceded (word w.Where) IsExpression)) (if_given is_shallow) (Later 2)
exact_where = weaker (Later 2) (λ rest h. (clause_expression rest (some_clause 2 rest h), later_where rest h)) (exact_maybe_after w.Where)

exact_keys : Law groups_from IsGroups are_shallow (Later 3)
exact_keys = weaker (Later 3) (λ rest h. ((clause_expression rest (some_clause 3 rest h), clause_list rest (some_clause 3 rest h)), later_group rest h)) exact_groups

ends_terms : (rest : List Symbol) → 0 < place rest → (after_word w.Desc rest ≡ None) × (after_word w.Asc rest ≡ None)
ends_terms rest h = (clause_word w.Desc (refl, refl, refl, refl, refl) rest h, clause_word w.Asc (refl, refl, refl, refl, refl) rest h)

exact_sorting : Law order_from IsOrder (all_fit is_term_within) (Later 4)
exact_sorting =
    weaker (Later 4) (λ rest h. let s = some_clause 4 rest h in (((ends_terms rest s, clause_expression rest s), clause_list rest s), later_order rest h)) exact_order

exact_count : Law limit_from (Optional (Preceded (word w.Limit) IsLimit)) (if_given unlimited) (Later 5)
exact_count = weaker (Later 5) (λ rest h. ((tt, clause_word w.Offset (refl, refl, refl, refl, refl) rest (some_clause 5 rest h)), later_limit rest h)) exact_limit

-- ---- what a clause that is written begins with

not_distinct : (ts : List Symbol) → begins ts ≡ true → after_word w.Distinct ts ≡ None
unfolding after_word
not_distinct [] h = refl
not_distinct (Plain (k.Word w.Distinct) ∷ ts) h = absurd cc
not_distinct (Plain (k.Word w.Null) ∷ ts) h = refl
not_distinct (Plain (k.Word w.Raise) ∷ ts) h = refl
not_distinct (Plain (k.Word w.Not) ∷ ts) h = refl
not_distinct (Plain (k.Word v) ∷ ts) h = absurd cc
not_distinct (_ ∷ ts) h = refl

result_first : (us : List Symbol) (r : ResultItem) (rest : List Symbol) → IsResult us r → after_word w.Distinct (us ++ rest) ≡ None
unfolding after_word
result_first _ _ rest q.all = refl
result_first _ _ rest q.all_of = refl
result_first _ _ rest (q.value {es = es} {us = us} i o) =
    ap (after_word w.Distinct) (append_assoc es us rest) ∙ not_distinct (es ++ (us ++ rest)) (begun i (us ++ rest))

results_first : (us : List Symbol) (rs : List ResultItem) (rest : List Symbol) → Listed IsResult us rs → Later 0 rest → after_word w.Distinct (us ++ rest) ≡ None
results_first us _ rest (last {a = r} i) h = result_first us r rest i
results_first _ _ rest (next {ts = us} {us = vs} {a = r} i l) h =
    ap (after_word w.Distinct) (append_assoc us (Plain k.Comma ∷ vs) rest) ∙ result_first us r (Plain k.Comma ∷ (vs ++ rest)) i

from_first : (us : List Symbol) (c : Option FromClause) (rest : List Symbol) → Optional (Preceded (word w.From) IsFrom) us c → Later 1 rest → Later 0 (us ++ rest)
from_first _ _ rest left_out h = later_less 0 rest h
from_first _ _ rest (given (preceded i)) h = omega arith

where_first : (us : List Symbol) (c : Option Tree) (rest : List Symbol) → Optional (Preceded (word w.Where) IsExpression) us c → Later 2 rest → Later 1 (us ++ rest)
where_first _ _ rest left_out h = later_less 1 rest h
where_first _ _ rest (given (preceded i)) h = omega arith

keys_first : (us : List Symbol) (es : List Tree) (rest : List Symbol) → IsGroups us es → Later 3 rest → Later 2 (us ++ rest)
keys_first _ _ rest q.no_groups h = later_less 2 rest h
keys_first _ _ rest (q.groups i) h = omega arith

sorting_first : (us : List Symbol) (ts : List OrderTerm) (rest : List Symbol) → IsOrder us ts → Later 4 rest → Later 3 (us ++ rest)
sorting_first _ _ rest q.no_order h = later_less 3 rest h
sorting_first _ _ rest (q.order l) h = omega arith

count_first : (us : List Symbol) (x : Option Limit) (rest : List Symbol) → Optional (Preceded (word w.Limit) IsLimit) us x → Later 5 rest → Later 4 (us ++ rest)
count_first _ _ rest left_out h = later_less 4 rest h
count_first _ _ rest (given (preceded i)) h = omega arith

-- ---- the whole

abbrev Clauses : Type 0
Clauses = ((((reading.Front × Option FromClause) × Option Tree) × List Tree) × List OrderTerm) × Option Limit

abbrev Selected : List Symbol → Clauses → Type 0
Selected =
    Both (Both (Both (Both (Both (Both (Said (word w.Distinct)) (Listed IsResult)) (Optional (Preceded (word w.From) IsFrom))) (Optional (Preceded (word w.Where) IsExpression))) IsGroups) IsOrder)
    (Optional (Preceded (word w.Limit) IsLimit))

selection_forth : (us : List Symbol) (x : Clauses) → Selected us x → IsSelection us (reading.query x)
selection_forth _ _ (pair (pair (pair (pair (pair (pair d r) f) c) g) o) l) = q.selection d r f c g o l

selection_back : (us : List Symbol) (s : Query) → IsSelection us s → (x : Clauses) × (Selected us x) × (reading.query x ≡ s)
selection_back _ _ (q.selection {d = d} {results = rs} {from = f} {condition = c} {groups = gs} {order = os} {limit = l} di ri fi ci gi oi li) =
    (((((((d, rs), f), c), gs), os), l), pair (pair (pair (pair (pair (pair di ri) fi) ci) gi) oi) li, refl)

abbrev clauses_fit : Clauses → Bool
clauses_fit x = are_results_within x.0.0.0.0.0.1 && if_given is_from_within x.0.0.0.0.1 && if_given is_shallow x.0.0.0.1 && are_shallow x.0.0.1 && all_fit is_term_within x.0.1

clauses_same : (x : Clauses) → clauses_fit x ≡ (clauses_fit x && if_given unlimited x.1)
clauses_same x = and_one (clauses_fit x) ∙ ap (λ (b : Bool). clauses_fit x && b) (sym (any x.1))

pub exact_selection : Law selection_from IsSelection is_selection_within EndsStatement
unfolding selection_from
exact_selection =
    exact_made reading.query IsSelection is_selection_within
    (weaker EndsStatement all_later
    (exact_both (exact_both (exact_both (exact_both (exact_both (exact_both exact_distinct exact_columns results_first) exact_from from_first) exact_where where_first) exact_keys keys_first)
    exact_sorting sorting_first) exact_count count_first))
    selection_forth selection_back clauses_same

pub exact_query : Law query_from IsQuery is_selection_within EndsStatement
unfolding query_from
exact_query = exact_behind w.Select exact_selection
