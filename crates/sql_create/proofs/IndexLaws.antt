-- Indexes are read exactly.
use Rattle.std.proofs.Common.{◌≡◌, ℕ, ◌<◌, Bool, true, ◌&&◌, Option, None, List, [], ◌∷◌, ◌++◌, length, refl, sym, subst, arith}
use Rattle.sql_lexer.specs.declared.keyword.Keyword.TheVariants as w
use Rattle.sql_lexer.specs.declared.token.Kind.TheVariants as k
use Rattle.sql_syntax.specs.declared.create.IndexColumn.{IndexColumn}
use Rattle.sql_syntax.specs.declared.create.IndexDefinition.{IndexDefinition}
use Rattle.sql_expr.specs.Follows.{Anything, ends_list}
use Rattle.sql_expr.specs.Grammar.{IsName, Optional, Preceded, preceded}
use Rattle.sql_expr.specs.Limits.{unlimited}
use Rattle.sql_expr.specs.Symbols.{Symbol, Plain, Name, word}
use Rattle.sql_expr.specs.Reading.{after_word}
use Rattle.sql_expr.proofs.MarkTests.{mark_from_is, tells_left, tells_right}
use Rattle.sql_grammar.specs.Limits.{few}
use Rattle.sql_grammar.specs.Within.{all_fit}
use Rattle.sql_grammar.specs.Parts.{Both, pair, Before, before, Said, Listed}
use Rattle.sql_grammar.specs.Objects as g
use Rattle.sql_grammar.specs.Objects.{IsIndexColumn, IsIndex, is_index_within}
use Rattle.sql_create.specs.IndexReading as reading
use Rattle.sql_grammar.specs.Readers.{listed, limited}
use Rattle.sql_grammar.proofs.Bases.{exact_name}
use Rattle.sql_grammar.proofs.Exact.{any, exact_both, exact_made, exact_maybe, exact_behind, exact_behind_mark, exact_before_mark, exact_limited, exact_said}
use Rattle.sql_grammar.proofs.Law.{Law}
use Rattle.sql_grammar.proofs.Lists.{exact_listed}
use Rattle.sql_grammar.proofs.MarkChoice.{left_self, right_self}
use Rattle.sql_create.specs.IndexReading.{index_column_from, index_from, unique_from}

-- ---- columns

abbrev Collated : List Symbol → List ℕ × Option (List ℕ) → Type 0
Collated = Both IsName (Optional (Preceded (word w.Collate) IsName))

column_forth : (us : List Symbol) (x : List ℕ × Option (List ℕ)) → Collated us x → IsIndexColumn us (reading.index_column x)
column_forth _ _ (pair {vs = vs} {a = n} {b = c} name o) = subst (λ (ns : List Symbol). IsIndexColumn (ns ++ vs) (reading.index_column (n, c))) (sym name) (g.column o)

column_back : (us : List Symbol) (d : IndexColumn) → IsIndexColumn us d → (x : List ℕ × Option (List ℕ)) × (Collated us x) × (reading.index_column x ≡ d)
column_back _ _ (g.column {n = n} {c = c} o) = ((n, c), pair {us = Name n ∷ []} refl o, refl)

abbrev EndsColumn : List Symbol → Type 0
EndsColumn rest = Unit {0} × (after_word w.Collate rest ≡ None)

exact_column : Law index_column_from IsIndexColumn unlimited EndsColumn
unfolding index_column_from
exact_column = exact_made reading.index_column IsIndexColumn unlimited (exact_both exact_name (exact_maybe w.Collate exact_name) (λ vs b rest s f. tt)) column_forth column_back (λ x. sym (any x.1))

some_pieces : (us : List Symbol) (a : IndexColumn) → IsIndexColumn us a → 0 < length us
some_pieces _ _ (g.column {us = us} o) = omega arith

abbrev EndsColumns : List Symbol → Type 0
EndsColumns rest = EndsColumn rest × (ends_list rest ≡ true)

comma_follows : (rest : List Symbol) → EndsColumn (Plain k.Comma ∷ rest)
unfolding after_word
comma_follows rest = (tt, refl)

paren_follows : (rest : List Symbol) → EndsColumns (Plain k.RightParen ∷ rest)
unfolding after_word
paren_follows rest = ((tt, refl), refl)

exact_columns : Law (limited few (listed index_column_from)) (Listed IsIndexColumn) (λ xs. all_fit unlimited xs && few xs) EndsColumns
exact_columns = exact_limited few (exact_listed exact_column EndsColumns (λ rest f. f) comma_follows some_pieces)

-- ---- indexes

abbrev Indexed : List Symbol → ((Bool × List ℕ) × List ℕ) × List IndexColumn → Type 0
Indexed =
    Both (Both (Both (Said (word w.Unique)) (Preceded (word w.Index) IsName)) (Preceded (word w.On) IsName)) (Preceded (Plain k.LeftParen) (Before (Plain k.RightParen) (Listed IsIndexColumn)))

index_forth : (us : List Symbol) (x : ((Bool × List ℕ) × List ℕ) × List IndexColumn) → Indexed us x → IsIndex us (reading.index x)
index_forth _ _ (pair {b = cs} (pair {b = t} (pair {us = us} {a = u} {b = n} s (preceded own)) (preceded table)) (preceded (before {ts = ts} l))) =
    rw (own, table) (g.index s l)

index_back : (us : List Symbol) (d : IndexDefinition) → IsIndex us d → (x : ((Bool × List ℕ) × List ℕ) × List IndexColumn) × (Indexed us x) × (reading.index x ≡ d)
index_back _ _ (g.index {u = u} {n = n} {t = t} {columns = cs} s l) = ((((u, n), t), cs), pair (pair (pair s (preceded refl)) (preceded refl)) (preceded (before l)), refl)

all_unlimited : {A : Type 0} (xs : List A) → all_fit unlimited xs ≡ true
all_unlimited [] = refl
all_unlimited (x ∷ xs) = all_unlimited xs

few_is : (xs : List IndexColumn) → few xs ≡ (all_fit unlimited xs && few xs)
few_is xs = rw (all_unlimited xs) refl

exact_unique : Law unique_from (Said (word w.Unique)) unlimited (λ rest. after_word w.Unique rest ≡ None)
unfolding unique_from
exact_unique = exact_said w.Unique

not_unique : (vs : List Symbol) (b : List ℕ) (rest : List Symbol) → Preceded (word w.Index) IsName vs b → Unit {0} → after_word w.Unique (vs ++ rest) ≡ None
unfolding after_word
not_unique _ b rest (preceded r) f = refl

pub exact_index : Law index_from IsIndex is_index_within Anything
unfolding index_from
exact_index =
    exact_made reading.index IsIndex is_index_within
    (exact_both (exact_both (exact_both exact_unique (exact_behind w.Index exact_name) not_unique) (exact_behind w.On exact_name) (λ vs b rest s f. tt))
    (exact_behind_mark k.LeftParen (mark_from_is k.LeftParen tells_left) left_self (exact_before_mark k.RightParen (mark_from_is k.RightParen tells_right) right_self exact_columns paren_follows))
    (λ vs b rest s f. tt))
    index_forth index_back (λ x. few_is x.1)
