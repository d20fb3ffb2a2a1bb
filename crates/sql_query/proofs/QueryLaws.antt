-- Queries are read exactly.
use Rattle.std.proofs.Common.{◌≡◌, ℕ, ◌<◌, Bool, true, false, Option, Some, None, List, [], ◌∷◌, ◌++◌, length, refl, sym, ap, subst, length-append, arith, ◌⊎◌, inl, inr}
use Rattle.sql_lexer.specs.declared.keyword.Keyword.{Keyword}
use Rattle.sql_lexer.specs.declared.keyword.Keyword.TheVariants as w
use Rattle.sql_lexer.specs.declared.token.Kind.TheVariants as k
use Rattle.sql_syntax.specs.Tree.{Tree}
use Rattle.sql_syntax.specs.declared.query.OrderTerm.{OrderTerm}
use Rattle.sql_syntax.specs.declared.query.Source.{Source}
use Rattle.sql_expr.specs.Follows.{EndsExpression, EndsList, Anything, ends_list, lacks_name}
use Rattle.sql_expr.specs.Grammar.{IsExpression, AreExpressions, IsName, Optional, left_out, given, Preceded, preceded}
use Rattle.sql_expr.specs.Limits.{unlimited, is_shallow, are_shallow, if_given}
use Rattle.sql_expr.specs.Symbols.{Symbol, Plain, Name, word, same_word}
use Rattle.sql_expr.specs.Reading.{after_word}
use Rattle.sql_expr.proofs.Again.{follows_comma, follows_end, At_some}
use Rattle.sql_grammar.specs.Within.{all_fit, is_term_within}
use Rattle.sql_grammar.specs.Parts.{Both, pair, Listed}
use Rattle.sql_grammar.specs.Readers.{yields, choose, listed}
use Rattle.sql_grammar.specs.Queries as q
use Rattle.sql_grammar.specs.Queries.{IsInteger, IsLimit, IsGroups, IsOrder, IsDirection, IsTerm, IsAlias, IsSource}
use Rattle.sql_query.specs.QueryReading as reading
use Rattle.sql_query.specs.QueryReading.{limit_from, groups_from, order_from, direction_from, term_from, alias_from, source_from}
use Rattle.sql_grammar.proofs.Bases.{exact_expression, exact_expressions, exact_integer, exact_name, exact_maybe_name}
use Rattle.sql_grammar.proofs.Law.{Law}
use Rattle.sql_grammar.proofs.Exact.{Nothing, and_one, any, weaker, exact_behind, exact_both, exact_made, exact_maybe, exact_yields, exact_choose}
use Rattle.sql_grammar.proofs.Endings.{comma_none, follows_piece, follows_word, name_none, word_none}
use Rattle.sql_grammar.proofs.Lists.{exact_listed, some_of}
use Rattle.sql_syntax.specs.declared.query.Limit.{Limit}

-- ---- what may follow each clause

-- the place of a clause by its first word, and 6 at the end of a statement
abbrev pub place : List Symbol → ℕ
place [] = 6
place (Plain k.Semicolon ∷ ts) = 6
place (Plain (k.Word w.Limit) ∷ ts) = 5
place (Plain (k.Word w.Order) ∷ ts) = 4
place (Plain (k.Word w.Group) ∷ ts) = 3
place (Plain (k.Word w.Where) ∷ ts) = 2
place (Plain (k.Word w.From) ∷ ts) = 1
place _ = 0

pub by_place : (P : List Symbol → Type 0) → P [] → ((ts : List Symbol) → P (Plain k.Semicolon ∷ ts)) → ((ts : List Symbol) → P (word w.Limit ∷ ts)) → ((ts : List Symbol) → P (word w.Order ∷ ts))
    → ((ts : List Symbol) → P (word w.Group ∷ ts)) → ((ts : List Symbol) → P (word w.Where ∷ ts)) → ((ts : List Symbol) → P (word w.From ∷ ts)) → (rest : List Symbol) → 0 < place rest → P rest
by_place P a b c d e f g [] h = a
by_place P a b c d e f g (Plain k.Semicolon ∷ ts) h = b ts
by_place P a b c d e f g (Plain (k.Word w.Limit) ∷ ts) h = c ts
by_place P a b c d e f g (Plain (k.Word w.Order) ∷ ts) h = d ts
by_place P a b c d e f g (Plain (k.Word w.Group) ∷ ts) h = e ts
by_place P a b c d e f g (Plain (k.Word w.Where) ∷ ts) h = f ts
by_place P a b c d e f g (Plain (k.Word w.From) ∷ ts) h = g ts
by_place P a b c d e f g (_ ∷ ts) h = absurd (omega (arith, h))

pub clause_expression : (rest : List Symbol) → 0 < place rest → EndsExpression rest
clause_expression =
    by_place EndsExpression (follows_end 11) (λ ts. follows_piece (Plain k.Semicolon) ts refl refl) (λ ts. follows_word w.Limit ts refl) (λ ts. follows_word w.Order ts refl)
    (λ ts. follows_word w.Group ts refl) (λ ts. follows_word w.Where ts refl) (λ ts. follows_word w.From ts refl)

pub clause_list : (rest : List Symbol) → 0 < place rest → ends_list rest ≡ true
clause_list = by_place (λ rest. ends_list rest ≡ true) refl (λ ts. refl) (λ ts. refl) (λ ts. refl) (λ ts. refl) (λ ts. refl) (λ ts. refl)

pub clause_name : (rest : List Symbol) → 0 < place rest → lacks_name rest ≡ true
clause_name = by_place (λ rest. lacks_name rest ≡ true) refl (λ ts. refl) (λ ts. refl) (λ ts. refl) (λ ts. refl) (λ ts. refl) (λ ts. refl)

-- no clause begins with this word
abbrev IsOther : Keyword → Type 0
IsOther v = (same_word w.Limit v ≡ false) × (same_word w.Order v ≡ false) × (same_word w.Group v ≡ false) × (same_word w.Where v ≡ false) × (same_word w.From v ≡ false)

mark_none : (v : Keyword) (ts : List Symbol) → after_word v (Plain k.Semicolon ∷ ts) ≡ None
unfolding after_word
mark_none v ts = refl

none_none : (v : Keyword) → after_word v [] ≡ None
unfolding after_word
none_none v = refl

pub clause_word : (v : Keyword) → IsOther v → (rest : List Symbol) → 0 < place rest → after_word v rest ≡ None
clause_word v o =
    by_place (λ rest. after_word v rest ≡ None) (none_none v) (mark_none v) (λ ts. word_none v w.Limit ts o.0) (λ ts. word_none v w.Order ts o.1) (λ ts. word_none v w.Group ts o.2)
    (λ ts. word_none v w.Where ts o.3) (λ ts. word_none v w.From ts o.4)

-- ---- LIMIT

abbrev Counted : List Symbol → ℕ × Option ℕ → Type 0
Counted = Both IsInteger (Optional (Preceded (word w.Offset) IsInteger))

limit_forth : (us : List Symbol) (x : ℕ × Option ℕ) → Counted us x → IsLimit us (reading.limit x)
limit_forth _ _ (pair n o) = q.limit n o

limit_back : (us : List Symbol) (l : Limit) → IsLimit us l → (x : ℕ × Option ℕ) × (Counted us x) × (reading.limit x ≡ l)
limit_back _ _ (q.limit {n = n} {o = o} i b) = ((n, o), pair i b, refl)

abbrev EndsLimit : List Symbol → Type 0
EndsLimit rest = (Unit {0} × (after_word w.Offset rest ≡ None)) × (after_word w.Limit rest ≡ None)

pub exact_limit : Law limit_from (Optional (Preceded (word w.Limit) IsLimit)) (if_given unlimited) EndsLimit
unfolding limit_from
exact_limit =
    exact_maybe w.Limit (exact_made reading.limit IsLimit unlimited (exact_both exact_integer (exact_maybe w.Offset exact_integer) (λ vs b rest s f. tt)) limit_forth limit_back (λ x. sym (any x.1)))

-- ---- GROUP BY

abbrev EndsGroups : List Symbol → Type 0
EndsGroups rest = EndsList rest × (after_word w.Group rest ≡ None)

groups_first : (us : List Symbol) (es : List Tree) → Preceded (word w.By) AreExpressions us es → IsGroups (word w.Group ∷ us) es
groups_first _ es (preceded i) = q.groups i

groups_second : (us : List Symbol) (es : List Tree) → Nothing [] us es → IsGroups us es
groups_second us es e = rw (e.0, e.1) q.no_groups

groups_split : (us : List Symbol) (es : List Tree) (rest : List Symbol) → IsGroups us es → EndsGroups rest
    → ((vs : List Symbol) × (us ≡ word w.Group ∷ vs) × Preceded (word w.By) AreExpressions vs es × EndsList rest) ⊎ ((after_word w.Group (us ++ rest) ≡ None) × Nothing [] us es × Unit {0})
groups_split _ _ rest q.no_groups f = inr (f.1, (refl, refl), tt)
groups_split _ _ rest (q.groups {es = es} i) f = inl (word w.By ∷ es, refl, preceded i, f.0)

pub exact_groups : Law groups_from IsGroups are_shallow EndsGroups
unfolding groups_from
exact_groups =
    exact_choose w.Group IsGroups (exact_behind w.By exact_expressions) (exact_yields [] (Nothing []) are_shallow Anything (refl, refl) refl (λ us b e. e)) groups_first groups_second groups_split

-- ---- ORDER BY

-- nothing, or ASC
abbrev Rising : List Symbol → Bool → Type 0
Rising us d = ((us ≡ []) ⊎ (us ≡ word w.Asc ∷ [])) × (d ≡ false)

rising_split : (us : List Symbol) (d : Bool) (rest : List Symbol) → Rising us d → after_word w.Asc rest ≡ None
    → ((vs : List Symbol) × (us ≡ word w.Asc ∷ vs) × Nothing false vs d × Unit {0}) ⊎ ((after_word w.Asc (us ++ rest) ≡ None) × Nothing false us d × Unit {0})
rising_split us d rest (inl e, t) f = inr (rw e f, (e, t), tt)
rising_split us d rest (inr e, t) f = inl ([], e, (refl, t), tt)

exact_rising : Law (choose w.Asc (yields false) (yields false)) Rising unlimited (λ rest. after_word w.Asc rest ≡ None)
exact_rising =
    exact_choose w.Asc Rising (exact_yields false (Nothing false) unlimited Anything (refl, refl) refl (λ us b e. e)) (exact_yields false (Nothing false) unlimited Anything (refl, refl) refl (λ us b e. e))
    (λ us d e. (inr (ap (λ (vs : List Symbol). word w.Asc ∷ vs) e.0), e.1)) (λ us d e. (inl e.0, e.1)) rising_split

-- neither ASC nor DESC
abbrev EndsDirection : List Symbol → Type 0
EndsDirection rest = (after_word w.Desc rest ≡ None) × (after_word w.Asc rest ≡ None)

direction_first : (us : List Symbol) (d : Bool) → Nothing true us d → IsDirection (word w.Desc ∷ us) d
direction_first us d e = rw (e.0, e.1) q.descending

direction_second : (us : List Symbol) (d : Bool) → Rising us d → IsDirection us d
direction_second us d (inl e, t) = rw (e, t) q.unsaid
direction_second us d (inr e, t) = rw (e, t) q.ascending

direction_split : (us : List Symbol) (d : Bool) (rest : List Symbol) → IsDirection us d → EndsDirection rest
    → ((vs : List Symbol) × (us ≡ word w.Desc ∷ vs) × Nothing true vs d × Unit {0}) ⊎ ((after_word w.Desc (us ++ rest) ≡ None) × Rising us d × (after_word w.Asc rest ≡ None))
direction_split _ _ rest q.unsaid f = inr (f.0, (inl refl, refl), f.1)
direction_split _ _ rest q.ascending f = inr (word_none w.Desc w.Asc rest refl, (inr refl, refl), f.1)
direction_split _ _ rest q.descending f = inl ([], refl, (refl, refl), tt)

exact_direction : Law direction_from IsDirection unlimited EndsDirection
unfolding direction_from
exact_direction = exact_choose w.Desc IsDirection (exact_yields true (Nothing true) unlimited Anything (refl, refl) refl (λ us b e. e)) exact_rising direction_first direction_second direction_split

abbrev Directed : List Symbol → Tree × Bool → Type 0
Directed = Both IsExpression IsDirection

term_forth : (us : List Symbol) (x : Tree × Bool) → Directed us x → IsTerm us (reading.term x)
term_forth _ _ (pair e d) = q.term e d

term_back : (us : List Symbol) (t : OrderTerm) → IsTerm us t → (x : Tree × Bool) × (Directed us x) × (reading.term x ≡ t)
term_back _ _ (q.term {e = e} {d = d} i j) = ((e, d), pair i j, refl)

abbrev EndsTerm : List Symbol → Type 0
EndsTerm rest = EndsDirection rest × EndsExpression rest

ends_term : (vs : List Symbol) (d : Bool) (rest : List Symbol) → IsDirection vs d → EndsTerm rest → EndsExpression (vs ++ rest)
ends_term _ _ rest q.unsaid f = f.1
ends_term _ _ rest q.ascending f = follows_word w.Asc rest refl
ends_term _ _ rest q.descending f = follows_word w.Desc rest refl

exact_term : Law term_from IsTerm is_term_within EndsTerm
unfolding term_from
exact_term = exact_made reading.term IsTerm is_term_within (exact_both exact_expression (weaker EndsTerm (λ rest f. f.0) exact_direction) ends_term) term_forth term_back (λ x. and_one (is_shallow x.0))

some_term : (us : List Symbol) (t : OrderTerm) → IsTerm us t → 0 < length us
some_term _ _ (q.term {es = es} {ds = ds} i d) = let long : 0 < length es = At_some i in omega (arith, length-append es ds)

abbrev EndsTerms : List Symbol → Type 0
EndsTerms rest = EndsTerm rest × (ends_list rest ≡ true)

exact_terms : Law (listed term_from) (Listed IsTerm) (all_fit is_term_within) EndsTerms
exact_terms = exact_listed exact_term EndsTerms (λ rest f. f) (λ rest. ((comma_none w.Desc rest, comma_none w.Asc rest), follows_comma 11 rest)) some_term

abbrev EndsOrder : List Symbol → Type 0
EndsOrder rest = EndsTerms rest × (after_word w.Order rest ≡ None)

order_first : (us : List Symbol) (ts : List OrderTerm) → Preceded (word w.By) (Listed IsTerm) us ts → IsOrder (word w.Order ∷ us) ts
order_first _ ts (preceded l) = q.order l

order_second : (us : List Symbol) (ts : List OrderTerm) → Nothing [] us ts → IsOrder us ts
order_second us ts e = rw (e.0, e.1) q.no_order

order_split : (us : List Symbol) (ts : List OrderTerm) (rest : List Symbol) → IsOrder us ts → EndsOrder rest
    → ((vs : List Symbol) × (us ≡ word w.Order ∷ vs) × Preceded (word w.By) (Listed IsTerm) vs ts × EndsTerms rest) ⊎ ((after_word w.Order (us ++ rest) ≡ None) × Nothing [] us ts × Unit {0})
order_split _ _ rest q.no_order f = inr (f.1, (refl, refl), tt)
order_split _ _ rest (q.order {ts = ts} l) f = inl (word w.By ∷ ts, refl, preceded l, f.0)

pub exact_order : Law order_from IsOrder (all_fit is_term_within) EndsOrder
unfolding order_from
exact_order = exact_choose w.Order IsOrder (exact_behind w.By exact_terms) (exact_yields [] (Nothing []) (all_fit is_term_within) Anything (refl, refl) refl (λ us b e. e)) order_first order_second order_split

-- ---- sources

abbrev SomeName : List Symbol → Option (List ℕ) → Type 0
SomeName us None = ⊥
SomeName us (Some c) = IsName us c

some_back : (us : List Symbol) (x : Option (List ℕ)) → SomeName us x → (c : List ℕ) × (IsName us c) × (some_of c ≡ x)
some_back us None s = absurd s
some_back us (Some c) s = (c, s, refl)

alias_first : (us : List Symbol) (x : Option (List ℕ)) → SomeName us x → Optional IsAlias (word w.As ∷ us) x
alias_first us None s = absurd s
alias_first us (Some c) s = rw s (given q.alias_as)

alias_second : (us : List Symbol) (x : Option (List ℕ)) → Optional IsName us x → Optional IsAlias us x
alias_second _ _ left_out = left_out
alias_second us _ (given s) = rw s (given q.alias)

abbrev EndsAlias : List Symbol → Type 0
EndsAlias rest = (after_word w.As rest ≡ None) × (lacks_name rest ≡ true)

alias_split : (us : List Symbol) (x : Option (List ℕ)) (rest : List Symbol) → Optional IsAlias us x → EndsAlias rest
    → ((vs : List Symbol) × (us ≡ word w.As ∷ vs) × SomeName vs x × Unit {0}) ⊎ ((after_word w.As (us ++ rest) ≡ None) × Optional IsName us x × (lacks_name rest ≡ true))
alias_split _ _ rest left_out f = inr (f.0, left_out, f.1)
alias_split _ _ rest (given (q.alias {c = c})) f = inr (name_none w.As c rest, given refl, f.1)
alias_split _ _ rest (given (q.alias_as {c = c})) f = inl (Name c ∷ [], refl, refl, tt)

exact_alias : Law alias_from (Optional IsAlias) unlimited EndsAlias
unfolding alias_from
exact_alias = exact_choose w.As (Optional IsAlias) (exact_made Some SomeName unlimited exact_name (λ us c s. s) some_back (λ c. refl)) exact_maybe_name alias_first alias_second alias_split

abbrev Sourced : List Symbol → List ℕ × Option (List ℕ) → Type 0
Sourced = Both IsName (Optional IsAlias)

source_forth : (us : List Symbol) (x : List ℕ × Option (List ℕ)) → Sourced us x → IsSource us (reading.source x)
source_forth _ _ (pair {vs = vs} {a = n} {b = c} name o) = subst (λ (ns : List Symbol). IsSource (ns ++ vs) (reading.source (n, c))) (sym name) (q.source o)

source_back : (us : List Symbol) (t : Source) → IsSource us t → (x : List ℕ × Option (List ℕ)) × (Sourced us x) × (reading.source x ≡ t)
source_back _ _ (q.source {t = n} {c = c} o) = ((n, c), pair {us = Name n ∷ []} refl o, refl)

pub exact_source : Law source_from IsSource unlimited EndsAlias
unfolding source_from
exact_source = exact_made reading.source IsSource unlimited (exact_both exact_name exact_alias (λ vs b rest s f. tt)) source_forth source_back (λ x. refl)
