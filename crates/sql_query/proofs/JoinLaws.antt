-- What a query reads is read exactly.
use Rattle.std.proofs.Common.{◌≡◌, ℕ, ◌<◌, Bool, true, false, Option, Some, None, List, [], ◌∷◌, ◌++◌, length, Result, Ok, Err, refl, sym, subst, ◌∙◌, append_assoc, arith, ◌⊎◌, inl, inr}
use Rattle.sql_lexer.specs.declared.keyword.Keyword.TheVariants as w
use Rattle.sql_lexer.specs.declared.token.Kind.TheVariants as k
use Rattle.sql_syntax.specs.Tree.{Tree}
use Rattle.sql_syntax.specs.declared.query.FromClause.{FromClause}
use Rattle.sql_syntax.specs.declared.query.Join.{Join}
use Rattle.sql_syntax.specs.declared.query.JoinKind.{JoinKind}
use Rattle.sql_syntax.specs.declared.query.JoinKind.TheVariants as join
use Rattle.sql_syntax.specs.declared.query.Source.{Source}
use Rattle.sql_expr.specs.declared.refusal.Refusal.{Refusal}
use Rattle.sql_expr.specs.declared.refusal.Refusal.TheVariants.{Syntax}
use Rattle.sql_expr.specs.Exact.{Used}
use Rattle.sql_expr.specs.Follows.{EndsExpression, lacks_name}
use Rattle.sql_expr.specs.Grammar.{IsExpression, Optional, left_out, given, Preceded, preceded}
use Rattle.sql_expr.specs.Limits.{is_shallow, if_given}
use Rattle.sql_expr.specs.Symbols.{Symbol, Plain, word}
use Rattle.sql_expr.specs.Reading.{Read, ◌>>=◌, fail, after_word, word_from, optional_from, expression_from, after_comma}
use Rattle.sql_expr.proofs.Takes.{ok_is}
use Rattle.sql_expr.proofs.WordTests.{after_word_is}
use Rattle.sql_grammar.specs.Limits.{few_joins}
use Rattle.sql_grammar.specs.Within.{all_fit, is_join_within, is_from_within}
use Rattle.sql_grammar.specs.Parts.{Both, pair, Said, said, unsaid, Many, done_many, further}
use Rattle.sql_grammar.specs.Readers.{Reader, yields, made, both, preceded as reads_behind, optionally, choose, choose_comma, many, limited_by}
use Rattle.sql_grammar.specs.Queries as q
use Rattle.sql_grammar.specs.Queries.{IsSource, IsJoin, IsFrom}
use Rattle.sql_query.specs.QueryReading as reading
use Rattle.sql_query.specs.QueryReading.{source_from, join_kind_from, on_from, join_from, join_by, next_join_from, sources_from}
use Rattle.sql_grammar.proofs.Chosen.{Made, exact_making, alike, renamed, Or, this, other, exact_or, Led, exact_optionally}
use Rattle.sql_grammar.proofs.MarkChoice.{comma_is, OrComma, exact_choose_comma}
use Rattle.sql_grammar.proofs.Endings.{follows_piece, follows_word}
use Rattle.sql_grammar.proofs.Bases.{exact_expression}
use Rattle.sql_grammar.proofs.Law.{Law}
use Rattle.sql_grammar.proofs.Exact.{reads, weaker, exact_both, exact_made, exact_behind, exact_limited}
use Rattle.sql_grammar.proofs.Lists.{exact_many, some_of}
use Rattle.sql_query.proofs.QueryLaws.{exact_source}

-- what may follow a source with or without a name
abbrev pub EndsAlias : List Symbol → Type 0
EndsAlias rest = (after_word w.As rest ≡ None) × (lacks_name rest ≡ true)

-- what may follow a join
abbrev pub EndsJoin : List Symbol → Type 0
EndsJoin rest = EndsAlias rest × EndsExpression rest

-- ---- a comma and a source

data IsPlainJoin : List Symbol → Join → Type 0 where
  plain_join : {ss : List Symbol} {s : Source} → IsSource ss s → IsPlainJoin ss (record { kind = join.Comma; source = s; condition = None })

abbrev comma_joined : Source → Join
comma_joined s = record { kind = join.Comma; source = s; condition = None }

plain_back : (us : List Symbol) (j : Join) → IsPlainJoin us j → (s : Source) × (IsSource us s) × (comma_joined s ≡ j)
plain_back _ _ (plain_join {s = s} i) = (s, i, refl)

exact_plain_made : Law (made comma_joined source_from) IsPlainJoin is_join_within EndsAlias
exact_plain_made = exact_made comma_joined IsPlainJoin is_join_within exact_source (λ us s i. plain_join i) plain_back (λ s. refl)

abbrev without_condition : Source × List Symbol → Read (Source × Option Tree)
without_condition a = Ok ((a.0, None), a.1)

abbrev plain_of : Source × List Symbol → Read Join
plain_of a = Ok (comma_joined a.0, a.1)

abbrev joined_of : (Source × Option Tree) × List Symbol → Read Join
joined_of x = Ok (reading.joined join.Comma x.0, x.1)

plain_is : (ts : List Symbol) → join_from join.Comma ts ≡ made comma_joined source_from ts
unfolding join_from on_from made both yields
plain_is ts = by_read (source_from ts)
  where
    by_read : (r : Read Source) → (r >>= without_condition >>= joined_of) ≡ (r >>= plain_of)
    by_read (Ok x) = refl
    by_read (Err e) = refl

exact_plain : Law (join_from join.Comma) IsPlainJoin is_join_within EndsJoin
exact_plain = weaker EndsJoin (λ rest f. f.0) (alike exact_plain_made (join_from join.Comma) plain_is)

-- ---- a source and ON

data IsOnJoin (kind : JoinKind) : List Symbol → Join → Type 0 where
  on_join : {ss es : List Symbol} {s : Source} {e : Tree} → IsSource ss s → IsExpression es e → IsOnJoin kind (ss ++ word w.On ∷ es) (record { kind = kind; source = s; condition = Some e })

abbrev SomeOf : {A : Type 0} → (List Symbol → A → Type 0) → List Symbol → Option A → Type 0
SomeOf R us None = ⊥
SomeOf R us (Some a) = R us a

some_back : (us : List Symbol) (x : Option Tree) → SomeOf (Preceded (word w.On) IsExpression) us x → (e : Tree) × (Preceded (word w.On) IsExpression us e) × (some_of e ≡ x)
some_back us None s = absurd s
some_back us (Some e) s = (e, s, refl)

abbrev Conditioned : List Symbol → Source × Option Tree → Type 0
Conditioned = Both IsSource (SomeOf (Preceded (word w.On) IsExpression))

on_behind : (kind : JoinKind) (us vs : List Symbol) (s : Source) (o : Option Tree) → IsSource us s → SomeOf (Preceded (word w.On) IsExpression) vs o → IsOnJoin kind (us ++ vs) (reading.joined kind (s, o))
on_behind kind us vs s None i b = absurd b
on_behind kind us _ s (Some e) i (preceded x) = on_join i x

on_forth : (kind : JoinKind) (us : List Symbol) (x : Source × Option Tree) → Conditioned us x → IsOnJoin kind us (reading.joined kind x)
on_forth kind _ _ (pair {us = us} {vs = vs} {a = s} {b = o} i b) = on_behind kind us vs s o i b

on_back : (kind : JoinKind) (us : List Symbol) (j : Join) → IsOnJoin kind us j → (x : Source × Option Tree) × (Conditioned us x) × (reading.joined kind x ≡ j)
on_back kind _ _ (on_join {s = s} {e = e} i x) = ((s, Some e), pair i (preceded x), refl)

on_follows : (vs : List Symbol) (o : Option Tree) (rest : List Symbol) → SomeOf (Preceded (word w.On) IsExpression) vs o → EndsExpression rest → EndsAlias (vs ++ rest)
unfolding after_word
on_follows vs None rest s f = absurd s
on_follows _ (Some e) rest (preceded x) f = (refl, refl)

exact_on : (kind : JoinKind) → Law (made (reading.joined kind) (both source_from (made some_of (reads_behind w.On expression_from)))) (IsOnJoin kind) is_join_within EndsJoin
exact_on kind =
    weaker EndsJoin (λ rest f. f.1) (exact_made (reading.joined kind) (IsOnJoin kind) is_join_within
    (exact_both exact_source (exact_made some_of (SomeOf (Preceded (word w.On) IsExpression)) (if_given is_shallow) (exact_behind w.On exact_expression) (λ us e b. b) some_back (λ e. refl)) on_follows)
    (on_forth kind) (on_back kind) (λ x. refl))

exact_inner : Law (join_from join.Inner) (IsOnJoin join.Inner) is_join_within EndsJoin
unfolding join_from on_from
exact_inner = exact_on join.Inner

exact_left : Law (join_from join.Left) (IsOnJoin join.Left) is_join_within EndsJoin
unfolding join_from on_from
exact_left = exact_on join.Left

-- ---- a join with its words

lacks_inner : (us : List Symbol) (j : Join) (rest : List Symbol) → Preceded (word w.Join) (IsOnJoin join.Inner) us j → EndsJoin rest → after_word w.Inner (us ++ rest) ≡ None
unfolding after_word
lacks_inner _ j rest (preceded i) f = refl

lacks_outer : (us : List Symbol) (j : Join) (rest : List Symbol) → Preceded (word w.Join) (IsOnJoin join.Left) us j → EndsJoin rest → after_word w.Outer (us ++ rest) ≡ None
unfolding after_word
lacks_outer _ j rest (preceded i) f = refl

abbrev Inner : List Symbol → Join → Type 0
Inner = Led w.Inner (Preceded (word w.Join) (IsOnJoin join.Inner))

abbrev Left : List Symbol → Join → Type 0
Left = Led w.Outer (Preceded (word w.Join) (IsOnJoin join.Left))

abbrev inner_from : Reader Join
inner_from = optionally w.Inner (reads_behind w.Join (join_from join.Inner))

abbrev left_from : Reader Join
left_from = optionally w.Outer (reads_behind w.Join (join_from join.Left))

exact_inner_words : Law inner_from Inner is_join_within EndsJoin
exact_inner_words = exact_optionally w.Inner (exact_behind w.Join exact_inner) lacks_inner

exact_left_words : Law left_from Left is_join_within EndsJoin
exact_left_words = exact_optionally w.Outer (exact_behind w.Join exact_left) lacks_outer

inner_lacks_left : (us : List Symbol) (j : Join) (rest : List Symbol) → Inner us j → EndsJoin rest → after_word w.Left (us ++ rest) ≡ None
unfolding after_word
inner_lacks_left _ j rest (x, pair unsaid (preceded i), same) f = refl
inner_lacks_left _ j rest (x, pair said (preceded i), same) f = refl

lacks_comma : (us : List Symbol) (j : Join) (rest : List Symbol) → Or w.Left Left Inner us j → EndsJoin rest → after_comma (us ++ rest) ≡ None
unfolding after_comma
lacks_comma _ j rest (this s) f = refl
lacks_comma _ j rest (other (x, pair unsaid (preceded i), same)) f = refl
lacks_comma _ j rest (other (x, pair said (preceded i), same)) f = refl

-- a join, which has to come next
abbrev one_join_from : Reader Join
one_join_from = choose_comma (join_from join.Comma) (choose w.Left left_from inner_from)

abbrev Joined : List Symbol → Join → Type 0
Joined = OrComma IsPlainJoin (Or w.Left Left Inner)

left_is : (us : List Symbol) (x : Bool × Join) → Both (Said (word w.Outer)) (Preceded (word w.Join) (IsOnJoin join.Left)) us x → IsJoin (word w.Left ∷ us) x.1
left_is _ _ (pair unsaid (preceded (on_join i e))) = q.left unsaid i e
left_is _ _ (pair said (preceded (on_join i e))) = q.left said i e

inner_is : (us : List Symbol) (x : Bool × Join) → Both (Said (word w.Inner)) (Preceded (word w.Join) (IsOnJoin join.Inner)) us x → IsJoin us x.1
inner_is _ _ (pair unsaid (preceded (on_join i e))) = q.inner unsaid i e
inner_is _ _ (pair said (preceded (on_join i e))) = q.inner said i e

join_forth : (us : List Symbol) (j : Join) → Joined us j → IsJoin us j
join_forth _ _ (inl (preceded (plain_join i))) = q.comma i
join_forth _ j (inr (this {us = us} (x, r, same))) = subst (IsJoin (word w.Left ∷ us)) same (left_is us x r)
join_forth us j (inr (other (x, r, same))) = subst (IsJoin us) same (inner_is us x r)

join_back : (us : List Symbol) (j : Join) → IsJoin us j → Joined us j
join_back _ _ (q.comma i) = inl (preceded (plain_join i))
join_back _ j (q.left unsaid i e) = inr (this ((false, j), pair unsaid (preceded (on_join i e)), refl))
join_back _ j (q.left said i e) = inr (this ((true, j), pair said (preceded (on_join i e)), refl))
join_back _ j (q.inner unsaid i e) = inr (other ((false, j), pair unsaid (preceded (on_join i e)), refl))
join_back _ j (q.inner said i e) = inr (other ((true, j), pair said (preceded (on_join i e)), refl))

exact_join : Law one_join_from IsJoin is_join_within EndsJoin
exact_join = renamed (exact_choose_comma exact_plain (exact_or w.Left exact_left_words exact_inner_words inner_lacks_left) lacks_comma) IsJoin join_forth join_back

exact_some_join : Law (made some_of one_join_from) (Made some_of IsJoin) (if_given is_join_within) EndsJoin
exact_some_join = exact_making exact_join some_of (if_given is_join_within) (λ j. refl)

-- ---- whether a join comes next

-- a join comes next, or none of its words does
abbrev Next : List Symbol → Type 0
Next ts = (next_join_from ts ≡ made some_of one_join_from ts) ⊎ ((next_join_from ts ≡ Ok (None, ts)) × (one_join_from ts ≡ fail ts))

comma_next : (ts : List Symbol) → next_join_from (Plain k.Comma ∷ ts) ≡ made some_of one_join_from (Plain k.Comma ∷ ts)
unfolding next_join_from join_kind_from choose_comma choose yields made after_comma
comma_next ts = refl

join_next : (ts : List Symbol) → next_join_from (word w.Join ∷ ts) ≡ made some_of one_join_from (word w.Join ∷ ts)
unfolding next_join_from join_kind_from choose_comma choose yields made after_comma after_word optionally optional_from reads_behind word_from
join_next ts = refl

behind_words : (kind : JoinKind) (r : Result (List Symbol) Refusal) → (r >>= yields (Some kind) >>= λ a. join_by a.0 a.1) ≡ (r >>= join_from kind >>= λ a. Ok (some_of a.0, a.1))
unfolding yields
behind_words kind (Ok ts) = refl
behind_words kind (Err e) = refl

inner_next : (ts : List Symbol) → next_join_from (word w.Inner ∷ ts) ≡ made some_of one_join_from (word w.Inner ∷ ts)
unfolding next_join_from join_kind_from choose_comma choose made after_comma after_word optionally optional_from reads_behind
inner_next ts = behind_words join.Inner (word_from w.Join ts)

left_next : (ts : List Symbol) → next_join_from (word w.Left ∷ ts) ≡ made some_of one_join_from (word w.Left ∷ ts)
unfolding next_join_from join_kind_from choose_comma choose made after_comma after_word optionally reads_behind
left_next ts = behind_words join.Left (word_from w.Join (optional_from w.Outer ts))

abbrev pub NoJoin : List Symbol → Type 0
NoJoin ts = (after_comma ts ≡ None) × (after_word w.Join ts ≡ None) × (after_word w.Inner ts ≡ None) × (after_word w.Left ts ≡ None)

none_next : (ts : List Symbol) → NoJoin ts → next_join_from ts ≡ Ok (None, ts)
unfolding next_join_from join_kind_from choose_comma choose yields
none_next ts f = rw (f.0, f.1, f.2, f.3) refl

none_one : (ts : List Symbol) → NoJoin ts → one_join_from ts ≡ fail ts
unfolding choose_comma choose optionally optional_from reads_behind word_from
none_one ts f = rw (f.0, f.3, f.2, f.1) refl

whether_next : (ts : List Symbol) → Next ts
whether_next ts = by_comma (after_comma ts) refl
  where
    by_left : after_comma ts ≡ None → after_word w.Join ts ≡ None → after_word w.Inner ts ≡ None → (found : Option (List Symbol)) → after_word w.Left ts ≡ found → Next ts
    by_left a b c (Some rest) e = inl (subst (λ (us : List Symbol). next_join_from us ≡ made some_of one_join_from us) (sym (after_word_is w.Left ts rest e)) (left_next rest))
    by_left a b c None e = inr (none_next ts (a, b, c, e), none_one ts (a, b, c, e))

    by_inner : after_comma ts ≡ None → after_word w.Join ts ≡ None → (found : Option (List Symbol)) → after_word w.Inner ts ≡ found → Next ts
    by_inner a b (Some rest) e = inl (subst (λ (us : List Symbol). next_join_from us ≡ made some_of one_join_from us) (sym (after_word_is w.Inner ts rest e)) (inner_next rest))
    by_inner a b None e = by_left a b e (after_word w.Left ts) refl

    by_join : after_comma ts ≡ None → (found : Option (List Symbol)) → after_word w.Join ts ≡ found → Next ts
    by_join a (Some rest) e = inl (subst (λ (us : List Symbol). next_join_from us ≡ made some_of one_join_from us) (sym (after_word_is w.Join ts rest e)) (join_next rest))
    by_join a None e = by_inner a e (after_word w.Inner ts) refl

    by_comma : (found : Option (List Symbol)) → after_comma ts ≡ found → Next ts
    by_comma (Some rest) e = inl (subst (λ (us : List Symbol). next_join_from us ≡ made some_of one_join_from us) (sym (comma_is ts rest e)) (comma_next rest))
    by_comma None e = by_join e (after_word w.Join ts) refl

-- ---- all joins

-- what may follow the joins
abbrev pub EndsFrom : List Symbol → Type 0
EndsFrom rest = EndsJoin rest × NoJoin rest

next_takes : (ts : List Symbol) (x : Option Join × List Symbol) → next_join_from ts ≡ Ok x → Used (Optional IsJoin) (if_given is_join_within) ts x
next_takes ts x h = by_case (whether_next ts)
  where
    by_case : Next ts → Used (Optional IsJoin) (if_given is_join_within) ts x
    by_case (inl e) =
        let u = exact_some_join.exact.takes ts x (sym e ∙ h) in
        let (j, i, same) = u.at in
        record { used = u.used; parts = u.parts; at = subst (Optional IsJoin u.used) same (given i); within = u.within }
    by_case (inr e) =
        subst (Used (Optional IsJoin) (if_given is_join_within) ts) (ok_is (None, ts) x (sym e.0 ∙ h)) (record { used = []; parts = refl; at = left_out; within = refl })

never : (n : ℕ) (j : Join) (rest : List Symbol) (b : Bool) → Err (Syntax n) ≡ limited_by (j, rest) b → ⊥
never n j rest true h = cc
never n j rest false h = cc

next_item : (us : List Symbol) (j : Join) (rest : List Symbol) → IsJoin us j → EndsJoin rest → next_join_from (us ++ rest) ≡ limited_by (Some j, rest) (is_join_within j)
next_item us j rest i f = by_case (whether_next (us ++ rest))
  where
    by_case : Next (us ++ rest) → next_join_from (us ++ rest) ≡ limited_by (Some j, rest) (is_join_within j)
    by_case (inl e) = e ∙ reads exact_some_join us (Some j) rest (j, i, refl) f
    by_case (inr e) = absurd (never _ j rest (is_join_within j) (sym e.1 ∙ reads exact_join us j rest i f))

join_goes : (us : List Symbol) (j : Join) (rest : List Symbol) → IsJoin us j → EndsJoin (us ++ rest)
unfolding after_word
join_goes _ _ rest (q.comma i) = ((refl, refl), follows_piece (Plain k.Comma) _ refl refl)
join_goes _ _ rest (q.inner unsaid i e) = ((refl, refl), follows_word w.Join _ refl)
join_goes _ _ rest (q.inner said i e) = ((refl, refl), follows_word w.Inner _ refl)
join_goes _ _ rest (q.left unsaid i e) = ((refl, refl), follows_word w.Left _ refl)
join_goes _ _ rest (q.left said i e) = ((refl, refl), follows_word w.Left _ refl)

some_join : (us : List Symbol) (j : Join) → IsJoin us j → 0 < length us
some_join _ _ (q.comma i) = omega arith
some_join _ _ (q.inner unsaid i e) = omega arith
some_join _ _ (q.inner said i e) = omega arith
some_join _ _ (q.left unsaid i e) = omega arith
some_join _ _ (q.left said i e) = omega arith

exact_joins : Law (many next_join_from) (Many IsJoin) (all_fit is_join_within) EndsFrom
exact_joins = exact_many EndsJoin EndsFrom next_takes next_item (λ rest f. none_next rest f.1) (λ rest f. f.0) join_goes some_join exact_join.single

-- ---- FROM

joins_follow : (vs : List Symbol) (js : List Join) (rest : List Symbol) → Many IsJoin vs js → EndsFrom rest → EndsAlias (vs ++ rest)
joins_follow _ _ rest done_many f = f.0.0
joins_follow _ _ rest (further {ts = us} {us = vs} {a = j} i l) f = subst EndsAlias (sym (append_assoc us vs rest)) (join_goes us j (vs ++ rest) i).0

from_forth : (us : List Symbol) (x : Source × List Join) → Both IsSource (Many IsJoin) us x → IsFrom us (reading.from_clause x)
from_forth _ _ (pair i l) = q.sources i l

from_back : (us : List Symbol) (c : FromClause) → IsFrom us c → (x : Source × List Join) × (Both IsSource (Many IsJoin) us x) × (reading.from_clause x ≡ c)
from_back _ _ (q.sources {s = s} {joins = js} i l) = ((s, js), pair i l, refl)

pub exact_sources : Law sources_from IsFrom is_from_within EndsFrom
unfolding sources_from
exact_sources = exact_made reading.from_clause IsFrom is_from_within (exact_both exact_source (exact_limited few_joins exact_joins) joins_follow) from_forth from_back (λ x. refl)
