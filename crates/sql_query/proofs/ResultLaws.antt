-- The results of queries are read exactly.
use Rattle.std.proofs.Common.{◌≡◌, ℕ, ◌<◌, Bool, true, false, ◌&&◌, Option, Some, None, List, [], ◌∷◌, ◌++◌, length, Ok, Err, refl, sym, ap, subst, ◌∙◌, append_assoc, length-append, arith}
use Rattle.sql_lexer.specs.declared.keyword.Keyword.TheVariants as w
use Rattle.sql_lexer.specs.declared.token.Kind.TheVariants as k
use Rattle.sql_syntax.specs.Tree.{Tree}
use Rattle.sql_syntax.specs.declared.query.ResultItem.{ResultItem}
use Rattle.sql_syntax.specs.declared.query.ResultItem.TheVariants as item
use Rattle.sql_expr.specs.declared.refusal.Refusal.TheVariants.{Syntax}
use Rattle.sql_expr.specs.Exact.{Used, Single}
use Rattle.sql_expr.specs.Follows.{EndsExpression, ends_list}
use Rattle.sql_expr.specs.Grammar.{IsExpression, IsName, Optional, left_out, given, Preceded, preceded}
use Rattle.sql_expr.specs.Limits.{is_shallow}
use Rattle.sql_expr.specs.Symbols.{Symbol, Plain, Name, word}
use Rattle.sql_expr.specs.Reading.{Read, fail, after_word, name_from, expression_from, level_at, ladder, atom, named, is_prefixed}
use Rattle.sql_expr.proofs.Again.{begins, begun, follows_comma, At_some}
use Rattle.sql_expr.proofs.Takes.{ok_is}
use Rattle.sql_grammar.specs.Limits.{few}
use Rattle.sql_grammar.specs.Within.{is_result_within, are_results_within}
use Rattle.sql_grammar.specs.Parts.{Both, pair, Listed}
use Rattle.sql_grammar.specs.Queries as q
use Rattle.sql_grammar.specs.Queries.{IsResult}
use Rattle.sql_query.specs.QueryReading as reading
use Rattle.sql_query.specs.QueryReading.{value_from, after_star, after_all_of, all_of_by, named_from, result_from, results_from}
use Rattle.sql_grammar.specs.Readers.{yields, choose_by, limited_by}
use Rattle.sql_grammar.proofs.Bases.{exact_expression, exact_name}
use Rattle.sql_grammar.proofs.Law.{Law, tail_is, never_both}
use Rattle.sql_grammar.proofs.Exact.{exactly, reads, weaker, exact_both, exact_made, exact_maybe, exact_limited, any, and_one}
use Rattle.sql_grammar.proofs.Lists.{exact_listed}
use Rattle.sql_grammar.proofs.Endings.{follows_word, comma_none}

abbrev Valued : List Symbol → Tree × Option (List ℕ) → Type 0
Valued = Both IsExpression (Optional (Preceded (word w.As) IsName))

-- an expression with or without its name
abbrev IsValue : List Symbol → ResultItem → Type 0
IsValue us item.All = ⊥
IsValue us (item.AllOf c) = ⊥
IsValue us (item.Of e c) = Valued us (e, c)

value_back : (us : List Symbol) (r : ResultItem) → IsValue us r → (x : Tree × Option (List ℕ)) × (Valued us x) × (reading.value x ≡ r)
value_back us item.All v = absurd v
value_back us (item.AllOf c) v = absurd v
value_back us (item.Of e c) v = ((e, c), v, refl)

abbrev pub EndsResult : List Symbol → Type 0
EndsResult rest = EndsExpression rest × (after_word w.As rest ≡ None)

ends_value : (vs : List Symbol) (c : Option (List ℕ)) (rest : List Symbol) → Optional (Preceded (word w.As) IsName) vs c → EndsResult rest → EndsExpression (vs ++ rest)
ends_value _ _ rest left_out f = f.0
ends_value _ _ rest (given (preceded {ts = us} n)) f = follows_word w.As (us ++ rest) refl

exact_value : Law value_from IsValue is_result_within EndsResult
unfolding value_from
exact_value =
    exact_made reading.value IsValue is_result_within (exact_both exact_expression (weaker EndsResult (λ rest f. (tt, f.1)) (exact_maybe w.As exact_name)) ends_value)
    (λ us x v. v) value_back (λ x. and_one (is_shallow x.0) ∙ ap (λ (b : Bool). is_shallow x.0 && b) (sym (any x.1)))

valued_is : {us : List Symbol} {x : Tree × Option (List ℕ)} → Valued us x → IsResult us (item.Of x.0 x.1)
valued_is (pair i o) = q.value i o

is_value : (us : List Symbol) (r : ResultItem) → IsValue us r → IsResult us r
is_value us item.All v = absurd v
is_value us (item.AllOf c) v = absurd v
is_value us (item.Of e c) v = valued_is v

star_is : (ts rest : List Symbol) → after_star ts ≡ Some rest → ts ≡ Plain k.Star ∷ rest
unfolding after_star
star_is [] rest h = absurd cc
star_is (Plain k.Star ∷ ts) rest h = cc
star_is (_ ∷ ts) rest h = absurd cc

star_none : (ts : List Symbol) → begins ts ≡ true → after_star ts ≡ None
unfolding after_star
star_none [] h = refl
star_none (Plain k.Star ∷ ts) h = absurd cc
star_none (_ ∷ ts) h = refl

all_of_is : (ts rest : List Symbol) → after_all_of ts ≡ Some rest → (c : List ℕ) × (ts ≡ Name c ∷ Plain k.Dot ∷ Plain k.Star ∷ rest)
unfolding after_all_of
all_of_is (Name c ∷ Plain k.Dot ∷ Plain k.Star ∷ ts) rest h = (c, cc)
all_of_is _ rest h = absurd cc

never_value : (c : List ℕ) (ts : List Symbol) → expression_from (Name c ∷ Plain k.Dot ∷ Plain k.Star ∷ ts) ≡ fail (Plain k.Star ∷ ts)
unfolding expression_from level_at ladder atom named name_from is_prefixed
never_value c ts = refl

not_syntax : (e : Tree) (rest : List Symbol) (b : Bool) (n : ℕ) → limited_by (e, rest) b ≡ Err (Syntax n) → ⊥
not_syntax e rest true n h = cc
not_syntax e rest false n h = cc

all_of_none : (es : List Symbol) (e : Tree) (rest : List Symbol) → IsExpression es e → EndsExpression rest → after_all_of (es ++ rest) ≡ None
all_of_none es e rest i f = by_found (after_all_of (es ++ rest)) refl
  where
    by_found : (o : Option (List Symbol)) → after_all_of (es ++ rest) ≡ o → o ≡ None
    by_found None h = refl
    by_found (Some us) h =
        let (c, same) = all_of_is (es ++ rest) us h in
        absurd (not_syntax e rest (is_shallow e) _ (sym (reads exact_expression es e rest i f) ∙ ap expression_from same ∙ never_value c us))

-- ---- all results

named_again : (c : List ℕ) (rest : List Symbol) → all_of_by (Name c ∷ Plain k.Dot ∷ Plain k.Star ∷ rest) (Some rest) ≡ Ok (item.AllOf c, rest)
unfolding name_from
named_again c rest = refl

named_takes : (ts : List Symbol) (x : ResultItem × List Symbol) (o : Option (List Symbol)) → after_all_of ts ≡ o → all_of_by ts o ≡ Ok x → Used IsResult is_result_within ts x
named_takes ts x (Some rest) e h =
    let (c, same) = all_of_is ts rest e in
    let read : all_of_by (Name c ∷ Plain k.Dot ∷ Plain k.Star ∷ rest) (Some rest) ≡ Ok x = subst (λ (us : List Symbol). all_of_by us (Some rest) ≡ Ok x) same h in
    subst (Used IsResult is_result_within ts) (ok_is _ _ (sym (named_again c rest) ∙ read)) (record { used = Name c ∷ Plain k.Dot ∷ Plain k.Star ∷ []; parts = same; at = q.all_of; within = refl })
named_takes ts x None e h = let u = exact_value.exact.takes ts x h in record { used = u.used; parts = u.parts; at = is_value u.used x.0 u.at; within = u.within }

star_takes : (ts : List Symbol) (x : ResultItem × List Symbol) (o : Option (List Symbol)) → after_star ts ≡ o → choose_by (yields item.All) named_from ts o ≡ Ok x → Used IsResult is_result_within ts x
unfolding yields named_from
star_takes ts x (Some rest) e h = subst (Used IsResult is_result_within ts) (ok_is (item.All, rest) x h) (record { used = Plain k.Star ∷ []; parts = star_is ts rest e; at = q.all; within = refl })
star_takes ts x None e h = named_takes ts x (after_all_of ts) refl h

result_takes : (ts : List Symbol) (x : ResultItem × List Symbol) → result_from ts ≡ Ok x → Used IsResult is_result_within ts x
unfolding result_from
result_takes ts x h = star_takes ts x (after_star ts) refl h

read_value : (ts : List Symbol) (r : Read ResultItem) → after_star ts ≡ None → after_all_of ts ≡ None → value_from ts ≡ r → choose_by (yields item.All) named_from ts (after_star ts) ≡ r
unfolding named_from
read_value ts r a b h = rw (a, b) h

no_star : (es us : List Symbol) (e : Tree) (rest : List Symbol) → IsExpression es e → after_star ((es ++ us) ++ rest) ≡ None
no_star es us e rest i = ap after_star (append_assoc es us rest) ∙ star_none (es ++ (us ++ rest)) (begun i (us ++ rest))

no_source : (es us : List Symbol) (e : Tree) (c : Option (List ℕ)) (rest : List Symbol) → IsExpression es e → Optional (Preceded (word w.As) IsName) us c → EndsResult rest
    → after_all_of ((es ++ us) ++ rest) ≡ None
no_source es us e c rest i o f = ap after_all_of (append_assoc es us rest) ∙ all_of_none es e (us ++ rest) i (ends_value us c rest o f)

result_reads : (us : List Symbol) (r : ResultItem) (rest : List Symbol) → IsResult us r → EndsResult rest → result_from (us ++ rest) ≡ limited_by (r, rest) (is_result_within r)
unfolding result_from yields after_star after_all_of named_from name_from
result_reads _ _ rest q.all f = refl
result_reads _ _ rest q.all_of f = refl
result_reads _ _ rest (q.value {es = es} {us = us} {e = e} {c = c} i o) f =
    read_value ((es ++ us) ++ rest) _ (no_star es us e rest i) (no_source es us e c rest i o f) (reads exact_value (es ++ us) (item.Of e c) rest (pair i o) f)

same_source : (c d : List ℕ) (us vs : List Symbol) → Name c ∷ Plain k.Dot ∷ Plain k.Star ∷ us ≡ Name d ∷ Plain k.Dot ∷ Plain k.Star ∷ vs → (c ≡ d) × (us ≡ vs)
same_source c d us vs h = (cc, cc)

result_single : Single IsResult EndsResult
unfolding after_star after_all_of
result_single _ _ _ _ rest after q.all q.all f g same = (refl, tail_is (Plain k.Star) rest after same)
result_single _ _ _ _ rest after q.all q.all_of f g same = absurd cc
result_single _ _ _ _ rest after q.all (q.value {es = es} {us = us} {e = e} i o) f g same =
    absurd (never_both (after_star (Plain k.Star ∷ rest)) rest refl (ap after_star same ∙ no_star es us e after i))
result_single _ _ _ _ rest after q.all_of q.all f g same = absurd cc
result_single _ _ _ _ rest after (q.all_of {c = c}) (q.all_of {c = d}) f g same =
    let x = same_source c d rest after same in
    (ap (λ (c : List ℕ). item.AllOf c) x.0, x.1)
result_single _ _ _ _ rest after (q.all_of {c = c}) (q.value {es = es} {us = us} {e = e} {c = d} i o) f g same =
    absurd (never_both (after_all_of (Name c ∷ Plain k.Dot ∷ Plain k.Star ∷ rest)) rest refl (ap after_all_of same ∙ no_source es us e d after i o g))
result_single _ _ _ _ rest after (q.value {es = es} {us = us} {e = e} i o) q.all f g same =
    absurd (never_both (after_star (Plain k.Star ∷ after)) after refl (ap after_star (sym same) ∙ no_star es us e rest i))
result_single _ _ _ _ rest after (q.value {es = es} {us = us} {e = e} {c = d} i o) (q.all_of {c = c}) f g same =
    absurd (never_both (after_all_of (Name c ∷ Plain k.Dot ∷ Plain k.Star ∷ after)) after refl (ap after_all_of (sym same) ∙ no_source es us e d rest i o f))
result_single _ _ _ _ rest after (q.value {es = es} {us = us} {e = e} {c = c} i o) (q.value {es = fs} {us = vs} {e = d} {c = b} j p) f g same =
    exact_value.single (es ++ us) (fs ++ vs) (item.Of e c) (item.Of d b) rest after (pair i o) (pair j p) f g same

pub exact_result : Law result_from IsResult is_result_within EndsResult
exact_result = exactly result_takes result_reads result_single

some_result : (us : List Symbol) (r : ResultItem) → IsResult us r → 0 < length us
some_result _ _ q.all = omega arith
some_result _ _ q.all_of = omega arith
some_result _ _ (q.value {es = es} {us = us} i o) = let long : 0 < length es = At_some i in omega (arith, length-append es us)

abbrev pub EndsResults : List Symbol → Type 0
EndsResults rest = EndsResult rest × (ends_list rest ≡ true)

pub exact_results : Law results_from (Listed IsResult) are_results_within EndsResults
unfolding results_from
exact_results = exact_limited few (exact_listed exact_result EndsResults (λ rest f. f) (λ rest. (follows_comma 11 rest, comma_none w.As rest)) some_result)
