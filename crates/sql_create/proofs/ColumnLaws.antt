-- Columns of tables are read exactly.
use Rattle.std.proofs.Common.{◌≡◌, ℕ, ◌<◌, ◌≤◌, ◌^◌, ℤ, Bool, true, false, ltb, leb, Option, Some, None, List, [], ◌∷◌, ◌++◌, length, Ok, refl, sym, ap, subst, ◌∙◌, cond, arith, inl, inr}
use Rattle.std.proofs.lemmas.Bool.{ltb-true, lt-ltb, leb-true, le-leb}
use Rattle.std.specs.Prelude.{pos, neg_ℤ}
use Rattle.sql_lexer.specs.declared.keyword.Keyword.{Keyword}
use Rattle.sql_lexer.specs.declared.keyword.Keyword.TheVariants as w
use Rattle.sql_lexer.specs.declared.token.Kind.TheVariants as k
use Rattle.sqlval.specs.declared.value.Value.{Value}
use Rattle.sqlval.specs.declared.value.Value.TheVariants as value
use Rattle.sql_syntax.specs.Tree.{Tree}
use Rattle.sql_syntax.specs.declared.create.ColumnDefinition.{ColumnDefinition}
use Rattle.sql_syntax.specs.declared.create.ColumnRule.{ColumnRule}
use Rattle.sql_syntax.specs.declared.create.ColumnRule.TheVariants as rule
use Rattle.sql_syntax.specs.declared.create.DeclaredType.{DeclaredType}
use Rattle.sql_expr.specs.Exact.{Used, Single}
use Rattle.sql_expr.specs.Follows.{Anything, ends_list, lacks_name}
use Rattle.sql_expr.specs.Grammar.{IsExpression, IsName, Optional, left_out, given, Enclosed, Preceded}
use Rattle.sql_expr.specs.Grammar as grammar
use Rattle.sql_expr.specs.Limits.{unlimited, if_given}
use Rattle.sql_expr.specs.Symbols.{Symbol, Plain, Name, Text, Blob, word}
use Rattle.sql_expr.specs.Reading.{after_word, word_from, name_from, maybe_name_from, enclosed_from, integer_from, after_comma, after_paren}
use Rattle.sql_expr.proofs.MarkTests.{mark_from_is, tells_right}
use Rattle.sql_expr.proofs.Takes.{bind_ok, ok_is}
use Rattle.sql_expr.proofs.WordTests.{after_word_is}
use Rattle.sql_grammar.specs.Within.{all_fit}
use Rattle.sql_grammar.specs.Parts.{Both, pair, Before, before, Many, done_many, further}
use Rattle.sql_grammar.specs.Queries as q
use Rattle.sql_grammar.specs.Queries.{IsInteger}
use Rattle.sql_grammar.specs.Readers.{Reader, yields, made, preceded, choose, choose_by, many, limited_by}
use Rattle.sql_grammar.specs.Tables as g
use Rattle.sql_grammar.specs.Tables.{IsSigned, AreSizes, IsDeclared, IsColumnRule, IsColumn, is_column_rule_within, is_column_within}
use Rattle.sql_create.specs.TableReading as reading
use Rattle.sql_create.specs.TableReading.{positive, negative, number_by, number_from, literal_from, after_minus, signed_from, second_from, sizes_from, sized_from, declared_from, column_rule_from, column_from}
use Rattle.sql_grammar.proofs.Bases.{exact_name, exact_maybe_name, exact_enclosed_expression, exact_integer}
use Rattle.sql_grammar.proofs.Chosen.{Made, exact_making, renamed}
use Rattle.sql_grammar.proofs.Law.{Law, tail_is}
use Rattle.sql_grammar.proofs.Exact.{Nothing, exactly, reads, weaker, exact_both, exact_made, exact_yields, exact_behind, exact_before_mark, any}
use Rattle.sql_grammar.proofs.Lists.{exact_many}
use Rattle.sql_grammar.proofs.MarkChoice.{paren_is, paren_self, OrPreceded, OrComma, exact_choose_by, exact_choose_comma, right_self}

-- what is read whatever follows is one
single_read : {A : Type 0} (p : Reader A) {R : List Symbol → A → Type 0} {F : List Symbol → Type 0} → ((us : List Symbol) (a : A) (rest : List Symbol) → R us a → F rest → p (us ++ rest) ≡ limited_by (a, rest) true)
    → Single R F
single_read p again us vs a b rest after r s f g same =
    let both : (a, rest) ≡ (b, after) = ok_is _ _ (sym (again us a rest r f) ∙ ap p same ∙ again vs b after s g) in
    (ap (λ x. x.0) both, ap (λ x. x.1) both)

-- ---- literals

-- an integer that makes this number
abbrev IsNumber : (ℕ → Option ℤ) → List Symbol → Value → Type 0
IsNumber sign us v = (n : ℕ) × (z : ℤ) × IsInteger us n × (sign n ≡ Some z) × (value.Int z ≡ v)

module _ (sign : ℕ → Option ℤ) where
  by_number : (ts : List Symbol) (a : ℕ × List Symbol) (x : Value × List Symbol) → Used IsInteger unlimited ts a → (o : Option ℤ) → sign a.0 ≡ o → number_by ts a.1 o ≡ Ok x → Used (IsNumber sign) unlimited ts x
  by_number ts a x u (Some z) e h =
      subst (Used (IsNumber sign) unlimited ts) (ok_is (value.Int z, a.1) x h) (record { used = u.used; parts = u.parts; at = (a.0, z, u.at, e, refl); within = refl })
  by_number ts a x u None e h = absurd cc

  number_takes : (ts : List Symbol) (x : Value × List Symbol) → number_from sign ts ≡ Ok x → Used (IsNumber sign) unlimited ts x
  unfolding number_from
  number_takes ts x h =
      let a = bind_ok (integer_from ts) (λ a. number_by ts a.1 (sign a.0)) x h in
      by_number ts a.0 x (exact_integer.exact.takes ts a.0 a.1) (sign a.0.0) refl a.2

  number_reads : (us : List Symbol) (v : Value) (rest : List Symbol) → IsNumber sign us v → Unit {0} → number_from sign (us ++ rest) ≡ limited_by (v, rest) true
  unfolding number_from
  number_reads us v rest (n, z, i, e, same) f =
      let h = reads exact_integer us n rest i tt in
      rw (h, e) (ap (λ (v : Value). Ok (v, rest)) same)

  exact_number : Law (number_from sign) (IsNumber sign) unlimited Anything
  exact_number = exactly number_takes number_reads (single_read (number_from sign) number_reads)

positive_is : (n : ℕ) (z : ℤ) → positive n ≡ Some z → (n < 2 ^ 63) × (pos n ≡ z)
positive_is n z h = by_test (ltb n (2 ^ 63)) refl h
  where
    by_test : (b : Bool) → ltb n (2 ^ 63) ≡ b → cond b (Some (pos n)) None ≡ Some z → (n < 2 ^ 63) × (pos n ≡ z)
    by_test true e h = (ltb-true n (2 ^ 63) e, cc)
    by_test false e h = absurd cc

negative_is : (n : ℕ) (z : ℤ) → negative n ≡ Some z → (n ≤ 2 ^ 63) × (neg_ℤ (pos n) ≡ z)
negative_is n z h = by_test (leb n (2 ^ 63)) refl h
  where
    by_test : (b : Bool) → leb n (2 ^ 63) ≡ b → cond b (Some (neg_ℤ (pos n))) None ≡ Some z → (n ≤ 2 ^ 63) × (neg_ℤ (pos n) ≡ z)
    by_test true e h = (leb-true n (2 ^ 63) e, cc)
    by_test false e h = absurd cc

-- a literal without a minus
abbrev Bare : List Symbol → Value → Type 0
Bare us v = IsSigned us v × (after_minus us ≡ None)

bare_number : (us : List Symbol) (v : Value) → IsNumber positive us v → Bare us v
unfolding after_minus
bare_number _ v (n, z, q.integer, e, same) = let (lt, is) = positive_is n z e in rw (← same, ← is) (g.positive lt, refl)

literal_number : (ts : List Symbol) (x : Value × List Symbol) → number_from positive ts ≡ Ok x → Used Bare unlimited ts x
literal_number ts x h = let u = number_takes positive ts x h in record { used = u.used; parts = u.parts; at = bare_number u.used x.0 u.at; within = refl }

literal_takes : (ts : List Symbol) (x : Value × List Symbol) → literal_from ts ≡ Ok x → Used Bare unlimited ts x
unfolding literal_from after_minus
literal_takes [] x h = literal_number [] x h
literal_takes (Plain (k.Word w.Null) ∷ ts) x h =
    subst (Used Bare unlimited (word w.Null ∷ ts)) (ok_is (value.Null, ts) x h) (record { used = word w.Null ∷ []; parts = refl; at = (g.null, refl); within = refl })
literal_takes (Text z ∷ ts) x h = subst (Used Bare unlimited (Text z ∷ ts)) (ok_is (value.Text z, ts) x h) (record { used = Text z ∷ []; parts = refl; at = (g.text, refl); within = refl })
literal_takes (Blob z ∷ ts) x h = subst (Used Bare unlimited (Blob z ∷ ts)) (ok_is (value.Blob z, ts) x h) (record { used = Blob z ∷ []; parts = refl; at = (g.blob, refl); within = refl })
literal_takes (s ∷ ts) x h = literal_number (s ∷ ts) x h

positive_some : (n : ℕ) → n < 2 ^ 63 → positive n ≡ Some (pos n)
positive_some n lt = rw (lt-ltb n (2 ^ 63) lt) refl

negative_some : (n : ℕ) → n ≤ 2 ^ 63 → negative n ≡ Some (neg_ℤ (pos n))
negative_some n le = rw (le-leb n (2 ^ 63) le) refl

literal_reads : (us : List Symbol) (v : Value) (rest : List Symbol) → Bare us v → Unit {0} → literal_from (us ++ rest) ≡ limited_by (v, rest) true
unfolding literal_from after_minus
literal_reads _ _ rest (g.null, e) f = refl
literal_reads _ _ rest (g.text, e) f = refl
literal_reads _ _ rest (g.blob, e) f = refl
literal_reads _ _ rest (g.positive {n = n} lt, e) f = number_reads positive (Plain (k.Integer n) ∷ []) (value.Int (pos n)) rest (n, pos n, q.integer, positive_some n lt, refl) tt
literal_reads _ _ rest (g.negative le, e) f = absurd cc

exact_literal : Law literal_from Bare unlimited Anything
exact_literal = exactly literal_takes literal_reads (single_read literal_from literal_reads)

minus_is : (ts rest : List Symbol) → after_minus ts ≡ Some rest → ts ≡ Plain k.Minus ∷ rest
unfolding after_minus
minus_is [] rest h = absurd cc
minus_is (Plain k.Minus ∷ ts) rest h = cc
minus_is (_ ∷ ts) rest h = absurd cc

minus_self : (ts : List Symbol) → after_minus (Plain k.Minus ∷ ts) ≡ Some ts
unfolding after_minus
minus_self ts = refl

abbrev Signed : List Symbol → Value → Type 0
Signed = OrPreceded (Plain k.Minus) (IsNumber negative) Bare

signed_forth : (us : List Symbol) (v : Value) → Signed us v → IsSigned us v
signed_forth _ _ (inl (grammar.preceded (n, z, q.integer, e, same))) = let (le, is) = negative_is n z e in rw (← same, ← is) (g.negative le)
signed_forth us v (inr s) = s.0

signed_back : (us : List Symbol) (v : Value) → IsSigned us v → Signed us v
unfolding after_minus
signed_back _ _ g.null = inr (g.null, refl)
signed_back _ _ g.text = inr (g.text, refl)
signed_back _ _ g.blob = inr (g.blob, refl)
signed_back _ _ (g.positive lt) = inr (g.positive lt, refl)
signed_back _ _ (g.negative {n = n} le) = inl (grammar.preceded (n, neg_ℤ (pos n), q.integer, negative_some n le, refl))

bare_lacks : (us : List Symbol) (v : Value) (rest : List Symbol) → Bare us v → Unit {0} → after_minus (us ++ rest) ≡ None
unfolding after_minus
bare_lacks _ _ rest (g.null, e) f = refl
bare_lacks _ _ rest (g.text, e) f = refl
bare_lacks _ _ rest (g.blob, e) f = refl
bare_lacks _ _ rest (g.positive lt, e) f = refl
bare_lacks _ _ rest (g.negative le, e) f = absurd cc

pub exact_signed : Law signed_from IsSigned unlimited Anything
unfolding signed_from
exact_signed = renamed (exact_choose_by (Plain k.Minus) after_minus minus_is minus_self (exact_number negative) exact_literal bare_lacks) IsSigned signed_forth signed_back

-- ---- types

abbrev Always : ℕ → Bool
Always n = true

abbrev Second : List Symbol → Bool → Type 0
Second = OrComma (Made Always IsInteger) (Nothing false)

no_comma : (ts : List Symbol) → ends_list ts ≡ true → after_comma ts ≡ None
unfolding after_comma
no_comma [] h = refl
no_comma (Plain k.Comma ∷ ts) h = absurd cc
no_comma (_ ∷ ts) h = refl

-- nothing, where this may follow
exact_none : (F : List Symbol → Type 0) → Law (yields false) (Nothing false) unlimited F
exact_none F = exact_yields false (Nothing false) unlimited F (refl, refl) refl (λ us b e. e)

abbrev EndsItem : List Symbol → Type 0
EndsItem rest = ends_list rest ≡ true

second_lacks : (us : List Symbol) (b : Bool) (rest : List Symbol) → Nothing false us b → EndsItem rest → after_comma (us ++ rest) ≡ None
second_lacks us b rest e f = ap (λ (ys : List Symbol). after_comma (ys ++ rest)) e.0 ∙ no_comma rest f

exact_second : Law second_from Second unlimited EndsItem
unfolding second_from
exact_second = exact_choose_comma (weaker EndsItem (λ rest f. tt) (exact_making exact_integer Always unlimited (λ n. refl))) (exact_none EndsItem) second_lacks

abbrev Two : ℕ × Bool → Bool
Two n = true

abbrev Sizes : List Symbol → Bool → Type 0
Sizes = Before (Plain k.RightParen) (Made Two (Both IsInteger Second))

exact_sizes : Law sizes_from Sizes unlimited Anything
unfolding sizes_from
exact_sizes =
    exact_before_mark k.RightParen (mark_from_is k.RightParen tells_right) right_self (exact_making (exact_both exact_integer exact_second (λ vs b rest s f. tt)) Two unlimited (λ n. refl)) (λ rest. refl)

abbrev Sized : List Symbol → Bool → Type 0
Sized = OrPreceded (Plain k.LeftParen) Sizes (Nothing false)

sized_forth : (us : List Symbol) (b : Bool) → Sized us b → AreSizes us b
sized_forth _ b (inl (grammar.preceded (before (_, pair q.integer (inr e), same)))) = rw (e.0, ← same) g.one_size
sized_forth _ b (inl (grammar.preceded (before (_, pair q.integer (inl (grammar.preceded (m, q.integer, e))), same)))) = rw (← same) g.two_sizes
sized_forth us b (inr e) = rw (e.0, e.1) g.unsized

sized_back : (us : List Symbol) (b : Bool) → AreSizes us b → Sized us b
sized_back _ _ g.unsized = inr (refl, refl)
sized_back _ _ (g.one_size {n = n}) = inl (grammar.preceded (before ((n, false), pair {us = Plain (k.Integer n) ∷ []} q.integer (inr (refl, refl)), refl)))
sized_back _ _ (g.two_sizes {n = n} {m = m}) = inl (grammar.preceded (before ((n, true), pair {us = Plain (k.Integer n) ∷ []} q.integer (inl (grammar.preceded (m, q.integer, refl))), refl)))

abbrev EndsWords : List Symbol → Type 0
EndsWords rest = after_paren rest ≡ None

exact_sized : Law sized_from AreSizes unlimited EndsWords
unfolding sized_from
exact_sized =
    renamed (exact_choose_by (Plain k.LeftParen) after_paren paren_is paren_self (weaker EndsWords (λ rest f. tt) exact_sizes) (exact_none EndsWords) (λ us b rest e f. ap (λ (ys : List Symbol). after_paren (ys ++ rest)) e.0 ∙ f))
    AreSizes sized_forth sized_back

words_take : (ts : List Symbol) (x : Option (List ℕ) × List Symbol) → maybe_name_from ts ≡ Ok x → Used (Optional IsName) (if_given unlimited) ts x
words_take ts x h = let u = exact_maybe_name.exact.takes ts x h in record { used = u.used; parts = u.parts; at = u.at; within = any x.0 }

some_name : (us : List Symbol) (c : List ℕ) → IsName us c → 0 < length us
some_name us c e = let long : length us ≡ 1 = ap length e in omega arith

name_next : (c : List ℕ) (rest : List Symbol) → maybe_name_from (Name c ∷ rest) ≡ Ok (Some c, rest)
unfolding maybe_name_from
name_next c rest = refl

exact_words : Law (many maybe_name_from) (Many IsName) (all_fit unlimited) (λ rest. lacks_name rest ≡ true)
exact_words =
    exact_many Anything (λ rest. lacks_name rest ≡ true) words_take (λ us c rest e f. ap (λ (ys : List Symbol). maybe_name_from (ys ++ rest)) e ∙ name_next c rest) (λ rest f. reads exact_maybe_name [] None rest left_out f)
    (λ rest f. tt) (λ us c rest e. tt) some_name exact_name.single

abbrev Typed : List Symbol → List (List ℕ) × Bool → Type 0
Typed = Both (Many IsName) AreSizes

declared_forth : (us : List Symbol) (x : List (List ℕ) × Bool) → Typed us x → IsDeclared us (reading.declared x)
declared_forth _ _ (pair names sizes) = g.declared names sizes

declared_back : (us : List Symbol) (d : DeclaredType) → IsDeclared us d → (x : List (List ℕ) × Bool) × (Typed us x) × (reading.declared x ≡ d)
declared_back _ _ (g.declared {words = ns} {s = s} names sizes) = ((ns, s), pair names sizes, refl)

-- neither a name nor a parenthesis
abbrev EndsType : List Symbol → Type 0
EndsType rest = (lacks_name rest ≡ true) × (after_paren rest ≡ None)

ends_words : (vs : List Symbol) (b : Bool) (rest : List Symbol) → AreSizes vs b → EndsType rest → lacks_name (vs ++ rest) ≡ true
ends_words _ _ rest g.unsized f = f.0
ends_words _ _ rest g.one_size f = refl
ends_words _ _ rest g.two_sizes f = refl

all_unlimited : {A : Type 0} (xs : List A) → all_fit unlimited xs ≡ true
all_unlimited [] = refl
all_unlimited (x ∷ xs) = all_unlimited xs

exact_declared : Law declared_from IsDeclared unlimited EndsType
unfolding declared_from
exact_declared =
    exact_made reading.declared IsDeclared unlimited (exact_both exact_words (weaker EndsType (λ rest f. f.1) exact_sized) ends_words) declared_forth declared_back (λ x. rw (all_unlimited x.0) refl)

-- ---- rules of a column

-- what a reader takes from the front
abbrev Takes : {A : Type 0} → Reader A → (List Symbol → A → Type 0) → (A → Bool) → Type 0
Takes {A} p R f = (ts : List Symbol) (x : A × List Symbol) → p ts ≡ Ok x → Used R f ts x

-- what a choice takes where both its readers take something of one rule
choice_takes : {A : Type 0} {p : Reader A} {R : List Symbol → A → Type 0} {f : A → Bool} {F : List Symbol → Type 0} {q : Reader A} {T : List Symbol → A → Type 0} (v : Keyword)
    → Law p R f F → ((us : List Symbol) (a : A) → R us a → T (word v ∷ us) a) → Takes q T f → Takes (choose v p q) T f
unfolding choose
choice_takes {A = A} {p = p} {f = f} {q = q} {T = T} v P first Q ts x h = by_found (after_word v ts) refl h
  where
    by_found : (found : Option (List Symbol)) → after_word v ts ≡ found → choose_by p q ts found ≡ Ok x → Used T f ts x
    by_found (Some rest) e h =
        let u = P.exact.takes rest x h in
        record { used = word v ∷ u.used; parts = after_word_is v ts rest e ∙ ap (λ (us : List Symbol). word v ∷ us) u.parts; at = first u.used x.0 u.at; within = u.within }
    by_found None e h = Q ts x h

abbrev Limit : Option ColumnRule → Bool
Limit = if_given is_column_rule_within

abbrev default_of : Value → Option ColumnRule
default_of v = Some (rule.Default v)

abbrev collate_of : List ℕ → Option ColumnRule
collate_of c = Some (rule.Collate c)

abbrev check_of : Tree → Option ColumnRule
check_of e = Some (rule.Check e)

exact_some : (r : ColumnRule) → is_column_rule_within r ≡ true → Law (yields (Some r)) (Nothing (Some r)) Limit Anything
exact_some r fits = exact_yields (Some r) (Nothing (Some r)) Limit Anything (refl, refl) fits (λ us b e. e)

exact_default : Law (made default_of signed_from) (Made default_of IsSigned) Limit Anything
exact_default = exact_making exact_signed default_of Limit (λ v. refl)

exact_collate : Law (made collate_of name_from) (Made collate_of IsName) Limit Anything
exact_collate = exact_making exact_name collate_of Limit (λ c. refl)

exact_check : Law (made check_of enclosed_from) (Made check_of (Enclosed IsExpression)) Limit Anything
exact_check = exact_making exact_enclosed_expression check_of Limit (λ e. refl)

key_is : (us : List Symbol) (x : Option ColumnRule) → Preceded (word w.Key) (Nothing (Some rule.PrimaryKey)) us x → Optional IsColumnRule (word w.Primary ∷ us) x
key_is _ x (grammar.preceded h) = rw (h.0, h.1) (given g.primary_key)

unique_is : (us : List Symbol) (x : Option ColumnRule) → Nothing (Some rule.Unique) us x → Optional IsColumnRule (word w.Unique ∷ us) x
unique_is us x e = rw (e.0, e.1) (given g.unique)

not_is : (us : List Symbol) (x : Option ColumnRule) → Preceded (word w.Null) (Nothing (Some rule.NotNull)) us x → Optional IsColumnRule (word w.Not ∷ us) x
not_is _ x (grammar.preceded h) = rw (h.0, h.1) (given g.not_null)

default_is : (us : List Symbol) (x : Option ColumnRule) → Made default_of IsSigned us x → Optional IsColumnRule (word w.Default ∷ us) x
default_is us x (v, s, same) = rw (← same) (given (g.default s))

collate_is : (us : List Symbol) (x : Option ColumnRule) → Made collate_of IsName us x → Optional IsColumnRule (word w.Collate ∷ us) x
collate_is us x (c, name, same) = rw (name, ← same) (given g.collate)

check_is : (us : List Symbol) (x : Option ColumnRule) → Made check_of (Enclosed IsExpression) us x → Optional IsColumnRule (word w.Check ∷ us) x
check_is us x (e, i, same) = rw (← same) (given (g.check i))

nothing_takes : (ts : List Symbol) (x : Option ColumnRule × List Symbol) → yields None ts ≡ Ok x → Used (Optional IsColumnRule) Limit ts x
unfolding yields
nothing_takes ts x h = subst (Used (Optional IsColumnRule) Limit ts) (ok_is (None, ts) x h) (record { used = []; parts = refl; at = left_out; within = refl })

rule_takes : (ts : List Symbol) (x : Option ColumnRule × List Symbol) → column_rule_from ts ≡ Ok x → Used (Optional IsColumnRule) Limit ts x
unfolding column_rule_from
rule_takes =
    choice_takes w.Primary (exact_behind w.Key (exact_some rule.PrimaryKey refl)) key_is
    (choice_takes w.Unique (exact_some rule.Unique refl) unique_is
    (choice_takes w.Not (exact_behind w.Null (exact_some rule.NotNull refl)) not_is
    (choice_takes w.Default exact_default default_is (choice_takes w.Collate exact_collate collate_is (choice_takes w.Check exact_check check_is nothing_takes)))))

rule_reads : (us : List Symbol) (r : ColumnRule) (rest : List Symbol) → IsColumnRule us r → Unit {0} → column_rule_from (us ++ rest) ≡ limited_by (Some r, rest) (is_column_rule_within r)
unfolding column_rule_from choose after_word preceded word_from yields
rule_reads _ _ rest g.primary_key f = refl
rule_reads _ _ rest g.unique f = refl
rule_reads _ _ rest g.not_null f = refl
rule_reads _ _ rest (g.default {vs = vs} {v = v} s) f = reads exact_default vs (default_of v) rest (v, s, refl) tt
rule_reads _ _ rest (g.collate {c = c}) f = reads exact_collate (Name c ∷ []) (collate_of c) rest (c, refl, refl) tt
rule_reads _ _ rest (g.check {es = es} {e = e} i) f = reads exact_check es (check_of e) rest (e, i, refl) tt

-- what may follow a column: a comma or the closing parenthesis
abbrev pub closes : List Symbol → Bool
closes (Plain k.Comma ∷ ts) = true
closes (Plain k.RightParen ∷ ts) = true
closes _ = false

abbrev pub Closes : List Symbol → Type 0
Closes rest = closes rest ≡ true

pub by_closing : (P : List Symbol → Type 0) → ((ts : List Symbol) → P (Plain k.Comma ∷ ts)) → ((ts : List Symbol) → P (Plain k.RightParen ∷ ts)) → (rest : List Symbol) → Closes rest → P rest
by_closing P a b [] h = absurd cc
by_closing P a b (Plain k.Comma ∷ ts) h = a ts
by_closing P a b (Plain k.RightParen ∷ ts) h = b ts
by_closing P a b (_ ∷ ts) h = absurd cc

rules_stop : (rest : List Symbol) → Closes rest → column_rule_from rest ≡ Ok (None, rest)
unfolding column_rule_from choose after_word yields
rules_stop = by_closing (λ rest. column_rule_from rest ≡ Ok (None, rest)) (λ ts. refl) (λ ts. refl)

some_rule : (us : List Symbol) (r : ColumnRule) → IsColumnRule us r → 0 < length us
some_rule _ _ g.primary_key = omega arith
some_rule _ _ g.unique = omega arith
some_rule _ _ g.not_null = omega arith
some_rule _ _ (g.default s) = omega arith
some_rule _ _ g.collate = omega arith
some_rule _ _ (g.check i) = omega arith

name_is : (c d : List ℕ) (us vs : List Symbol) → Name c ∷ us ≡ Name d ∷ vs → (c ≡ d) × (us ≡ vs)
name_is c d us vs h = (cc, cc)

single_rule : Single IsColumnRule Anything
single_rule _ _ _ _ rest after g.primary_key g.primary_key f g same = (refl, cc)
single_rule _ _ _ _ rest after g.unique g.unique f g same = (refl, cc)
single_rule _ _ _ _ rest after g.not_null g.not_null f g same = (refl, cc)
single_rule _ _ _ _ rest after (g.default {vs = us} {v = a} r) (g.default {vs = vs} {v = b} s) f g same =
    let x = exact_signed.single us vs a b rest after r s tt tt (tail_is (word w.Default) (us ++ rest) (vs ++ after) same) in
    (ap rule.Default x.0, x.1)
single_rule _ _ _ _ rest after (g.collate {c = c}) (g.collate {c = d}) f g same =
    let x = name_is c d rest after (tail_is (word w.Collate) (Name c ∷ rest) (Name d ∷ after) same) in
    (ap rule.Collate x.0, x.1)
single_rule _ _ _ _ rest after (g.check {es = us} {e = a} r) (g.check {es = vs} {e = b} s) f g same =
    let x = exact_enclosed_expression.single us vs a b rest after r s tt tt (tail_is (word w.Check) (us ++ rest) (vs ++ after) same) in
    (ap rule.Check x.0, x.1)
single_rule _ _ _ _ rest after _ _ f g same = absurd cc

exact_rules : Law (many column_rule_from) (Many IsColumnRule) (all_fit is_column_rule_within) Closes
exact_rules = exact_many Anything Closes rule_takes rule_reads rules_stop (λ rest f. tt) (λ us r rest i. tt) some_rule single_rule

-- ---- columns

abbrev Parts : List Symbol → (List ℕ × DeclaredType) × List ColumnRule → Type 0
Parts = Both (Both IsName IsDeclared) (Many IsColumnRule)

column_forth : (us : List Symbol) (x : (List ℕ × DeclaredType) × List ColumnRule) → Parts us x → IsColumn us (reading.column x)
column_forth _ _ (pair {vs = rs} {b = rules} (pair {vs = ds} {a = n} {b = d} name type) l) = subst (λ (ns : List Symbol). IsColumn ((ns ++ ds) ++ rs) (reading.column ((n, d), rules))) (sym name) (g.column type l)

column_back : (us : List Symbol) (c : ColumnDefinition) → IsColumn us c → (x : (List ℕ × DeclaredType) × List ColumnRule) × (Parts us x) × (reading.column x ≡ c)
column_back _ _ (g.column {ds = ds} {n = n} {d = d} {rules = rules} type l) = (((n, d), rules), pair {us = Name n ∷ ds} (pair {us = Name n ∷ []} refl type) l, refl)

ends_type : (vs : List Symbol) (rules : List ColumnRule) (rest : List Symbol) → Many IsColumnRule vs rules → Closes rest → EndsType (vs ++ rest)
unfolding after_paren
ends_type _ _ rest done_many f = by_closing EndsType (λ ts. (refl, refl)) (λ ts. (refl, refl)) rest f
ends_type _ _ rest (further g.primary_key l) f = (refl, refl)
ends_type _ _ rest (further g.unique l) f = (refl, refl)
ends_type _ _ rest (further g.not_null l) f = (refl, refl)
ends_type _ _ rest (further (g.default s) l) f = (refl, refl)
ends_type _ _ rest (further g.collate l) f = (refl, refl)
ends_type _ _ rest (further (g.check i) l) f = (refl, refl)

pub exact_column : Law column_from IsColumn is_column_within Closes
unfolding column_from
exact_column =
    exact_made reading.column IsColumn is_column_within (exact_both (exact_both exact_name exact_declared (λ vs b rest s f. tt)) exact_rules ends_type) column_forth column_back (λ x. refl)
