-- Tables are read exactly.
use Rattle.std.proofs.Common.{◌≡◌, ℕ, zero, suc, ◌<◌, Bool, true, false, ◌&&◌, cond, Option, Some, None, List, [], ◌∷◌, ◌++◌, length, Ok, Err, refl, sym, ap, subst, ◌∙◌, append_assoc, arith}
use Rattle.sql_lexer.specs.declared.keyword.Keyword.TheVariants as w
use Rattle.sql_lexer.specs.declared.token.Kind.TheVariants as k
use Rattle.sql_syntax.specs.declared.create.ColumnDefinition.{ColumnDefinition}
use Rattle.sql_syntax.specs.declared.create.TableDefinition.{TableDefinition}
use Rattle.sql_syntax.specs.declared.create.TableRule.{TableRule}
use Rattle.sql_syntax.specs.declared.create.TableRule.TheVariants as table_rule
use Rattle.std.proofs.lemmas.List.{append-nil}
use Rattle.sql_expr.specs.Exact.{Used}
use Rattle.sql_expr.specs.Follows.{Anything}
use Rattle.sql_expr.specs.Grammar.{IsExpression, IsName, IsNames, Optional, left_out, given, Enclosed, Preceded}
use Rattle.sql_expr.specs.Grammar as grammar
use Rattle.sql_expr.specs.Limits.{if_given}
use Rattle.sql_expr.specs.Symbols.{Symbol, Plain, Name, word}
use Rattle.sql_expr.specs.Reading.{Read, ◌>>=◌, after_word, after_comma}
use Rattle.sql_expr.proofs.MarkTests.{mark_from_is, tells_left, tells_right}
use Rattle.sql_expr.proofs.Takes.{bind_ok, ok_is, done}
use Rattle.sql_grammar.specs.Limits.{few}
use Rattle.sql_grammar.specs.Within.{all_fit}
use Rattle.sql_grammar.specs.Parts.{Both, pair, Before, before, Many, done_many, further, Listed, last, next}
use Rattle.sql_grammar.specs.Readers.{Reader, yields, made, both, choose_by, choose_comma, more_by, many, many_upto, limited, limited_by}
use Rattle.sql_grammar.specs.Tables as g
use Rattle.sql_grammar.specs.Tables.{IsColumn, IsTableRule, IsTable, is_column_within, is_table_rule_within, is_table_within}
use Rattle.sql_create.specs.TableReading as reading
use Rattle.sql_create.specs.TableReading.{column_from, begins_rule, next_column_by, next_column_from, columns_from, key_columns_from, table_rule_from, next_rule_from, table_from}
use Rattle.sql_grammar.proofs.Bases.{exact_name, exact_name_row, exact_enclosed_expression}
use Rattle.sql_grammar.proofs.Chosen.{Made, Or, this, other, exact_making, exact_or, alike, renamed}
use Rattle.sql_grammar.proofs.Law.{Law, single_behind}
use Rattle.sql_grammar.proofs.Exact.{reads, exact_both, exact_made, exact_behind, exact_behind_mark, exact_before_mark, exact_limited}
use Rattle.sql_grammar.proofs.Lists.{exact_many}
use Rattle.sql_grammar.proofs.MarkChoice.{comma_is, comma_self, left_self, right_self}
use Rattle.sql_create.proofs.ColumnLaws.{Closes, exact_column}

-- ---- further columns

abbrev NextColumn : List Symbol → ColumnDefinition → Type 0
NextColumn = Preceded (Plain k.Comma) IsColumn

next_takes : (ts : List Symbol) (x : Option ColumnDefinition × List Symbol) (o : Option (List Symbol)) → after_comma ts ≡ o → next_column_by ts o ≡ Ok x → Used (Optional NextColumn) (if_given is_column_within) ts x
next_takes ts x None e h = subst (Used (Optional NextColumn) (if_given is_column_within) ts) (ok_is (None, ts) x h) (record { used = []; parts = refl; at = left_out; within = refl })
next_takes ts x (Some rest) e h = by_test (begins_rule rest) h
  where
    by_test : (b : Bool) → cond b (done (None, ts)) (column_from rest >>= λ a. done (Some a.0, a.1)) ≡ Ok x → Used (Optional NextColumn) (if_given is_column_within) ts x
    by_test true h = subst (Used (Optional NextColumn) (if_given is_column_within) ts) (ok_is (None, ts) x h) (record { used = []; parts = refl; at = left_out; within = refl })
    by_test false h =
        let a = bind_ok (column_from rest) (λ a. done (Some a.0, a.1)) x h in
        let u = exact_column.exact.takes rest a.0 a.1 in
        subst (Used (Optional NextColumn) (if_given is_column_within) ts) (ok_is (Some a.0.0, a.0.1) x a.2) (record {
          used = Plain k.Comma ∷ u.used;
          parts = comma_is ts rest e ∙ ap (λ (us : List Symbol). Plain k.Comma ∷ us) u.parts;
          at = given (grammar.preceded u.at);
          within = u.within;
        })

next_column_takes : (ts : List Symbol) (x : Option ColumnDefinition × List Symbol) → next_column_from ts ≡ Ok x → Used (Optional NextColumn) (if_given is_column_within) ts x
unfolding next_column_from
next_column_takes ts x h = next_takes ts x (after_comma ts) refl h

no_rule_first : (us : List Symbol) (c : ColumnDefinition) (rest : List Symbol) → IsColumn us c → begins_rule (us ++ rest) ≡ false
unfolding begins_rule
no_rule_first _ _ rest (g.column type rules) = refl

some_by : {A : Type 0} (b : Bool) (a : A) (rest : List Symbol) (r : Read A) → r ≡ limited_by (a, rest) b → (r >>= λ x. done (Some x.0, x.1)) ≡ limited_by (Some a, rest) b
some_by true a rest r h = rw h refl
some_by false a rest r h = rw h refl

next_column_reads : (us : List Symbol) (c : ColumnDefinition) (rest : List Symbol) → NextColumn us c → Closes rest → next_column_from (us ++ rest) ≡ limited_by (Some c, rest) (is_column_within c)
unfolding next_column_from
next_column_reads _ c rest (grammar.preceded {ts = us} i) f =
    let h = comma_self (us ++ rest) in
    let b = no_rule_first us c rest i in
    rw (h, b) (some_by (is_column_within c) c rest (column_from (us ++ rest)) (reads exact_column us c rest i f))

-- what may follow all columns: the closing parenthesis, or a comma with a rule after it
abbrev ends_columns : List Symbol → Bool
ends_columns (Plain k.Comma ∷ ts) = begins_rule ts
ends_columns (Plain k.RightParen ∷ ts) = true
ends_columns _ = false

abbrev EndsColumns : List Symbol → Type 0
EndsColumns rest = ends_columns rest ≡ true

columns_close : (rest : List Symbol) → EndsColumns rest → Closes rest
columns_close [] f = absurd cc
columns_close (Plain k.Comma ∷ ts) f = refl
columns_close (Plain k.RightParen ∷ ts) f = refl
columns_close (_ ∷ ts) f = absurd cc

columns_stop : (rest : List Symbol) → EndsColumns rest → next_column_from rest ≡ Ok (None, rest)
unfolding next_column_from after_comma
columns_stop [] f = absurd cc
columns_stop (Plain k.Comma ∷ ts) f = rw f refl
columns_stop (Plain k.RightParen ∷ ts) f = refl
columns_stop (_ ∷ ts) f = absurd cc

comma_closes : (us : List Symbol) (c : ColumnDefinition) (rest : List Symbol) → NextColumn us c → Closes (us ++ rest)
comma_closes _ c rest (grammar.preceded i) = refl

some_column : (us : List Symbol) (c : ColumnDefinition) → NextColumn us c → 0 < length us
some_column _ c (grammar.preceded i) = omega arith

exact_further : Law (many next_column_from) (Many NextColumn) (all_fit is_column_within) EndsColumns
exact_further = exact_many Closes EndsColumns next_column_takes next_column_reads columns_stop columns_close comma_closes some_column (single_behind exact_column.single (Plain k.Comma))

-- ---- all columns

abbrev prefixed : {A : Type 0} → A → Read (List A) → Read (List A)
prefixed a r = r >>= λ x. done (a ∷ x.0, x.1)

-- what stands after an item that is found is read as where none is
module _ {A : Type 0} (p : Reader (Option A)) (a : A) where
  one_after : (n : ℕ) (found : List A) → ((xs : List A) (ts : List Symbol) → many_upto p n (a ∷ xs) ts ≡ prefixed a (many_upto p n xs ts)) → (r : Read (Option A))
      → (r >>= λ x. more_by (many_upto p n) (a ∷ found) x.0 x.1) ≡ prefixed a (r >>= λ x. more_by (many_upto p n) found x.0 x.1)
  one_after n found go (Ok (Some b, ts)) = go (found ++ b ∷ []) ts
  one_after n found go (Ok (None, ts)) = refl
  one_after n found go (Err e) = refl

  pub upto_behind : (n : ℕ) (found : List A) (ts : List Symbol) → many_upto p n (a ∷ found) ts ≡ prefixed a (many_upto p n found ts)
  unfolding many_upto
  upto_behind zero found ts = refl
  upto_behind (suc n) found ts = one_after n found (upto_behind n) (p ts)

abbrev front : ColumnDefinition × List ColumnDefinition → List ColumnDefinition
front x = x.0 ∷ x.1

abbrev pair_up : ColumnDefinition → Read (List ColumnDefinition) → Read (ColumnDefinition × List ColumnDefinition)
pair_up c r = r >>= λ b. done ((c, b.0), b.1)

paired : (c : ColumnDefinition) (r : Read (List ColumnDefinition)) → prefixed c r ≡ (pair_up c r >>= λ x. done (front x.0, x.1))
paired c (Ok x) = refl
paired c (Err e) = refl

columns_same : (ts : List Symbol) → columns_from ts ≡ made front (both column_from (many next_column_from)) ts
unfolding columns_from made both many
columns_same ts = by_first (column_from ts)
  where
    by_first : (r : Read ColumnDefinition) → (r >>= λ a. many_upto next_column_from (length a.1) (a.0 ∷ []) a.1)
        ≡ ((r >>= λ a. pair_up a.0 (many_upto next_column_from (length a.1) [] a.1)) >>= λ x. done (front x.0, x.1))
    by_first (Ok a) = upto_behind next_column_from a.0 (length a.1) [] a.1 ∙ paired a.0 (many_upto next_column_from (length a.1) [] a.1)
    by_first (Err e) = refl

listed_by : {ts : List Symbol} {c : ColumnDefinition} → IsColumn ts c → {us : List Symbol} {cs : List ColumnDefinition} → Many NextColumn us cs → Listed IsColumn (ts ++ us) (c ∷ cs)
listed_by {ts = ts} {c = c} i done_many = rw (append-nil ts) (last i)
listed_by i (further (grammar.preceded j) l) = next i (listed_by j l)

columns_forth : (us : List Symbol) (x : ColumnDefinition × List ColumnDefinition) → Both IsColumn (Many NextColumn) us x → Listed IsColumn us (front x)
columns_forth _ _ (pair i l) = listed_by i l

chain_of : {us : List Symbol} {cs : List ColumnDefinition} → Listed IsColumn us cs → (x : ColumnDefinition × List ColumnDefinition) × (Both IsColumn (Many NextColumn) us x) × (front x ≡ cs)
chain_of (last {ts = ts} {a = c} i) = ((c, []), subst (λ (us : List Symbol). Both IsColumn (Many NextColumn) us (c, [])) (append-nil ts) (pair i done_many), refl)
chain_of (next {ts = ts} {a = c} i l) = further_by ts c i (chain_of l)
  where
    further_by : {us : List Symbol} {cs : List ColumnDefinition} (ts : List Symbol) (c : ColumnDefinition) → IsColumn ts c
        → (x : ColumnDefinition × List ColumnDefinition) × (Both IsColumn (Many NextColumn) us x) × (front x ≡ cs)
        → (x : ColumnDefinition × List ColumnDefinition) × (Both IsColumn (Many NextColumn) (ts ++ Plain k.Comma ∷ us) x) × (front x ≡ c ∷ cs)
    further_by ts c i ((d, ds), pair j m, same) = ((c, d ∷ ds), pair i (further (grammar.preceded j) m), ap (λ (xs : List ColumnDefinition). c ∷ xs) same)

comma_begins : (vs : List Symbol) (cs : List ColumnDefinition) (rest : List Symbol) → Many NextColumn vs cs → EndsColumns rest → Closes (vs ++ rest)
comma_begins _ _ rest done_many f = columns_close rest f
comma_begins _ _ rest (further (grammar.preceded i) l) f = refl

exact_columns : Law (limited few columns_from) (Listed IsColumn) (λ cs. all_fit is_column_within cs && few cs) EndsColumns
exact_columns =
    exact_limited few (alike (exact_made front (Listed IsColumn) (all_fit is_column_within) (exact_both exact_column exact_further comma_begins) columns_forth (λ us cs l. chain_of l) (λ x. refl))
    columns_from columns_same)

-- ---- rules of a table

exact_key_columns : Law key_columns_from (Enclosed IsNames) few Anything
unfolding key_columns_from
exact_key_columns = exact_limited few exact_name_row

abbrev KeyRule : List Symbol → TableRule → Type 0
KeyRule = Preceded (word w.Key) (Made table_rule.PrimaryKey (Enclosed IsNames))

abbrev UniqueRule : List Symbol → TableRule → Type 0
UniqueRule = Made table_rule.Unique (Enclosed IsNames)

abbrev CheckRule : List Symbol → TableRule → Type 0
CheckRule = Preceded (word w.Check) (Made table_rule.Check (Enclosed IsExpression))

abbrev Rules : List Symbol → TableRule → Type 0
Rules = Or w.Primary KeyRule (Or w.Unique UniqueRule CheckRule)

rule_forth : (us : List Symbol) (r : TableRule) → Rules us r → IsTableRule us r
rule_forth _ r (this (grammar.preceded (ns, i, same))) = rw (← same) (g.key_of_table i)
rule_forth _ r (other (this (ns, i, same))) = rw (← same) (g.unique_of_table i)
rule_forth _ r (other (other (grammar.preceded (e, i, same)))) = rw (← same) (g.check_of_table i)

rule_back : (us : List Symbol) (r : TableRule) → IsTableRule us r → Rules us r
rule_back _ _ (g.key_of_table {names = ns} i) = this (grammar.preceded (ns, i, refl))
rule_back _ _ (g.unique_of_table {names = ns} i) = other (this (ns, i, refl))
rule_back _ _ (g.check_of_table {e = e} i) = other (other (grammar.preceded (e, i, refl)))

check_lacks : (us : List Symbol) (r : TableRule) (rest : List Symbol) → CheckRule us r → Unit {0} → after_word w.Unique (us ++ rest) ≡ None
unfolding after_word
check_lacks _ r rest (grammar.preceded i) f = refl

unique_lacks : (us : List Symbol) (r : TableRule) (rest : List Symbol) → Or w.Unique UniqueRule CheckRule us r → Unit {0} → after_word w.Primary (us ++ rest) ≡ None
unfolding after_word
unique_lacks _ r rest (this i) f = refl
unique_lacks _ r rest (other (grammar.preceded i)) f = refl

pub exact_table_rule : Law table_rule_from IsTableRule is_table_rule_within Anything
unfolding table_rule_from
exact_table_rule =
    renamed (exact_or w.Primary (exact_behind w.Key (exact_making exact_key_columns table_rule.PrimaryKey is_table_rule_within (λ ns. refl)))
    (exact_or w.Unique (exact_making exact_key_columns table_rule.Unique is_table_rule_within (λ ns. refl))
    (exact_behind w.Check (exact_making exact_enclosed_expression table_rule.Check is_table_rule_within (λ e. refl))) check_lacks) unique_lacks)
    IsTableRule rule_forth rule_back

abbrev NextRule : List Symbol → TableRule → Type 0
NextRule = Preceded (Plain k.Comma) IsTableRule

next_rule_takes : (ts : List Symbol) (x : Option TableRule × List Symbol) → next_rule_from ts ≡ Ok x → Used (Optional NextRule) (if_given is_table_rule_within) ts x
unfolding next_rule_from choose_comma made yields
next_rule_takes ts x h = by_found (after_comma ts) refl h
  where
    by_found : (o : Option (List Symbol)) → after_comma ts ≡ o → choose_by (made Some table_rule_from) (yields None) ts o ≡ Ok x → Used (Optional NextRule) (if_given is_table_rule_within) ts x
    by_found None e h = subst (Used (Optional NextRule) (if_given is_table_rule_within) ts) (ok_is (None, ts) x h) (record { used = []; parts = refl; at = left_out; within = refl })
    by_found (Some rest) e h =
        let a = bind_ok (table_rule_from rest) (λ a. done (Some a.0, a.1)) x h in
        let u = exact_table_rule.exact.takes rest a.0 a.1 in
        subst (Used (Optional NextRule) (if_given is_table_rule_within) ts) (ok_is (Some a.0.0, a.0.1) x a.2) (record {
          used = Plain k.Comma ∷ u.used;
          parts = comma_is ts rest e ∙ ap (λ (us : List Symbol). Plain k.Comma ∷ us) u.parts;
          at = given (grammar.preceded u.at);
          within = u.within;
        })

next_rule_reads : (us : List Symbol) (r : TableRule) (rest : List Symbol) → NextRule us r → Unit {0} → next_rule_from (us ++ rest) ≡ limited_by (Some r, rest) (is_table_rule_within r)
unfolding next_rule_from choose_comma made yields after_comma
next_rule_reads _ r rest (grammar.preceded {ts = us} i) f = some_by (is_table_rule_within r) r rest (table_rule_from (us ++ rest)) (reads exact_table_rule us r rest i tt)

abbrev Closing : List Symbol → Type 0
Closing rest = after_comma rest ≡ None

rules_stop : (rest : List Symbol) → Closing rest → next_rule_from rest ≡ Ok (None, rest)
unfolding next_rule_from choose_comma yields
rules_stop rest f = rw f refl

some_rule : (us : List Symbol) (r : TableRule) → NextRule us r → 0 < length us
some_rule _ r (grammar.preceded i) = omega arith

exact_table_rules : Law (many next_rule_from) (Many NextRule) (all_fit is_table_rule_within) Closing
exact_table_rules = exact_many Anything Closing next_rule_takes next_rule_reads rules_stop (λ rest f. tt) (λ us r rest i. tt) some_rule (single_behind exact_table_rule.single (Plain k.Comma))

-- ---- tables

abbrev Tabled : List Symbol → (List ℕ × List ColumnDefinition) × List TableRule → Type 0
Tabled = Both (Both IsName (Preceded (Plain k.LeftParen) (Listed IsColumn))) (Before (Plain k.RightParen) (Many NextRule))

table_forth : (us : List Symbol) (x : (List ℕ × List ColumnDefinition) × List TableRule) → Tabled us x → IsTable us (reading.table x)
table_forth _ _ (pair (pair name (grammar.preceded columns)) (before rules)) = rw name (g.table columns rules)

table_back : (us : List Symbol) (t : TableDefinition) → IsTable us t → (x : (List ℕ × List ColumnDefinition) × List TableRule) × (Tabled us x) × (reading.table x ≡ t)
table_back _ _ (g.table {cs = cs} {n = n} {columns = columns} {rules = rules} l m) =
    (((n, columns), rules), pair {us = Name n ∷ Plain k.LeftParen ∷ cs} (pair {us = Name n ∷ []} refl (grammar.preceded l)) (before m), refl)

rule_begins : (us : List Symbol) (r : TableRule) (rest : List Symbol) → IsTableRule us r → begins_rule (us ++ rest) ≡ true
unfolding begins_rule
rule_begins _ _ rest (g.key_of_table i) = refl
rule_begins _ _ rest (g.unique_of_table i) = refl
rule_begins _ _ rest (g.check_of_table i) = refl

rules_begin : (us : List Symbol) (rules : List TableRule) (rest : List Symbol) → Many NextRule us rules → EndsColumns (us ++ Plain k.RightParen ∷ rest)
rules_begin _ _ rest done_many = refl
rules_begin _ _ rest (further {us = vs} {a = r} (grammar.preceded {ts = us} i) l) =
    subst EndsColumns (sym (append_assoc (Plain k.Comma ∷ us) vs (Plain k.RightParen ∷ rest))) (rule_begins us r (vs ++ Plain k.RightParen ∷ rest) i)

ends_rules : (vs : List Symbol) (rules : List TableRule) (rest : List Symbol) → Before (Plain k.RightParen) (Many NextRule) vs rules → Unit {0} → EndsColumns (vs ++ rest)
ends_rules _ rules rest (before {ts = us} l) f = subst EndsColumns (sym (append_assoc us (Plain k.RightParen ∷ []) rest)) (rules_begin us rules rest l)

paren_follows : (rest : List Symbol) → Closing (Plain k.RightParen ∷ rest)
unfolding after_comma
paren_follows rest = refl

pub exact_table : Law table_from IsTable is_table_within Anything
unfolding table_from
exact_table =
    exact_made reading.table IsTable is_table_within
    (exact_both (exact_both exact_name (exact_behind_mark k.LeftParen (mark_from_is k.LeftParen tells_left) left_self exact_columns) (λ vs b rest s f. tt))
    (exact_before_mark k.RightParen (mark_from_is k.RightParen tells_right) right_self exact_table_rules paren_follows) ends_rules)
    table_forth table_back (λ x. refl)
