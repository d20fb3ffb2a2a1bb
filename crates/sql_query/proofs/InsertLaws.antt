-- INSERT and all changes are read exactly.
use Rattle.std.proofs.Common.{◌≡◌, ℕ, ◌<◌, true, Option, None, List, [], ◌∷◌, ◌++◌, length, refl, sym, subst, arith}
use Rattle.sql_lexer.specs.declared.keyword.Keyword.TheVariants as w
use Rattle.sql_syntax.specs.Tree.{Tree}
use Rattle.sql_syntax.specs.declared.change.Change.{Change}
use Rattle.sql_syntax.specs.declared.change.Change.TheVariants as change
use Rattle.sql_syntax.specs.declared.change.Insert.{Insert}
use Rattle.sql_syntax.specs.declared.change.InsertSource.{InsertSource}
use Rattle.sql_syntax.specs.declared.change.InsertSource.TheVariants as source
use Rattle.sql_expr.specs.Follows.{lacks_paren}
use Rattle.sql_expr.specs.Grammar.{AreExpressions, IsName, IsNames, Enclosed, enclosed, Optional, Preceded, preceded}
use Rattle.sql_expr.specs.Limits.{are_shallow}
use Rattle.sql_expr.specs.Symbols.{Symbol, Name, word}
use Rattle.sql_expr.specs.Reading.{after_word, row_from}
use Rattle.sql_grammar.specs.Changes as g
use Rattle.sql_grammar.specs.Changes.{IsInsertSource, IsInsert, IsUpdate, IsDelete, IsChange, is_insert_source_within, is_insert_within, is_change_within, EndsStatement}
use Rattle.sql_query.specs.ChangeReading as reading
use Rattle.sql_query.specs.ChangeReading.{insert_source_from, insert_from, change_from}
use Rattle.sql_grammar.specs.Within.{all_fit}
use Rattle.sql_grammar.specs.Parts.{Both, pair, Listed}
use Rattle.sql_grammar.specs.Queries.{IsQuery}
use Rattle.sql_grammar.specs.Readers.{listed}
use Rattle.sql_query.proofs.ChangeLaws.{exact_delete, exact_update}
use Rattle.sql_grammar.proofs.Chosen.{Made, exact_making, renamed, Or, this, other, exact_or}
use Rattle.sql_grammar.proofs.Endings.{ends_items}
use Rattle.sql_grammar.proofs.Bases.{exact_name, exact_row, exact_maybe_name_row}
use Rattle.sql_grammar.proofs.Law.{Law}
use Rattle.sql_grammar.proofs.Exact.{exact_both, exact_made, exact_behind}
use Rattle.sql_grammar.proofs.Lists.{exact_listed}
use Rattle.sql_query.proofs.SelectLaws.{exact_query}

-- ---- where the rows come from

some_row : (us : List Symbol) (es : List Tree) → Enclosed AreExpressions us es → 0 < length us
some_row _ es (enclosed i) = omega arith

exact_rows : Law (listed row_from) (Listed (Enclosed AreExpressions)) (all_fit are_shallow) EndsStatement
exact_rows = exact_listed exact_row EndsStatement (λ rest f. (tt, ends_items rest f)) (λ rest. tt) some_row

abbrev Rows : List Symbol → InsertSource → Type 0
Rows = Made source.Rows (Listed (Enclosed AreExpressions))

abbrev Queried : List Symbol → InsertSource → Type 0
Queried = Made source.Query IsQuery

query_lacks_values : (us : List Symbol) (s : InsertSource) (rest : List Symbol) → Queried us s → EndsStatement rest → after_word w.Values (us ++ rest) ≡ None
unfolding after_word
query_lacks_values _ s rest (q, preceded i, same) f = refl

source_forth : (us : List Symbol) (s : InsertSource) → Or w.Values Rows Queried us s → IsInsertSource us s
source_forth _ s (this {us = us} (rs, l, same)) = subst (IsInsertSource (word w.Values ∷ us)) same (g.rows l)
source_forth us s (other (q, i, same)) = subst (IsInsertSource us) same (g.query i)

source_back : (us : List Symbol) (s : InsertSource) → IsInsertSource us s → Or w.Values Rows Queried us s
source_back _ _ (g.rows {given = rs} l) = this (rs, l, refl)
source_back _ _ (g.query {q = q} i) = other (q, i, refl)

exact_source : Law insert_source_from IsInsertSource is_insert_source_within EndsStatement
unfolding insert_source_from
exact_source =
    renamed (exact_or w.Values (exact_making exact_rows source.Rows is_insert_source_within (λ rs. refl)) (exact_making exact_query source.Query is_insert_source_within (λ q. refl)) query_lacks_values)
    IsInsertSource source_forth source_back

-- ---- INSERT

abbrev Inserted : List Symbol → (List ℕ × Option (List (List ℕ))) × InsertSource → Type 0
Inserted = Both (Both (Preceded (word w.Into) IsName) (Optional (Enclosed IsNames))) IsInsertSource

insert_forth : (us : List Symbol) (x : (List ℕ × Option (List (List ℕ))) × InsertSource) → Inserted us x → IsInsert us (reading.insert x)
insert_forth _ _ (pair {vs = ss} {b = s} (pair {vs = ns} {a = t} {b = c} (preceded name) o) i) =
    subst (λ (us : List Symbol). IsInsert ((word w.Into ∷ us) ++ ns ++ ss) (reading.insert ((t, c), s))) (sym name) (g.insert o i)

insert_back : (us : List Symbol) (d : Insert) → IsInsert us d → (x : (List ℕ × Option (List (List ℕ))) × InsertSource) × (Inserted us x) × (reading.insert x ≡ d)
insert_back _ _ (g.insert {ns = ns} {t = t} {columns = c} {given = s} o i) =
    (((t, c), s), pair {us = word w.Into ∷ Name t ∷ ns} (pair {us = word w.Into ∷ Name t ∷ []} (preceded refl) o) i, refl)

source_lacks_paren : (us : List Symbol) (s : InsertSource) (rest : List Symbol) → IsInsertSource us s → EndsStatement rest → lacks_paren (us ++ rest) ≡ true
source_lacks_paren _ _ rest (g.rows l) f = refl
source_lacks_paren _ _ rest (g.query (preceded i)) f = refl

pub exact_insert : Law insert_from IsInsert is_insert_within EndsStatement
unfolding insert_from
exact_insert =
    exact_made reading.insert IsInsert is_insert_within
    (exact_both (exact_both (exact_behind w.Into exact_name) exact_maybe_name_row (λ vs b rest s f. tt)) exact_source source_lacks_paren) insert_forth insert_back (λ x. refl)

-- ---- all changes

abbrev Inserting : List Symbol → Change → Type 0
Inserting = Made change.Insert IsInsert

abbrev Updating : List Symbol → Change → Type 0
Updating = Made change.Update IsUpdate

abbrev Deleting : List Symbol → Change → Type 0
Deleting = Preceded (word w.Delete) (Made change.Delete IsDelete)

delete_lacks_update : (us : List Symbol) (c : Change) (rest : List Symbol) → Deleting us c → EndsStatement rest → after_word w.Update (us ++ rest) ≡ None
unfolding after_word
delete_lacks_update _ c rest (preceded d) f = refl

lacks_insert : (us : List Symbol) (c : Change) (rest : List Symbol) → Or w.Update Updating Deleting us c → EndsStatement rest → after_word w.Insert (us ++ rest) ≡ None
unfolding after_word
lacks_insert _ c rest (this u) f = refl
lacks_insert _ c rest (other (preceded d)) f = refl

abbrev Changing : List Symbol → Change → Type 0
Changing = Or w.Insert Inserting (Or w.Update Updating Deleting)

change_forth : (us : List Symbol) (c : Change) → Changing us c → IsChange us c
change_forth _ c (this {us = us} (i, s, same)) = subst (IsChange (word w.Insert ∷ us)) same (g.inserts s)
change_forth _ c (other (this {us = us} (u, s, same))) = subst (IsChange (word w.Update ∷ us)) same (g.updates s)
change_forth _ c (other (other (preceded {ts = us} (d, s, same)))) = subst (IsChange (word w.Delete ∷ us)) same (g.deletes s)

change_back : (us : List Symbol) (c : Change) → IsChange us c → Changing us c
change_back _ _ (g.inserts {i = i} s) = this (i, s, refl)
change_back _ _ (g.updates {u = u} s) = other (this (u, s, refl))
change_back _ _ (g.deletes {d = d} s) = other (other (preceded (d, s, refl)))

pub exact_change : Law change_from IsChange is_change_within EndsStatement
unfolding change_from
exact_change =
    renamed (exact_or w.Insert (exact_making exact_insert change.Insert is_change_within (λ i. refl))
    (exact_or w.Update (exact_making exact_update change.Update is_change_within (λ u. refl)) (exact_behind w.Delete (exact_making exact_delete change.Delete is_change_within (λ d. refl)))
    delete_lacks_update) lacks_insert)
    IsChange change_forth change_back
