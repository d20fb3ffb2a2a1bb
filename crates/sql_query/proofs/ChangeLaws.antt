-- Changes are read exactly.
use Rattle.std.proofs.Common.{◌≡◌, ℕ, ◌<◌, true, Option, List, [], ◌∷◌, ◌++◌, length, Ok, refl, sym, subst, arith}
use Rattle.sql_lexer.specs.declared.keyword.Keyword.TheVariants as w
use Rattle.sql_lexer.specs.declared.token.Kind.TheVariants as k
use Rattle.sql_syntax.specs.Tree.{Tree}
use Rattle.sql_syntax.specs.declared.change.Assignment.{Assignment}
use Rattle.sql_syntax.specs.declared.change.Delete.{Delete}
use Rattle.sql_syntax.specs.declared.change.Update.{Update}
use Rattle.sql_expr.specs.Follows.{EndsExpression, EndsList, ends_list}
use Rattle.sql_expr.specs.Grammar.{IsExpression, IsName, Optional, left_out, given, Preceded, preceded}
use Rattle.sql_expr.specs.Symbols.{Symbol, Plain, Name, word}
use Rattle.sql_expr.specs.Reading.{mark_from}
use Rattle.sql_expr.proofs.Again.{follows_comma}
use Rattle.sql_expr.proofs.MarkTests.{mark_from_is, tells_equal}
use Rattle.sql_expr.specs.Follows.{EndsAfter}
use Rattle.sql_grammar.specs.Changes as g
use Rattle.sql_grammar.specs.Changes.{IsAssignment, IsUpdate, IsDelete, is_assignment_within, is_update_within, is_delete_within, EndsStatement}
use Rattle.sql_query.specs.ChangeReading as reading
use Rattle.sql_query.specs.ChangeReading.{assignment_from, update_from, delete_from}
use Rattle.sql_grammar.specs.Within.{all_fit}
use Rattle.sql_grammar.specs.Parts.{Both, pair, Listed}
use Rattle.sql_grammar.specs.Readers.{listed}
use Rattle.sql_grammar.proofs.Bases.{exact_name, exact_expression, exact_maybe_after}
use Rattle.sql_grammar.proofs.Endings.{follows_piece, ends_expression, ends_items, lacks_word}
use Rattle.sql_grammar.proofs.Exact.{weaker, exact_both, exact_made, exact_behind, exact_behind_mark}
use Rattle.sql_grammar.proofs.Law.{Law}
use Rattle.sql_grammar.proofs.Lists.{exact_listed}

-- ---- DELETE

delete_forth : (us : List Symbol) (x : List ℕ × Option Tree) → Both (Preceded (word w.From) IsName) (Optional (Preceded (word w.Where) IsExpression)) us x → IsDelete us (reading.delete x)
delete_forth _ _ (pair {vs = vs} {a = t} {b = c} (preceded {ts = ns} name) o) = subst (λ (ns : List Symbol). IsDelete ((word w.From ∷ ns) ++ vs) (reading.delete (t, c))) (sym name) (g.delete o)

delete_back : (us : List Symbol) (d : Delete) → IsDelete us d
    → (x : List ℕ × Option Tree) × (Both (Preceded (word w.From) IsName) (Optional (Preceded (word w.Where) IsExpression)) us x) × (reading.delete x ≡ d)
delete_back _ _ (g.delete {t = t} {condition = c} o) = ((t, c), pair {us = word w.From ∷ Name t ∷ []} (preceded refl) o, refl)

pub exact_delete : Law delete_from IsDelete is_delete_within EndsStatement
unfolding delete_from
exact_delete =
    exact_made reading.delete IsDelete is_delete_within
    (weaker EndsStatement (λ rest f. (ends_expression rest f, lacks_word w.Where rest f)) (exact_both (exact_behind w.From exact_name) (exact_maybe_after w.Where) (λ vs b rest s f. tt)))
    delete_forth delete_back (λ x. refl)

-- ---- UPDATE

equal_self : (ts : List Symbol) → mark_from k.Equal (Plain k.Equal ∷ ts) ≡ Ok ts
unfolding mark_from
equal_self ts = refl

abbrev Assigned : List Symbol → List ℕ × Tree → Type 0
Assigned = Both IsName (Preceded (Plain k.Equal) IsExpression)

assignment_forth : (us : List Symbol) (x : List ℕ × Tree) → Assigned us x → IsAssignment us (reading.assignment x)
assignment_forth _ _ (pair {vs = vs} {a = c} {b = e} name (preceded {ts = es} i)) = subst (λ (ns : List Symbol). IsAssignment (ns ++ Plain k.Equal ∷ es) (reading.assignment (c, e))) (sym name) (g.assignment i)

assignment_back : (us : List Symbol) (d : Assignment) → IsAssignment us d → (x : List ℕ × Tree) × (Assigned us x) × (reading.assignment x ≡ d)
assignment_back _ _ (g.assignment {c = c} {e = e} i) = ((c, e), pair {us = Name c ∷ []} refl (preceded i), refl)

exact_assignment : Law assignment_from IsAssignment is_assignment_within EndsExpression
unfolding assignment_from
exact_assignment =
    exact_made reading.assignment IsAssignment is_assignment_within
    (exact_both exact_name (exact_behind_mark k.Equal (mark_from_is k.Equal tells_equal) equal_self exact_expression) (λ vs b rest s f. tt)) assignment_forth assignment_back (λ x. refl)

some_pieces : (us : List Symbol) (a : Assignment) → IsAssignment us a → 0 < length us
some_pieces _ _ (g.assignment {es = es} i) = omega arith

exact_assignments : Law (listed assignment_from) (Listed IsAssignment) (all_fit is_assignment_within) EndsList
exact_assignments = exact_listed exact_assignment EndsList (λ rest f. f) (follows_comma 11) some_pieces

abbrev Updated : List Symbol → (List ℕ × List Assignment) × Option Tree → Type 0
Updated = Both (Both IsName (Preceded (word w.Set) (Listed IsAssignment))) (Optional (Preceded (word w.Where) IsExpression))

update_forth : (us : List Symbol) (x : (List ℕ × List Assignment) × Option Tree) → Updated us x → IsUpdate us (reading.update x)
update_forth _ _ (pair {vs = cs} {b = c} (pair {a = t} {b = xs} name (preceded {ts = gs} l)) o) =
    subst (λ (ns : List Symbol). IsUpdate (ns ++ word w.Set ∷ gs ++ cs) (reading.update ((t, xs), c))) (sym name) (g.update l o)

update_back : (us : List Symbol) (d : Update) → IsUpdate us d → (x : (List ℕ × List Assignment) × Option Tree) × (Updated us x) × (reading.update x ≡ d)
update_back _ _ (g.update {gs = gs} {t = t} {given = xs} {condition = c} l o) = (((t, xs), c), pair {us = Name t ∷ word w.Set ∷ gs} (pair {us = Name t ∷ []} refl (preceded l)) o, refl)

-- what may follow a condition after a list
abbrev EndsBoth : List Symbol → Type 0
EndsBoth rest = EndsAfter w.Where rest × (ends_list rest ≡ true)

ends_assignments : (vs : List Symbol) (c : Option Tree) (rest : List Symbol) → Optional (Preceded (word w.Where) IsExpression) vs c → EndsBoth rest → EndsList (vs ++ rest)
ends_assignments _ _ rest left_out f = (f.0.0, f.1)
ends_assignments _ _ rest (given (preceded {ts = us} i)) f = (follows_piece (word w.Where) (us ++ rest) refl refl, refl)

pub exact_update : Law update_from IsUpdate is_update_within EndsStatement
unfolding update_from
exact_update =
    exact_made reading.update IsUpdate is_update_within
    (weaker EndsStatement (λ rest f. ((ends_expression rest f, lacks_word w.Where rest f), ends_items rest f))
    (exact_both (exact_both exact_name (exact_behind w.Set exact_assignments) (λ vs b rest s f. tt)) (weaker EndsBoth (λ rest f. f.0) (exact_maybe_after w.Where)) ends_assignments))
    update_forth update_back (λ x. refl)
