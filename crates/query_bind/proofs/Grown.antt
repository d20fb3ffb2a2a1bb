-- Lists that grow by what each item stands for.
use Rattle.std.proofs.Common.{◌≡◌, refl, sym, ap, subst, ◌∙◌, ℕ, ◌<◌, ◌+◌, Bool, true, false, not, ◌&&◌, Some, List, [], ◌∷◌, ◌++◌, length, drop, map, get_or}
use Rattle.std.proofs.lemmas.List.{append-nil, at_drop_more}
use Rattle.sqlval.specs.declared.fault.Fault.{Fault}
use Rattle.query_names.specs.Bound.{IsFaultOf}
use Rattle.query_names.specs.Checked.{Checked, Meant, faults, both, known_all, onto_list}
use Rattle.query_names.specs.Queries.{is_own, resolve_item, resolve_items}
use Rattle.query_names.proofs.ColumnNames.{folded_twice}
use Rattle.catalog.specs.Database.{Name}
use Rattle.sqlval.specs.Names.{folded, is_same_name}
use Rattle.std.specs.Str.{bytes_eq}
use Rattle.query_names.specs.declared.scope.ScopeColumn.{ScopeColumn}
use Rattle.query_names.specs.declared.scope.ScopeSource.{ScopeSource}
use Rattle.sql_syntax.specs.declared.query.ResultItem.{ResultItem}
use Rattle.query_terms.specs.Terms.{Term}
use Rattle.query_bind.specs.Named.{orders_checked}
use Rattle.query_bind.proofs.Chains.{in_front}

pub begins : {A : Type 0} (k : Checked (List A)) → onto_list [] k ≡ k
begins (Meant xs rs) = refl

pub ends : {A : Type 0} (found : List A) → onto_list found (Meant [] []) ≡ Meant found []
ends found = ap (λ xs. Meant xs []) (append-nil found)

pub refused_there : {A : Type 0} (old : List A) (k rest : Checked (List A)) (fault : Fault) → IsFaultOf (faults (onto_list old k)) fault
    → IsFaultOf (faults (onto_list old (both (λ x y. x ++ y) k rest))) fault
refused_there old (Meant xs rs) (Meant ys ss) fault h = in_front rs ss fault h

-- ---- one for each item

pub one_refused : {A : Type 0} (found : List A) (k : Checked A) (rest : Checked (List A)) (fault : Fault) → IsFaultOf (faults k) fault
    → IsFaultOf (faults (onto_list found (both (λ y ys. y ∷ ys) k rest))) fault
one_refused found (Meant x rs) (Meant ys ss) fault h = in_front rs ss fault h

-- the next item of a list
pub next_item : {A B : Type 0} (f : B → Checked A) (xs : List B) (i : ℕ) (y : B) (found : List A) → i < length xs → y ≡ get_or xs i y
    → onto_list found (known_all (map f (drop i xs))) ≡ onto_list found (both (λ y ys. y ∷ ys) (f y) (known_all (map f (drop (i + 1) xs))))
next_item f xs i y found lt is =
    at_drop_more (λ zs. onto_list found (known_all (map f zs))) xs i y lt
    ∙ ap (λ z. onto_list found (both (λ y ys. y ∷ ys) (f z) (known_all (map f (drop (i + 1) xs))))) (sym is)

pub item_refused : {A B : Type 0} (f : B → Checked A) (xs : List B) (i : ℕ) (y : B) (found : List A) (fault : Fault) → i < length xs → y ≡ get_or xs i y
    → IsFaultOf (faults (f y)) fault → IsFaultOf (faults (onto_list found (known_all (map f (drop i xs))))) fault
item_refused f xs i y found fault lt is h =
    subst (λ k. IsFaultOf (faults k) fault) (sym (next_item f xs i y found lt is)) (one_refused found (f y) (known_all (map f (drop (i + 1) xs))) fault h)

-- ---- terms of ORDER BY

next_order : {B : Type 0} (f : B → Checked Term × Bool) (xs : List B) (i : ℕ) (y : B) (found : List (Term × Bool)) → i < length xs → y ≡ get_or xs i y
    → onto_list found (orders_checked (map f (drop i xs))) ≡ onto_list found (orders_checked (f y ∷ map f (drop (i + 1) xs)))
next_order f xs i y found lt is =
    at_drop_more (λ zs. onto_list found (orders_checked (map f zs))) xs i y lt
    ∙ ap (λ z. onto_list found (orders_checked (f z ∷ map f (drop (i + 1) xs)))) (sym is)

pub order_refused : {B : Type 0} (f : B → Checked Term × Bool) (xs : List B) (i : ℕ) (y : B) (found : List (Term × Bool)) (fault : Fault) → i < length xs → y ≡ get_or xs i y
    → IsFaultOf (faults (f y).0) fault → IsFaultOf (faults (onto_list found (orders_checked (map f (drop i xs))))) fault
order_refused f xs i y found fault lt is h =
    subst (λ k. IsFaultOf (faults k) fault) (sym (next_order f xs i y found lt is)) (in_front (faults (f y).0) (faults (orders_checked (map f (drop (i + 1) xs)))) fault h)

-- ---- results

next_result : (scope : List ScopeSource) (xs : List ResultItem) (i : ℕ) (y : ResultItem) (found : List (Term × ScopeColumn)) → i < length xs → y ≡ get_or xs i y
    → onto_list found (resolve_items scope (drop i xs)) ≡ onto_list found (both (λ x y. x ++ y) (resolve_item scope y) (resolve_items scope (drop (i + 1) xs)))
next_result scope xs i y found lt is =
    at_drop_more (λ zs. onto_list found (resolve_items scope zs)) xs i y lt
    ∙ ap (λ z. onto_list found (both (λ x y. x ++ y) (resolve_item scope z) (resolve_items scope (drop (i + 1) xs)))) (sym is)

pub result_refused : (scope : List ScopeSource) (xs : List ResultItem) (i : ℕ) (y : ResultItem) (old : List (Term × ScopeColumn)) (fault : Fault) → i < length xs → y ≡ get_or xs i y
    → IsFaultOf (faults (onto_list old (resolve_item scope y))) fault → IsFaultOf (faults (onto_list old (resolve_items scope (drop i xs)))) fault
result_refused scope xs i y old fault lt is h =
    subst (λ k. IsFaultOf (faults k) fault) (sym (next_result scope xs i y old lt is)) (refused_there old (resolve_item scope y) (resolve_items scope (drop (i + 1) xs)) fault h)

-- a source is of a name, whichever letters are large
pub own_name : (q : Name) (s : ScopeSource) → is_own (Some q) s ≡ (is_same_name (folded q) s.name && not s.needs_name)
own_name q s = swapped (not s.needs_name) (is_same_name q s.name) ∙ ap (λ n. bytes_eq n (folded s.name) && not s.needs_name) (sym (folded_twice q))
  where
    swapped : (a b : Bool) → (a && b) ≡ (b && a)
    swapped true true = refl
    swapped true false = refl
    swapped false true = refl
    swapped false false = refl
