-- The terms of a list of expressions, one after another.
use Rattle.std.proofs.Common.{◌≡◌, refl, sym, ap, subst, ◌∙◌, ℕ, ◌<◌, ◌+◌, Bool, List, [], ◌∷◌, ◌++◌, length, drop, get_or, Result, Ok, Err, arith}
use Rattle.std.specs.Prelude.{IsErrAnd}
use Rattle.std.proofs.lemmas.List.{append-nil, at_drop_more, length_push}
use Rattle.sqlval.specs.declared.fault.Fault.{Fault}
use Rattle.sql_syntax.specs.Tree.{Tree, trees}
use Rattle.query_terms.specs.Terms.{Term, Terms, End, More, terms}
use Rattle.query_names.specs.Bound.{IsFaultOf}
use Rattle.query_names.specs.Checked.{Checked, Meant, both, faults, known_map}
use Rattle.query_names.specs.Expressions.{count_of, resolve, resolve_all}
use Rattle.query_names.specs.Named.{Names, NamesBy}
use Rattle.query_names.specs.declared.scope.ScopeSource.{ScopeSource}
use Rattle.query_names.proofs.PartRefusals.{left, mapped}

-- these terms before those
abbrev pub before : List Term → Terms → Terms
before [] ts = ts
before (e ∷ es) ts = More e (before es ts)

-- what is found, and what the rest of the list stands for
abbrev pub onto : List Term → Checked Terms → Checked Terms
onto found rest = known_map (before found) rest

pub before_all : (found : List Term) → before found End ≡ terms found
before_all [] = refl
before_all (e ∷ es) = ap (More e) (before_all es)

before_more : (found : List Term) (t : Term) (ts : Terms) → before (found ++ t ∷ []) ts ≡ before found (More t ts)
before_more [] t ts = refl
before_more (e ∷ es) t ts = ap (More e) (before_more es t ts)

one_more : (found : List Term) (t : Term) (a : Checked Term) (k : Checked Terms) → a ≡ Meant t [] → onto (found ++ t ∷ []) k ≡ onto found (both More a k)
one_more found t a (Meant ts ss) h = ap (λ us. Meant us ss) (before_more found t ts) ∙ ap (λ x. onto found (both More x (Meant ts ss))) (sym h)

-- the list from a place on
from_place : (totals : Bool) (scope : List ScopeSource) (list : List Tree) (i : ℕ) (e : Tree) (found : List Term) → i < length list → e ≡ get_or list i e
    → onto found (resolve_all totals scope (trees (drop i list))) ≡ onto found (both More (resolve totals scope e) (resolve_all totals scope (trees (drop (i + 1) list))))
from_place totals scope list i e found lt is =
    at_drop_more (λ es. onto found (resolve_all totals scope (trees es))) list i e lt
    ∙ ap (λ x. onto found (both More (resolve totals scope x) (resolve_all totals scope (trees (drop (i + 1) list))))) (sym is)

pub found_at : (totals : Bool) (scope : List ScopeSource) (list : List Tree) (i : ℕ) (e : Tree) (found : List Term) (t : Term) → i < length list → e ≡ get_or list i e
    → resolve totals scope e ≡ Meant t []
    → onto (found ++ t ∷ []) (resolve_all totals scope (trees (drop (i + 1) list))) ≡ onto found (resolve_all totals scope (trees (drop i list)))
found_at totals scope list i e found t lt is h =
    one_more found t (resolve totals scope e) (resolve_all totals scope (trees (drop (i + 1) list))) h ∙ sym (from_place totals scope list i e found lt is)

pub refused_at : (totals : Bool) (scope : List ScopeSource) (list : List Tree) (i : ℕ) (e : Tree) (found : List Term) (fault : Fault) → i < length list → e ≡ get_or list i e
    → IsFaultOf (faults (resolve totals scope e)) fault → IsFaultOf (faults (onto found (resolve_all totals scope (trees (drop i list))))) fault
refused_at totals scope list i e found fault lt is h =
    subst (λ k. IsFaultOf (faults k) fault) (sym (from_place totals scope list i e found lt is))
    (mapped (before found) (both More (resolve totals scope e) (resolve_all totals scope (trees (drop (i + 1) list)))) fault
    (left More (resolve totals scope e) (resolve_all totals scope (trees (drop (i + 1) list))) fault h))

-- each item of the list is one term
pub counted_more : (found : List Term) (t : Term) (list : List Tree) (i : ℕ) (e : Tree) → i < length list
    → length (found ++ t ∷ []) + count_of (trees (drop (i + 1) list)) ≡ length found + count_of (trees (drop i list))
counted_more found t list i e lt = omega (arith, length_push found t, at_drop_more (λ es. count_of (trees es)) list i e lt)

-- a fault of a part that is handed on
pub handed_on : {X A : Type 0} (view : X → A) (k : Checked A) (fault : Fault) (result : Result X Fault) → IsErrAnd result (λ e. e ≡ fault) → IsFaultOf (faults k) fault → NamesBy view k result
handed_on view k fault (Ok x) same h = absurd same
handed_on view k fault (Err e) same h = subst (λ f. IsFaultOf (faults k) f) (sym same) h

-- a call whose arguments aren't refused
pub called_with : (k : Checked (Terms → Term)) (all : Checked Terms) (ts : Terms) (r : Result Term Fault) → all ≡ Meant ts [] → Names (known_map (λ call. call ts) k) r
    → Names (both {A = Terms → Term} (λ call es. call es) k all) r
called_with (Meant call rs) all ts r h n =
    subst (λ a. Names (both {A = Terms → Term} (λ call es. call es) (Meant call rs) a) r) (sym h) (subst (λ ss. Names (Meant (call ts) ss) r) (sym (append-nil rs)) n)
