-- CHECKs that are looked up one after another.
use Rattle.std.proofs.Common.{◌≡◌, refl, sym, ap, subst, ◌∙◌, ℕ, ◌<◌, ◌+◌, false, List, [], ◌∷◌, ◌++◌, length, drop, flat_map, map, get_or, append_assoc}
use Rattle.std.proofs.lemmas.List.{append-nil, at_drop_more, map-append}
use Rattle.sqlval.specs.Faults.{IsNotDiskFault}
use Rattle.sqlval.specs.declared.fault.Fault.{Fault}
use Rattle.sql_syntax.specs.Tree.{Tree}
use Rattle.sql_syntax.specs.declared.create.TableDefinition.{TableDefinition}
use Rattle.query_terms.specs.Terms.{Term}
use Rattle.query_names.specs.Bound.{IsFaultOf}
use Rattle.query_names.specs.Checked.{Checked, Meant, meant, good, faults, both, known_all, onto_list}
use Rattle.query_names.specs.Creating.{known_after}
use Rattle.query_names.specs.Expressions.{resolve}
use Rattle.query_names.specs.declared.scope.ScopeSource.{ScopeSource}
use Rattle.query_names.specs.Tables.{checks_of}
use Rattle.query_names.proofs.PartRefusals.{left, mapped}
use Rattle.query_names.proofs.QuietNames.{not_disk, of_known, of_tree}

-- ---- what two lists mean

abbrev joined : {A : Type 0} → Checked (List A) → Checked (List A) → Checked (List A)
joined k l = both (λ xs ys. xs ++ ys) k l

after_none : {A : Type 0} (k : Checked (List A)) → k ≡ joined (good []) k
after_none (Meant xs rs) = refl

one_in_front : {A : Type 0} (k : Checked A) (l m : Checked (List A)) → both (λ x xs. x ∷ xs) k (joined l m) ≡ joined (both (λ x xs. x ∷ xs) k l) m
one_in_front (Meant x rs) (Meant ys ss) (Meant zs ts) = ap (λ us. Meant (x ∷ (ys ++ zs)) us) (sym (append_assoc rs ss ts))

known_append : {A : Type 0} (ks ls : List (Checked A)) → known_all (ks ++ ls) ≡ joined (known_all ks) (known_all ls)
known_append [] ls = after_none (known_all ls)
known_append (k ∷ ks) ls = ap (λ l. both (λ x xs. x ∷ xs) k l) (known_append ks ls) ∙ one_in_front k (known_all ks) (known_all ls)

parts_known : {A : Type 0} (found new : List A) (k l : Checked (List A)) → onto_list found k ≡ Meant new [] → onto_list new l ≡ onto_list found (joined k l)
parts_known {A = A} found new (Meant xs rs) (Meant ys ss) h =
    ap (λ (k : Checked (List A)). Meant (meant k ++ ys) (faults k ++ ss)) (sym h) ∙ ap (λ zs. Meant zs (rs ++ ss)) (append_assoc found xs ys)

module _ (scope : List ScopeSource) where
  both_lists : (found : List Term) (ts us : List Tree) → known_after scope found (ts ++ us)
      ≡ onto_list found (joined (known_all (map (resolve false scope) ts)) (known_all (map (resolve false scope) us)))
  both_lists found ts us =
      ap (λ ks. onto_list found (known_all ks)) (map-append (resolve false scope) ts us)
      ∙ ap (onto_list found) (known_append (map (resolve false scope) ts) (map (resolve false scope) us))

  -- what follows expressions that aren't refused
  pub goes_on : (found new : List Term) (ts us : List Tree) → known_after scope found ts ≡ Meant new [] → known_after scope new us ≡ known_after scope found (ts ++ us)
  goes_on found new ts us h =
      parts_known found new (known_all (map (resolve false scope) ts)) (known_all (map (resolve false scope) us)) h ∙ sym (both_lists found ts us)

  -- what refuses the first refuses all
  pub stops : (found : List Term) (ts us : List Tree) (fault : Fault) → IsFaultOf (faults (known_after scope found ts)) fault → IsFaultOf (faults (known_after scope found (ts ++ us))) fault
  stops found ts us fault h =
      subst (λ k. IsFaultOf (faults k) fault) (sym (both_lists found ts us))
      (of_parts (known_all (map (resolve false scope) ts)) (known_all (map (resolve false scope) us)) h)
    where
      of_parts : (k l : Checked (List Term)) → IsFaultOf (faults (onto_list found k)) fault → IsFaultOf (faults (onto_list found (joined k l))) fault
      of_parts (Meant xs rs) (Meant ys ss) h = left (λ xs ys. xs ++ ys) (Meant xs rs) (Meant ys ss) fault h

  -- ---- one expression

  pub one_known : (found : List Term) (t : Tree) (x : Term) → resolve false scope t ≡ Meant x [] → known_after scope found (t ∷ []) ≡ Meant (found ++ x ∷ []) []
  one_known found t x h = ap (λ k. onto_list found (both (λ y ys. y ∷ ys) k (good []))) h

  pub one_refused : (found : List Term) (t : Tree) (fault : Fault) → IsFaultOf (faults (resolve false scope t)) fault → IsFaultOf (faults (known_after scope found (t ∷ []))) fault
  one_refused found t fault h =
      mapped (λ xs. found ++ xs) (both (λ y ys. y ∷ ys) (resolve false scope t) (good [])) fault (left (λ y ys. y ∷ ys) (resolve false scope t) (good []) fault h)

  pub ends : (found : List Term) → known_after scope found [] ≡ Meant found []
  ends found = ap (λ xs. Meant xs []) (append-nil found)

  -- ---- the expressions of items

  module _ {A : Type 0} (f : A → List Tree) (xs : List A) (i : ℕ) (x : A) (found : List Term) (lt : i < length xs) (is : x ≡ get_or xs i x) where
    parts : flat_map f (drop i xs) ≡ f x ++ flat_map f (drop (i + 1) xs)
    parts = at_drop_more (flat_map f) xs i x lt ∙ ap (λ y. f y ++ flat_map f (drop (i + 1) xs)) (sym is)

    pub next_known : (new : List Term) → known_after scope found (f x) ≡ Meant new [] → known_after scope new (flat_map f (drop (i + 1) xs)) ≡ known_after scope found (flat_map f (drop i xs))
    next_known new h = goes_on found new (f x) (flat_map f (drop (i + 1) xs)) h ∙ sym (ap (known_after scope found) parts)

    pub next_refused : (fault : Fault) → IsFaultOf (faults (known_after scope found (f x))) fault → IsFaultOf (faults (known_after scope found (flat_map f (drop i xs)))) fault
    next_refused fault h = subst (λ ts. IsFaultOf (faults (known_after scope found ts)) fault) (sym parts) (stops found (f x) (flat_map f (drop (i + 1) xs)) fault h)

    pub next_empty : f x ≡ [] → known_after scope found (flat_map f (drop (i + 1) xs)) ≡ known_after scope found (flat_map f (drop i xs))
    next_empty h = sym (ap (known_after scope found) (parts ∙ ap (λ ts. ts ++ flat_map f (drop (i + 1) xs)) h))

    pub check_refused : (t : Tree) (fault : Fault) → f x ≡ t ∷ [] → IsFaultOf (faults (known_after scope found (t ∷ []))) fault → IsFaultOf (faults (known_after scope found (flat_map f (drop i xs)))) fault
    check_refused t fault h refused = next_refused fault (subst (λ ts. IsFaultOf (faults (known_after scope found ts)) fault) (sym h) refused)

  -- ---- two lists, one after the other

  begins : (k : Checked (List Term)) → k ≡ onto_list [] k
  begins (Meant xs rs) = refl

  module _ (ts us : List Tree) (none : List Term) (h : none ≡ []) where
    whole : known_all (map (resolve false scope) (ts ++ us)) ≡ known_after scope none (ts ++ us)
    whole = begins (known_all (map (resolve false scope) (ts ++ us))) ∙ ap (λ xs. onto_list xs (known_all (map (resolve false scope) (ts ++ us)))) (sym h)

    pub both_known : (found new : List Term) → known_after scope none ts ≡ Meant found [] → known_after scope found us ≡ Meant new [] → known_all (map (resolve false scope) (ts ++ us)) ≡ Meant new []
    both_known found new first second = whole ∙ (sym (goes_on none found ts us first) ∙ second)

    pub first_refused : (fault : Fault) → IsFaultOf (faults (known_after scope none ts)) fault → IsFaultOf (faults (known_all (map (resolve false scope) (ts ++ us)))) fault
    first_refused fault refused = subst (λ k. IsFaultOf (faults k) fault) (sym whole) (stops none ts us fault refused)

    pub second_refused : (found : List Term) (fault : Fault) → known_after scope none ts ≡ Meant found [] → IsFaultOf (faults (known_after scope found us)) fault
        → IsFaultOf (faults (known_all (map (resolve false scope) (ts ++ us)))) fault
    second_refused found fault first refused = subst (λ k. IsFaultOf (faults k) fault) (goes_on none found ts us first ∙ sym whole) refused

-- no CHECK is refused for a disk
pub checks_quiet : (scope : List ScopeSource) (d : TableDefinition) (fault : Fault) → IsFaultOf (faults (known_all (map (resolve false scope) (checks_of d)))) fault → IsNotDiskFault fault
checks_quiet scope d fault h = not_disk (known_all (map (resolve false scope) (checks_of d))) fault (of_known (resolve false scope) (checks_of d) (of_tree false scope)) h
