-- Places with their terms.
use Rattle.std.proofs.Common.{◌≡◌, ◌∙◌, refl, sym, ap, Option, Some, None, ℕ, List, [], ◌∷◌, ◌++◌, length}
use Rattle.std.specs.Prelude.{slice_get, zip}
use Rattle.std.proofs.lemmas.List.{append-nil}
use Rattle.query_terms.specs.Terms.{Term}
use Rattle.trigger_names.specs.Resolved.{set_at}

pub none_paired : (places : List ℕ) → [] ≡ zip {X = Term} places []
none_paired [] = refl
none_paired (p ∷ places) = refl

-- one more, with the next place
pub next_paired : (places : List ℕ) (ts : List Term) (t : Term) → zip places (ts ++ t ∷ []) ≡ zip places ts ++ set_at places (length (zip places ts)) t
next_paired [] [] t = refl
next_paired [] (u ∷ ts) t = refl
next_paired (p ∷ places) [] t = ap (λ ps. (p, t) ∷ ps) (sym (none_paired places))
next_paired (p ∷ places) (u ∷ ts) t = ap (λ ps. (p, u) ∷ ps) (next_paired places ts t)

abbrev with_place : Term → Option ℕ → List (ℕ × Term)
with_place t found = elim found [ None ↦ [] | Some p ↦ (p, t) ∷ [] ]

-- no place is left
pub none_left : (places : List ℕ) (n : ℕ) (sets : List (ℕ × Term)) (t : Term) → n ≡ length sets → slice_get places n ≡ None → sets ≡ sets ++ set_at places (length sets) t
none_left places n sets t e gone = sym (append-nil sets) ∙ ap (λ more. sets ++ more) (sym (ap (with_place t) (ap (slice_get places) (sym e) ∙ gone)))

-- one is
pub one_left : (places : List ℕ) (n p : ℕ) (sets longer : List (ℕ × Term)) (t : Term) → n ≡ length sets → slice_get places n ≡ Some p → longer ≡ sets ++ (p, t) ∷ [] → longer ≡ sets ++ set_at places (length sets) t
one_left places n p sets longer t e there is = is ∙ ap (λ more. sets ++ more) (sym (ap (with_place t) (ap (slice_get places) (sym e) ∙ there)))
