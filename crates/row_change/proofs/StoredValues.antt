-- The values that are stored, column by column.
use Rattle.std.proofs.Common.{◌≡◌, inl, inr, ℕ, zero, suc, ◌+◌, ◌<◌, List, [], ◌∷◌, ◌++◌, length, slice_index_or, refl, sym, ap, subst, ◌∙◌, length-append, arith}
use Rattle.std.proofs.lemmas.Bool.Decides.{eqb_tells}
use Rattle.std.proofs.lemmas.List.{get_or_append_left}
use Rattle.std.proofs.Math.Seq.{get_or-append_seam}
use Rattle.sqlval.specs.declared.value.Value.{Value}
use Rattle.sqlval.specs.declared.value.Value.TheVariants.{Null}

-- what holds of each value up to a place holds of one more
pub one_more : {C : Type 0} (P : ℕ → C → Value → Type 0) (values : List Value) (v : Value) (n : ℕ) → length values ≡ n → ((i : ℕ) (c : C) → i < n → P i c (slice_index_or values i Null)) → ((c : C) → P n c v)
    → (length (values ++ v ∷ []) ≡ n + 1) × ((i : ℕ) (c : C) → i < n + 1 → P i c (slice_index_or (values ++ v ∷ []) i Null))
one_more P values v n long each one = (
  length-append values (v ∷ []) ∙ ap (λ k. k + 1) long,
  λ i c lt. elim (eqb_tells i n) [
    | inl same ↦ subst (λ x. P i c x) (sym (ap (λ k. slice_index_or (values ++ v ∷ []) k Null) (same.1 ∙ sym long) ∙ get_or-append_seam values v [] Null)) (subst (λ k. P k c v) (sym same.1) (one c))
    | inr other ↦ subst (λ x. P i c x) (sym (get_or_append_left values (v ∷ []) Null i (omega (arith, lt, other.1, long)))) (each i c (omega (arith, lt, other.1)))
  ],
)

-- an item of a list, whatever the default
default_apart : {X : Type 0} (xs : List X) (i : ℕ) (e d : X) → i < length xs → slice_index_or xs i e ≡ slice_index_or xs i d
default_apart [] i e d lt = absurd (omega (arith, lt))
default_apart (x ∷ xs) zero e d lt = refl
default_apart (x ∷ xs) (suc i) e d lt = default_apart xs i e d (omega (arith, lt))

pub in_list : {X : Type 0} (xs : List X) (i : ℕ) (x d e : X) → i < length xs → x ≡ slice_index_or xs i e → (P : X → Type 0) → P x → P (slice_index_or xs i d)
in_list xs i x d e lt is P holds = subst P (is ∙ default_apart xs i e d lt) holds
