-- What the triggers of a view see.
use Rattle.std.proofs.Common.{◌≡◌, ◌∙◌, inl, inr, refl, sym, ap, subst, ℕ, List, [], ◌∷◌, length, replicate, Option, Some, None, Result, Ok, Err}
use Rattle.std.specs.Prelude.{IsErrAnd, zip}
use Rattle.sqlval.specs.Faults.{IsOrMemory}
use Rattle.sqlval.specs.Refusals.{Answer, ◌then◌}
use Rattle.sqlval.specs.declared.fault.Fault.{Fault}
use Rattle.sqlval.specs.declared.value.Value.{Value}
use Rattle.sqlval.specs.declared.value.Value.TheVariants.{Null}
use Rattle.query_terms.specs.Outcome.{AnswersBy, IsRefusedBy}
use Rattle.query_terms.specs.Terms.{Term}
use Rattle.query_terms.specs.Values.{Row}
use Rattle.row_change.specs.Changes.{Outer}
use Rattle.row_change.specs.Constraints.{set_values}
use Rattle.trigger.specs.Effects.{nulls, view_row}
use Rattle.executor_programs.specs.Begun.{both_rows}
use Rattle.executor_programs.specs.Rows.{set_beside}
use Rattle.executor_programs.specs.Seen.{updated}

nulls_are : {A : Type 0} (cs : List A) → nulls cs ≡ replicate (length cs) Null
nulls_are [] = refl
nulls_are (c ∷ cs) = ap (λ (vs : List Value). Null ∷ vs) (nulls_are cs)

-- a row that is there is answered
pub known : {X : Type 0} (view : X → List (List Row)) (rows : List (List Row)) (result : Result X Fault) → IsOrMemory (λ x. view x ≡ rows) result → AnswersBy view (Ok rows) result
known view rows (Ok x) is = ap (λ (rs : List (List Row)). Ok rs) (sym is)
known view rows (Err f) memory = inl memory

pub inserted : {X A : Type 0} (view : X → List (List Row)) (cs : List A) (width : ℕ) (places : List ℕ) (now given : List Value) (result : Result X Fault) → length cs ≡ width → now ≡ given
    → IsOrMemory (λ x. view x ≡ both_rows (Some (view_row (set_values (replicate width Null) (zip places now)))) None) result
    → AnswersBy view (Ok (both_rows (Some (view_row (set_values (nulls cs) (zip places given)))) None)) result
inserted view cs width places now given result wide same is =
    subst (λ (rows : List (List Row)). AnswersBy view (Ok rows) result)
    (sym (λ i. both_rows (Some (view_row (set_values ((nulls_are cs ∙ ap (λ n. replicate n Null) wide) i) (zip places (sym same i))))) None))
    (known view (both_rows (Some (view_row (set_values (replicate width Null) (zip places now)))) None) result is)

abbrev pair_of : Row → List Value → Answer (Option Row × Option Row)
pair_of r vs = Ok (Some (view_row vs), Some r)

abbrev both_of : Option Row × Option Row → Answer (List (List Row))
both_of p = Ok (both_rows p.0 p.1)

pub as_updated : (seen : Outer) (sets : List (ℕ × Term)) (r : Row) → updated seen sets r ≡ ((set_beside seen sets r then pair_of r) then both_of)
as_updated seen sets r = by (set_beside seen sets r)
  where
    by : (a : Answer (List Value)) → (a then λ vs. Ok (both_rows (Some (view_row vs)) (Some r))) ≡ ((a then pair_of r) then both_of)
    by (Ok vs) = refl
    by (Err e) = refl

-- SET is refused
pub not_updated : {X : Type 0} (view : X → List (List Row)) (seen : Outer) (sets : List (ℕ × Term)) (r : Row) (result : Result X Fault) (f : Fault) → IsErrAnd result (λ e. e ≡ f) → IsRefusedBy (set_beside seen sets r) f
    → AnswersBy view (updated seen sets r) result
not_updated view seen sets r (Ok x) f same why = absurd same
not_updated view seen sets r (Err e) f same why = subst (λ (g : Fault). IsRefusedBy (updated seen sets r) g) (sym same) (by why)
  where
    by : IsRefusedBy (set_beside seen sets r) f → IsRefusedBy (updated seen sets r) f
    by (inl memory) = inl memory
    by (inr refused) = inr (ap (λ (a : Answer (List Value)). a then λ vs. Ok (both_rows (Some (view_row vs)) (Some r))) refused)

pub is_updated : {X : Type 0} (view : X → List (List Row)) (seen : Outer) (sets : List (ℕ × Term)) (r : Row) (vs : List Value) (new copy : Row) (result : Result X Fault) → set_beside seen sets r ≡ Ok vs
    → new ≡ view_row vs → copy ≡ r → IsOrMemory (λ x. view x ≡ both_rows (Some new) (Some copy)) result → AnswersBy view (updated seen sets r) result
is_updated view seen sets r vs new copy result set new_is copy_is is =
    subst (λ (a : Answer (List (List Row))). AnswersBy view a result)
    ((λ i. Ok (both_rows (Some (new_is i)) (Some (copy_is i)))) ∙ sym (ap (λ (a : Answer (List Value)). a then λ vs. Ok (both_rows (Some (view_row vs)) (Some r))) set))
    (known view (both_rows (Some new) (Some copy)) result is)
