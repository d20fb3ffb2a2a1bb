-- What SET gives over a row, beside NEW and OLD.
use Rattle.std.proofs.Common.{◌≡◌, ◌∙◌, inl, inr, refl, sym, ap, subst, ℕ, List, [], ◌∷◌, ◌++◌, length, map, replicate, Result, Ok, Err}
use Rattle.std.specs.Prelude.{IsErrAnd, zip}
use Rattle.sqlval.specs.Refusals.{Answer, ◌then◌}
use Rattle.sqlval.specs.declared.fault.Fault.{Fault}
use Rattle.sqlval.specs.declared.value.Value.{Value}
use Rattle.query_names.specs.Readings.{env_of, values}
use Rattle.query_terms.specs.Outcome.{AnswersBy, IsRefusedBy}
use Rattle.query_terms.specs.Rows.{picked_rows}
use Rattle.query_terms.specs.Terms.{Term}
use Rattle.query_terms.specs.Values.{Row}
use Rattle.row_change.specs.Changes.{Outer}
use Rattle.row_change.specs.Constraints.{set_values}
use Rattle.executor_programs.specs.Outer.{only}
use Rattle.executor_programs.specs.Rows.{set_beside}

picked_row : (outer : List Row) (r : Row) → picked_rows (map only outer ++ only r ∷ []) (replicate (length (map only outer ++ only r ∷ [])) 0) ≡ outer ++ r ∷ []
picked_row [] r = refl
picked_row (o ∷ outer) r = ap (λ (rs : List Row). o ∷ rs) (picked_row outer r)

-- the rows that SET's expressions see
pub seen_beside : (lists sources : List (List Row)) (outer : List Row) (own : List Row) (r : Row) (places : List ℕ) → lists ≡ map only outer → own ≡ r ∷ [] → sources ≡ lists ++ own ∷ [] → places ≡ replicate (length sources) 0
    → picked_rows sources places ≡ outer ++ r ∷ []
seen_beside lists sources outer own r places are is after zeros =
    ap (picked_rows sources) zeros
    ∙ (ap (λ (ss : List (List Row)). picked_rows ss (replicate (length ss) 0)) (after ∙ (ap (λ (ls : List (List Row)). ls ++ own ∷ []) are ∙ ap (λ (rs : List Row). map only outer ++ rs ∷ []) is))
    ∙ picked_row outer r)

module _ (seen : Outer) (sets : List (ℕ × Term)) (r : Row) (rows : List Row) (are : rows ≡ seen.rows ++ r ∷ []) where
  -- an expression is refused
  pub set_refused : {X : Type 0} (view : X → List Value) (result : Result X Fault) (f : Fault) → IsErrAnd result (λ e. e ≡ f) → IsRefusedBy (values (env_of rows) (map (λ s. s.1) sets)) f
      → AnswersBy view (set_beside seen sets r) result
  set_refused view (Ok x) f same why = absurd same
  set_refused view (Err e) f same why = subst (λ (g : Fault). IsRefusedBy (set_beside seen sets r) g) (sym same) (by why)
    where
      by : IsRefusedBy (values (env_of rows) (map (λ s. s.1) sets)) f → IsRefusedBy (set_beside seen sets r) f
      by (inl memory) = inl memory
      by (inr refused) = inr
          (ap (λ (a : Answer (List Value)). a then λ given. let l : Answer (List Value) = Ok (set_values r.values (zip (map (λ s. s.0) sets) given)) in l)
          (ap (λ (rs : List Row). values (env_of rs) (map (λ s. s.1) sets)) (sym are) ∙ refused))

  -- the values given are put at their places
  pub set_given : (given old new : List Value) (places : List ℕ) (seen_places : List ℕ) (seen_given : List Value) → values (env_of rows) (map (λ s. s.1) sets) ≡ Ok given → old ≡ r.values → places ≡ map (λ s. s.0) sets
      → seen_places ≡ places → seen_given ≡ given → new ≡ set_values old (zip seen_places seen_given) → set_beside seen sets r ≡ Ok new
  set_given given old new places seen_places seen_given valued was at same_places same_given put =
      ap (λ (a : Answer (List Value)). a then λ given. let l : Answer (List Value) = Ok (set_values r.values (zip (map (λ s. s.0) sets) given)) in l)
      (ap (λ (rs : List Row). values (env_of rs) (map (λ s. s.1) sets)) (sym are) ∙ valued)
      ∙ sym (ap (λ (vs : List Value). Ok vs) put ∙ λ i. Ok (set_values (was i) (zip ((same_places ∙ at) i) (same_given i))))
