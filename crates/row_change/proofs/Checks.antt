-- The CHECKs of a table, one after another.
use Rattle.std.proofs.Common.{◌≡◌, inl, inr, sym, ap, subst, ◌∙◌, ◌<◌, ◌≤◌, ◌+◌, ℕ, Bool, true, false, List, ◌∷◌, drop, length, slice_index_or, if◌then◌else◌, Result, Ok, Err}
use Rattle.std.proofs.lemmas.List.{drop_all, drop_more}
use Rattle.std.specs.Prelude.{IfErr, IsErrAnd, ⊤}
use Rattle.sqlval.specs.Faults.{IsNotDiskFault}
use Rattle.sqlval.specs.Refusals.{Answer, ◌then◌, Check}
use Rattle.sqlval.specs.declared.fault.Fault.{Fault}
use Rattle.query_terms.specs.Outcome.{AnswersBy, IsRefusedBy}
use Rattle.query_terms.proofs.Quiet.{IsQuiet, memory_is_quiet, quiet_fault}
use Rattle.query_terms.specs.Terms.{Term}
use Rattle.query_terms.specs.Values.{Row}
use Rattle.row_change.specs.Constraints.{check_holds, checks_hold}
use Rattle.row_change.proofs.Demanded.{of_checks}

abbrev passed : Bool → Answer (Unit {0})
passed b = if b then Ok tt else Err Check

module _ (row : Row) (cs : List Term) (i : ℕ) (c : Term) (lt : i < length cs) (is : c ≡ slice_index_or cs i c) (so_far : checks_hold row (drop i cs) ≡ checks_hold row cs) where
  here : checks_hold row cs ≡ ((check_holds row c then passed) then λ _. checks_hold row (drop (i + 1) cs))
  here = sym so_far ∙ ap (checks_hold row) (drop_more cs i c lt ∙ ap (λ t. t ∷ drop (i + 1) cs) (sym is))

  pub check_refused : (fault : Fault) (result : Result ⊤ Fault) → IsErrAnd result (λ e. e ≡ fault) → IsRefusedBy (check_holds row c) fault → AnswersBy (λ done. tt) (checks_hold row cs) result
  check_refused fault (Ok done) same why = absurd same
  check_refused fault (Err e) same (inl memory) = inl (same ∙ memory)
  check_refused fault (Err e) same (inr why) =
      subst (λ (g : Fault). IsRefusedBy (checks_hold row cs) g) (sym same) (inr (here ∙ ap (λ (a : Answer Bool). (a then passed) then λ _. checks_hold row (drop (i + 1) cs)) why))

  pub check_fails : check_holds row c ≡ Ok false → checks_hold row cs ≡ Err Check
  check_fails fails = here ∙ ap (λ (a : Answer Bool). (a then passed) then λ _. checks_hold row (drop (i + 1) cs)) fails

  pub check_passes : check_holds row c ≡ Ok true → checks_hold row (drop (i + 1) cs) ≡ checks_hold row cs
  check_passes passes = sym (here ∙ ap (λ (a : Answer Bool). (a then passed) then λ _. checks_hold row (drop (i + 1) cs)) passes)

pub all_checked : (row : Row) (cs : List Term) (i : ℕ) → length cs ≤ i → checks_hold row (drop i cs) ≡ checks_hold row cs → checks_hold row cs ≡ Ok tt
all_checked row cs i le so_far = sym so_far ∙ ap (checks_hold row) (drop_all i cs le)

-- no disk refuses them
pub checks_quiet : (row : Row) (cs : List Term) (result : Result ⊤ Fault) → AnswersBy (λ done. tt) (checks_hold row cs) result → IfErr result (λ fault. IsNotDiskFault fault)
checks_quiet row cs (Ok done) answers = tt
checks_quiet row cs (Err e) (inl memory) = memory_is_quiet e memory
checks_quiet row cs (Err e) (inr why) = quiet_fault e (subst IsQuiet why (of_checks row cs))
