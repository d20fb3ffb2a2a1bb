-- ORDER BY the place of a result.
use Rattle.std.proofs.Common.{◌≡◌, sym, ap, subst, ◌∙◌, inl, inr, ℕ, suc, Bool, false, not, List, [], Option, Some, None, Result, Ok, Err, arith}
use Rattle.std.specs.Prelude.{slice_get}
use Rattle.std.specs.List.{list_any}
use Rattle.sqlval.specs.Faults.{IsOrMemory}
use Rattle.sqlval.specs.Refusals.{Misuse, refusal_of}
use Rattle.sqlval.specs.declared.fault.Fault.{Fault}
use Rattle.sqlval.specs.declared.value.Value.TheVariants.{Null}
use Rattle.sql_syntax.specs.Tree as tree
use Rattle.sql_syntax.specs.declared.query.ResultItem.{ResultItem}
use Rattle.query_names.specs.Bound.{IsFaultOf}
use Rattle.query_names.specs.Checked.{Checked, Meant, good, faults, unless}
use Rattle.query_names.specs.Grouping.{keyed}
use Rattle.query_names.specs.Named.{Names}
use Rattle.query_names.specs.Queries.{is_open_item, resolve_order}
use Rattle.query_names.specs.declared.scope.ScopeColumn.{ScopeColumn}
use Rattle.query_names.specs.declared.scope.ScopeSource.{ScopeSource}
use Rattle.query_terms.specs.Terms.{Term, Const}
use Rattle.query_bind.specs.Named.{AreTables}
use Rattle.query_bind.proofs.Keyless.{unmarked}
use Rattle.query_bind.proofs.Readings.{closed}

-- what a place among the results stands for
abbrev at_place : Bool → Option (Term × ScopeColumn) → Checked Term
at_place b found = elim found [ None ↦ unless b Misuse (good (Const Null)) | Some r ↦ good r.0 ]

copied : (t : Term) (result : Result Term Fault) → IsOrMemory (λ copy. copy ≡ keyed [] t) result → Names (good t) result
copied t (Ok x) h = ap (λ u. Meant u []) (sym (unmarked t) ∙ sym h)
copied t (Err f) h = inl h

pub result_placed : (scope : List ScopeSource) (items : List ResultItem) (results : List (Term × ScopeColumn)) (n k : ℕ) (r : Term × ScopeColumn) (result : Result Term Fault)
    → n ≡ suc k → slice_get results k ≡ Some r → IsOrMemory (λ copy. copy ≡ keyed [] r.0) result → Names (resolve_order scope items results (tree.Integer n)) result
result_placed scope items results n k r result is h copy =
    subst (λ m. Names (resolve_order scope items results (tree.Integer m)) result) (sym is)
    (subst (λ found. Names (at_place (not (list_any (is_open_item scope) items)) found) result) (sym h) (copied r.0 result copy))

past : (b : Bool) (fault : Fault) → b ≡ false → refusal_of fault ≡ Misuse → IsFaultOf (faults (at_place (not b) None)) fault
past b fault h is = subst (λ x. IsFaultOf (faults (at_place (not x) None)) fault) (sym h) (inr (0, omega arith, sym is))

pub place_past : (scope : List ScopeSource) (items : List ResultItem) (results : List (Term × ScopeColumn)) (n k : ℕ) (fault : Fault)
    → n ≡ suc k → slice_get results k ≡ None → AreTables scope → refusal_of fault ≡ Misuse → IsFaultOf (faults (resolve_order scope items results (tree.Integer n))) fault
place_past scope items results n k fault is h tables why =
    subst (λ m. IsFaultOf (faults (resolve_order scope items results (tree.Integer m))) fault) (sym is)
    (subst (λ found. IsFaultOf (faults (at_place (not (list_any (is_open_item scope) items)) found)) fault) (sym h) (past (list_any (is_open_item scope) items) fault (closed scope items tables) why))
