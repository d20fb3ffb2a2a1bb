-- The triggers around each row, and what they see.
use Rattle.std.proofs.Common.{◌≡◌, ◌⊎◌, inl, inr, ◌==◌, ◌&&◌, ℕ, suc, arith, refl, ap, ◌∙◌, Bool, true, false, List, [], ◌∷◌, length, map, Option, Some, None, Ok, Err}
use Rattle.std.proofs.lemmas.Bool.Decides.{nat_tests}
use Rattle.std.specs.declared.alloc.Global.{Global}
use Rattle.std.specs.declared.rc.Rc.{Rc}
use Rattle.sql_syntax.specs.declared.create.TriggerDefinition.{TriggerDefinition}
use Rattle.catalog.specs.Database.{Name}
use Rattle.catalog.specs.declared.tables.Trigger.{Trigger}
use Rattle.trigger_bind.specs.Choosing.{named_definition}
use Rattle.sql_syntax.specs.declared.create.TriggerTime.TheVariants.{Before as BeforeIt}
use Rattle.executor_programs.specs.Acts.{time_before}
use Rattle.executor_programs.specs.Running.{definitions}
use Rattle.std.specs.Prelude.{Result, IfErr}
use Rattle.std.specs.Result.{IsErrAnd}
use Rattle.sqlval.specs.Faults.{IsOrMemory}
use Rattle.sqlval.specs.declared.fault.Fault.{Fault}
use Rattle.sqlval.specs.declared.fault.Fault.TheVariants.{Memory}
use Rattle.sqlval.specs.declared.value.Value.TheVariants.{Null}
use Rattle.query_names.specs.declared.scope.ScopeColumn.{ScopeColumn}
use Rattle.query_terms.specs.Values.{Row}
use Rattle.row_change.specs.RowChanges.{Event, Firing, Inserting, Deleting, Updating}
use Rattle.trigger_names.specs.Programs.{HasRowsOf, has_new, has_old}

pub or_memory : {X : Type 0} (Is : X → Type 0) (f : Fault) (result : Result X Fault) → IsErrAnd result (λ e. e ≡ f) → f ≡ Memory → IsOrMemory Is result
or_memory Is f (Ok x) same memory = absurd same
or_memory Is f (Err e) same memory = same ∙ memory

-- what is refused for memory alone
pub outer_memory : {X : Type 0} (Is : X → Type 0) (result : Result X Fault) → IsOrMemory Is result → IfErr result (λ fault. fault ≡ Memory)
outer_memory Is (Ok x) is = tt
outer_memory Is (Err e) memory = memory

none_or_some : (triggers : List (Rc Trigger Global)) (some : Bool) → some ≡ (length triggers == 0) → (length triggers ≡ 0) ⊎ (some ≡ false)
none_or_some [] some is = inl refl
none_or_some (t ∷ ts) some is = inr (is ∙ not_none (length ts))
  where
    not_none : (n : ℕ) → (suc n == 0) ≡ false
    not_none n = grind (arith, nat_tests)

-- a change that isn't alone has triggers around it, or is a view's
pub isnt_alone : (is_table : Bool) (before after : List (Rc Trigger Global)) (alone : Bool) → alone ≡ (is_table && ((length before == 0) && (length after == 0)))
    → ((time_before is_table ≡ BeforeIt) × ((length before ≡ 0) × (length after ≡ 0)) → ⊥) → alone ≡ false
isnt_alone false before after alone is some = is
isnt_alone true before after alone is some = by (none_or_some before (length before == 0) refl) (none_or_some after (length after == 0) refl)
  where
    and_false : (t : Bool) → (t && false) ≡ false
    and_false true = refl
    and_false false = refl

    by : (length before ≡ 0) ⊎ ((length before == 0) ≡ false) → (length after ≡ 0) ⊎ ((length after == 0) ≡ false) → alone ≡ false
    by (inr b) other = is ∙ ap (λ (t : Bool). t && (length after == 0)) b
    by (inl a) (inr b) = is ∙ ap (λ (t : Bool). (length before == 0) && t) b ∙ and_false (length before == 0)
    by (inl a) (inl b) = absurd (some (refl, (a, b)))

abbrev row_if : Bool → Option Row
row_if true = Some (record { rowid = Null; values = [] })
row_if false = None

abbrev pub firing_at : Event → List ScopeColumn → Bool → Firing
firing_at event columns has_rowid = record { target = []; event = event; columns = columns; has_rowid = has_rowid; new = row_if (has_new event); old = row_if (has_old event) }

pub has_rows : (event : Event) (columns : List ScopeColumn) (has_rowid : Bool) → HasRowsOf event (firing_at event columns has_rowid)
has_rows Inserting columns has_rowid = (refl, refl)
has_rows Deleting columns has_rowid = (refl, refl)
has_rows (Updating ns) columns has_rowid = (refl, refl)

-- triggers under their folded names, by the two ways in which they are listed
pub same_definitions : (ts : List (Rc Trigger Global)) → definitions ts ≡ map (λ (t : Rc Trigger Global). named_definition t.value) ts
same_definitions [] = refl
same_definitions (t ∷ ts) = ap (λ (more : List (Name × TriggerDefinition)). named_definition t.value ∷ more) (same_definitions ts)
