-- What the program of a trigger sees, as it is looked up.
use Rattle.std.proofs.Common.{◌≡◌, inl, inr, refl, sym, ap, subst, ◌∙◌, Bool, List, [], ◌++◌, Ok, Err}
use Rattle.std.proofs.lemmas.List.Elements.{Contains-append_left, Contains-append_right}
use Rattle.std.specs.List.{Contains}
use Rattle.std.specs.Prelude.{IfErr, Result}
use Rattle.std.specs.Result.{IsErrAnd}
use Rattle.sqlval.specs.Faults.{IsNotDiskFault, IsOrMemory}
use Rattle.sqlval.specs.Names.{folded}
use Rattle.sqlval.specs.Refusals.{refusal_of}
use Rattle.sqlval.specs.declared.fault.Fault.{Fault}
use Rattle.sqlval.specs.declared.fault.Fault.TheVariants.{Memory}
use Rattle.sql_syntax.specs.declared.create.TriggerDefinition.{TriggerDefinition}
use Rattle.catalog.specs.Database.{Name, Database}
use Rattle.query_names.specs.Bound.{IsFaultOf}
use Rattle.query_names.specs.Checked.{Checked, Meant, faults, good, is_good, known_map, meant}
use Rattle.query_names.specs.Scopes.{source_of}
use Rattle.query_names.specs.Views.{look_up}
use Rattle.query_names.specs.declared.scope.ScopeColumn.{ScopeColumn}
use Rattle.query_names.specs.declared.scope.ScopeSource.{ScopeSource}
use Rattle.query_names.proofs.QuietNames.{is_loud, quiet_fault}
use Rattle.query_terms.specs.Values.{Row}
use Rattle.row_change.specs.Changes.{Outer}
use Rattle.trigger.specs.Binding.{program_scope, when_faults}
use Rattle.trigger.specs.Triggers.{outer_of}
use Rattle.trigger_bind.specs.Programs.{HasTarget, Knows, aim_awaited, event_awaited, faults_within}
use Rattle.trigger_bind.proofs.Among.{not_in}
use Rattle.trigger_bind.proofs.Bodies.{body_faults, both_empty}
use Rattle.trigger_bind.proofs.Scopes.{firing_at, good_faults, has_rows, same_look, sees_rows}

-- ---- its table or view

abbrev source_for : Name → List ScopeColumn × Bool → ScopeSource
source_for n found = source_of (folded n) (good found)

same_faults : (n : Name) (k : Checked (List ScopeColumn × Bool)) → faults (known_map (source_for n) k) ≡ faults k
same_faults n (Meant x rs) = refl

-- where it isn't refused, only memory may be short
pub memory_alone : (db : Database) (d : TriggerDefinition) (f : Fault) → HasTarget db d → IsFaultOf (faults (known_map (source_for d.target) (look_up db d.target))) f → f ≡ Memory
memory_alone db d f known (inl memory) = memory
memory_alone db d f known (inr is) = absurd (not_in (refusal_of f) (faults (known_map (source_for d.target) (look_up db d.target)))
    (same_faults d.target (look_up db d.target) ∙ good_faults (look_up db d.target) (ap is_good (sym (same_look db d.target)) ∙ known.good)) is)

pub or_memory : {X : Type 0} (Is : X → Type 0) (f : Fault) (result : Result X Fault) → IsErrAnd result (λ e. e ≡ f) → f ≡ Memory → IsOrMemory Is result
or_memory Is f (Ok x) same memory = absurd same
or_memory Is f (Err e) same memory = same ∙ memory

pub or_quiet : {X : Type 0} (Is : X → Type 0) (result : Result X Fault) → IsOrMemory Is result → IfErr result IsNotDiskFault
or_quiet Is (Ok x) h = tt
or_quiet Is (Err e) h = quiet_fault e (ap (λ f. is_loud (refusal_of f)) h)

pub or_as : {X A : Type 0} (view : X → A) (a b : A) (result : Result X Fault) → a ≡ b → IsOrMemory (λ x. view x ≡ a) result → IsOrMemory (λ x. view x ≡ b) result
or_as view a b (Ok x) same h = h ∙ same
or_as view a b (Err e) same h = h

-- the source that was found has the columns that the name stands for
record IsFound (k : Checked (List ScopeColumn × Bool)) (s : ScopeSource) : Type 0 where
  pub columns : s.columns ≡ (meant k).0
  pub has_rowid : s.has_rowid ≡ (meant k).1

is_found : (n : Name) (k : Checked (List ScopeColumn × Bool)) (s : ScopeSource) → known_map (source_for n) k ≡ Meant s [] → IsFound k s
is_found n (Meant x rs) s h = (let same : source_for n x ≡ s = ap meant h in record { columns = sym (ap (λ s. s.columns) same); has_rowid = sym (ap (λ s. s.has_rowid) same) })

pub program_seen : (db : Database) (d : TriggerDefinition) (s : ScopeSource) → HasTarget db d → known_map (source_for d.target) (look_up db d.target) ≡ Meant s []
    → (outer_of (firing_at (event_awaited d.event) s.columns s.has_rowid)).scope ≡ (program_scope db (aim_awaited d)).scope
program_seen db d s known named =
    let found = is_found d.target (look_up db d.target) s named in
    sees_rows db (aim_awaited d) (firing_at (event_awaited d.event) s.columns s.has_rowid) known.good
    (found.columns ∙ ap (λ k. (meant {A = List ScopeColumn × Bool} k).0) (sym (same_look db d.target))) (found.has_rowid ∙ ap (λ k. (meant {A = List ScopeColumn × Bool} k).1) (sym (same_look db d.target)))
    (has_rows (event_awaited d.event) s.columns s.has_rowid)

-- ---- its program

module _ (db : Database) (d : TriggerDefinition) (scope : List ScopeSource) (same : scope ≡ (program_scope db (aim_awaited d)).scope) where
  abbrev pub rows_seen : List Row
  rows_seen = (program_scope db (aim_awaited d)).rows

  abbrev beside : Outer
  beside = record { scope = scope; rows = rows_seen }

  is_beside : beside ≡ program_scope db (aim_awaited d)
  is_beside = ap (λ s. record { scope = s; rows = rows_seen }) same

  pub refused_when : (f : Fault) → IsFaultOf (when_faults beside d.condition) f → IsFaultOf (faults_within 0 db d) f
  refused_when f (inl memory) = inl memory
  refused_when f (inr is) = inr (subst (λ o. Contains (when_faults o d.condition ++ body_faults db o d.body) (refusal_of f)) is_beside
      (Contains-append_left (when_faults beside d.condition) (body_faults db beside d.body) (refusal_of f) is))

  pub program_known : (result : Result (Unit {0}) Fault) → when_faults beside d.condition ≡ [] → Knows (body_faults db beside d.body) result → Knows (faults_within 0 db d) result
  program_known result when body = subst (λ o. Knows (when_faults o d.condition ++ body_faults db o d.body) result) is_beside (go result body)
    where
      go : (result : Result (Unit {0}) Fault) → Knows (body_faults db beside d.body) result → Knows (when_faults beside d.condition ++ body_faults db beside d.body) result
      go (Ok done) h = both_empty (when_faults beside d.condition) (body_faults db beside d.body) when h
      go (Err e) (inl memory) = inl memory
      go (Err e) (inr is) = inr (Contains-append_right (when_faults beside d.condition) (body_faults db beside d.body) (refusal_of e) is)
