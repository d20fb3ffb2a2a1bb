-- What the triggers around a row see, that all is known of them, and which they are.
use Rattle.std.proofs.Common.{◌≡◌, refl, sym, ap, subst, ◌∙◌, ◌≤◌, ℕ, ℤ, suc, Bool, true, false, List, [], ◌∷◌, length, map, Option, Some, None, Ok, Err, arith}
use Rattle.std.proofs.lemmas.List.Elements.{Contains-append_left, Contains-append_right, Contains-push}
use Rattle.std.specs.Prelude.{Result, ⊤, IsErrAnd, flat_map, option_map, if◌then◌else◌}
use Rattle.std.specs.List.{AllByRecursion, Contains, list_any}
use Rattle.std.specs.declared.alloc.Global.{Global}
use Rattle.std.specs.declared.rc.Rc.{Rc}
use Rattle.sqlval.specs.Faults.{IsNotDiskFault}
use Rattle.sqlval.specs.Names.{folded, is_same_name}
use Rattle.sqlval.specs.Refusals.{Misuse, fold_answer}
use Rattle.sqlval.specs.declared.fault.Fault.{Fault}
use Rattle.sqlval.specs.declared.fault.Fault.TheVariants as fault
use Rattle.sqlval.specs.declared.value.Value.{Value}
use Rattle.sql_syntax.specs.declared.change.Change.{Change}
use Rattle.sql_syntax.specs.declared.create.TriggerDefinition.{TriggerDefinition}
use Rattle.sql_syntax.specs.declared.create.TriggerTime.{TriggerTime}
use Rattle.sql_syntax.specs.declared.create.TriggerTime.TheVariants.{Before, After, InsteadOf}
use Rattle.pages.specs.Calls.{Causes}
use Rattle.pages.specs.Map.{PageMap}
use Rattle.catalog.specs.Database.{Database, Name, View}
use Rattle.catalog.specs.Listed.{Listed, Lists, as_view, shared, table_named, view_named}
use Rattle.catalog.specs.declared.tables.Table.{Table}
use Rattle.catalog.specs.declared.tables.Trigger.{Trigger}
use Rattle.catalog.specs.declared.tables.View as listed
use Rattle.query_names.specs.Checked.{Checked, Meant, meant}
use Rattle.query_names.specs.Known.{columns_in, columns_listed}
use Rattle.query_names.specs.Laws.{KnowsListed}
use Rattle.query_names.specs.Queries.{resolve_query}
use Rattle.query_names.specs.Views.{unless_around, view_columns}
use Rattle.query_names.specs.declared.reading.Reading.{Reading}
use Rattle.query_names.specs.declared.scope.ScopeColumn.{ScopeColumn}
use Rattle.query_names.specs.declared.scope.ScopeSource.{ScopeSource}
use Rattle.query_bind.specs.Named.{AreOuter}
use Rattle.query_terms.specs.Values.{Row}
use Rattle.row_change.specs.Constraints.{row_of}
use Rattle.row_change.specs.Changes.{Outer}
use Rattle.row_change.specs.RowChanges.{Event, Firing, Inserting}
use Rattle.trigger.specs.Binding.{Aim, aim_of, triggers_for}
use Rattle.trigger.specs.Triggers.{Runner, fired, outer_of, run_trigger, triggers_at}
use Rattle.trigger_bind.specs.Choosing.{named_definition}
use Rattle.trigger_bind.specs.Knowing.{IsRowOf, KnowsProgram}
use Rattle.executor_programs.specs.Acts.{AreSetOff, IsAct, IsBareAct, IsRowIn}
use Rattle.executor_programs.specs.Begun.{IsBegunAt, IsSeenAt, as_seen, both_rows, old_in}
use Rattle.executor_programs.specs.Outer.{Shows, only}
use Rattle.executor_programs.specs.Running.{KnowsEach, KnowsRows, OnEach, Runs, definitions}
use Rattle.executor_programs.specs.declared.acts.Act.{Act}
use Rattle.executor_programs.specs.declared.outer.OuterRows.{OuterRows}
use Rattle.executor_programs.specs.declared.rows.AtRow.{AtRow}
use Rattle.executor_programs.specs.declared.rows.AtRow.TheVariants as at_row
use Rattle.executor_programs.specs.declared.rows.Begun.{Begun}
use Rattle.executor_programs.specs.declared.rows.Begun.TheVariants as begin
use Rattle.executor_programs.proofs.Folding.{RunsTo}

-- ---- NEW and OLD

-- the event of these parts
abbrev firing_with : Name → Event → List ScopeColumn → Bool → Option Row → Option Row → Firing
firing_with n event cs has_rowid new old = record { target = n; event = event; columns = cs; has_rowid = has_rowid; new = new; old = old }

both_only : (n : Name) (event : Event) (cs : List ScopeColumn) (has_rowid : Bool) (new old : Option Row) → both_rows new old ≡ map only (outer_of (firing_with n event cs has_rowid new old)).rows
both_only n event cs has_rowid None None = refl
both_only n event cs has_rowid (Some new) None = refl
both_only n event cs has_rowid None (Some old) = refl
both_only n event cs has_rowid (Some new) (Some old) = refl

as_long : (n : Name) (event : Event) (cs : List ScopeColumn) (has_rowid : Bool) (new old : Option Row)
    → length (outer_of (firing_with n event cs has_rowid new old)).scope ≡ length (outer_of (firing_with n event cs has_rowid new old)).rows
as_long n event cs has_rowid None None = refl
as_long n event cs has_rowid (Some new) None = refl
as_long n event cs has_rowid None (Some old) = refl
as_long n event cs has_rowid (Some new) (Some old) = refl

-- the triggers of a time, and what they see, are those around each row
pub set_off_around : (l : Listed) (c : Change) (first time : TriggerTime) (act : Act) (scope : List ScopeSource) (triggers : List (Rc Trigger Global)) → IsAct l c first act → scope ≡ act.scope.items
    → ((length triggers ≡ 0 → ⊥) → IsBareAct first act → ⊥) → OnEach l (λ db. definitions triggers ≡ triggers_at time (aim_of c).event db (aim_of c).target) → AreSetOff l c time scope triggers
set_off_around l c first time act scope triggers is same part those = record {
  sees = λ f some row. same ∙ is.scope f (part some) row;
  known = subst AreOuter (sym same) is.known;
  those = those;
}

pub shows_so : (l : Listed) (c : Change) (time : TriggerTime) (scope : List ScopeSource) (triggers : List (Rc Trigger Global)) (f : Firing) (o : OuterRows) → AreSetOff l c time scope triggers → (length triggers ≡ 0 → ⊥)
    → IsRowIn l (aim_of c) f → o.scope.now ≡ scope → o.rows.now ≡ both_rows f.new f.old → Shows o (outer_of f)
shows_so l c time scope triggers f o these some row same rows = record {
  scope = same ∙ these.sees f some row;
  rows = rows ∙ both_only f.target f.event f.columns f.has_rowid f.new f.old;
  known = subst AreOuter (these.sees f some row) these.known;
  as_many = as_long f.target f.event f.columns f.has_rowid f.new f.old;
}

pub shows_row : (l : Listed) (c : Change) (act : Act) (f : Firing) (o : OuterRows) → IsAct l c InsteadOf act → IsRowIn l (aim_of c) f → o.scope.now ≡ act.scope.items → o.rows.now ≡ both_rows f.new f.old → Shows o (outer_of f)
shows_row l c act f o is row scope rows = record {
  scope = scope ∙ is.scope f no_table row;
  rows = rows ∙ both_only f.target f.event f.columns f.has_rowid f.new f.old;
  known = subst AreOuter (is.scope f no_table row) is.known;
  as_many = as_long f.target f.event f.columns f.has_rowid f.new f.old;
}
  where
    not_before : InsteadOf ≡ Before → ⊥
    not_before e = absurd cc

    no_table : IsBareAct InsteadOf act → ⊥
    no_table is = not_before is.0

-- ---- that all is known

pub at_some_time : (db : Database) (aim : Aim) (time : TriggerTime) (t : Name × TriggerDefinition) → Contains (triggers_at time aim.event db aim.target) t → Contains (triggers_for db aim) t
at_some_time db aim Before t among =
    Contains-append_left (triggers_at Before aim.event db aim.target) (flat_map (λ time. triggers_at time aim.event db aim.target) (InsteadOf ∷ After ∷ [])) t among
at_some_time db aim InsteadOf t among =
    Contains-append_right (triggers_at Before aim.event db aim.target) (flat_map (λ time. triggers_at time aim.event db aim.target) (InsteadOf ∷ After ∷ [])) t
    (Contains-append_left (triggers_at InsteadOf aim.event db aim.target) (flat_map (λ time. triggers_at time aim.event db aim.target) (After ∷ [])) t among)
at_some_time db aim After t among =
    Contains-append_right (triggers_at Before aim.event db aim.target) (flat_map (λ time. triggers_at time aim.event db aim.target) (InsteadOf ∷ After ∷ [])) t
    (Contains-append_right (triggers_at InsteadOf aim.event db aim.target) (flat_map (λ time. triggers_at time aim.event db aim.target) (After ∷ [])) t
    (Contains-append_left (triggers_at After aim.event db aim.target) [] t among))

all_of : (P : Trigger → Type 0) (ts : List Trigger) → ((t : Trigger) → Contains (map named_definition ts) (named_definition t) → P t) → AllByRecursion P ts
all_of P [] each = tt
all_of P (t ∷ ts) each = (
  each t (Contains-append_left (named_definition t ∷ []) (map named_definition ts) (named_definition t) (Contains-push [] (named_definition t))),
  all_of P ts (λ u among. each u (Contains-append_right (named_definition t ∷ []) (map named_definition ts) (named_definition u) among)),
)

-- an event at a listed row is one at a row of each database of which it is listed
pub row_of_each : KnowsListed → (rows_at : ℕ → List (ℤ × List Value)) (l : Listed) (db : Database) (aim : Aim) (f : Firing) → Lists rows_at l db → IsRowIn l aim f → IsRowOf db aim f
row_of_each law rows_at l db aim f lists row = record {
  columns = row.columns ∙ sym (ap (λ (k : Checked (List ScopeColumn × Bool)). (meant k).0) (law rows_at l db lists 64 [] aim.target));
  has_rowid = row.has_rowid ∙ sym (ap (λ (k : Checked (List ScopeColumn × Bool)). (meant k).1) (law rows_at l db lists 64 [] aim.target));
  has = row.has;
}

module _ (l : Listed) (c : Change) (time : TriggerTime) (triggers : List (Rc Trigger Global)) (f : Firing) (row : IsRowIn l (aim_of c) f)
    (these : OnEach l (λ db. definitions triggers ≡ triggers_at time (aim_of c).event db (aim_of c).target)) where
  pub knows_each : KnowsListed → KnowsRows l c → KnowsEach l (outer_of f) (shared triggers)
  knows_each law knows rows_at db is = all_of (λ t. KnowsProgram db (outer_of f) t.definition) (shared triggers)
      (λ t among. knows rows_at db is (named_definition t) f
      (at_some_time db (aim_of c) time (named_definition t) (subst (λ (ts : List (Name × TriggerDefinition)). Contains ts (named_definition t)) (these rows_at db is) among))
      (row_of_each law rows_at l db (aim_of c) f is.lists row))

  -- the triggers that are listed are those that the event sets off
  pub as_fired : (old new : PageMap) (size : ℕ) (run : Runner) (names now : List Name) (result : Result ⊤ Fault) → now ≡ names
      → Runs old new size l (λ db. fold_answer (run_trigger run now (outer_of f)) db (definitions triggers)) result
      → Runs old new size l (fired run names time f) result
  as_fired old new size run names now result same runs db held =
      subst (λ (ts : List (Name × TriggerDefinition)). RunsTo new size l (fold_answer (run_trigger run names (outer_of f)) db ts) result)
      (these held.rows_at db held.of_listed ∙ sym (ap (λ (n : Name). triggers_at time f.event db n) row.target ∙ ap (λ (e : Event). triggers_at time e db (aim_of c).target) row.event))
      (subst (λ (ns : List Name). RunsTo new size l (fold_answer (run_trigger run ns (outer_of f)) db (definitions triggers)) result) same (runs db held))

-- no trigger does nothing
pub fires_nothing : (pages : PageMap) (size : ℕ) (l : Listed) (run : Runner) (names : List Name) (seen : Outer) (triggers : List (Rc Trigger Global)) → length triggers ≡ 0
    → Runs pages pages size l (λ db. fold_answer (run_trigger run names seen) db (definitions triggers)) (Ok tt)
fires_nothing pages size l run names seen [] none db held = record { made = db; is = refl; stored = held }
fires_nothing pages size l run names seen (t ∷ ts) none db held = absurd (omega (arith, none))

-- ---- a view has no rowid

view_without : (v : View) (k : Checked Reading) → (meant (view_columns v k)).1 ≡ false
view_without v (Meant q rs) = refl

around_without : (around : List Name) (name : Name) (k : Checked (List ScopeColumn × Bool)) → (meant k).1 ≡ false → (meant (unless_around around name k)).1 ≡ false
around_without around name k is = by (list_any (is_same_name name) around)
  where
    by : (b : Bool) → (meant (if b then Meant ([], false) (Misuse ∷ []) else k)).1 ≡ false
    by true = refl
    by false = is

listed_without : (view : listed.View → Checked (List ScopeColumn × Bool)) (found : Option listed.View) → ((v : listed.View) → (meant (view v)).1 ≡ false) → (meant (columns_listed view None found)).1 ≡ false
listed_without view None is = refl
listed_without view (Some v) is = is v

no_rowid_in : (m : ℕ) (l : Listed) (n : Name) → table_named n l.tables ≡ None → (meant (columns_in (suc m) l [] n)).1 ≡ false
no_rowid_in m l n none =
    (let view : listed.View → Checked (List ScopeColumn × Bool) = λ v. unless_around [] n (view_columns (as_view v) (resolve_query (columns_in m l (folded n ∷ [])) [] v.definition.query)) in
    ap (λ (t : Option Table). (meant (columns_listed view t (view_named n l.views))).1) none
    ∙ listed_without view (view_named n l.views) (λ v. around_without [] n (view_columns (as_view v) (resolve_query (columns_in m l (folded n ∷ [])) [] v.definition.query))
    (view_without (as_view v) (resolve_query (columns_in m l (folded n ∷ [])) [] v.definition.query))))

pub no_rowid : (l : Listed) (n : Name) → table_named n l.tables ≡ None → (meant (columns_in 64 l [] n)).1 ≡ false
no_rowid l n none = no_rowid_in 63 l n none

-- ---- causes

abbrev some_firing : Option Row → Option Row → Firing
some_firing new old = record { target = []; event = Inserting; columns = []; has_rowid = false; new = new; old = old }

-- some event has these rows
firing_for : (b : Begun) → (f : Firing) × IsBegunAt b f
firing_for (begin.Insert rowid values) = (some_firing (Some (record { rowid = rowid; values = values.items })) None, (refl, refl))
firing_for (begin.Update old rowid values) = (some_firing (Some (record { rowid = rowid; values = values.items })) (Some (row_of old.rowid old.values.items)), (refl, refl))
firing_for (begin.Delete old) = (some_firing None (Some (row_of old.rowid old.values.items)), (refl, refl))

pub firing_at : (e : AtRow) → (f : Firing) × IsSeenAt e f
firing_at (at_row.Before b) = firing_for b.now
firing_at (at_row.After b now) = (some_firing (option_map as_seen now) (option_map as_seen (old_in b.now)), (refl, refl))

not_io : (f : Fault) → f ≡ fault.Memory → f ≡ fault.Io → ⊥
not_io f e i = absurd cc

not_full : (f : Fault) → f ≡ fault.Memory → f ≡ fault.Full → ⊥
not_full f e i = absurd cc

pub memory_alone : (f : Fault) → f ≡ fault.Memory → IsNotDiskFault f
memory_alone f e = (not_io f e, not_full f e)

-- a refusal that no disk has caused
pub causes_none : (r : Result ⊤ Fault) (f : Fault) (old new : ℕ × ℕ) (IsFull : Type 0) → IsErrAnd r (λ e. e ≡ f) → IsNotDiskFault f → old.0 ≤ new.0 → old.1 ≤ new.1 → Causes r old new IsFull
causes_none (Ok done) f old new IsFull is not_disk db log = absurd is
causes_none (Err e) f old new IsFull is not_disk db log = record {
  db = db;
  log = log;
  why = record { io = λ i. absurd (not_disk.0 (sym is ∙ i)); full = λ i. absurd (not_disk.1 (sym is ∙ i)) };
}
