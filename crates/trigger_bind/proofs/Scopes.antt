-- What a trigger's program sees, by the change that sets it off and by the trigger's own text.
use Rattle.std.proofs.Common.{◌≡◌, refl, sym, ap, ◌∙◌, Bool, true, false, List, [], ◌∷◌, length, Option, Some, None, arith, cond}
use Rattle.std.proofs.lemmas.Bool.{eqb-true, false≢true}
use Rattle.std.proofs.lemmas.Slice.Eq.{bytes_eq-Decides}
use Rattle.std.specs.Prelude.{is_some}
use Rattle.std.specs.FinMap.Entries.{find}
use Rattle.std.specs.Str.{bytes_eq}
use Rattle.sqlval.specs.Names.{folded}
use Rattle.sqlval.specs.declared.value.Value.TheVariants.{Null}
use Rattle.sql_syntax.specs.declared.change.Change.{Change}
use Rattle.sql_syntax.specs.declared.change.Change.TheVariants.{Insert, Update, Delete}
use Rattle.sql_syntax.specs.declared.create.TriggerEvent.{TriggerEvent}
use Rattle.sql_syntax.specs.declared.create.TriggerEvent.TheVariants as waits
use Rattle.catalog.specs.Database.{Name, Database, name_order}
use Rattle.catalog.specs.Listed.{is_on}
use Rattle.catalog.specs.declared.tables.Trigger.{Trigger}
use Rattle.catalog.proofs.NamedDatabases.{folded_twice}
use Rattle.query_names.specs.Checked.{Checked, Meant, faults, is_good, meant}
use Rattle.query_names.specs.Queries.{resolve_query}
use Rattle.query_names.specs.Views.{columns_of, columns_of_object, look_up, view_columns}
use Rattle.query_names.specs.declared.scope.ScopeColumn.{ScopeColumn}
use Rattle.query_names.specs.declared.scope.ScopeSource.{ScopeSource}
use Rattle.query_terms.specs.Values.{Row}
use Rattle.row_change.specs.RowChanges.{Event, Firing, Inserting, Deleting, Updating, is_set_off}
use Rattle.trigger.specs.Binding.{Aim, aim_of, program_scope}
use Rattle.trigger.specs.Triggers.{outer_if, outer_of}
use Rattle.trigger_names.specs.Programs.{HasRowsOf, has_new, has_old}
use Rattle.trigger_bind.specs.Programs.{aim_awaited, event_awaited}

-- ---- names

pub same_look : (db : Database) (n : Name) → look_up db (folded n) ≡ look_up db n
same_look db n = ap (λ f. columns_of_object (λ v. view_columns v (resolve_query (columns_of 63 db (f ∷ [])) [] v.query)) (find name_order f db)) (folded_twice n)

folded_target : (c : Change) → folded (aim_of c).target ≡ (aim_of c).target
folded_target (Insert i) = folded_twice i.table
folded_target (Update u) = folded_twice u.table
folded_target (Delete d) = folded_twice d.table

-- the name of a change's target, as it is written
pub on_folded : (c : Change) (n : Name) (t : Trigger) → folded n ≡ (aim_of c).target → is_on n t ≡ is_on (aim_of c).target t
on_folded c n t same = ap (λ k. bytes_eq k (folded t.definition.target)) (same ∙ sym (folded_target c))

-- a trigger that a change sets off is on the same table or view
pub same_target : (c : Change) (t : Trigger) → is_on (aim_of c).target t ≡ true → (aim_of c).target ≡ folded t.definition.target
same_target c t on = sym (folded_target c) ∙ (bytes_eq-Decides (folded (aim_of c).target) (folded t.definition.target)).0 on

-- ---- scopes

same_event : (db : Database) (n : Name) (e : TriggerEvent) (event : Event) → is_set_off e event ≡ true
    → program_scope db (record { target = n; event = event }) ≡ program_scope db (record { target = n; event = event_awaited e })
same_event db n waits.Insert Inserting h = refl
same_event db n waits.Insert Deleting h = absurd (false≢true h)
same_event db n waits.Insert (Updating ns) h = absurd (false≢true h)
same_event db n waits.Delete Inserting h = absurd (false≢true h)
same_event db n waits.Delete Deleting h = refl
same_event db n waits.Delete (Updating ns) h = absurd (false≢true h)
same_event db n (waits.Update None) Inserting h = absurd (false≢true h)
same_event db n (waits.Update None) Deleting h = absurd (false≢true h)
same_event db n (waits.Update None) (Updating ns) h = refl
same_event db n (waits.Update (Some cs)) Inserting h = absurd (false≢true h)
same_event db n (waits.Update (Some cs)) Deleting h = absurd (false≢true h)
same_event db n (waits.Update (Some cs)) (Updating ns) h = refl

-- what the program of a trigger sees is what its own text says, whichever change sets it off
pub same_scope : (db : Database) (c : Change) (t : Trigger) → is_on (aim_of c).target t ≡ true → is_set_off t.definition.event (aim_of c).event ≡ true
    → program_scope db (aim_of c) ≡ program_scope db (aim_awaited t.definition)
same_scope db c t on meets =
    same_event db (aim_of c).target t.definition.event (aim_of c).event meets
    ∙ ap (λ n. program_scope db (record { target = n; event = event_awaited t.definition.event })) (same_target c t on)

-- NEW and OLD, whatever they hold
abbrev seen : Bool → List ScopeColumn → Bool → Bool → Bool → List ScopeSource
seen known columns has_rowid new old =
    (outer_if known (record {
      target = [];
      event = Inserting;
      columns = columns;
      has_rowid = has_rowid;
      new = cond new (Some (record { rowid = Null; values = [] })) None;
      old = cond old (Some (record { rowid = Null; values = [] })) None;
    })).scope

rows_unseen : (known : Bool) (target : Name) (event : Event) (columns : List ScopeColumn) (has_rowid : Bool) (new old : Option Row)
    → (outer_if known (record { target = target; event = event; columns = columns; has_rowid = has_rowid; new = new; old = old })).scope ≡ seen known columns has_rowid (is_some new) (is_some old)
rows_unseen known target event columns has_rowid None None = refl
rows_unseen known target event columns has_rowid None (Some o) = refl
rows_unseen known target event columns has_rowid (Some n) None = refl
rows_unseen known target event columns has_rowid (Some n) (Some o) = refl

scope_seen : (db : Database) (target : Name) (event : Event)
    → (program_scope db (record { target = target; event = event })).scope ≡ seen (is_good (look_up db target)) (meant (look_up db target)).0 (meant (look_up db target)).1 (has_new event) (has_old event)
scope_seen db target Inserting = refl
scope_seen db target Deleting = refl
scope_seen db target (Updating ns) = refl

-- where the table or view isn't refused, that is what they see at each row
pub sees_rows : (db : Database) (aim : Aim) (firing : Firing) → is_good (look_up db aim.target) ≡ true → firing.columns ≡ (meant (look_up db aim.target)).0 → firing.has_rowid ≡ (meant (look_up db aim.target)).1
    → HasRowsOf aim.event firing → (outer_of firing).scope ≡ (program_scope db aim).scope
sees_rows db aim firing good columns rowid has =
    rows_unseen true firing.target firing.event firing.columns firing.has_rowid firing.new firing.old
    ∙ ap (λ b. seen b firing.columns firing.has_rowid (is_some firing.new) (is_some firing.old)) (sym good)
    ∙ ap (λ cs. seen (is_good (look_up db aim.target)) cs firing.has_rowid (is_some firing.new) (is_some firing.old)) columns
    ∙ ap (λ b. seen (is_good (look_up db aim.target)) (meant (look_up db aim.target)).0 b (is_some firing.new) (is_some firing.old)) rowid
    ∙ ap (λ b. seen (is_good (look_up db aim.target)) (meant (look_up db aim.target)).0 (meant (look_up db aim.target)).1 b (is_some firing.old)) has.0
    ∙ ap (seen (is_good (look_up db aim.target)) (meant (look_up db aim.target)).0 (meant (look_up db aim.target)).1 (has_new aim.event)) has.1
    ∙ sym (scope_seen db aim.target aim.event)

-- ---- a row of an event

abbrev row_if : Bool → Option Row
row_if true = Some (record { rowid = Null; values = [] })
row_if false = None

abbrev pub firing_at : Event → List ScopeColumn → Bool → Firing
firing_at event columns has_rowid = record { target = []; event = event; columns = columns; has_rowid = has_rowid; new = row_if (has_new event); old = row_if (has_old event) }

pub has_rows : (event : Event) (columns : List ScopeColumn) (has_rowid : Bool) → HasRowsOf event (firing_at event columns has_rowid)
has_rows Inserting columns has_rowid = (refl, refl)
has_rows Deleting columns has_rowid = (refl, refl)
has_rows (Updating ns) columns has_rowid = (refl, refl)

-- ---- what isn't refused

pub good_faults : {A : Type 0} (k : Checked A) → is_good k ≡ true → faults k ≡ []
good_faults (Meant x []) h = refl
good_faults (Meant x (r ∷ rs)) h = (let e : length (r ∷ rs) ≡ 0 = eqb-true (length (r ∷ rs)) 0 h in absurd (omega (arith, e)))
