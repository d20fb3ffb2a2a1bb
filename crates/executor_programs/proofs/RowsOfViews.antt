-- A row of a view: what its triggers see of it, and what they make of the database.
use Rattle.std.proofs.Common.{◌≡◌, refl, sym, ap, subst, ◌∙◌, ℕ, true, List, Option, Some, Ok, Err}
use Rattle.std.specs.Prelude.{Result, ⊤, is_some}
use Rattle.sqlval.specs.Refusals.{Answer, Refusal, ◌then◌}
use Rattle.sqlval.specs.declared.fault.Fault.{Fault}
use Rattle.sqlval.specs.declared.value.Value.{Value}
use Rattle.sql_syntax.specs.declared.change.Change.{Change}
use Rattle.sql_syntax.specs.declared.create.TriggerTime.TheVariants.{InsteadOf}
use Rattle.pages.specs.Map.{PageMap}
use Rattle.catalog.specs.Database.{Database}
use Rattle.catalog.specs.Listed.{Listed}
use Rattle.query_names.specs.declared.scope.ScopeColumn.{ScopeColumn}
use Rattle.query_terms.specs.Values.{Row}
use Rattle.row_change.specs.Changes.{Outer}
use Rattle.row_change.specs.RowChanges.{Event, Fire, Firing}
use Rattle.trigger.specs.Binding.{aim_of}
use Rattle.trigger.specs.Effects.{view_row}
use Rattle.trigger_names.specs.Programs.{has_new, has_old}
use Rattle.executor_programs.specs.Acts.{IsRowIn, IsSeenOf, IsViewAct}
use Rattle.executor_programs.specs.Begun.{both_rows}
use Rattle.executor_programs.specs.Rows.{columns_listed_of, firing_seen, rows_seen, seen_changed, set_beside}
use Rattle.executor_programs.specs.declared.acts.Act.{Act}
use Rattle.executor_programs.specs.declared.acts.ViewItem.{ViewItem}
use Rattle.executor_programs.specs.declared.acts.ViewItem.TheVariants as item
use Rattle.executor_programs.proofs.Beside.{no_rowid}
use Rattle.executor_programs.proofs.Folding.{RunsTo}

abbrev pub Pair : Type 0
Pair = Option Row × Option Row

abbrev answered : {A : Type 0} → A → Answer A
answered x = Ok x

abbrev refused : {A : Type 0} → Refusal → Answer A
refused r = Err r

same_ok : {A : Type 0} (x y : A) → answered x ≡ answered y → x ≡ y
same_ok x y e = cc

no_err : {A : Type 0} (x : A) (r : Refusal) → refused {A = A} r ≡ answered x → ⊥
no_err x r e = absurd cc

abbrev pub lists_of : Answer Pair → Answer (List (List Row))
lists_of a = a then λ p. Ok (both_rows p.0 p.1)

-- the two rows whose lists a call answered
pub record IsSeen (a : Answer Pair) (rows : List (List Row)) : Type 0 where
  pub p : Pair
  pub is : a ≡ Ok p
  pub are : rows ≡ both_rows p.0 p.1

pub seen_as : (a : Answer Pair) (rows : List (List Row)) → lists_of a ≡ Ok rows → IsSeen a rows
seen_as (Ok p) rows e = record { p = p; is = refl; are = sym (same_ok (both_rows p.0 p.1) rows e) }
seen_as (Err r) rows e = absurd (no_err rows r e)

-- ---- NEW and OLD as the event has them

abbrev HasBoth : Event → Pair → Type 0
HasBoth event p = (is_some p.0 ≡ has_new event) × (is_some p.1 ≡ has_old event)

has_set : (event : Event) (r : Row) (p : Pair) (a : Answer (List Value)) → (true ≡ has_new event) → (true ≡ has_old event) → (a then λ vs. answered (Some (view_row vs), Some r)) ≡ answered p → HasBoth event p
has_set event r p (Ok vs) new old e =
    (let same : p ≡ (Some (view_row vs), Some r) = sym (same_ok (Some (view_row vs), Some r) p e) in
    (ap (λ (q : Pair). is_some q.0) same ∙ new, ap (λ (q : Pair). is_some q.1) same ∙ old))
has_set event r p (Err s) new old e = absurd (no_err p s e)

has_both : (outer : Outer) (cs : List ScopeColumn) (act : Act) (c : Change) (i : ViewItem) (p : Pair) → IsSeenOf c i → rows_seen outer cs act i ≡ Ok p → HasBoth (aim_of c).event p
has_both outer cs act c (item.Insert given) p is e = (
  ap (λ (q : Pair). is_some q.0) (sym (same_ok _ p e)) ∙ ap has_new is,
  ap (λ (q : Pair). is_some q.1) (sym (same_ok _ p e)) ∙ ap has_old is,
)
has_both outer cs act c (item.Update r) p is e = has_set (aim_of c).event r p (set_beside outer act.sets.items r) (ap has_new is) (ap has_old is) e
has_both outer cs act c (item.Delete r) p is e = (
  ap (λ (q : Pair). is_some q.0) (sym (same_ok _ p e)) ∙ ap has_new is,
  ap (λ (q : Pair). is_some q.1) (sym (same_ok _ p e)) ∙ ap has_old is,
)

module _ (l : Listed) (c : Change) (outer : Outer) (act : Act) (i : ViewItem) where
  abbrev pub columns : List ScopeColumn
  columns = columns_listed_of l (aim_of c).target

  abbrev pub event_at : Pair → Firing
  event_at p = firing_seen (aim_of c).target (aim_of c).event columns p

  pub seen_row : (width : ℕ) (p : Pair) → IsViewAct l c width act → IsSeenOf c i → rows_seen outer columns act i ≡ Ok p → IsRowIn l (aim_of c) (event_at p)
  seen_row width p view is e = record {
    target = refl;
    event = refl;
    columns = refl;
    has_rowid = sym (no_rowid l (aim_of c).target view.named);
    has = has_both outer columns act c i p is e;
  }

  module _ (fire : Fire) (db : Database) where
    pub changes_seen : (new : PageMap) (size : ℕ) (p : Pair) (result : Result ⊤ Fault) → rows_seen outer columns act i ≡ Ok p → RunsTo new size l (fire InsteadOf (event_at p) db) result
        → RunsTo new size l (seen_changed fire outer c columns act i db) result
    changes_seen new size p result e runs =
        subst (λ (a : Answer Pair). RunsTo new size l (a then λ q. fire InsteadOf (event_at q) db) result) (sym e) runs
