-- What a change whose names were looked up comes to: the rows that it is about, and the triggers around each of them.
use Rattle.std.proofs.Common.{◌≡◌, ◌⊎◌, inl, inr, refl, sym, ap, subst, ◌∙◌, ℕ, Bool, true, false, List, [], ◌∷◌, map, length, Option, Some, None, Ok, Err, if◌then◌else◌}
use Rattle.std.specs.Prelude.{Result, ℤ, flat_map, Vec, MatchOption}
use Rattle.sqlval.specs.Names.{folded}
use Rattle.std.specs.List.{AllByRecursion}
use Rattle.std.specs.Result.{IsErrAnd}
use Rattle.std.specs.declared.alloc.Global.{Global}
use Rattle.smallvec.specs.SmallVec.{SmallVec}
use Rattle.sqlval.specs.Faults.{IsOutside}
use Rattle.sqlval.specs.Refusals.{Answer, ◌then◌, all_answers, fold_answer, refusal_of}
use Rattle.sqlval.specs.declared.fault.Fault.{Fault}
use Rattle.sqlval.specs.declared.value.Value.{Value}
use Rattle.sql_syntax.specs.declared.change.Change.{Change}
use Rattle.sql_syntax.specs.declared.create.TriggerTime.{TriggerTime}
use Rattle.sql_syntax.specs.declared.create.TriggerTime.TheVariants.{Before}
use Rattle.catalog.specs.Database.{ATable, ATrigger, AView, Database, Name, Object, object}
use Rattle.catalog.specs.Laws.{FindsListed, IsIndexOrNone, IsNoSource, IsNoTable}
use Rattle.catalog.specs.Listed.{Listed, as_view, table_named, trigger_named, view_named, with_rows}
use Rattle.catalog.specs.declared.tables.Trigger.{Trigger}
use Rattle.catalog.specs.declared.tables.View.{View}
use Rattle.catalog.specs.declared.tables.Table.{Table}
use Rattle.query_names.specs.Checked.{Checked, Meant, known_then}
use Rattle.query_terms.specs.Terms.{Term}
use Rattle.query_terms.specs.Values.{Row}
use Rattle.query_answer.specs.Answers.{HaveWidth}
use Rattle.row_change.specs.Agreement.{IsSetFor}
use Rattle.row_change.specs.Changes.{Deletes, Inserts, Outer, Resolved, Updates, resolve_change}
use Rattle.row_change.specs.RowChanges.{delete_row, insert_row, update_row}
use Rattle.row_scan.specs.Rows.{values_of}
use Rattle.trigger.specs.Binding.{aim_of}
use Rattle.trigger.specs.Effects as effects
use Rattle.trigger.specs.Effects.{change_with, chosen, chosen_rows, given_rows, id_of, instead, is_table, nulls, on_view, run_resolved, scope_of, view_row}
use Rattle.trigger.specs.Triggers.{Runner, fired}
use Rattle.trigger_names.specs.Resolved.{bound_given, names_set}
use Rattle.trigger_names.specs.declared.giving.BoundRows.{BoundRows}
use Rattle.db_pages.specs.Stored.{Stores}
use Rattle.pages.specs.Map.{PageMap}
use Rattle.executor_programs.specs.Acts.{ComesTo, IsAct, IsItemOf, IsTableAct}
use Rattle.executor_programs.specs.Rows.{row_changed}
use Rattle.executor_programs.specs.declared.acts.Act.{Act}
use Rattle.executor_programs.specs.declared.acts.TableItem.{TableItem}
use Rattle.executor_programs.specs.declared.acts.TableItem.TheVariants as item
use Rattle.executor_programs.specs.declared.acts.Work.{Work}
use Rattle.executor_programs.proofs.KnownGiven.{of_kind, rows_same}

-- ---- items one after another

-- effects of the same items, named in two ways
pub fold_same : {X A B : Type 0} (f : Database → A → Answer Database) (g : Database → B → Answer Database) (a : X → A) (b : X → B) → ((db : Database) (x : X) → f db (a x) ≡ g db (b x))
    → (xs : List X) (db : Database) → fold_answer f db (map a xs) ≡ fold_answer g db (map b xs)
fold_same f g a b each [] db = refl
fold_same f g a b each (x ∷ xs) db = ap (λ (r : Answer Database). r then λ d. fold_answer f d (map a xs)) (each db x) ∙ on (fold_same f g a b each xs) (g db (b x))
  where
    on : ((d : Database) → fold_answer f d (map a xs) ≡ fold_answer g d (map b xs)) → (r : Answer Database) → (r then λ d. fold_answer f d (map a xs)) ≡ (r then λ d. fold_answer g d (map b xs))
    on rest (Ok d) = rest d
    on rest (Err e) = refl

pub each_of : {X Y : Type 0} (P : Y → Type 0) (b : X → Y) → ((x : X) → P (b x)) → (xs : List X) → AllByRecursion P (map b xs)
each_of P b each [] = tt
each_of P b each (x ∷ xs) = (each x, each_of P b each xs)

-- ---- refusals

pub handed_on : {X : Type 0} (r : Result X Fault) (f : Fault) → IsErrAnd r (λ e. e ≡ f) → Err f ≡ r
handed_on (Ok x) f is = absurd is
handed_on {X} (Err e) f is = ap refused (sym is)
  where
    refused : Fault → Result X Fault
    refused x = Err x

module _ (l : Listed) (seen : Outer) (c : Change) (db : Database) where
  pub outside : (result : Result Work Fault) (f : Fault) → IsErrAnd result (λ e. e ≡ f) → IsOutside f → ComesTo l seen c db result
  outside result f is out = subst (ComesTo l seen c db) (handed_on result f is) (inl out)

  pub refused_as : (result : Result Work Fault) (f : Fault) → IsErrAnd result (λ e. e ≡ f) → ((run : Runner) (running : List Name) → change_with run running seen db c ≡ Err (refusal_of f)) → ComesTo l seen c db result
  refused_as result f is why = subst (ComesTo l seen c db) (handed_on result f is) (inr why)

  pub fails_as : {A : Type 0} (a : Answer A) (result : Result Work Fault) (f : Fault) → IsErrAnd result (λ e. e ≡ f) → IsOutside f ⊎ (a ≡ Err (refusal_of f))
      → ((run : Runner) (running : List Name) → a ≡ Err (refusal_of f) → change_with run running seen db c ≡ Err (refusal_of f)) → ComesTo l seen c db result
  fails_as a result f is (inl out) stops = outside result f is out
  fails_as a result f is (inr met) stops = refused_as result f is (λ run running. stops run running met)

  -- what was resolved is run
  pub runs_as : (run : Runner) (running : List Name) (r : Resolved) → resolve_change db seen c ≡ Meant r [] → change_with run running seen db c ≡ run_resolved run running seen db r
  runs_as run running r is = ap (λ (k : Checked Resolved). known_then k (run_resolved run running seen db)) is

-- the rows of the table or view, whichever letters of its name are large
module _ (db : Database) (seen : Outer) (c : Change) (name : Name) (same : folded name ≡ (aim_of c).target) (w : Option Term) where
  chosen_same : chosen_rows db seen name w ≡ chosen_rows db seen (aim_of c).target w
  chosen_same = ap (λ (a : Answer (List Row)). a then λ rows. all_answers (map (chosen seen w) rows) then λ rs. Ok (flat_map (λ r. r) rs)) (rows_same db seen c name same)

  pub refused_at : (f : Fault) → IsOutside f ⊎ (chosen_rows db seen name w ≡ Err (refusal_of f)) → IsOutside f ⊎ (chosen_rows db seen (aim_of c).target w ≡ Err (refusal_of f))
  refused_at f (inl out) = inl out
  refused_at f (inr met) = inr (sym chosen_same ∙ met)

  pub chosen_at : (rows : List Row) → chosen_rows db seen name w ≡ Ok rows → chosen_rows db seen (aim_of c).target w ≡ Ok rows
  chosen_at rows is = sym chosen_same ∙ is

-- with other places or sets the same triggers stand around each row
pub with_places : (l : Listed) (c : Change) (time : TriggerTime) (act : Act) (places : Vec ℕ Global) (by : Vec (Option ℕ) Global) → IsAct l c time act → IsAct l c time (record act { places = places; by_column = by })
with_places l c time act places by is = record { scope = is.scope; known = is.known; before = is.before; after = is.after }

pub with_sets : (l : Listed) (c : Change) (time : TriggerTime) (act : Act) (sets : Vec (ℕ × Term) Global) → IsAct l c time act → IsAct l c time (record act { sets = sets })
with_sets l c time act sets is = record { scope = is.scope; known = is.known; before = is.before; after = is.after }

pub set_at : (t : Table) (by : List (Option ℕ)) (at places : List ℕ) → at ≡ places → ((g : List Value) → length g ≡ length at → IsSetFor t by at g) → (g : List Value) → length g ≡ length places → IsSetFor t by places g
set_at t by at places same set = subst (λ (ps : List ℕ). (g : List Value) → length g ≡ length ps → IsSetFor t by ps g) same set

some_table : (l : Listed) (n : Name) (db : Database) (rows_at : ℕ → List (ℤ × List Value)) (t : Table) (found : Option Table) → found ≡ Some t
    → MatchOption found (IsNoTable l n (object db n)) (λ t. object db n ≡ Some (ATable (with_rows t (rows_at t.root)))) → is_table (object db n) ≡ true
some_table l n db rows_at t None is m = absurd cc
some_table l n db rows_at t (Some u) is m = ap is_table m

no_index : (o : Option Object) → IsIndexOrNone o → is_table o ≡ false
no_index o (inl none) = ap is_table none
no_index o (inr index) = ap is_table index.1

no_source : (o : Option Object) (t : Option Trigger) → MatchOption t (IsIndexOrNone o) (λ t. o ≡ Some (ATrigger t.definition)) → is_table o ≡ false
no_source o (Some t) m = ap is_table m
no_source o None m = no_index o m

pub none_table : (l : Listed) (n : Name) (db : Database) (rows_at : ℕ → List (ℤ × List Value)) (found : Option Table) → found ≡ None
    → MatchOption found (IsNoTable l n (object db n)) (λ t. object db n ≡ Some (ATable (with_rows t (rows_at t.root)))) → is_table (object db n) ≡ false
none_table l n db rows_at (Some u) is m = absurd cc
none_table l n db rows_at None is m = by (object db n) (view_named n l.views) m
  where
    by : (o : Option Object) (v : Option View) → MatchOption v (IsNoSource l n o) (λ v. o ≡ Some (AView (as_view v))) → is_table o ≡ false
    by o (Some v) m = ap is_table m
    by o None m = no_source o (trigger_named n l.triggers) m

-- what a change of a table's rows comes to
pub record IsTableDone (l : Listed) (seen : Outer) (c : Change) (db : Database) (t : Table) (act : Act) (items : List TableItem) : Type 0 where
  pub work : IsTableAct l c t act × AllByRecursion (IsItemOf c t act) items
  pub done : (run : Runner) (running : List Name) → change_with run running seen db c ≡ fold_answer (λ db i. row_changed (fired run running) seen c act i db) db items

module _ (finds : FindsListed) (l : Listed) (seen : Outer) (c : Change) (db : Database) (pages : PageMap) (size : ℕ) (stored : Stores pages size l db) where
  abbrev n : Name
  n = (aim_of c).target

  -- ---- of a table

  module _ (t : Table) (act : Act) (around : IsAct l c Before act) (named : table_named n l.tables ≡ Some t) where
    tabled : is_table (object db n) ≡ true
    tabled = some_table l n db stored.rows_at t (table_named n l.tables) named (finds stored.rows_at l db n stored.of_listed.lists)

    -- INSERT
    module _ (given : BoundRows) (known : resolve_change db seen c ≡ Meant (Inserts n act.places.items (bound_given given)) []) where
      insert_is : (run : Runner) (running : List Name) → change_with run running seen db c ≡ (given_rows db seen (bound_given given) then λ rows. fold_answer (insert_row (fired run running) n act.places.items) db rows)
      insert_is run running =
          runs_as l seen c db run running (Inserts n act.places.items (bound_given given)) known
          ∙ ap (λ (b : Bool). if b then (given_rows db seen (bound_given given) then λ rows. fold_answer (insert_row (fired run running) n act.places.items) db rows) else effects.insert_into_view run running seen db n act.places.items (bound_given given)) tabled

      pub insert_refused : (f : Fault) → given_rows db seen (bound_given given) ≡ Err (refusal_of f) → (run : Runner) (running : List Name) → change_with run running seen db c ≡ Err (refusal_of f)
      insert_refused f met run running = insert_is run running ∙ ap (λ (a : Answer (List (List Value))). a then λ rows. fold_answer (insert_row (fired run running) n act.places.items) db rows) met

      pub inserted : (found : List (SmallVec Value)) (items : List TableItem) → given_rows db seen (bound_given given) ≡ Ok (map values_of found) → items ≡ map item.Insert found
          → ((g : List Value) → length g ≡ length act.places.items → IsSetFor t act.by_column.items act.places.items g) → HaveWidth (length act.places.items) (map values_of found) → IsTableDone l seen c db t act items
      inserted found items gives are set wide = record {
        work = (record { around = around; named = named }, subst (AllByRecursion (IsItemOf c t act)) (sym are) (each found wide));
        done = λ run running.
            insert_is run running ∙ (ap (λ (a : Answer (List (List Value))). a then λ rows. fold_answer (insert_row (fired run running) n act.places.items) db rows) gives
            ∙ (fold_same (insert_row (fired run running) n act.places.items) (λ db i. row_changed (fired run running) seen c act i db) values_of item.Insert (λ db x. refl) found db
            ∙ ap (fold_answer (λ db i. row_changed (fired run running) seen c act i db) db) (sym are)));
      }
        where
          each : (found : List (SmallVec Value)) → HaveWidth (length act.places.items) (map values_of found) → AllByRecursion (IsItemOf c t act) (map item.Insert found)
          each [] w = tt
          each (x ∷ xs) w = ((of_kind db seen c (Inserts n act.places.items (bound_given given)) known, set x.items w.0), each xs w.1)

    -- UPDATE
    module _ (condition : Option Term) (known : resolve_change db seen c ≡ Meant (Updates n act.sets.items (names_set c) condition) []) where
      update_is : (run : Runner) (running : List Name) → change_with run running seen db c ≡ (chosen_rows db seen n condition then λ rows. fold_answer (update_row (fired run running) seen n act.sets.items (names_set c)) db (map id_of rows))
      update_is run running =
          runs_as l seen c db run running (Updates n act.sets.items (names_set c) condition) known
          ∙ ap (λ (b : Bool). if b then (chosen_rows db seen n condition then λ rows. fold_answer (update_row (fired run running) seen n act.sets.items (names_set c)) db (map id_of rows)) else effects.update_view run running seen db n act.sets.items (names_set c) condition) tabled

      pub update_refused : (f : Fault) → chosen_rows db seen n condition ≡ Err (refusal_of f) → (run : Runner) (running : List Name) → change_with run running seen db c ≡ Err (refusal_of f)
      update_refused f met run running = update_is run running ∙ ap (λ (a : Answer (List Row)). a then λ rows. fold_answer (update_row (fired run running) seen n act.sets.items (names_set c)) db (map id_of rows)) met

      pub updated : (found : List Row) (items : List TableItem) → chosen_rows db seen n condition ≡ Ok found → items ≡ map (λ r. item.Update (id_of r)) found → IsTableDone l seen c db t act items
      updated found items gives are = record {
        work = (record { around = around; named = named }, subst (AllByRecursion (IsItemOf c t act)) (sym are) (each_of (IsItemOf c t act) (λ r. item.Update (id_of r)) (λ r. of_kind db seen c (Updates n act.sets.items (names_set c) condition) known) found));
        done = λ run running.
            update_is run running ∙ (ap (λ (a : Answer (List Row)). a then λ rows. fold_answer (update_row (fired run running) seen n act.sets.items (names_set c)) db (map id_of rows)) gives
            ∙ (fold_same (update_row (fired run running) seen n act.sets.items (names_set c)) (λ db i. row_changed (fired run running) seen c act i db) id_of (λ r. item.Update (id_of r)) (λ db x. refl) found db
            ∙ ap (fold_answer (λ db i. row_changed (fired run running) seen c act i db) db) (sym are)));
      }

    -- DELETE
    module _ (condition : Option Term) (known : resolve_change db seen c ≡ Meant (Deletes n condition) []) where
      delete_is : (run : Runner) (running : List Name) → change_with run running seen db c ≡ (chosen_rows db seen n condition then λ rows. fold_answer (delete_row (fired run running) n) db (map id_of rows))
      delete_is run running =
          runs_as l seen c db run running (Deletes n condition) known
          ∙ ap (λ (b : Bool). if b then (chosen_rows db seen n condition then λ rows. fold_answer (delete_row (fired run running) n) db (map id_of rows)) else effects.delete_from_view run running seen db n condition) tabled

      pub delete_refused : (f : Fault) → chosen_rows db seen n condition ≡ Err (refusal_of f) → (run : Runner) (running : List Name) → change_with run running seen db c ≡ Err (refusal_of f)
      delete_refused f met run running = delete_is run running ∙ ap (λ (a : Answer (List Row)). a then λ rows. fold_answer (delete_row (fired run running) n) db (map id_of rows)) met

      pub deleted : (found : List Row) (items : List TableItem) → chosen_rows db seen n condition ≡ Ok found → items ≡ map (λ r. item.Delete (id_of r)) found → IsTableDone l seen c db t act items
      deleted found items gives are = record {
        work = (record { around = around; named = named }, subst (AllByRecursion (IsItemOf c t act)) (sym are) (each_of (IsItemOf c t act) (λ r. item.Delete (id_of r)) (λ r. of_kind db seen c (Deletes n condition) known) found));
        done = λ run running.
            delete_is run running ∙ (ap (λ (a : Answer (List Row)). a then λ rows. fold_answer (delete_row (fired run running) n) db (map id_of rows)) gives
            ∙ (fold_same (delete_row (fired run running) n) (λ db i. row_changed (fired run running) seen c act i db) id_of (λ r. item.Delete (id_of r)) (λ db x. refl) found db
            ∙ ap (fold_answer (λ db i. row_changed (fired run running) seen c act i db) db) (sym are)));
      }
