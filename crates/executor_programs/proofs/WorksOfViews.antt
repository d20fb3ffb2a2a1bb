-- What a change of a view whose names were looked up comes to, and that it is refused where no trigger stands in its place.
use Rattle.std.proofs.Common.{◌≡◌, refl, sym, ap, subst, ◌∙◌, ℕ, zero, suc, ◌≤◌, Bool, true, false, List, [], ◌∷◌, ◌++◌, map, length, zip, Option, Some, None, Ok, Err, if◌then◌else◌}
use Rattle.std.specs.Prelude.{nat_lt}
use Rattle.std.specs.List.{AllByRecursion}
use Rattle.std.specs.declared.alloc.Global.{Global}
use Rattle.smallvec.specs.SmallVec.{SmallVec}
use Rattle.sqlval.specs.Refusals.{Answer, ◌then◌, ViewReadOnly, fold_answer, refusal_of}
use Rattle.sqlval.specs.declared.fault.Fault.{Fault}
use Rattle.sqlval.specs.declared.value.Value.{Value}
use Rattle.sql_syntax.specs.declared.change.Change.{Change}
use Rattle.sql_syntax.specs.declared.create.TriggerTime.TheVariants.{InsteadOf}
use Rattle.catalog.specs.Database.{Database, Name, object}
use Rattle.catalog.specs.Laws.{FindsListed}
use Rattle.catalog.specs.Listed.{Listed, table_named}
use Rattle.catalog.specs.declared.tables.Trigger.{Trigger}
use Rattle.query_names.specs.Checked.{Checked, Meant, meant}
use Rattle.query_names.specs.Laws.{KnowsListed}
use Rattle.query_names.specs.Readings.{env_of, values}
use Rattle.query_names.specs.declared.scope.ScopeColumn.{ScopeColumn}
use Rattle.query_terms.specs.Terms.{Term}
use Rattle.query_terms.specs.Values.{Row}
use Rattle.row_change.specs.Changes.{Deletes, Inserts, Outer, Resolved, Updates, resolve_change}
use Rattle.row_change.specs.Constraints.{demand, set_values}
use Rattle.row_change.specs.RowChanges.{Deleting, Event, Inserting, Updating}
use Rattle.row_scan.specs.Rows.{values_of}
use Rattle.trigger.specs.Binding.{aim_of}
use Rattle.trigger.specs.Effects.{change_with, chosen_rows, given_rows, instead, is_table, nulls, on_view, run_resolved, scope_of, view_row}
use Rattle.trigger.specs.Triggers.{Runner, fired, triggers_at}
use Rattle.trigger_names.specs.Resolved.{bound_given, names_set, resolved_of}
use Rattle.trigger_names.specs.declared.changes.BoundChange.{BoundChange}
use Rattle.trigger_names.specs.declared.changes.BoundChange.TheVariants as bound
use Rattle.trigger_names.specs.declared.giving.BoundRows.{BoundRows}
use Rattle.db_pages.specs.Stored.{Stores}
use Rattle.pages.specs.Map.{PageMap}
use Rattle.executor_programs.specs.Acts.{IsSeenOf, IsViewAct}
use Rattle.executor_programs.specs.Rows.{columns_listed_of, firing_seen, seen_changed}
use Rattle.executor_programs.specs.Running.{definitions}
use Rattle.executor_programs.specs.declared.acts.Act.{Act}
use Rattle.executor_programs.specs.declared.acts.ViewItem.{ViewItem}
use Rattle.executor_programs.specs.declared.acts.ViewItem.TheVariants as seen_item
use Rattle.std.proofs.Common.{arith}
use Rattle.std.proofs.lemmas.Bool.Decides.{nat_tests}
use Rattle.std.specs.declared.rc.Rc.{Rc}
use Rattle.executor_programs.proofs.KnownGiven.{of_kind}
use Rattle.executor_programs.proofs.Works.{each_of, fold_same, none_table, runs_as}

-- ---- of a view

abbrev answered : {A : Type 0} → A → Answer A
answered x = Ok x

demanded : (k : ℕ) → 1 ≤ k → demand (nat_lt 0 k) ViewReadOnly ≡ answered {A = Unit {0}} tt
demanded zero le = absurd (omega (arith, le))
demanded (suc k) le =
    (let test : nat_lt 0 (suc k) ≡ true = grind (arith, nat_tests) in
    ap (λ (b : Bool). demand b ViewReadOnly) test)

as_long : (ts : List (Rc Trigger Global)) → length (definitions ts) ≡ length ts
as_long [] = refl
as_long (t ∷ ts) = ap suc (as_long ts)

pub record IsViewDone (l : Listed) (seen : Outer) (c : Change) (db : Database) (width : ℕ) (act : Act) (items : List ViewItem) : Type 0 where
  pub work : IsViewAct l c width act × AllByRecursion (IsSeenOf c) items
  pub done : (run : Runner) (running : List Name) → change_with run running seen db c ≡ fold_answer (λ db i. seen_changed (fired run running) seen c (columns_listed_of l (aim_of c).target) act i db) db items

map_same : {A : Type 0} (xs : List A) → map (λ (x : A). x) xs ≡ xs
map_same [] = refl
map_same {A} (x ∷ xs) = ap (λ (ys : List A). x ∷ ys) (map_same xs)

module _ (finds : FindsListed) (listed : KnowsListed) (l : Listed) (seen : Outer) (c : Change) (db : Database) (pages : PageMap) (size : ℕ) (stored : Stores pages size l db) where
  abbrev n : Name
  n = (aim_of c).target

  abbrev cols : List ScopeColumn
  cols = columns_listed_of l n

  module _ (width : ℕ) (act : Act) (view : IsViewAct l c width act) where
    untabled : is_table (object db n) ≡ false
    untabled = none_table l n db stored.rows_at (table_named n l.tables) view.named (finds stored.rows_at l db n stored.of_listed.lists)

    columns_same : scope_of db n ≡ cols
    columns_same = ap (λ (k : Checked (List ScopeColumn × Bool)). (meant k).0) (listed stored.rows_at l db stored.of_listed.lists 64 [] n)

    as_many : length (triggers_at InsteadOf (aim_of c).event db n) ≡ length act.before.items
    as_many = ap length (sym (view.around.before stored.rows_at db stored.of_listed)) ∙ as_long act.before.items

    run_view : (run : Runner) (running : List Name) (r : Resolved) (a b : Answer Database) → resolve_change db seen c ≡ Meant r [] → run_resolved run running seen db r ≡ (if is_table (object db n) then a else b) → change_with run running seen db c ≡ b
    run_view run running r a b known is = runs_as l seen c db run running r known ∙ (is ∙ ap (λ (t : Bool). if t then a else b) untabled)

    -- without a trigger
    module _ (none : length act.before.items ≡ 0) where
      off : (event : Event) (rest : Answer Database) → event ≡ (aim_of c).event → (on_view db n event then λ u. rest) ≡ Err ViewReadOnly
      off event rest e =
          ap (λ (ev : Event). on_view db n ev then λ u. rest) e ∙ ap (λ (k : ℕ). demand (nat_lt 0 k) ViewReadOnly then λ u. rest) (as_many ∙ none)

      pub read_only : (b : BoundChange) → resolve_change db seen c ≡ Meant (resolved_of c b) [] → (run : Runner) (running : List Name) → change_with run running seen db c ≡ Err ViewReadOnly
      read_only (bound.Insert places given) known run running =
          run_view run running (Inserts n places.items (bound_given given)) _ _ known refl ∙ off Inserting _ (of_kind db seen c (Inserts n places.items (bound_given given)) known)
      read_only (bound.Update sets condition) known run running =
          run_view run running (Updates n sets.items (names_set c) condition) _ _ known refl ∙ off (Updating (names_set c)) _ (of_kind db seen c (Updates n sets.items (names_set c) condition) known)
      read_only (bound.Delete condition) known run running =
          run_view run running (Deletes n condition) _ _ known refl ∙ off Deleting _ (of_kind db seen c (Deletes n condition) known)

    module _ (some : 1 ≤ length act.before.items) where
      on : (event : Event) (rest : Answer Database) → event ≡ (aim_of c).event → (on_view db n event then λ u. rest) ≡ rest
      on event rest e =
          ap (λ (ev : Event). on_view db n ev then λ u. rest) e ∙ (ap (λ (k : ℕ). demand (nat_lt 0 k) ViewReadOnly then λ u. rest) as_many
          ∙ ap (λ (a : Answer (Unit {0})). a then λ u. rest) (demanded (length act.before.items) some))

      -- INSERT
      module _ (given : BoundRows) (known : resolve_change db seen c ≡ Meant (Inserts n act.places.items (bound_given given)) []) where
        abbrev put : Runner → List Name → Database → List Value → Answer Database
        put run running now vs = instead run running n Inserting (scope_of db n) (Some (view_row (set_values (nulls (scope_of db n)) (zip act.places.items vs)))) None now

        put_is : (run : Runner) (running : List Name) → change_with run running seen db c ≡ (given_rows db seen (bound_given given) then λ rows. fold_answer (put run running) db rows)
        put_is run running =
            run_view run running (Inserts n act.places.items (bound_given given)) _ _ known refl
            ∙ on Inserting (given_rows db seen (bound_given given) then λ rows. fold_answer (put run running) db rows) (of_kind db seen c (Inserts n act.places.items (bound_given given)) known)

        pub put_refused : (f : Fault) → given_rows db seen (bound_given given) ≡ Err (refusal_of f) → (run : Runner) (running : List Name) → change_with run running seen db c ≡ Err (refusal_of f)
        put_refused f met run running = put_is run running ∙ ap (λ (a : Answer (List (List Value))). a then λ rows. fold_answer (put run running) db rows) met

        pub put_in : (found : List (SmallVec Value)) (items : List ViewItem) → given_rows db seen (bound_given given) ≡ Ok (map values_of found) → items ≡ map seen_item.Insert found → IsViewDone l seen c db width act items
        put_in found items gives are = record {
          work = (view, subst (AllByRecursion (IsSeenOf c)) (sym are) (each_of (IsSeenOf c) seen_item.Insert (λ r. of_kind db seen c (Inserts n act.places.items (bound_given given)) known) found));
          done = λ run running.
              put_is run running ∙ (ap (λ (a : Answer (List (List Value))). a then λ rows. fold_answer (put run running) db rows) gives
              ∙ (fold_same (put run running) (λ db i. seen_changed (fired run running) seen c cols act i db) values_of seen_item.Insert (each run running) found db
              ∙ ap (fold_answer (λ db i. seen_changed (fired run running) seen c cols act i db) db) (sym are)));
        }
          where
            each : (run : Runner) (running : List Name) (now : Database) (x : SmallVec Value) → put run running now x.items ≡ seen_changed (fired run running) seen c cols act (seen_item.Insert x) now
            each run running now x =
                ap (λ (cs : List ScopeColumn). fired run running InsteadOf (firing_seen n Inserting cs (Some (view_row (set_values (nulls cs) (zip act.places.items x.items))), None)) now) columns_same
                ∙ ap (λ (e : Event). fired run running InsteadOf (firing_seen n e cols (Some (view_row (set_values (nulls cols) (zip act.places.items x.items))), None)) now) (of_kind db seen c (Inserts n act.places.items (bound_given given)) known)

      -- UPDATE
      module _ (condition : Option Term) (known : resolve_change db seen c ≡ Meant (Updates n act.sets.items (names_set c) condition) []) where
        abbrev set_in : Runner → List Name → Database → Row → Answer Database
        set_in run running now r =
            values (env_of (seen.rows ++ r ∷ [])) (map (λ s. s.1) act.sets.items) then λ given.
            instead run running n (Updating (names_set c)) (scope_of db n) (Some (view_row (set_values r.values (zip (map (λ s. s.0) act.sets.items) given)))) (Some r) now

        set_is : (run : Runner) (running : List Name) → change_with run running seen db c ≡ (chosen_rows db seen n condition then λ rows. fold_answer (set_in run running) db rows)
        set_is run running =
            run_view run running (Updates n act.sets.items (names_set c) condition) _ _ known refl
            ∙ on (Updating (names_set c)) (chosen_rows db seen n condition then λ rows. fold_answer (set_in run running) db rows) (of_kind db seen c (Updates n act.sets.items (names_set c) condition) known)

        pub set_refused : (f : Fault) → chosen_rows db seen n condition ≡ Err (refusal_of f) → (run : Runner) (running : List Name) → change_with run running seen db c ≡ Err (refusal_of f)
        set_refused f met run running = set_is run running ∙ ap (λ (a : Answer (List Row)). a then λ rows. fold_answer (set_in run running) db rows) met

        pub set_done : (found : List Row) (items : List ViewItem) → chosen_rows db seen n condition ≡ Ok found → items ≡ map seen_item.Update found → IsViewDone l seen c db width act items
        set_done found items gives are = record {
          work = (view, subst (AllByRecursion (IsSeenOf c)) (sym are) (each_of (IsSeenOf c) seen_item.Update (λ r. of_kind db seen c (Updates n act.sets.items (names_set c) condition) known) found));
          done = λ run running.
              set_is run running ∙ (ap (λ (a : Answer (List Row)). a then λ rows. fold_answer (set_in run running) db rows) gives
              ∙ (ap (fold_answer (set_in run running) db) (sym (map_same found))
              ∙ (fold_same (set_in run running) (λ db i. seen_changed (fired run running) seen c cols act i db) (λ (r : Row). r) seen_item.Update (each run running) found db
              ∙ ap (fold_answer (λ db i. seen_changed (fired run running) seen c cols act i db) db) (sym are))));
        }
          where
            each : (run : Runner) (running : List Name) (now : Database) (r : Row) → set_in run running now r ≡ seen_changed (fired run running) seen c cols act (seen_item.Update r) now
            each run running now r = by (values (env_of (seen.rows ++ r ∷ [])) (map (λ s. s.1) act.sets.items))
              where
                by : (a : Answer (List Value))
                    → (a then λ given. instead run running n (Updating (names_set c)) (scope_of db n) (Some (view_row (set_values r.values (zip (map (λ s. s.0) act.sets.items) given)))) (Some r) now)
                    ≡ (((a then λ given. answered (set_values r.values (zip (map (λ s. s.0) act.sets.items) given))) then λ vs. answered (Some (view_row vs), Some r)) then λ rows. fired run running InsteadOf (firing_seen n (aim_of c).event cols rows) now)
                by (Err e) = refl
                by (Ok given) =
                    ap (λ (cs : List ScopeColumn). fired run running InsteadOf (firing_seen n (Updating (names_set c)) cs (Some (view_row (set_values r.values (zip (map (λ s. s.0) act.sets.items) given))), Some r)) now) columns_same
                    ∙ ap (λ (e : Event). fired run running InsteadOf (firing_seen n e cols (Some (view_row (set_values r.values (zip (map (λ s. s.0) act.sets.items) given))), Some r)) now) (of_kind db seen c (Updates n act.sets.items (names_set c) condition) known)

      -- DELETE
      module _ (condition : Option Term) (known : resolve_change db seen c ≡ Meant (Deletes n condition) []) where
        abbrev take_out : Runner → List Name → Database → Row → Answer Database
        take_out run running now r = instead run running n Deleting (scope_of db n) None (Some r) now

        out_is : (run : Runner) (running : List Name) → change_with run running seen db c ≡ (chosen_rows db seen n condition then λ rows. fold_answer (take_out run running) db rows)
        out_is run running =
            run_view run running (Deletes n condition) _ _ known refl
            ∙ on Deleting (chosen_rows db seen n condition then λ rows. fold_answer (take_out run running) db rows) (of_kind db seen c (Deletes n condition) known)

        pub out_refused : (f : Fault) → chosen_rows db seen n condition ≡ Err (refusal_of f) → (run : Runner) (running : List Name) → change_with run running seen db c ≡ Err (refusal_of f)
        out_refused f met run running = out_is run running ∙ ap (λ (a : Answer (List Row)). a then λ rows. fold_answer (take_out run running) db rows) met

        pub out_done : (found : List Row) (items : List ViewItem) → chosen_rows db seen n condition ≡ Ok found → items ≡ map seen_item.Delete found → IsViewDone l seen c db width act items
        out_done found items gives are = record {
          work = (view, subst (AllByRecursion (IsSeenOf c)) (sym are) (each_of (IsSeenOf c) seen_item.Delete (λ r. of_kind db seen c (Deletes n condition) known) found));
          done = λ run running.
              out_is run running ∙ (ap (λ (a : Answer (List Row)). a then λ rows. fold_answer (take_out run running) db rows) gives
              ∙ (ap (fold_answer (take_out run running) db) (sym (map_same found))
              ∙ (fold_same (take_out run running) (λ db i. seen_changed (fired run running) seen c cols act i db) (λ (r : Row). r) seen_item.Delete (each run running) found db
              ∙ ap (fold_answer (λ db i. seen_changed (fired run running) seen c cols act i db) db) (sym are))));
        }
          where
            each : (run : Runner) (running : List Name) (now : Database) (r : Row) → take_out run running now r ≡ seen_changed (fired run running) seen c cols act (seen_item.Delete r) now
            each run running now r =
                ap (λ (cs : List ScopeColumn). fired run running InsteadOf (firing_seen n Deleting cs (None, Some r)) now) columns_same
                ∙ ap (λ (e : Event). fired run running InsteadOf (firing_seen n e cols (None, Some r)) now) (of_kind db seen c (Deletes n condition) known)
