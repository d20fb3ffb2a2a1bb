-- A row whose change begins on a database is in its table there, and where no trigger runs before the change, it is so still.
use Rattle.std.proofs.Common.{◌≡◌, ◌==◌, refl, sym, ap, subst, ◌∙◌, ℕ, suc, arith, ℤ, true, false, List, [], ◌∷◌, length, Option, Some, None, Ok, Err}
use Rattle.std.proofs.lemmas.Bool.{false≢true}
use Rattle.std.proofs.lemmas.Bool.Decides.{nat_tests}
use Rattle.std.specs.declared.alloc.Global.{Global}
use Rattle.std.specs.declared.rc.Rc.{Rc}
use Rattle.std.specs.Prelude.{option_map}
use Rattle.sqlval.specs.Refusals.{Answer, ◌then◌, fold_answer}
use Rattle.sqlval.specs.declared.value.Value.{Value}
use Rattle.sql_syntax.specs.declared.change.Change.{Change}
use Rattle.sql_syntax.specs.declared.create.TriggerTime.TheVariants.{Before}
use Rattle.pages.specs.Map.{PageMap}
use Rattle.catalog.specs.Database as database
use Rattle.catalog.specs.Database.{Database, Name, row}
use Rattle.catalog.specs.Listed.{Listed}
use Rattle.catalog.specs.declared.tables.Table.{Table}
use Rattle.catalog.specs.declared.tables.TableRow as stored
use Rattle.catalog.specs.declared.tables.Trigger.{Trigger}
use Rattle.query_terms.specs.Values.{Row}
use Rattle.row_change.specs.Changes.{Outer}
use Rattle.row_change.specs.Constraints.{row_of, table_of, with_affinity}
use Rattle.row_change.specs.RowChanges.{Deleting, Firing, firing}
use Rattle.row_change.specs.RowChanges as changes
use Rattle.trigger.specs.Binding.{aim_of}
use Rattle.trigger.specs.Triggers.{Runner, fired, outer_of, run_trigger, triggers_at}
use Rattle.trigger_names.specs.Resolved.{names_set}
use Rattle.executor_programs.specs.Begun.{IsBetween, IsUntouched}
use Rattle.executor_programs.specs.Rows.{begun, set_beside, updated_before}
use Rattle.db_pages.specs.Stored.{Stores}
use Rattle.executor_programs.specs.Running.{OnEach, definitions}
use Rattle.executor_programs.specs.declared.acts.Act.{Act}
use Rattle.executor_programs.specs.declared.acts.TableItem.{TableItem}
use Rattle.executor_programs.specs.declared.acts.TableItem.TheVariants as item
use Rattle.executor_programs.specs.declared.rows.Begun.{Begun}
use Rattle.executor_programs.specs.declared.rows.Begun.TheVariants as begin

abbrev Event : Type 0
Event = Answer (Option Firing)

abbrev old_of : Event → Option Row
old_of (Ok (Some f)) = f.old
old_of (Ok None) = None
old_of (Err r) = None

abbrev values_of : Option Row → List Value
values_of None = []
values_of (Some r) = r.values

same_row_of : (was old : stored.TableRow) → (let l : Option stored.TableRow = Some was in l) ≡ Some old → was ≡ old
same_row_of was old e = cc

set_old : (id : ℤ) (new : Answer (List Value)) (kept : List Value → Answer (List Value)) (event : List Value → Firing) (old : List Value) (g : Firing) → ((vs : List Value) → (event vs).old ≡ Some (row_of id old))
    → (new then λ n. kept n then λ vs. let l : Event = Ok (Some (event vs)) in l) ≡ Ok (Some g) → g.old ≡ Some (row_of id old)
set_old id (Err r) kept event old g is e = absurd cc
set_old id (Ok n) kept event old g is e = by (kept n) e
  where
    by : (a : Answer (List Value)) → (a then λ vs. let l : Event = Ok (Some (event vs)) in l) ≡ Ok (Some g) → g.old ≡ Some (row_of id old)
    by (Err r) e = absurd cc
    by (Ok vs) e = sym (ap old_of e) ∙ is vs

module _ (outer : Outer) (c : Change) (act : Act) (db : Database) where
  abbrev n : Name
  n = (aim_of c).target

  on_table : (t : database.Table) (go : database.Table → Event) (f : Firing) → table_of db n ≡ Ok t → (table_of db n then go) ≡ Ok (Some f) → go t ≡ Ok (Some f)
  on_table t go f is e = sym (ap (λ (a : Answer database.Table). a then go) is) ∙ e

  updated_row : (id : ℤ) (t : database.Table) (r : Option (List Value)) (f : Firing) (vs : List Value) → updated_before outer n act.sets.items (names_set c) t id r ≡ Ok (Some f) → f.old ≡ Some (row_of id vs) → r ≡ Some vs
  updated_row id t None f vs e was = absurd cc
  updated_row id t (Some old) f vs e was =
      ap (λ (xs : List Value). let l : Option (List Value) = Some xs in l)
      (ap values_of (sym (set_old id (set_beside outer act.sets.items (row_of id old)) (with_affinity t.columns) _ old f (λ ws. refl) e) ∙ was))

  deleted_row : (id : ℤ) (t : database.Table) (r : Option (List Value)) (f : Firing) (vs : List Value) → (let l : Event = Ok (option_map (λ old. firing n Deleting t None (Some (row_of id old))) r) in l) ≡ Ok (Some f)
      → f.old ≡ Some (row_of id vs) → r ≡ Some vs
  deleted_row id t None f vs e was = absurd cc
  deleted_row id t (Some old) f vs e was =
      ap (λ (xs : List Value). let l : Option (List Value) = Some xs in l) (ap values_of (ap old_of e ∙ was))

  pub untouched : (l : Listed) (table : Table) (i : TableItem) (b : Begun) (f : Firing) → begun outer c act i db ≡ Ok (Some f) → IsBetween l c table act i b f → IsUntouched db n b
  untouched l table (item.Insert g) (begin.Insert rowid values) f e between t old is there = absurd cc
  untouched l table (item.Update id) (begin.Update was rowid values) f e between t old is there =
      subst (λ (o : stored.TableRow). row t o.rowid ≡ Some o.values.items) (same_row_of was old there)
      (subst (λ (m : ℤ). row t m ≡ Some was.values.items) (sym between.for.0)
      (updated_row id t (row t id) f was.values.items (on_table t (λ t. updated_before outer n act.sets.items (names_set c) t id (row t id)) f is e)
      (between.at.1 ∙ ap (λ (m : ℤ). let l : Option Row = Some (row_of m was.values.items) in l) between.for.0)))
  untouched l table (item.Delete id) (begin.Delete was) f e between t old is there =
      subst (λ (o : stored.TableRow). row t o.rowid ≡ Some o.values.items) (same_row_of was old there)
      (subst (λ (m : ℤ). row t m ≡ Some was.values.items) (sym between.for)
      (deleted_row id t (row t id) f was.values.items (on_table t (λ t. Ok (option_map (λ old. firing n Deleting t None (Some (row_of id old))) (row t id))) f is e)
      (between.at.1 ∙ ap (λ (m : ℤ). let l : Option Row = Some (row_of m was.values.items) in l) between.for)))
  untouched l table (item.Insert g) (begin.Update was rowid values) f e between t old is there = absurd between.for
  untouched l table (item.Insert g) (begin.Delete was) f e between t old is there = absurd between.for
  untouched l table (item.Update id) (begin.Insert rowid values) f e between t old is there = absurd between.for
  untouched l table (item.Update id) (begin.Delete was) f e between t old is there = absurd between.for
  untouched l table (item.Delete id) (begin.Insert rowid values) f e between t old is there = absurd between.for
  untouched l table (item.Delete id) (begin.Update was rowid values) f e between t old is there = absurd between.for

not_none : (n : ℕ) → (suc n == 0) ≡ false
not_none n = grind (arith, nat_tests)

nothing : (triggers : List (Rc Trigger Global)) → (length triggers == 0) ≡ true → definitions triggers ≡ []
nothing [] is = refl
nothing (t ∷ ts) is = absurd (some (length ts) is)
  where
    some : (n : ℕ) → (suc n == 0) ≡ true → ⊥
    some n e = false≢true (sym (not_none n) ∙ e)

same_database : (db made : Database) → (let l : Answer Database = Ok db in l) ≡ Ok made → db ≡ made
same_database db made e = cc

-- where no trigger stands before the change, the row is untouched after those before it
pub stays_untouched : (outer : Outer) (c : Change) (act : Act) (db : Database) (run : Runner) (names : List Name) (l : Listed) (table : Table) (i : TableItem) (b : Begun) (f : Firing) (made : Database) (pages : PageMap) (size : ℕ) → Stores pages size l db
    → begun outer c act i db ≡ Ok (Some f) → IsBetween l c table act i b f → OnEach l (λ db. definitions act.before.items ≡ triggers_at Before (aim_of c).event db (aim_of c).target) → fired run names Before f db ≡ Ok made
    → (length act.before.items == 0) ≡ true → IsUntouched made (aim_of c).target b
stays_untouched outer c act db run names l table i b f made pages size held e between before ran alone =
    let fold = fold_answer (run_trigger run names (outer_of f)) db in
    let none = sym (before held.rows_at db held.of_listed) ∙ nothing act.before.items alone in
    let still =
    ap (λ (n : Name). fold (triggers_at Before f.event db n)) between.row.target
    ∙ ap (λ (e : changes.Event). fold (triggers_at Before e db (aim_of c).target)) between.row.event
    ∙ ap fold none in
    subst (λ (d : Database). IsUntouched d (aim_of c).target b) (same_database db made (sym still ∙ ran)) (untouched outer c act db l table i b f e between)
