-- What is left decides what becomes of all; each program that begins leaves room for one fewer.
use Rattle.std.proofs.Common.{◌≡◌, List, ◌+◌, ◌*◌, length, Option}
use Rattle.std.specs.declared.alloc.Global.{Global}
use Rattle.std.specs.declared.rc.Rc.{Rc}
use Rattle.sql_syntax.specs.declared.create.TriggerStatement.{TriggerStatement}
use Rattle.catalog.specs.Listed.{listed_in}
use Rattle.catalog.specs.declared.tables.TableRow.{TableRow}
use Rattle.catalog.specs.declared.tables.Trigger.{Trigger}
use Rattle.db_write.proofs.Looping.{IsOn}
use Rattle.executor_programs.specs.Running.{running_names}
use Rattle.executor_programs.specs.declared.acts.TableItem.{TableItem}
use Rattle.executor_programs.specs.declared.acts.ViewItem.{ViewItem}
use Rattle.executor_programs.proofs.Going.{BodyRuns, Fires, RowsChange, SeenChange}
use Rattle.executor_programs.proofs.running.+run.Given as goal

abbrev pub decreases-change_one_seen : goal.decreases-change_one_seen
decreases-change_one_seen g l = l.run.room * 9 + 3

abbrev pub decreases-change_row : goal.decreases-change_row
decreases-change_row g l = l.run.room * 9 + 3

abbrev pub decreases-change_rows : goal.decreases-change_rows
decreases-change_rows g l = l.run.room * 9 + 4

abbrev pub decreases-change_seen : goal.decreases-change_seen
decreases-change_seen g l = l.run.room * 9 + 4

abbrev pub decreases-fire : goal.decreases-fire
decreases-fire g l = l.run.room * 9 + 1

abbrev pub decreases-fire_at : goal.decreases-fire_at
decreases-fire_at g l = l.run.room * 9 + 2

abbrev pub decreases-fire_one : goal.decreases-fire_one
decreases-fire_one g l = l.run.room * 9 + 0

abbrev pub decreases-run_bound : goal.decreases-run_bound
decreases-run_bound g l = l.run.room * 9 + 5

abbrev pub decreases-run_change : goal.decreases-run_change
decreases-run_change g l = l.run.room * 9 + 6

abbrev pub decreases-run_program : goal.decreases-run_program
decreases-run_program g l = l.run.room * 9 + 8

abbrev pub decreases-run_statement : goal.decreases-run_statement
decreases-run_statement g l = l.run.room * 9 + 7

abbrev pub invariant-change_rows-rows : goal.invariant-change_rows-rows
invariant-change_rows-rows g l =
    (l.running.items ≡ l.fn.running.items) × IsOn {A = Option TableRow × List TableItem} g.P.Pages.below g.P.Pages.tells g.P.Pages.limits g.P.Pages.map g.P.Pages.failures
    (λ old new size left result. RowsChange l.run.room (listed_in l.run.catalog.now) (running_names l.fn.running.items) l.outer l.table l.act old new size left result)
    l.fn.pages l.pages (l.fn.first, l.items) (l.known, l.left)

abbrev pub decreases-change_rows-rows : goal.decreases-change_rows-rows
decreases-change_rows-rows g l = length l.left

abbrev pub invariant-change_seen-rows : goal.invariant-change_seen-rows
invariant-change_seen-rows g l =
    (l.running.items ≡ l.fn.running.items) × IsOn {A = List ViewItem} g.P.Pages.below g.P.Pages.tells g.P.Pages.limits g.P.Pages.map g.P.Pages.failures
    (λ old new size left result. SeenChange l.run.room (listed_in l.run.catalog.now) (running_names l.fn.running.items) l.outer l.width l.act old new size left result)
    l.fn.pages l.pages l.items l.left

abbrev pub decreases-change_seen-rows : goal.decreases-change_seen-rows
decreases-change_seen-rows g l = length l.left

abbrev pub invariant-fire-triggers : goal.invariant-fire-triggers
invariant-fire-triggers g l =
    (l.running.items ≡ l.fn.running.items) × IsOn {A = List (Rc Trigger Global)} g.P.Pages.below g.P.Pages.tells g.P.Pages.limits g.P.Pages.map g.P.Pages.failures
    (λ old new size left result. Fires l.run.room (listed_in l.run.catalog.now) (running_names l.fn.running.items) l.outer old new size left result)
    l.fn.pages l.pages l.triggers l.left

abbrev pub decreases-fire-triggers : goal.decreases-fire-triggers
decreases-fire-triggers g l = length l.left

abbrev pub invariant-run_program-statements : goal.invariant-run_program-statements
invariant-run_program-statements g l =
    (l.running.items ≡ l.fn.running.items) × IsOn {A = List TriggerStatement} g.P.Pages.below g.P.Pages.tells g.P.Pages.limits g.P.Pages.map g.P.Pages.failures
    (λ old new size left result. BodyRuns l.run.room (listed_in l.run.catalog.now) (running_names l.fn.running.items) l.outer old new size left result)
    l.fn.pages l.pages l.body l.left

abbrev pub decreases-run_program-statements : goal.decreases-run_program-statements
decreases-run_program-statements g l = length l.left
