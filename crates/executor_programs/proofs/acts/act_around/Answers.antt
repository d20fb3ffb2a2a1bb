use Rattle.std.proofs.Common.{sym, ap, subst, ◌∙◌, List, length}
use Rattle.std.specs.declared.alloc.Global.{Global}
use Rattle.std.specs.declared.rc.Rc.{Rc}
use Rattle.catalog.specs.declared.tables.Trigger.{Trigger}
use Rattle.sqlval.specs.Names.{folded}
use Rattle.row_change.specs.RowChanges.{Event}
use Rattle.trigger.specs.Binding.{aim_of}
use Rattle.trigger.specs.Events.{event_of}
use Rattle.trigger.specs.Triggers.{triggers_at}
use Rattle.sql_syntax.specs.declared.create.TriggerTime.{TriggerTime}
use Rattle.sql_syntax.specs.declared.create.TriggerTime.TheVariants.{After}
use Rattle.trigger_names.specs.Programs.{HasRowsOf}
use Rattle.executor_programs.specs.Acts.{time_before}
use Rattle.catalog.specs.Database.{Name}
use Rattle.executor_programs.proofs.Around.{isnt_alone, or_memory, same_definitions}
use Rattle.executor_programs.proofs.acts.act_around.Goals as goal

pub returns-in_err-before-clause-around : goal.returns-in_err-before-clause-around
returns-in_err-before-clause-around c = λ rows_at db of. or_memory _ c.in_err-before.field-0.0 c.from_residual.result c.from_residual.ensures.1 (c.in_err-before.ensures.found rows_at db of)

pub returns-in_err-after-clause-around : goal.returns-in_err-after-clause-around
returns-in_err-after-clause-around c = λ rows_at db of. or_memory _ c.in_err-after.field-0.0 c.from_residual-in_err-after.result c.from_residual-in_err-after.ensures.1 (c.in_err-after.ensures.found rows_at db of)

pub returns-in_err-scope-clause-around : goal.returns-in_err-scope-clause-around
returns-in_err-scope-clause-around c = λ rows_at db of.
    or_memory _ c.in_err-scope.field-0.0 c.from_residual-in_err-scope.result c.from_residual-in_err-scope.ensures.1 c.in_err-scope.ensures.refused

pub returns-clause-around : goal.returns-clause-around
returns-clause-around c = λ rows_at db of columns rowid.
    record {
      scope = λ f some row. c.in_ok-scope.ensures.seen f (isnt_alone c.args.is_table c.deref.result.now c.deref-2.result.now c.is_bare-is_alone.result c.is_bare-is_alone.ensures
          (λ alone. some (alone.0, (ap (λ (ts : List (Rc Trigger Global)). length ts) (sym c.deref.ensures.value) ∙ alone.1.0, ap (λ (ts : List (Rc Trigger Global)). length ts) (sym c.deref-2.ensures.value) ∙ alone.1.1)))) (row.columns ∙ sym columns) (row.has_rowid ∙ sym rowid) (subst (λ (e : Event). HasRowsOf e f) (sym c.event_in-event.ensures) row.has);
      known = c.in_ok-scope.ensures.outer;
      before = λ rows_at db of. same_definitions c.in_ok-before.before.items ∙ c.in_ok-before.ensures.found rows_at db of
          ∙ ap (λ (t : TriggerTime). triggers_at t (event_of c.event_in-event.result) db (folded c.target_of-target.result.now)) c.first_time.ensures
          ∙ ap (λ (e : Event). triggers_at (time_before c.args.is_table) e db (folded c.target_of-target.result.now)) c.event_in-event.ensures
          ∙ ap (λ (n : Name). triggers_at (time_before c.args.is_table) (aim_of c.args.change.now).event db n) c.target_of-target.ensures;
      after = λ rows_at db of. same_definitions c.in_ok-after.after.items ∙ c.in_ok-after.ensures.found rows_at db of
          ∙ ap (λ (e : Event). triggers_at After e db (folded c.target_of-target.result.now)) c.event_in-event.ensures
          ∙ ap (λ (n : Name). triggers_at After (aim_of c.args.change.now).event db n) c.target_of-target.ensures;
    }
