use Rattle.std.proofs.Common.{subst, true}
use Rattle.catalog.specs.Listed.{listed_in}
use Rattle.catalog.specs.declared.tables.Trigger.{Trigger}
use Rattle.db_pages.specs.Schema.{TriggerTold}
use Rattle.db_load.specs.Reading.{ReadsTold}
use Rattle.db_load.proofs.SchemaTables.{memory_of}
use Rattle.db_load.proofs.TreelessRows.{trigger_found}
use Rattle.db_load.proofs.triggers.add_trigger.Goals as goal

pub returns-in_err-trigger-clause-tells : goal.returns-in_err-trigger-clause-tells
returns-in_err-trigger-clause-tells c = λ trigger tells can.
    memory_of _ c.from_residual.result c.in_err-trigger.field-0.0 c.from_residual.ensures.1 (c.in_err-trigger.ensures.tells trigger tells)

pub returns-clause-tells : goal.returns-clause-tells
returns-clause-tells c = λ trigger tells.
    subst (λ (g : Trigger). ReadsTold true (TriggerTold g) (listed_in c.args.catalog.now) (listed_in c.add_new.new.catalog) c.add_new.result) (c.in_ok-trigger.ensures.tells trigger tells) c.add_new.ensures.tells

pub returns-clause-found : goal.returns-clause-found
returns-clause-found c = λ its_kind.
    trigger_found c.args.row.now c.in_ok-trigger.trigger (listed_in c.args.catalog.now) (listed_in c.add_new.new.catalog) c.add_new.result its_kind c.in_ok-trigger.ensures.found c.add_new.ensures.found
