use Rattle.std.proofs.Common.{◌≡◌, refl, subst, sym}
use Rattle.std.specs.Prelude.{Result}
use Rattle.sqlval.specs.Faults.{IsOrMemory}
use Rattle.sqlval.specs.declared.fault.Fault.{Fault}
use Rattle.sql_syntax.specs.declared.create.Create.{Create}
use Rattle.sql_syntax.specs.declared.create.NewObject.TheVariants as new
use Rattle.sql_syntax.specs.declared.statement.Statement.TheVariants as parsed
use Rattle.catalog.specs.declared.tables.Trigger.{Trigger}
use Rattle.db_load.proofs.SchemaTables.{err_not_ok, ok_is, passed_on, within_text}
use Rattle.db_load.proofs.TreelessRows.{trigger_told}
use Rattle.db_load.proofs.triggers.trigger_of.Goals as goal

pub returns-in_err-statement-clause-tells : goal.returns-in_err-statement-clause-tells
returns-in_err-statement-clause-tells c = λ trigger tells.
    (let made : Create = record { sql = tells.creates.sql; object = new.Trigger trigger.definition } in
    passed_on (λ (found : Trigger). found ≡ trigger) c.from_residual.result c.in_err-statement.field-0.0 c.from_residual.ensures.1
    (c.in_err-statement.ensures.tells (parsed.Create made) (within_text c.args.row.now tells.text (new.Trigger trigger.definition) tells.text_is tells.creates)))

pub returns-in_err-definition-clause-tells : goal.returns-in_err-definition-clause-tells
returns-in_err-definition-clause-tells c = λ trigger tells.
    (let made : Create = record { sql = tells.creates.sql; object = new.Trigger trigger.definition } in
    err_not_ok _ _
    (c.in_err-definition.ensures.tells made trigger.definition
    (c.in_ok-statement.ensures.tells (parsed.Create made) (within_text c.args.row.now tells.text (new.Trigger trigger.definition) tells.text_is tells.creates)) refl))

pub returns-clause-tells : goal.returns-clause-tells
returns-clause-tells c = λ trigger tells.
    (let made : Create = record { sql = tells.creates.sql; object = new.Trigger trigger.definition } in
    let same = ok_is _ _
    (c.in_ok-definition.ensures.tells made trigger.definition
    (c.in_ok-statement.ensures.tells (parsed.Create made) (within_text c.args.row.now tells.text (new.Trigger trigger.definition) tells.text_is tells.creates)) refl) in
    subst (λ (r : Result Trigger Fault). IsOrMemory (λ found. found ≡ trigger) r) (sym (c.trigger_made.ensures.tells trigger tells same)) refl)

pub returns-clause-found : goal.returns-clause-found
returns-clause-found c =
    trigger_told c.args.row.now c.in_ok-statement.statement c.in_ok-definition.definition c.trigger_made.result c.in_ok-statement.ensures.found c.in_ok-definition.ensures.found c.trigger_made.ensures.found
