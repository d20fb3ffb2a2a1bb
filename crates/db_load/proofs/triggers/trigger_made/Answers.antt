use Rattle.std.proofs.lemmas.Int.{to_z-of_z}
use Rattle.std.proofs.Common.{◌≡◌, rules, SFits, w64, Ok, ap, refl, sym, subst, ◌∙◌}
use Rattle.std.specs.Prelude.{Result}
use Rattle.sqlval.specs.declared.fault.Fault.{Fault}
use Rattle.sql_syntax.specs.declared.create.TriggerDefinition.{TriggerDefinition}
use Rattle.catalog.specs.declared.tables.Trigger.{Trigger}
use Rattle.db_load.specs.Loading.{IsOfTriggerRow}
use Rattle.db_load.proofs.SchemaTables.{err_not_ok}
use Rattle.db_load.proofs.TreelessRows.{trigger_is}
use Rattle.db_load.proofs.triggers.trigger_made.Goals as goal

answered : (a b : Trigger) → a ≡ b → ◌≡◌ {A = Result Trigger Fault} (Ok a) (Ok b)
answered a b same = ap Ok same

pub returns-in-Ok-clause-tells : goal.returns-in-Ok-clause-tells
returns-in-Ok-clause-tells c = λ trigger tells same.
    (let fits : SFits w64 c.args.row.now.rowid = search rules in
    answered _ trigger (trigger_is trigger _ same (to_z-of_z w64 c.args.row.now.rowid fits ∙ sym tells.rowid_is)))

pub returns-in-Ok-clause-found : goal.returns-in-Ok-clause-found
returns-in-Ok-clause-found c =
    let fits : SFits w64 c.args.row.now.rowid = search rules in
    (c.in-Ok.ensures.found, refl, to_z-of_z w64 c.args.row.now.rowid fits)

pub returns-in-Err-clause-tells : goal.returns-in-Err-clause-tells
returns-in-Err-clause-tells c = λ trigger tells same.
    err_not_ok _ _ (c.in-Err.ensures.tells (subst (λ (d : TriggerDefinition). IsOfTriggerRow c.args.row.now d) (sym same) tells.names))
