use Rattle.catalog.specs.Listed.{listed_in, triggers_in}
use Rattle.catalog.specs.declared.tables.Trigger.{Trigger}
use Rattle.query_bind.specs.Triggers.{FitsTarget}
use Rattle.db_load.proofs.TriggerTargets.{all_left, first_goes, first_is, none_left, refused_so}
use Rattle.db_load.proofs.triggers.check_targets.Goals as goal

pub triggers-init : goal.triggers-init
triggers-init c = λ once. all_left (λ (g : Trigger). FitsTarget (listed_in c.args.catalog.now) g.definition) _ (triggers_in c.args.catalog.now) c.triggers-rest.ensures

pub returns-in_err-check_target-clause-only : goal.returns-in_err-check_target-clause-only
returns-in_err-check_target-clause-only c = λ once fit.
    refused_so c.from_residual.result c.in_err-check_target.field-0.0 c.from_residual.ensures.1
    (c.in_err-check_target.ensures.only once
    (first_is (λ (g : Trigger). FitsTarget (listed_in c.args.catalog.now) g.definition) (triggers_in c.args.catalog.now) c.triggers.rest.now c.trigger-item.result _ c.in-len1-up.len_at_least c.trigger-item.is
    c.deref.ensures (c.triggers.invariant once) fit))

pub triggers-preserved : goal.triggers-preserved
triggers-preserved c = λ once.
    first_goes (λ (g : Trigger). FitsTarget (listed_in c.args.catalog.now) g.definition) (triggers_in c.args.catalog.now) c.triggers.rest.now c.trigger-item.result _ c.in-len1-up.len_at_least c.trigger-item.is
    c.deref.ensures (c.triggers.invariant once) (c.in_ok-check_target.ensures.found once)

pub returns-clause-found : goal.returns-clause-found
returns-clause-found c = λ once.
    none_left (λ (g : Trigger). FitsTarget (listed_in c.args.catalog.now) g.definition) (triggers_in c.args.catalog.now) c.triggers.rest.now c.in_default.len_below (c.triggers.invariant once)
