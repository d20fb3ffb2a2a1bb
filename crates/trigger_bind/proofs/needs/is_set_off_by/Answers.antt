use Rattle.std.proofs.Common.{◌∙◌, ap}
use Rattle.std.specs.Prelude.{◌&&◌}
use Rattle.row_change.specs.RowChanges.{is_set_off}
use Rattle.catalog.specs.Listed.{is_on}
use Rattle.trigger.specs.Binding.{aim_of}
use Rattle.trigger.specs.Events.{event_of}
use Rattle.trigger_bind.proofs.Scopes.{on_folded}
use Rattle.trigger_bind.proofs.needs.is_set_off_by.Goals as goal

pub returns : goal.returns
returns c =
    c.sets_off.ensures
    ∙ (ap (λ b. b && is_set_off c.args.trigger.now.definition.event (event_of c.event_in.result)) (on_folded c.args.change.now c.target_of.result.now c.args.trigger.now c.target_of.ensures)
    ∙ ap (λ e. is_on (aim_of c.args.change.now).target c.args.trigger.now && is_set_off c.args.trigger.now.definition.event e) c.event_in.ensures)
