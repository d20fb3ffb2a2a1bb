use Rattle.std.proofs.Common.{refl, subst, sym}
use Rattle.row_change.specs.RowChanges.{Event}
use Rattle.trigger.specs.Binding.{program_scope}
use Rattle.trigger.specs.Events.{event_of}
use Rattle.trigger.specs.Triggers.{outer_of}
use Rattle.trigger_names.specs.Programs.{HasRowsOf}
use Rattle.trigger_bind.specs.Programs.{aim_awaited, event_awaited}
use Rattle.trigger_bind.proofs.Scopes.{firing_at, has_rows}
use Rattle.trigger_bind.proofs.Sources.{memory_alone, or_as, or_memory, or_quiet, program_seen}
use Rattle.trigger_bind.proofs.programs.outer_for.Goals as goal

pub returns-in_err-source-clause-seen : goal.returns-in_err-source-clause-seen
returns-in_err-source-clause-seen c = λ rows_at db of known.
    or_memory _ c.in_err-source.field-0.0 c.from_residual.result c.from_residual.ensures.1
    (memory_alone db c.args.definition.now c.in_err-source.field-0.0 known (c.in_err-source.ensures.named rows_at db of.lists))

pub returns-clause-seen : goal.returns-clause-seen
returns-clause-seen c = λ rows_at db of known.
    (let firing = firing_at (event_awaited c.args.definition.now.event) c.in_ok-source.source.columns c.in_ok-source.source.has_rowid in
    let has = subst (λ (e : Event). HasRowsOf e firing) (sym c.event_awaited.ensures) (has_rows (event_awaited c.args.definition.now.event) c.in_ok-source.source.columns c.in_ok-source.source.has_rowid) in
    or_as (λ scope. scope.items) (outer_of firing).scope (program_scope db (aim_awaited c.args.definition.now)).scope c.outer_scope.result
    (program_seen db c.args.definition.now c.in_ok-source.source known (c.in_ok-source.ensures.named rows_at db of.lists)) (c.outer_scope.ensures.seen firing refl refl has))

pub returns-clause-not_disk : goal.returns-clause-not_disk
returns-clause-not_disk c =
    or_quiet _ c.outer_scope.result
    (c.outer_scope.ensures.seen (firing_at (event_of c.event_awaited.result) c.in_ok-source.source.columns c.in_ok-source.source.has_rowid) refl refl
    (has_rows (event_of c.event_awaited.result) c.in_ok-source.source.columns c.in_ok-source.source.has_rowid))
