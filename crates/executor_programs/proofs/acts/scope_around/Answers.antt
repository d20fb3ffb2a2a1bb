use Rattle.std.proofs.Common.{refl}
use Rattle.trigger.specs.Events.{event_of}
use Rattle.executor_programs.proofs.Around.{firing_at, has_rows, outer_memory}
use Rattle.executor_programs.proofs.acts.scope_around.Goals as goal

pub returns-clause-refused : goal.returns-clause-refused
returns-clause-refused c =
    outer_memory _ c.outer_scope.result
    (c.outer_scope.ensures.seen (firing_at (event_of c.args.event) c.args.source.now.columns c.args.source.now.has_rowid) refl refl (has_rows (event_of c.args.event) c.args.source.now.columns c.args.source.now.has_rowid))
