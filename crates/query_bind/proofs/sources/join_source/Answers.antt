use Rattle.std.proofs.Common.{◌≡◌, ◌∙◌, ◌++◌, ◌∷◌, [], ap}
use Rattle.query_names.specs.Checked.{good}
use Rattle.query_names.specs.Queries.{source_name}
use Rattle.query_names.specs.Scopes.{source_of}
use Rattle.query_bind.specs.Named.{onto_source, source_joined}
use Rattle.query_bind.proofs.Chains.{handed_on}
use Rattle.query_bind.proofs.Joining.{condition_refused, placed_then}
use Rattle.query_bind.proofs.sources.join_source.Goals as goal

pub returns-in_err-condition-clause-named : goal.returns-in_err-condition-clause-named
returns-in_err-condition-clause-named c = λ tables.
    let found = good (c.args.seen.columns, c.args.seen.has_rowid) in
    let here : c.as_slice.result.now ≡ c.args.found.now.scope.items ++ source_of (source_name c.args.source.now) found ∷ [] =
    c.as_slice.ensures.value ∙ (c.in_ok-push.ensures.items ∙ ap (λ s. c.args.found.now.scope.items ++ s ∷ []) (c.in_ok-here.ensures ∙ ap (λ n. source_of n found) c.name_of.ensures)) in
    let h = condition_refused c.args.found.now.joined.items c.args.found.now.scope.items c.as_slice.result.now c.args.kind c.args.source.now c.args.condition.now found c.in_err-condition.field-0.0
    here c.in_err-condition.ensures in
    handed_on _ (onto_source c.args.found.now.joined.items (source_joined c.args.found.now.scope.items c.args.kind c.args.source.now c.args.condition.now found)) c.in_err-condition.field-0.0
    c.from_residual-in_err-condition.result c.from_residual-in_err-condition.ensures.1 h

pub returns-clause-placed : goal.returns-clause-placed
returns-clause-placed c = λ l is placed.
    placed_then c.note_source.result l c.args.found.now.joined.items c.note_source.new.found.joined.items c.args.found.now.origins.items c.note_source.new.found.origins.items
    c.args.source.now.name c.args.seen.origin c.in_ok-condition.condition is c.note_source.ensures.joined c.note_source.ensures.placed placed
