use Rattle.std.proofs.Common.{◌∷◌, [], rules}
use Rattle.query_names.specs.Bound.{source_seen}
use Rattle.query_names.specs.Named.{Names}
use Rattle.query_names.specs.Queries.{resolve_filter}
use Rattle.query_bind.proofs.Quiet.{filter_calm}
use Rattle.query_bind.proofs.filtering.bind_where.Goals as goal

pub returns-clause-not_disk : goal.returns-clause-not_disk
returns-clause-not_disk c =
    let named : Names (resolve_filter (source_seen c.args.name.now c.args.table.now ∷ []) c.args.condition.now) c.bind_filter.result = search rules in
    filter_calm (source_seen c.args.name.now c.args.table.now ∷ []) c.args.condition.now c.bind_filter.result named
