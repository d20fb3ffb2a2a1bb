use Rattle.std.proofs.Common.{◌≡◌, ◌∙◌, Some, rules}
use Rattle.query_names.specs.Queries.{is_own}
use Rattle.query_bind.proofs.Grown.{own_name}
use Rattle.query_bind.proofs.results.is_named.Goals as goal

pub returns-then-not-source-clause-star : goal.returns-then-not-source-clause-star
returns-then-not-source-clause-star c =
    let own : c.is_same.result ≡ is_own (Some c.args.name.now) c.args.source.now = search rules in
    own ∙ own_name c.args.name.now c.args.source.now
