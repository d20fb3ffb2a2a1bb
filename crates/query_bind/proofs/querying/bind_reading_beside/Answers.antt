use Rattle.std.proofs.Common.{[], rules}
use Rattle.catalog.specs.Listed.{listed_in}
use Rattle.query_names.specs.Known.{columns_in}
use Rattle.query_names.specs.Queries.{resolve_query}
use Rattle.query_bind.proofs.Outer.{outer_known}
use Rattle.query_bind.proofs.Quiet.{of_listed_query, refused_calm}
use Rattle.query_bind.proofs.ViewColumns.{query_on}
use Rattle.query_bind.proofs.querying.bind_reading_beside.Goals as goal

pub returns-in_err-expect_known-clause-named : goal.returns-in_err-expect_known-clause-named
returns-in_err-expect_known-clause-named c = λ rows_at db outer lists.
    let memory = c.in_err-expect_known.ensures.refused (outer_known c.args.outer.now outer) in
    search rules

pub returns-clause-named : goal.returns-clause-named
returns-clause-named c = λ rows_at db outer lists.
    query_on c.listed_tables_are_known.ensures (λ bound. bound.reading) 64 rows_at (listed_in c.args.catalog.now) db lists [] c.args.outer.now c.args.query.now c.bind_query.result
    (c.bind_query.ensures.named (c.in_ok-expect_known.ensures.known))

pub returns-clause-not_disk : goal.returns-clause-not_disk
returns-clause-not_disk c =
    refused_calm (λ bound. bound.reading) (resolve_query (columns_in 64 (listed_in c.args.catalog.now) []) c.args.outer.now c.args.query.now) c.bind_query.result
    (of_listed_query 64 (listed_in c.args.catalog.now) [] c.args.outer.now c.args.query.now) (c.bind_query.ensures.named (c.in_ok-expect_known.ensures.known))
