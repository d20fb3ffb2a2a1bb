use Rattle.std.proofs.Common.{◌-◌, drop, length, take}
use Rattle.query_answer.proofs.Sought.{found_at, none_at, slice_drop}
use Rattle.query_answer.proofs.searches.search_at.Goals as goal

pub returns-clause-found : goal.returns-clause-found
returns-clause-found c =
    let sources = c.as_slice-sources.result.now in
    found_at c.args.indexes.now c.args.reading.now c.args.source (take (length sources - c.args.source) (drop c.args.source sources))
    (slice_drop c.args.source sources c.args.reading.now.sources c.as_slice-sources.ensures) c.search_among.result c.search_among.ensures.found

pub returns-clause-only : goal.returns-clause-only
returns-clause-only c =
    let sources = c.as_slice-sources.result.now in
    none_at c.args.indexes.now c.args.reading.now c.args.source (take (length sources - c.args.source) (drop c.args.source sources))
    (slice_drop c.args.source sources c.args.reading.now.sources c.as_slice-sources.ensures) c.search_among.result c.search_among.ensures.only
