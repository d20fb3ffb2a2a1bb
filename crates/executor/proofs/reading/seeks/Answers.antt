use Rattle.std.proofs.Common.{◌≡◌, Some, rules}
use Rattle.std.specs.Option.{is_some}
use Rattle.catalog.specs.Listed.{tables_of}
use Rattle.executor.specs.Reading.{source_table}
use Rattle.executor.proofs.NeededRows.{seen, unseen}
use Rattle.executor.proofs.reading.seeks.Goals as goal

pub returns-in_ok-search_at-in-Some-clause-seen : goal.returns-in_ok-search_at-in-Some-clause-seen
returns-in_ok-search_at-in-Some-clause-seen c =
    let tables = tables_of c.args.catalog.now in
    let here : source_table tables c.args.reading.now.sources c.args.source ≡ Some c.in-Some.table.now = search rules in
    let is : c.is_some.result ≡ is_some c.in_ok-search_at-in-Some.field-0 = search rules in
    seen tables c.args.reading.now c.args.source c.in-Some.table.now c.as_slice.result.now c.as_slice.ensures here c.in_ok-search_at-in-Some.field-0 c.is_some.result is
    c.in_ok-search_at-in-Some.ensures.found

pub returns-in_ok-search_at-in-Some-clause-only : goal.returns-in_ok-search_at-in-Some-clause-only
returns-in_ok-search_at-in-Some-clause-only c =
    let tables = tables_of c.args.catalog.now in
    let here : source_table tables c.args.reading.now.sources c.args.source ≡ Some c.in-Some.table.now = search rules in
    let is : c.is_some.result ≡ is_some c.in_ok-search_at-in-Some.field-0 = search rules in
    unseen tables c.args.reading.now c.args.source c.in-Some.table.now c.as_slice.result.now c.as_slice.ensures here c.in_ok-search_at-in-Some.field-0 c.is_some.result is
    c.in_ok-search_at-in-Some.ensures.only
