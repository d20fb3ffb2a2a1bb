use Rattle.std.proofs.Common.{List, subst}
use Rattle.query_names.specs.declared.queries.BoundSource.{BoundSource}
use Rattle.catalog.specs.declared.tables.Index.{Index}
use Rattle.row_search.specs.Found.{FindsNeeded}
use Rattle.db_write.proofs.Needed.{loads_enough, same_source}
use Rattle.db_write.proofs.reading.enough_rows.Goals as goal

pub returns-clause-loaded : goal.returns-clause-loaded
returns-clause-loaded g c = λ told.
    (let pages = g.P.Pages in
    let old = pages.map c.args.pages.now in
    let size = (pages.limits (pages.below c.args.pages.now)).page in
    let table = c.args.table.now in
    let condition = c.args.condition.now in
    let result = c.needed_rows.result in
    let same = same_source table c.source_of-source.result c.source_of-source.ensures.root c.source_of-source.ensures.shape in
    let finds = subst (λ (them : List Index). FindsNeeded old size c.source_of-source.result them condition result) c.as_slice.ensures (c.needed_rows.ensures.loaded told) in
    loads_enough old size table c.other_rows_fail.ensures condition result (subst (λ (source : BoundSource). FindsNeeded old size source table.indexes condition result) same finds))
