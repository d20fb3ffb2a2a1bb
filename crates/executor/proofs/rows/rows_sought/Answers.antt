use Rattle.std.proofs.Common.{List, subst, sym}
use Rattle.catalog.specs.declared.tables.Index.{Index}
use Rattle.catalog.specs.declared.tables.RowShape.{RowShape}
use Rattle.query_plan.specs.Searching.{IsSought}
use Rattle.row_search.specs.Found.{FindsSought}
use Rattle.executor.proofs.AllRows.{rows_found}
use Rattle.executor.proofs.rows.rows_sought.Goals as goal

pub returns-clause-found : goal.returns-clause-found
returns-clause-found g c source condition told seeks =
    (let pages = g.P.Pages in
    let old = pages.map c.args.pages.now in
    let size = (pages.limits (pages.below c.args.pages.now)).page in
    let table = c.args.table.now in
    rows_found old size table c.args.search c.found_rows.result
    (subst (λ (shape : RowShape). FindsSought old size (record { root = table.root; shape = shape }) table.indexes c.args.search c.found_rows.result) c.shape.ensures
    (subst (λ (indexes : List Index). FindsSought old size (record { root = table.root; shape = c.shape.result }) indexes c.args.search c.found_rows.result) c.as_slice.ensures
    (c.found_rows.ensures.found source condition told (subst (λ (indexes : List Index). IsSought indexes source condition c.args.search) (sym c.as_slice.ensures) seeks)))))
