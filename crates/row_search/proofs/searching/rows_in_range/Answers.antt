use Rattle.std.proofs.Common.{rules, ◌≡◌, List, subst}
use Rattle.sqlval.specs.declared.value.Value.{Value}
use Rattle.row_search.specs.Searching.{LoadsInRange}
use Rattle.row_search.proofs.Searched.{of_range}
use Rattle.row_search.proofs.searching.rows_in_range.Goals as goal

pub returns-clause-loaded : goal.returns-clause-loaded
returns-clause-loaded g c = λ told.
    (let gs = g.P.Pages in
    let pages = gs.map c.args.pages.now in
    let size = (gs.limits (gs.below c.args.pages.now)).page in
    let key : c.as_slice.result.now ≡ c.args.key = search rules in
    subst (λ (k : List Value). LoadsInRange pages size c.args.table c.args.index.now.root c.args.index.now.columns k c.args.range.now c.sought_rows.result) key
    (of_range pages size c.args.index.now.root c.args.table c.args.index.now.columns c.as_slice.result.now c.args.range.now c.sought_rows.result (c.sought_rows.ensures.loaded told)))
