use Rattle.std.proofs.Common.{rules, ◌≡◌, ℤ, List, map, sym, subst, IsTrue}
use Rattle.std.specs.Prelude.{option_map}
use Rattle.pages.specs.Map.{PageMap}
use Rattle.row_search.specs.Loading.{LoadsRowsOf}
use Rattle.row_search.proofs.Searched.{not_searched, searched}
use Rattle.row_search.proofs.searching.sought_rows.Goals as goal

pub returns-in_err-rowids-clause-loaded : goal.returns-in_err-rowids-clause-loaded
returns-in_err-rowids-clause-loaded g c = λ told.
    (let gs = g.P.Pages in
    let under : c.as_slice-2.result.now ≡ map (λ column. column.collation) c.args.index.now.columns = search rules in
    not_searched (gs.map c.args.pages.now) (gs.limits (gs.below c.args.pages.now)).page c.args.index.now.root c.args.table c.args.index.now.columns c.args.key.now (option_map (λ r. r.now) c.args.range) c.as_slice-2.result.now under
    c.in_err-rowids.field-0.0 c.from_residual-in_err-rowids.result (c.in_err-rowids.ensures.found told) c.from_residual-in_err-rowids.ensures.1)

pub returns-clause-loaded : goal.returns-clause-loaded
returns-clause-loaded g c = λ told.
    (let gs = g.P.Pages in
    let old = c.args.pages.now in
    let mid = c.sought_rowids.new.pages in
    let stays = c.in_ok-rowids.ensures.stays in
    let under : c.as_slice-2.result.now ≡ map (λ column. column.collation) c.args.index.now.columns = search rules in
    let rowids : c.as_slice-3.result.now ≡ c.in_ok-rowids.rowids = search rules in
    let loads = c.rows_of.ensures.loaded (subst (λ k. IsTrue (gs.tells k)) (sym stays.kept) told) in
    let here = subst (λ (m : PageMap). LoadsRowsOf m (gs.limits (gs.below old)).page c.args.table c.as_slice-3.result.now c.rows_of.result) stays.same
    (subst (λ k. LoadsRowsOf (gs.map mid) (gs.limits k).page c.args.table c.as_slice-3.result.now c.rows_of.result) stays.kept loads) in
    searched (gs.map old) (gs.limits (gs.below old)).page c.args.index.now.root c.args.table c.args.index.now.columns c.args.key.now (option_map (λ r. r.now) c.args.range) c.as_slice-2.result.now under
    c.in_ok-rowids.rowids c.rows_of.result (c.in_ok-rowids.ensures.found told)
    (subst (λ (l : List ℤ). LoadsRowsOf (gs.map old) (gs.limits (gs.below old)).page c.args.table l c.rows_of.result) rowids here))
