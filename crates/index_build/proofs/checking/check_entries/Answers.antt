use Rattle.std.proofs.Common.{rules, ◌≡◌, map}
use Rattle.index_build.proofs.Checked.{rows_not_read, entries_checked}
use Rattle.index_build.proofs.checking.check_entries.Goals as goal

pub returns-in_err-rows-clause-checked : goal.returns-in_err-rows-clause-checked
returns-in_err-rows-clause-checked g c = λ told.
    (let gs = g.P.Pages in
    rows_not_read (gs.map c.args.pages.now) (gs.limits (gs.below c.args.pages.now)).page c.args.root c.args.table c.args.columns.now c.in_err-rows.field-0.0 c.from_residual.result
    (c.in_err-rows.ensures.loaded told) c.from_residual.ensures.1)

pub returns-in_err-collations-clause-checked : goal.returns-in_err-collations-clause-checked
returns-in_err-collations-clause-checked g c = λ told there used rows whole tree has. (search rules)

pub returns-clause-checked : goal.returns-clause-checked
returns-clause-checked g c = λ told.
    (let gs = g.P.Pages in
    let stays = c.in_ok-rows.ensures.stays in
    let columns : c.as_slice.result.now ≡ map (λ column. column.collation) c.args.columns.now = search rules in
    let rows : c.as_slice-2.result.now ≡ c.in_ok-rows.rows = search rules in
    entries_checked gs.below gs.tells gs.limits gs.map c.args.pages.now c.source_rows.new.pages c.args.root c.args.table c.args.columns.now c.as_slice.result.now columns c.as_slice-2.result.now c.in_ok-rows.rows rows
    c.compare_with.result stays.kept stays.same (c.in_ok-rows.ensures.loaded told) c.compare_with.ensures.compared told)
