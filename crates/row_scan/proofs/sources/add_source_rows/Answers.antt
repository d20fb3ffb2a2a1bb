use Rattle.std.proofs.Common.{◌≡◌, Ok, rules, subst, arith}
use Rattle.sqlval.specs.Gives.{Refuses}
use Rattle.row_scan.specs.Answers.{left}
use Rattle.row_scan.specs.Sources.{places_shown, shown_at}
use Rattle.row_scan.proofs.Steps.{goes_on, stops}
use Rattle.row_scan.proofs.RowLemmas.{no_row}
use Rattle.row_scan.proofs.sources.add_source_rows.Goals as goal

pub returns-in_err-source_row : goal.returns-in_err-source_row
returns-in_err-source_row c =
    let gives = shown_at (places_shown c.args.shown) c.args.own in
    let fault = c.in_err-source_row.field-0.0 in
    let total = left gives c.args.batch.now c.args.rows.now in
    let h : Refuses fault total =
    stops gives c.args.batch.now c.rows.index no_row c.rows.rows fault total (omega (arith, c.rows-test.true, c.len-index-end.ensures))
    (subst (λ e. Refuses fault (gives e)) (c.row.ensures no_row) c.in_err-source_row.ensures) c.rows.invariant in
    search rules

pub rows-preserved : goal.rows-preserved
rows-preserved c =
    let gives = shown_at (places_shown c.args.shown) c.args.own in
    rw (c.in_ok-push.ensures)
    (goes_on gives c.args.batch.now c.rows.index no_row c.rows.rows c.in_ok-source_row.field-0 (left gives c.args.batch.now c.args.rows.now)
    (omega (arith, c.rows-test.true, c.len-index-end.ensures))
    (subst (λ e. gives e ≡ Ok c.in_ok-source_row.field-0) (c.row.ensures no_row) c.in_ok-source_row.ensures) c.rows.invariant)
