use Rattle.std.proofs.Common.{subst, map, [], ◌<◌}
use Rattle.query_terms.specs.Rows.{row_at}
use Rattle.row_change.specs.Setting.{rows_meant}
use Rattle.row_change.proofs.SetRows.{one_more, one_refused}
use Rattle.row_change.proofs.setting.places_meant.Goals as goal

pub returns-in_err-test : goal.returns-in_err-test
returns-in_err-test c =
    one_refused c.args.condition.now c.args.rows.now (rows_meant c.args.condition.now [] c.args.rows.now) c.rows.index c.rows.places.items c.rows.invariant
    (λ places. map (row_at c.args.rows.now) places.items) c.from_residual.result c.in_err-test.field-0.0 (subst (λ n. c.rows.index < n) c.len-index-end.ensures c.rows-test.true) c.from_residual.ensures.1 c.in_err-test.ensures

pub rows-preserved : goal.rows-preserved
rows-preserved c =
    one_more c.args.condition.now c.args.rows.now (rows_meant c.args.condition.now [] c.args.rows.now) c.rows.index c.rows.places.items c.rows.invariant
    c.in_ok-test.test c.push_if.new.places.items (subst (λ n. c.rows.index < n) c.len-index-end.ensures c.rows-test.true) c.in_ok-test.ensures c.in_ok-push_if.ensures.pushed
