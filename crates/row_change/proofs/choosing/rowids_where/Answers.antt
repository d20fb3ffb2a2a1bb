use Rattle.std.proofs.Common.{ap, subst, [], ◌<◌, ◌≤◌}
use Rattle.row_change.specs.Choosing.{rowids_after}
use Rattle.row_change.proofs.Chosen.{no_more, one_more, one_refused}
use Rattle.row_change.proofs.choosing.rowids_where.Goals as goal

pub rows-init : goal.rows-init
rows-init c = ap (λ ids. rowids_after c.args.condition.now ids c.args.rows.now) c.new-rowids.ensures.items

pub returns-in_err-rowid-clause-answered : goal.returns-in_err-rowid-clause-answered
returns-in_err-rowid-clause-answered c =
    one_refused c.args.condition.now c.args.rows.now (rowids_after c.args.condition.now [] c.args.rows.now) c.rows.index c.rows.rowids.items c.rows.invariant
    (λ rowids. rowids.items) c.from_residual.result c.in_err-rowid.field-0.0 (subst (λ n. c.rows.index < n) c.len-index-end.ensures c.rows-test.true) c.from_residual.ensures.1 c.in_err-rowid.ensures.answered

pub rows-preserved : goal.rows-preserved
rows-preserved c =
    one_more c.args.condition.now c.args.rows.now (rowids_after c.args.condition.now [] c.args.rows.now) c.rows.index c.rows.rowids.items c.rows.invariant
    c.in_ok-rowid.rowid c.push_rowid.new.rowids.items (subst (λ n. c.rows.index < n) c.len-index-end.ensures c.rows-test.true) c.in_ok-rowid.ensures.answered c.in_ok-push_rowid.ensures.pushed

pub returns-clause-answered : goal.returns-clause-answered
returns-clause-answered c =
    no_more c.args.condition.now c.args.rows.now (rowids_after c.args.condition.now [] c.args.rows.now) c.rows.index c.rows.rowids.items c.rows.invariant (subst (λ n. n ≤ c.rows.index) c.len-index-end.ensures c.rows-test.false)
