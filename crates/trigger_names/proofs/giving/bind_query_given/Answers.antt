use Rattle.std.proofs.Common.{◌≡◌, ◌==◌, Some, length, refl, rules, true}
use Rattle.sqlval.specs.declared.fault.Fault.TheVariants.{Misuse}
use Rattle.sqlval.specs.declared.fault.Misuse.TheVariants.{Count}
use Rattle.sql_syntax.specs.declared.change.InsertSource.TheVariants as source
use Rattle.query_bind.proofs.Chains.{handed_on}
use Rattle.row_change.specs.Changes.{Outer, resolve_given}
use Rattle.trigger_names.specs.Resolved.{bound_given}
use Rattle.trigger_names.proofs.GivenRows.{miscounted_query, other_count, query_is, query_refused}
use Rattle.trigger_names.proofs.giving.bind_query_given.Goals as goal

pub returns-in_err-bound-clause-named : goal.returns-in_err-bound-clause-named
returns-in_err-bound-clause-named c rows_at db held outer lists =
    let around : Outer = record { scope = c.args.outer.now; rows = held } in
    handed_on bound_given (resolve_given db around (Some c.args.count) (source.Query c.args.query.now)) c.in_err-bound.field-0.0 c.from_residual.result c.from_residual.ensures.1
    (query_refused db around c.args.count c.args.query.now c.in_err-bound.field-0.0 (c.in_err-bound.ensures.named rows_at db outer lists))

pub returns-then-len-count-clause-named : goal.returns-then-len-count-clause-named
returns-then-len-count-clause-named c rows_at db held outer lists =
    let around : Outer = record { scope = c.args.outer.now; rows = held } in
    let reading = c.in_ok-bound.bound.reading in
    let other = other_count c.len.result (length reading.results) c.args.count c.len.ensures c.if-len-count.true in
    miscounted_query db around c.args.count c.args.query.now reading (c.in_ok-bound.ensures.named rows_at db outer lists) (c.in_ok-bound.ensures.closed outer) (Misuse Count) other refl

pub returns-clause-named : goal.returns-clause-named
returns-clause-named c rows_at db held outer lists =
    let around : Outer = record { scope = c.args.outer.now; rows = held } in
    let reading = c.in_ok-bound.bound.reading in
    let same : (c.args.count == length reading.results) ≡ true = search rules in
    query_is db around c.args.count c.args.query.now reading (c.in_ok-bound.ensures.named rows_at db outer lists) (c.in_ok-bound.ensures.closed outer) same
