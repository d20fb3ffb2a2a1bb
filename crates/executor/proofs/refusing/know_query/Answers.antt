use Rattle.std.proofs.Common.{◌≡◌, ◌==◌, length, refl, rules, true}
use Rattle.sqlval.specs.declared.fault.Fault.TheVariants.{Misuse}
use Rattle.sqlval.specs.declared.fault.Misuse.TheVariants.{Count}
use Rattle.sql_syntax.specs.declared.change.InsertSource.TheVariants as source
use Rattle.row_change.specs.Changes.{no_outer, resolve_given}
use Rattle.std.specs.Prelude.{Some}
use Rattle.executor.proofs.GivenQueries.{as_known, miscounted, other_count, unnamed_given, well_known}
use Rattle.executor.proofs.RefusedViews.{passed_on}
use Rattle.executor.proofs.refusing.know_query.Goals as goal

pub returns-in_err-bound-clause-known : goal.returns-in_err-bound-clause-known
returns-in_err-bound-clause-known c rows_at db lists =
    let q = c.args.query.now in
    passed_on (resolve_given db no_outer (Some c.args.count) (source.Query q)) c.from_residual.result c.in_err-bound.field-0.0 c.from_residual.ensures.1
    (as_known db c.args.count q c.in_err-bound.field-0.0 (unnamed_given db c.args.count q c.in_err-bound.field-0.0 (c.in_err-bound.ensures.named rows_at db lists)))

pub returns-then-len-count-clause-known : goal.returns-then-len-count-clause-known
returns-then-len-count-clause-known c rows_at db lists =
    let q = c.args.query.now in
    let reading = c.in_ok-bound.bound.reading in
    let other = other_count c.len.result (length reading.results) c.args.count c.len.ensures c.if-len-count.true in
    as_known db c.args.count q (Misuse Count) (miscounted db c.args.count q reading (c.in_ok-bound.ensures.named rows_at db lists) c.in_ok-bound.ensures.closed (Misuse Count) other refl)

pub returns-clause-known : goal.returns-clause-known
returns-clause-known c rows_at db lists =
    let reading = c.in_ok-bound.bound.reading in
    let same : (c.args.count == length reading.results) ≡ true = search rules in
    well_known db c.args.count c.args.query.now reading (c.in_ok-bound.ensures.named rows_at db lists) c.in_ok-bound.ensures.closed same
