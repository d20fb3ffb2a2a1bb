use Rattle.sql_syntax.specs.declared.change.InsertSource.TheVariants as source
use Rattle.executor.specs.Works.{given_on}
use Rattle.executor.proofs.Answering.{unbound_read}
use Rattle.executor.proofs.GivenQueries.{unnamed_given}
use Rattle.executor.proofs.giving.queried_rows.Goals as goal

pub returns-in_err-bound-clause-given : goal.returns-in_err-bound-clause-given
returns-in_err-bound-clause-given g c db told stored =
    unbound_read _ (given_on db c.args.count (source.Query c.args.query.now)) c.from_residual.result c.in_err-bound.field-0.0 c.from_residual.ensures.1
    (unnamed_given db c.args.count c.args.query.now c.in_err-bound.field-0.0 (c.in_err-bound.ensures.named stored.rows_at db stored.of_listed.lists))

pub returns-clause-given : goal.returns-clause-given
returns-clause-given g c db told stored =
    c.counted_rows.ensures.given db c.args.query.now told stored c.in_ok-bound.ensures.placed
    (c.in_ok-bound.ensures.named stored.rows_at db stored.of_listed.lists, c.in_ok-bound.ensures.closed)
