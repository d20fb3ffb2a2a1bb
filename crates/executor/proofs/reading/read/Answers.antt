use Rattle.std.proofs.Common.{[], ap, map}
use Rattle.query_names.specs.Checked.{known_map}
use Rattle.query_names.specs.Views.{answer_of}
use Rattle.row_scan.specs.Rows.{values_of}
use Rattle.executor.specs.Works.{read_on}
use Rattle.executor.proofs.Answering.{bound_read, unbound_read}
use Rattle.executor.proofs.LoadedSources.{unnamed}
use Rattle.executor.proofs.reading.read.Goals as goal

pub returns-in_err-bound-clause-answered : goal.returns-in_err-bound-clause-answered
returns-in_err-bound-clause-answered g c db told stored =
    unbound_read _ (read_on db c.args.query.now) c.from_residual.result c.in_err-bound.field-0.0 c.from_residual.ensures.1
    (unnamed db c.args.query.now c.in_err-bound.field-0.0 (c.in_err-bound.ensures.named stored.rows_at db stored.of_listed.lists))

pub returns-clause-answered : goal.returns-clause-answered
returns-clause-answered g c db told stored =
    let bound = c.in_ok-bound.bound in
    let named = c.in_ok-bound.ensures.named stored.rows_at db stored.of_listed.lists in
    bound_read (λ rows. map values_of rows.items) (answer_of db [] bound.reading) (read_on db c.args.query.now) c.bound_rows.result
    (ap (known_map (answer_of db [])) named)
    (c.bound_rows.ensures.answered told db c.args.query.now stored c.in_ok-bound.ensures.placed named)
