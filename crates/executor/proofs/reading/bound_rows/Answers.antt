use Rattle.std.proofs.Common.{arith}
use Rattle.executor.proofs.reading.bound_rows.Goals as goal

pub returns-clause-answered : goal.returns-clause-answered
returns-clause-answered g c told db query stored placed named =
    c.rows_within.ensures.answered told db stored placed (record { few = omega arith; each = c.sources_are_known.ensures db query c.args.bound.now.reading named })
