use Rattle.std.proofs.Common.{subst}
use Rattle.query_terms.specs.Outcome.{AnswersBy}
use Rattle.query_terms.specs.Rows.{picked_rows, seen}
use Rattle.query_answer.specs.Nesting.{found_of, grouped_row}
use Rattle.query_answer.proofs.Kept.{kept_alone, kept_grouped}
use Rattle.query_answer.proofs.results.kept_row.Goals as goal

pub returns-then-loops : goal.returns-then-loops
returns-then-loops c =
    kept_grouped c.args.loops.reading.now (picked_rows c.args.loops.sources.now c.args.picked.now) c.args.loops.sources.now c.group_row.result c.if-loops.true
    (subst (λ ss. AnswersBy (found_of ss) (grouped_row c.args.loops.reading.now (picked_rows ss c.args.picked.now)) c.group_row.result) c.env-env.ensures.sources c.group_row.ensures)

pub returns-else-loops : goal.returns-else-loops
returns-else-loops c =
    kept_alone c.args.loops.reading.now (picked_rows c.args.loops.sources.now c.args.picked.now) (seen c.env-env.result) c.args.loops.sources.now c.found_row.result
    c.if-loops.false c.env-env.ensures.sees c.found_row.ensures.found c.found_row.ensures.alone
