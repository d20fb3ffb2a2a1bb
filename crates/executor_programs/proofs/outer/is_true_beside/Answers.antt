use Rattle.std.proofs.Common.{◌∙◌, Bool, List, subst}
use Rattle.query_terms.specs.Outcome.{AnswersBy}
use Rattle.query_terms.specs.Rows.{picked_rows}
use Rattle.query_terms.specs.Values.{Row}
use Rattle.executor_programs.specs.Outer.{is_true}
use Rattle.executor_programs.proofs.BesideRows.{shown}
use Rattle.executor_programs.proofs.QuietTerms.{condition_quietly}
use Rattle.executor_programs.proofs.outer.is_true_beside.Goals as goal

pub returns-clause-answered : goal.returns-clause-answered
returns-clause-answered c = λ seen shows.
    subst (λ (rows : List Row). AnswersBy (λ (test : Bool). test) (is_true c.args.condition.now rows) c.is_true.result)
    (shown c.args.outer.rows.now seen.rows c.deref.result.now shows.rows (c.deref.ensures.value ∙ c.in_ok-picked.ensures))
    c.is_true.ensures

pub returns-clause-not_disk : goal.returns-clause-not_disk
returns-clause-not_disk c = condition_quietly c.args.condition.now (picked_rows c.args.outer.rows.now c.deref.result.now) c.is_true.result c.is_true.ensures
