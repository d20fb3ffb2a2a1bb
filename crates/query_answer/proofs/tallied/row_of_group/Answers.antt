use Rattle.std.proofs.Common.{[], List, Ok, rules}
use Rattle.sqlval.specs.Refusals.{Answer}
use Rattle.sqlval.specs.declared.value.Value.{Value}
use Rattle.query_terms.specs.Outcome.{IsRefusedBy}
use Rattle.query_terms.proofs.InOrder.{refuses_on}
use Rattle.query_names.specs.Readings.{Sortable, group_env, values}
use Rattle.query_answer.specs.Groups.{row_of_group}
use Rattle.query_answer.proofs.tallied.row_of_group.Goals as goal

abbrev alone : List Value → Answer Sortable
alone vs = Ok (vs, [])

pub returns-in_err-results-clause-given : goal.returns-in_err-results-clause-given
returns-in_err-results-clause-given c = λ group are taken same told.
    (let fault = c.in_err-results.field-0.0 in
    let refused : IsRefusedBy (row_of_group c.args.terms.now group) fault =
    refuses_on fault (values (group_env [] group) c.args.terms.now) alone (c.in_err-results.ensures.given [] group are taken same told) in
    search rules)
