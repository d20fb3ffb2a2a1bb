use Rattle.std.proofs.Common.{◌∙◌, ap, rules, subst, sym, List, Ok}
use Rattle.sqlval.specs.Refusals.{Answer}
use Rattle.sqlval.specs.declared.value.Value.{Value}
use Rattle.query_terms.specs.Outcome.{IsRefusedBy}
use Rattle.query_names.specs.Readings.{group_env, values}
use Rattle.query_groups.specs.Groups.{rows_of_group}
use Rattle.query_groups.proofs.OfGroup.{of_group}
use Rattle.query_groups.proofs.results.group_values.Goals as goal

abbrev done : List Value → Answer (List Value)
done vs = Ok vs

pub returns-in_err-each_value-clause-given : goal.returns-in_err-each_value-clause-given
returns-in_err-each_value-clause-given c = λ outer group are taken same told.
    (let fault = c.in_err-each_value.field-0.0 in
    let refused : IsRefusedBy (values (group_env outer group) c.args.terms.now) fault =
    subst (λ a. IsRefusedBy a fault) (sym (of_group outer group c.args.terms.now c.as_slice.result.now c.args.tallies.items are taken (c.as_slice.ensures ∙ same) told))
    (c.in_err-each_value.ensures.given (rows_of_group group) told) in
    search rules)

pub returns-clause-given : goal.returns-clause-given
returns-clause-given c = λ outer group are taken same told.
    (of_group outer group c.args.terms.now c.as_slice.result.now c.args.tallies.items are taken (c.as_slice.ensures ∙ same) told
    ∙ (c.in_ok-each_value.ensures.given (rows_of_group group) told ∙ ap done (sym c.from_vec.ensures)))
