use Rattle.std.proofs.Common.{◌∙◌, ap, map, rules, subst, sym, List, Ok}
use Rattle.sqlval.specs.Refusals.{Answer, all_answers}
use Rattle.sqlval.specs.declared.value.Value.{Value}
use Rattle.query_terms.specs.Outcome.{IsRefusedBy}
use Rattle.query_terms.specs.Values.{value}
use Rattle.query_totals.specs.Tallies.{given_by}
use Rattle.query_totals.proofs.Taken.{all_given}
use Rattle.query_totals.proofs.rows.totals.Goals as goal

abbrev done : List Value → Answer (List Value)
done vs = Ok vs

pub returns-in_err-given_of_all-clause-given : goal.returns-in_err-given_of_all-clause-given
returns-in_err-given_of_all-clause-given c = λ terms env are taken told.
    (let fault = c.in_err-given_of_all.field-0.0 in
    let refused : IsRefusedBy (all_answers (map (λ t. value t env) terms)) fault =
    subst (λ a. IsRefusedBy a fault) (sym (all_given terms env are taken ∙ ap (λ ks. all_answers (map given_by ks)) (sym told))) c.in_err-given_of_all.ensures.told in
    search rules)

pub returns-clause-given : goal.returns-clause-given
returns-clause-given c = λ terms env are taken told.
    (all_given terms env are taken
    ∙ (ap (λ ks. all_answers (map given_by ks)) (sym told) ∙ (c.in_ok-given_of_all.ensures.told ∙ ap done (sym c.from_vec.ensures))))
