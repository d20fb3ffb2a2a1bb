use Rattle.std.proofs.Common.{rules, ◌∙◌, Ok, ap, subst, sym}
use Rattle.query_terms.specs.Outcome.{IsRefusedBy}
use Rattle.query_terms.specs.Rows.{picked_rows, seen}
use Rattle.query_names.specs.Readings.{values}
use Rattle.query_answer.specs.Checks.{lists_checked}
use Rattle.query_answer.specs.Nesting.{grouped_row}
use Rattle.query_answer.proofs.Kept.{group_found, group_refused}
use Rattle.query_answer.proofs.results.group_row.Goals as goal

pub returns-in_err-check_arguments : goal.returns-in_err-check_arguments
returns-in_err-check_arguments c =
    let h : IsRefusedBy (grouped_row c.args.reading.now (picked_rows c.args.env.sources.now c.args.picked.now)) c.in_err-check_arguments.field-0.0 =
    group_refused c.args.reading.now (picked_rows c.args.env.sources.now c.args.picked.now) (seen c.args.env) c.in_ok-keys.keys c.in_err-check_arguments.field-0.0 c.requires
    (ap (values (seen c.args.env)) (sym c.as_slice.ensures) ∙ c.in_ok-keys.ensures)
    (subst (λ os. IsRefusedBy (lists_checked c.args.reading.now.results os (seen c.args.env)) c.in_err-check_arguments.field-0.0) c.as_slice-order.ensures
    (subst (λ ts. IsRefusedBy (lists_checked ts c.as_slice-order.result.now (seen c.args.env)) c.in_err-check_arguments.field-0.0) c.as_slice-2.ensures c.in_err-check_arguments.ensures)) in
    search rules

pub returns : goal.returns
returns c =
    group_found c.args.reading.now (picked_rows c.args.env.sources.now c.args.picked.now) (seen c.args.env) c.in_ok-keys.keys c.requires
    (ap (values (seen c.args.env)) (sym c.as_slice.ensures) ∙ c.in_ok-keys.ensures)
    ((λ i. lists_checked (sym c.as_slice-2.ensures i) (sym c.as_slice-order.ensures i) (seen c.args.env)) ∙ c.in_ok-check_arguments.ensures)
    ∙ (λ i. Ok ((sym c.new-results.ensures i, c.in_ok-keys.keys), picked_rows c.args.env.sources.now (sym c.in_ok-picked.ensures i)))
