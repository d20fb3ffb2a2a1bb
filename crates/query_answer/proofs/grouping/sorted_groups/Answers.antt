use Rattle.std.proofs.Common.{◌∙◌, ap, map, subst}
use Rattle.query_terms.specs.Outcome.{AnswersBy}
use Rattle.query_terms.specs.Rows.{picked_rows}
use Rattle.query_answer.specs.Groups.{of_runs, sorted_by_keys}
use Rattle.query_answer.specs.Nesting.{shown}
use Rattle.query_answer.specs.Sorting.{order_of}
use Rattle.query_answer.proofs.grouping.sorted_groups.Goals as goal

pub returns : goal.returns
returns c =
    let orders = c.as_slice-2.ensures.value ∙ (c.in_ok-orders.ensures.orders ∙ ap (map order_of) c.as_slice.ensures) in
    let others = c.as_slice-4.ensures.value ∙ (c.in_ok-orders.ensures.orders ∙ ap (map order_of) c.as_slice.ensures) in
    let rows = c.as_slice-5.ensures.value ∙ (c.in_ok-sort_rows.ensures.sorted ∙ ap (λ ks. sorted_by_keys ks c.args.found.items) orders) in
    subst (λ ks. AnswersBy (λ rows. map shown rows.items) (of_runs c.args.loops.reading.now (picked_rows c.args.loops.sources.now c.args.loops.outer.now) c.args.loops.sources.now ks (sorted_by_keys (map order_of c.args.loops.reading.now.keys) c.args.found.items)) c.each_group.result) others
    (subst (λ xs. AnswersBy (λ rows. map shown rows.items) (of_runs c.args.loops.reading.now (picked_rows c.args.loops.sources.now c.args.loops.outer.now) c.args.loops.sources.now c.as_slice-4.result.now xs) c.each_group.result) rows c.each_group.ensures)
