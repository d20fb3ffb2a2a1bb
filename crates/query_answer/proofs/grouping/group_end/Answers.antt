use Rattle.std.proofs.Common.{◌∙◌, ◌+◌, ap, drop}
use Rattle.std.proofs.lemmas.List.{take_rest}
use Rattle.std.specs.List.{prefix_len}
use Rattle.query_answer.specs.Groups.{have_same_keys}
use Rattle.query_answer.proofs.GroupRows.{group_at}
use Rattle.query_answer.proofs.grouping.group_end.Goals as goal

pub returns-clause-group : goal.returns-clause-group
returns-clause-group c =
    group_at c.args.orders.now c.args.rows.now c.args.start c.run_length.result c.index-rows-start.result c.requires
    (c.run_length.ensures.count
    ∙ (ap (prefix_len (have_same_keys c.args.orders.now c.index-rows-start.result)) (take_rest c.args.rows.now (c.args.start + 1))
    ∙ ap (λ r. prefix_len (have_same_keys c.args.orders.now r) (drop (c.args.start + 1) c.args.rows.now)) c.index-rows-start.is))
