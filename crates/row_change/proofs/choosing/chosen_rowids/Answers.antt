use Rattle.row_change.proofs.Chosen.{answers_chosen}
use Rattle.row_change.proofs.choosing.chosen_rowids.Goals as goal

pub returns-clause-chosen : goal.returns-clause-chosen
returns-clause-chosen c table is =
    answers_chosen (λ rowids. rowids.items) c.args.condition.now c.args.rows.now table c.rowids_where.result is c.rowids_where.ensures.answered
