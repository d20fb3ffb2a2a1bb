use Rattle.row_change.proofs.StoredRows.{value_stored, value_refused}
use Rattle.row_change.proofs.inserting.stored_value.Goals as goal

pub returns-clause-stored : goal.returns-clause-stored
returns-clause-stored c = rw (c.in_ok-value.ensures.value) at (value_stored c.args.column.now.affinity c.in_ok-value.value c.apply.result c.conversion_is_one.ensures.gives c.apply.ensures.converted)

pub returns-clause-refused : goal.returns-clause-refused
returns-clause-refused c =
    rw (c.in_ok-value.ensures.value) at (value_refused c.args.column.now.affinity c.in_ok-value.value c.apply.result c.conversion_is_one.ensures.refuses c.apply.ensures.refused c.apply.ensures.numbers)
