use Rattle.query_bind.proofs.querying.bind_reading.Goals as goal

pub returns-clause-named : goal.returns-clause-named
returns-clause-named c = λ rows_at db lists. c.bind_reading_beside.ensures.named rows_at db tt lists
