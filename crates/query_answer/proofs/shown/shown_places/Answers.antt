use Rattle.query_answer.proofs.ShownRows.{shown_at}
use Rattle.query_answer.proofs.shown.shown_places.Goals as goal

pub returns-clause-shown : goal.returns-clause-shown
returns-clause-shown c =
    shown_at c.args.reading.now c.as_slice.result.now c.places_of.result c.as_slice.ensures (c.answers_all.ensures c.if-not-answers_all.false) c.places_of.ensures.found
