use Rattle.tree_index.proofs.Lying.{halves_read, halves_there}
use Rattle.tree_index.proofs.comparing.compare_payload.Goals as goal

pub returns-in-Ok : goal.returns-in-Ok
returns-in-Ok c = λ entry is.
    c.compare_lying.ensures entry (halves_read c.args.payload.now c.in-Ok.types.now c.in-Ok.bodies.now entry (c.records_are_read.ensures c.args.payload.now entry is) c.in-Ok.ensures)

pub returns-in-Err : goal.returns-in-Err
returns-in-Err c = λ entry is. absurd (halves_there c.args.payload.now _ entry (c.records_are_read.ensures c.args.payload.now entry is) c.in-Err.ensures)
