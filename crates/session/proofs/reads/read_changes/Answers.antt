use Rattle.session.proofs.reads.read_changes.Goals as goal
use Rattle.session.proofs.KeptFiles.{changes_stored, changes_told}

pub returns-clause-answered : goal.returns-clause-answered
returns-clause-answered g c db told is stored =
    let a = c.args.log.ghost_name in
    let b = c.args.buffer.ghost_name in
    c.read.ensures.answered db (changes_told c.args.log.now c.args.writer.now a 0 b told is) (changes_stored c.args.log.now c.args.writer.now _ db a b told is stored)
