use Rattle.session.proofs.reads.read_snapshot.Goals as goal
use Rattle.session.proofs.KeptFiles.{snapshot_stored, snapshot_told}

pub returns-clause-answered : goal.returns-clause-answered
returns-clause-answered g c db told within stored =
    let a = c.args.log.ghost_name in
    let b = c.args.buffer.ghost_name in
    c.read.ensures.answered db (snapshot_told c.args.log.now c.args.snapshot a b told within) (snapshot_stored c.args.log.now c.args.snapshot _ db a b told stored)
