use Rattle.session.proofs.reads.read_schema_of_snapshot.Goals as goal
use Rattle.session.proofs.KeptFiles.{snapshot_stored, snapshot_told}

pub returns-clause-told : goal.returns-clause-told
returns-clause-told g c tables db told within stored =
    let a = c.args.log.ghost_name in
    let b = c.args.buffer.ghost_name in
    c.schema_rows.ensures.told (snapshot_told c.args.log.now c.args.snapshot a b told within) tables db (snapshot_stored c.args.log.now c.args.snapshot tables db a b told stored)
