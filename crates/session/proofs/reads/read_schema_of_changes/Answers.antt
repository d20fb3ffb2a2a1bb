use Rattle.session.proofs.reads.read_schema_of_changes.Goals as goal
use Rattle.session.proofs.KeptFiles.{changes_stored, changes_told}

pub returns-clause-told : goal.returns-clause-told
returns-clause-told g c tables db told is stored =
    let a = c.args.log.ghost_name in
    let b = c.args.buffer.ghost_name in
    c.schema_rows.ensures.told (changes_told c.args.log.now c.args.writer.now a 0 b told is) tables db (changes_stored c.args.log.now c.args.writer.now tables db a b told is stored)
