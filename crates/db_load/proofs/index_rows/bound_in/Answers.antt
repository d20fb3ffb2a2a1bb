use Rattle.catalog.specs.Listed.{listed_in}
use Rattle.db_load.proofs.ToldIndexes.{not_refused}
use Rattle.db_load.proofs.RowsFound.{sound_once}
use Rattle.db_load.proofs.index_rows.bound_in.Goals as goal

pub returns-in-Err-clause-tells : goal.returns-in-Err-clause-tells
returns-in-Err-clause-tells c = λ table index can is.
    (let all = listed_in c.args.catalog.now in
    c.outside.ensures.memory (not_refused all table index c.args.definition.now c.in-Err.fault can is (c.in-Err.ensures.refused (sound_once all can.sound))))
