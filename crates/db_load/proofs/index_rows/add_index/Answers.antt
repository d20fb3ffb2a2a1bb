use Rattle.catalog.specs.Listed.{listed_in}
use Rattle.db_load.proofs.ToldIndexes.{index_found}
use Rattle.db_load.proofs.RowsFound.{sound_once}
use Rattle.db_load.proofs.SchemaTables.{memory_of}
use Rattle.db_load.proofs.ToldAdded.{index_adds}
use Rattle.db_load.proofs.index_rows.add_index.Goals as goal

pub returns-in_err-table-clause-tells : goal.returns-in_err-table-clause-tells
returns-in_err-table-clause-tells c = λ table index tells can.
    memory_of _ c.from_residual.result c.in_err-table.field-0.0 c.from_residual.ensures.1 (c.in_err-table.ensures.tells table index tells can)

pub returns-clause-tells : goal.returns-clause-tells
returns-clause-tells c = λ table index tells can.
    index_adds table index c.in_ok-table.table (listed_in c.args.catalog.now) _ can.sound.named can.fresh (c.in_ok-table.ensures.tells table index tells can) c.in_ok-catalog.ensures.replaced

pub returns-clause-found : goal.returns-clause-found
returns-clause-found c = λ its_kind sound.
    (let all = listed_in c.args.catalog.now in
    index_found c.args.row.now c.in_ok-table.table all _ its_kind sound (c.in_ok-table.ensures.found (sound_once all sound)) c.in_ok-catalog.ensures.replaced)
