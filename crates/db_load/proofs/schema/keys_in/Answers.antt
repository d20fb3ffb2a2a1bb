use Rattle.query_names.specs.Creating.{as_keys, table_keys_known}
use Rattle.db_load.proofs.SchemaTables.{checks_refused, keys_found}
use Rattle.db_load.proofs.schema.keys_in.Goals as goal

pub returns-in-Ok-clause-tells : goal.returns-in-Ok-clause-tells
returns-in-Ok-clause-tells c = λ keys once known. keys_found (table_keys_known c.args.definition.now c.args.columns.now) c.in-Ok.keys keys (c.in-Ok.ensures.names once) known

pub returns-in-Err-clause-tells : goal.returns-in-Err-clause-tells
returns-in-Err-clause-tells c = λ keys once known.
    c.outside.ensures.memory (checks_refused (table_keys_known c.args.definition.now c.args.columns.now) (as_keys keys) c.in-Err.fault (c.in-Err.ensures.names once) known)
