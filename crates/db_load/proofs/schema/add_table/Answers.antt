use Rattle.std.proofs.Common.{◌≡◌, false, sym, ap, subst}
use Rattle.catalog.specs.Database.{Name}
use Rattle.catalog.specs.Listed.{is_name_of, listed_in}
use Rattle.catalog.specs.declared.tables.Table.{Table}
use Rattle.db_load.proofs.SchemaTables.{err_not_ok, memory_of, table_found, table_listed}
use Rattle.db_load.proofs.schema.add_table.Goals as goal

pub returns-in_err-table-clause-tells : goal.returns-in_err-table-clause-tells
returns-in_err-table-clause-tells c = λ table tells can.
    memory_of _ c.from_residual.result c.in_err-table.field-0.0 c.from_residual.ensures.1 (c.in_err-table.ensures.tells table tells)

pub returns-in_err-is_new-clause-tells : goal.returns-in_err-is_new-clause-tells
returns-in_err-is_new-clause-tells c = λ table tells can.
    err_not_ok _ _ (c.in_err-is_new.ensures.tells
    (subst (λ (n : Name). is_name_of (listed_in c.args.catalog.now) n ≡ false) (sym (ap (λ (t : Table). t.name) (c.in_ok-table.ensures.tells table tells))) can.1))

pub returns-clause-tells : goal.returns-clause-tells
returns-clause-tells c = λ table tells can.
    table_listed table c.in_ok-table.table (listed_in c.args.catalog.now) (listed_in c.add.new.self) c.add.result (c.in_ok-table.ensures.tells table tells) can.1 c.add.ensures.added c.add.ensures.refused

pub returns-clause-found : goal.returns-clause-found
returns-clause-found c = λ its_kind.
    table_found c.args.row.now c.in_ok-table.table (listed_in c.args.catalog.now) (listed_in c.add.new.self) c.add.result its_kind c.in_ok-table.ensures.found.0 c.in_ok-table.ensures.found.1 c.in_ok-is_new.ensures.found c.add.ensures.added
