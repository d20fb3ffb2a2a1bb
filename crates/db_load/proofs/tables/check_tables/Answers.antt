use Rattle.std.proofs.Common.{Ok}
use Rattle.tree_check.proofs.Running.{goes_on, ends}
use Rattle.db_load.proofs.TableChecks.{table_then, table_stops, tables_end}
use Rattle.db_load.proofs.tables.check_tables.Goals as goal

pub returns-in_err-check_table-clause-checked : goal.returns-in_err-check_table-clause-checked
returns-in_err-check_table-clause-checked g c =
    let p = g.P.Pages in
    ends p.below p.tells p.limits p.map p.count p.failures c.args.pages.now c.tables.pages c.args.marks.now.items c.tables.marks.items _ _ c.tables.invariant c.check_table.new.marks.items c.from_residual.result
    (λ map size told can. table_stops map size c.tables.rest.now c.table-item.result _ c.tables.marks.items c.check_table.new.marks.items c.check_table.new.marks.items c.in_err-check_table.field-0.0 c.from_residual.result c.in-len1-up.len_at_least c.table-item.is c.deref.ensures
    (c.in_err-check_table.ensures.checked map size told can) c.from_residual.ensures.1)

pub tables-preserved : goal.tables-preserved
tables-preserved g c =
    let p = g.P.Pages in
    goes_on p.below p.tells p.limits p.map p.count p.failures c.args.pages.now c.tables.pages c.args.marks.now.items c.tables.marks.items _ _ c.tables.invariant
    (Ok tt) c.check_table.new.pages c.check_table.new.marks.items _ c.in_ok-check_table.ensures.stays c.in_ok-check_table.ensures.long
    (λ map size told can after result rest. table_then map size c.tables.rest.now c.table-item.result _ c.tables.marks.items c.check_table.new.marks.items c.in-len1-up.len_at_least c.table-item.is c.deref.ensures (c.in_ok-check_table.ensures.checked map size told can) after result rest)

pub returns-clause-checked : goal.returns-clause-checked
returns-clause-checked g c =
    let p = g.P.Pages in
    ends p.below p.tells p.limits p.map p.count p.failures c.args.pages.now c.tables.pages c.args.marks.now.items c.tables.marks.items _ _ c.tables.invariant c.tables.marks.items (Ok tt)
    (λ map size told can. tables_end map size c.tables.rest.now c.tables.marks.items c.in_default.len_below)
