use Rattle.std.proofs.Common.{Ok}
use Rattle.tree_check.proofs.Running.{goes_on, ends}
use Rattle.db_load.proofs.TableChecks.{index_then, index_stops, indexes_end}
use Rattle.db_load.proofs.tables.check_indexes.Goals as goal

pub returns-in_err-check_index-clause-checked : goal.returns-in_err-check_index-clause-checked
returns-in_err-check_index-clause-checked g c =
    let p = g.P.Pages in
    ends p.below p.tells p.limits p.map p.count p.failures c.args.pages.now c.indexes.pages c.args.marks.now.items c.indexes.marks.items _ _ c.indexes.invariant c.check_index.new.marks.items c.from_residual.result
    (λ map size told can rows has. index_stops map size rows c.indexes.rest.now c.index-item.result c.indexes.marks.items c.check_index.new.marks.items c.check_index.new.marks.items c.in_err-check_index.field-0.0 c.from_residual.result c.in-len1-up.len_at_least c.index-item.is
    (c.in_err-check_index.ensures.checked map size told can rows has) c.from_residual.ensures.1)

pub indexes-preserved : goal.indexes-preserved
indexes-preserved g c =
    let p = g.P.Pages in
    goes_on p.below p.tells p.limits p.map p.count p.failures c.args.pages.now c.indexes.pages c.args.marks.now.items c.indexes.marks.items _ _ c.indexes.invariant
    (Ok tt) c.check_index.new.pages c.check_index.new.marks.items _ c.in_ok-check_index.ensures.stays c.in_ok-check_index.ensures.long
    (λ map size told can after result rest rows has. index_then map size rows c.indexes.rest.now c.index-item.result c.indexes.marks.items c.check_index.new.marks.items c.in-len1-up.len_at_least c.index-item.is
    (c.in_ok-check_index.ensures.checked map size told can rows has) after result (rest rows has))

pub returns-clause-checked : goal.returns-clause-checked
returns-clause-checked g c =
    let p = g.P.Pages in
    ends p.below p.tells p.limits p.map p.count p.failures c.args.pages.now c.indexes.pages c.args.marks.now.items c.indexes.marks.items _ _ c.indexes.invariant c.indexes.marks.items (Ok tt)
    (λ map size told can rows has. indexes_end map size rows c.indexes.rest.now c.indexes.marks.items c.in_default.len_below)
