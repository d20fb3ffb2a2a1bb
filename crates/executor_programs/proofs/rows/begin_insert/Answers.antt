use Rattle.std.proofs.Common.{List, map, rules, subst, sym, ◌≡◌, ◌∙◌}
use Rattle.sqlval.specs.Refusals.{Answer}
use Rattle.sqlval.specs.declared.value.Value.{Value}
use Rattle.catalog.specs.Listed.{as_column, own_column}
use Rattle.query_terms.specs.Outcome.{IsRefusedBy}
use Rattle.row_change.specs.Inserting.{own_value}
use Rattle.executor_programs.proofs.Beginning.{handed_on, here, insert_begun, insert_refused, stored_quietly, stored_same}
use Rattle.executor_programs.proofs.rows.begin_insert.Goals as goal

pub returns-in_err-kept-clause-begun : goal.returns-in_err-kept-clause-begun
returns-in_err-kept-clause-begun c = λ pages size l o change known db seen stored shows tabled for there.
    (let h = here c.listed_tables_are_found.ensures.finds pages size l db change c.args.table.now stored tabled.named in
    let cols : c.as_slice-columns.result.now ≡ c.args.table.now.columns = search rules in
    let more : c.as_slice.result.now ≡ c.args.given.now.items = search rules in
    let made = stored_same l change db seen c.args.table.now c.args.act.now c.args.given.now h tabled.named for.0 c.as_slice-columns.result.now c.deref.result.now c.as_slice.result.now c.in_ok-values.values.items c.put_given.new.values.items c.deref-2.result.now
    cols c.deref.ensures.value more c.in_ok-values.ensures c.in_ok-put_given.ensures.put c.deref-2.ensures.value in
    insert_refused l change db seen c.args.table.now c.args.act.now c.args.given.now h tabled.named for.0 c.from_residual-in_err-kept.result c.in_err-kept.field-0.0 c.from_residual-in_err-kept.ensures.1
    (subst (λ (a : Answer (List Value)). IsRefusedBy a c.in_err-kept.field-0.0) made c.in_err-kept.ensures))

pub returns-in_err-kept-clause-not_disk : goal.returns-in_err-kept-clause-not_disk
returns-in_err-kept-clause-not_disk c =
    handed_on c.from_residual-in_err-kept.result c.in_err-kept.field-0.0 c.from_residual-in_err-kept.ensures.1
    (stored_quietly (map as_column c.as_slice-columns.result.now) c.deref-2.result.now c.in_err-kept.field-0.0 c.in_err-kept.ensures)

pub returns-clause-begun : goal.returns-clause-begun
returns-clause-begun c = λ pages size l o change known db seen stored shows tabled for there.
    (let h = here c.listed_tables_are_found.ensures.finds pages size l db change c.args.table.now stored tabled.named in
    let cols : c.as_slice-columns.result.now ≡ c.args.table.now.columns = search rules in
    let more : c.as_slice.result.now ≡ c.args.given.now.items = search rules in
    let made = stored_same l change db seen c.args.table.now c.args.act.now c.args.given.now h tabled.named for.0 c.as_slice-columns.result.now c.deref.result.now c.as_slice.result.now c.in_ok-values.values.items c.put_given.new.values.items c.deref-2.result.now
    cols c.deref.ensures.value more c.in_ok-values.ensures c.in_ok-put_given.ensures.put c.deref-2.ensures.value in
    let own : c.in_ok-rowid.rowid ≡ own_value (own_column c.args.table.now) c.in_ok-kept.kept.items = search rules in
    insert_begun l change db seen c.args.table.now c.args.act.now c.args.given.now h tabled.named for.0 c.in_ok-rowid.rowid c.in_ok-kept.kept (sym made ∙ c.in_ok-kept.ensures) own)
