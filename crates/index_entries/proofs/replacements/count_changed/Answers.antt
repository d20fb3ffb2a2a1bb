use Rattle.std.proofs.Common.{sym, ap, ◌∙◌, ◌<◌, ℕ, length, map, min, arith}
use Rattle.catalog.specs.declared.tables.TableRow.{TableRow}
use Rattle.index_entries.specs.Keeping.{columns_in, row_in}
use Rattle.index_entries.specs.Replacing.{changed}
use Rattle.index_entries.proofs.Batches.{all_changed, none_yet, one_changed, one_same}
use Rattle.index_entries.proofs.Replacing.{found_is}
use Rattle.index_entries.proofs.replacements.count_changed.Goals as goal

pub rows-init : goal.rows-init
rows-init c = (omega arith, none_yet (changed (columns_in c.args.columns.now) (map row_in c.args.gone.now) (map row_in c.args.come.now)))

pub rows-preserved : goal.rows-preserved
rows-preserved c =
    let gone = c.args.gone.now in
    let come = c.args.come.now in
    let row = c.index-gone-count.result in
    let next = c.index-come-count.result in
    let within : c.rows.count < length gone = omega (arith, c.rows-test.true, c.min-most.ensures, c.min.ensures) in
    let also : c.rows.count < length come = omega (arith, c.rows-test.true, c.min-most.ensures, c.min.ensures) in
    let left = c.deref.ensures.value ∙ sym (ap (λ (r : TableRow). r.values.items) c.index-gone-count.is) in
    let right = c.deref-in-rows.ensures.value ∙ sym (ap (λ (r : TableRow). r.values.items) c.index-come-count.is) in
    let found = found_is c.args.columns.now c.deref.result.now c.deref-in-rows.result.now (row_in row).1 (row_in next).1 left right c.has_same_key.result c.has_same_key.ensures in (
      omega (arith, c.rows-test.true),
      one_changed (columns_in c.args.columns.now) c.rows.count gone come row next within also c.index-gone-count.is c.index-come-count.is (sym found ∙ c.if-not-has_same_key.true) c.rows.invariant.1,
    )

-- a row that has the same key
pub returns-else-not-has_same_key : goal.returns-else-not-has_same_key
returns-else-not-has_same_key c =
    let gone = c.args.gone.now in
    let come = c.args.come.now in
    let row = c.index-gone-count.result in
    let next = c.index-come-count.result in
    let within : c.rows.count < length gone = omega (arith, c.rows-test.true, c.min-most.ensures, c.min.ensures) in
    let also : c.rows.count < length come = omega (arith, c.rows-test.true, c.min-most.ensures, c.min.ensures) in
    let few : c.rows.count < 256 = omega (arith, c.rows-test.true, c.min-most.ensures) in
    let left = c.deref.ensures.value ∙ sym (ap (λ (r : TableRow). r.values.items) c.index-gone-count.is) in
    let right = c.deref-in-rows.ensures.value ∙ sym (ap (λ (r : TableRow). r.values.items) c.index-come-count.is) in
    let found = found_is c.args.columns.now c.deref.result.now c.deref-in-rows.result.now (row_in row).1 (row_in next).1 left right c.has_same_key.result c.has_same_key.ensures in
    one_same (columns_in c.args.columns.now) c.rows.count gone come row next within also c.index-gone-count.is c.index-come-count.is (sym found ∙ c.if-not-has_same_key.false) c.rows.invariant.1 few

-- as many as may be
pub returns-after-rows : goal.returns-after-rows
returns-after-rows c =
    all_changed (columns_in c.args.columns.now) c.rows.count c.args.gone.now c.args.come.now c.min-most.result (c.min-most.ensures ∙ ap (λ (n : ℕ). min n 256) c.min.ensures)
    c.rows.invariant.0 (omega (arith, c.rows-test.false)) c.rows.invariant.1
