use Rattle.std.proofs.Common.{rules, ◌<◌, length, refl, arith}
use Rattle.sqlval.specs.Fields.{value_of}
use Rattle.index_build.proofs.RowSearches.{by_rowid, differs_at, same_at}
use Rattle.index_build.proofs.checking.is_entry_of.Goals as goal

pub columns-init : goal.columns-init
columns-init c = refl

pub returns-then-not-is_same : goal.returns-then-not-is_same
returns-then-not-is_same c =
    let lt : c.columns.place < length c.args.columns.now = omega (arith, c.columns-test.true) in
    differs_at c.args.columns.now c.args.row.now c.args.entry.now c.requires c.columns.place _ (value_of c.column.result) (value_of c.column_of.result) lt c.column.ensures c.column_of.ensures (search rules)

pub columns-preserved : goal.columns-preserved
columns-preserved c =
    let lt : c.columns.place < length c.args.columns.now = omega (arith, c.columns-test.true) in
    same_at c.args.columns.now c.args.row.now c.args.entry.now c.requires c.columns.place _ (value_of c.column.result) (value_of c.column_of.result) lt c.column.ensures c.column_of.ensures
    (c.is_same.ensures.yes (search rules)) c.columns.invariant

pub returns : goal.returns
returns c =
    by_rowid c.args.columns.now c.args.row.now c.args.entry.now c.requires c.columns.place (value_of c.column-2.result) (value_of c.rowid_field.result) c.is_same-2.result (omega (arith, c.columns-test.false)) (search rules)
    c.column-2.ensures c.rowid_field.ensures c.is_same-2.ensures c.columns.invariant
