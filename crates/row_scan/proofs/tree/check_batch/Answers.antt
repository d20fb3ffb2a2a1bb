use Rattle.std.proofs.Common.{◌<◌, length, sym, subst, arith}
use Rattle.tree_leaf.specs.Leaf.{Entry}
use Rattle.row_scan.specs.Rows.{TableRow}
use Rattle.row_scan.specs.Trees.{IsFitRow}
use Rattle.row_scan.proofs.FitTrees.{one_more, row_there}
use Rattle.row_scan.proofs.RowLemmas.{no_row, not_done}
use Rattle.row_scan.proofs.tree.check_batch.Goals as goal

pub returns-in_err-check_row-clause-only : goal.returns-in_err-check_row-clause-only
returns-in_err-check_row-clause-only c = λ rows each.
    (let lt : c.rows.index < length c.args.batch.now = omega (arith, c.rows-test.true, c.len-index-end.ensures) in
    let there = row_there c.args.shape c.args.batch.now rows c.rows.index no_row lt each in
    absurd (not_done c.in_err-check_row.field-0.0 (c.in_err-check_row.ensures.only there.0 (subst (λ (entry : Entry). IsFitRow c.args.shape entry there.0) (sym (c.row.ensures no_row)) there.1))))

pub rows-preserved : goal.rows-preserved
rows-preserved c =
    one_more c.args.shape c.args.batch.now c.rows.index no_row (omega (arith, c.rows-test.true, c.len-index-end.ensures))
    (subst (λ (entry : Entry). (row : TableRow) × IsFitRow c.args.shape entry row) (c.row.ensures no_row) c.in_ok-check_row.ensures.found) c.rows.invariant
