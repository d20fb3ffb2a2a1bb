use Rattle.std.proofs.Common.{◌<◌, length, Err, arith}
use Rattle.tree_table.proofs.Batches.{copied_are, gone_on, whole_copied}
use Rattle.tree_table.proofs.LeafRows.{refused}
use Rattle.tree_table.proofs.scanning.copy_rows.Goals as goal

pub returns-in_err-len-clause-copied : goal.returns-in_err-len-clause-copied
returns-in_err-len-clause-copied g c = λ told leaf whole is at. refused _ _ c.in_err-len.field-0.0 c.from_residual.ensures.1 (c.in_err-len.ensures.counted told leaf whole is at)

pub returns-in_err-at-clause-copied : goal.returns-in_err-at-clause-copied
returns-in_err-at-clause-copied g c = λ told leaf whole is at.
    (let gs = g.P.Pages in
    let counted = c.in_ok-len.ensures.counted told leaf whole is at in
    let lt : c.rows.at < length leaf.rows = omega (arith, c.rows-test.true, counted) in
    refused _ _ c.in_err-at.field-0.0 c.from_residual-in_err-at.ensures.1
    (gone_on gs.below gs.tells gs.limits gs.map gs.count gs.failures gs.held c.args.pages.now c.rows.pages c.args.leaf c.args.place c.rows.at c.rows.rows.items c.copy_whole_rows.new.rows.items c.rows.bytes.items
    c.copy_whole_rows.new.out.items (Err c.in_err-at.field-0.0) c.rows.invariant c.in_err-at.ensures.copied told leaf whole is at lt))

pub returns-in_err-at-2-clause-copied : goal.returns-in_err-at-2-clause-copied
returns-in_err-at-2-clause-copied g c = λ told leaf whole is at.
    (let gs = g.P.Pages in
    let counted = c.in_ok-len.ensures.counted told leaf whole is at in
    let lt : c.in_ok-at.at < length leaf.rows = omega (arith, c.if-at-len.true, counted) in
    let has = whole_copied gs.below gs.tells gs.limits gs.map gs.count gs.failures gs.held c.args.pages.now c.rows.pages c.args.leaf c.args.place c.rows.at c.in_ok-at.at c.in_ok-len.len c.rows.rows.items
    c.copy_whole_rows.new.rows.items c.rows.bytes.items c.copy_whole_rows.new.out.items c.rows.invariant c.rows-test.true c.in_ok-at.ensures.forward c.in_ok-len.ensures.counted c.in_ok-at.ensures.copied in
    refused _ _ c.in_err-at-2.field-0.0 c.from_residual-in_err-at-2.ensures.1
    (gone_on gs.below gs.tells gs.limits gs.map gs.count gs.failures gs.held c.args.pages.now c.rows.pages c.args.leaf c.args.place c.in_ok-at.at c.copy_whole_rows.new.rows.items c.copy_long_row.new.rows.items
    c.copy_whole_rows.new.out.items c.copy_long_row.new.out.items (Err c.in_err-at-2.field-0.0) has (λ tells loaded. c.in_err-at-2.ensures.copied tells) told leaf whole is at lt))

pub returns-clause-copied : goal.returns-clause-copied
returns-clause-copied g c = λ told leaf whole is at.
    (let counted = c.in_ok-len.ensures.counted told leaf whole is at in
    copied_are c.args.place c.rows.at leaf.rows c.rows.rows.items c.rows.bytes.items (omega (arith, c.rows-test.false, counted)) (c.rows.invariant.copied told leaf whole is at))
