use Rattle.std.proofs.Common.{rules, SFits, ◌<◌, ℕ, pos, sym, subst, length, map, w64, [], arith}
use Rattle.tree_page.specs.Node.{Local, Rows, IsNode}
use Rattle.tree_table.proofs.StepsDown.{on_page}
use Rattle.tree_table.proofs.LeafRows.{numbers_counted, no_row_at, row_at_place}
use Rattle.tree_table.proofs.reading.is_row_in.Goals as goal

nothing : Local
nothing = record { size = 0; bytes = [] }

pub returns-in_err-page-clause-only : goal.returns-in_err-page-clause-only
returns-in_err-page-clause-only c = λ rows is.
    absurd (c.in_err-page.ensures.only (Rows rows) (subst (λ (n : ℕ). IsNode c.args.bytes.now n (Rows rows)) (sym c.start_of.ensures) is))

pub returns-then-place-len-clause-only : goal.returns-then-place-len-clause-only
returns-then-place-len-clause-only c = λ rows is.
    (let on = on_page c.in_ok-page.page c.args.bytes.now _ c.start_of.result (Rows rows) c.in_ok-page.ensures.place c.start_of.ensures is in
    no_row_at (map (λ row. row.0) rows) c.args.place c.args.rowid (omega (arith, c.if-place-len.true, c.len.ensures (Rows rows) on, numbers_counted rows)))

pub returns-in_err-row-clause-only : goal.returns-in_err-row-clause-only
returns-in_err-row-clause-only c = λ rows is.
    (let on = on_page c.in_ok-page.page c.args.bytes.now _ c.start_of.result (Rows rows) c.in_ok-page.ensures.place c.start_of.ensures is in
    absurd (c.in_err-row.ensures.only rows (pos 0, nothing) on (omega (arith, c.if-place-len.false, c.len.ensures (Rows rows) on))))

pub returns-clause-only : goal.returns-clause-only
returns-clause-only c = λ rows is.
    (let on = on_page c.in_ok-page.page c.args.bytes.now _ c.start_of.result (Rows rows) c.in_ok-page.ensures.place c.start_of.ensures is in
    let lt : c.args.place < length rows = omega (arith, c.if-place-len.false, c.len.ensures (Rows rows) on) in
    let fits : SFits w64 c.in_ok-row.field-0.rowid = search rules in
    row_at_place rows c.args.place c.in_ok-row.field-0 c.args.rowid fits c.ranges.rowid lt (λ d. c.in_ok-row.ensures.only rows d on lt))
