use Rattle.std.proofs.Common.{◌<◌, ◌≤◌, ℕ, ℤ, [], length, pos, sym, subst, arith}
use Rattle.tree_page.specs.Node.{Local, Rows, IsNode}
use Rattle.tree_page.specs.Reading.{row_of}
use Rattle.tree_table.proofs.ShortRows.{all_put, one_put, stopped}
use Rattle.tree_table.proofs.StepsDown.{on_page}
use Rattle.tree_table.proofs.scanning.copy_short_rows.Goals as goal

nothing : ℤ × Local
nothing = (pos 0, record { size = 0; bytes = [] })

pub returns-in_err-page-clause-copied : goal.returns-in_err-page-clause-copied
returns-in_err-page-clause-copied c = λ said entries is are.
    absurd (c.in_err-page.ensures.only (Rows said) (subst (λ (n : ℕ). IsNode c.args.bytes.now n (Rows said)) (sym c.start_of.ensures) is))

pub returns-in_err-row-clause-copied : goal.returns-in_err-row-clause-copied
returns-in_err-row-clause-copied c = λ said entries is are.
    (let on = on_page c.in_ok-page.page c.args.bytes.now _ c.start_of.result (Rows said) c.in_ok-page.ensures.place c.start_of.ensures is in
    absurd (c.in_err-row.ensures.only said nothing on (omega (arith, c.rows-test.true, c.len-len.ensures (Rows said) on))))

pub returns-then-row-most-clause-copied : goal.returns-then-row-most-clause-copied
returns-then-row-most-clause-copied c = λ said entries is are.
    (let on = on_page c.in_ok-page.page c.args.bytes.now _ c.start_of.result (Rows said) c.in_ok-page.ensures.place c.start_of.ensures is in
    let lt : c.rows.at < length said = omega (arith, c.rows-test.true, c.len-len.ensures (Rows said) on) in
    stopped said c.args.most c.args.place c.rows.at entries c.rows.rows.items c.rows.out.items (row_of c.in_ok-row.row) nothing lt (c.in_ok-row.ensures.only said nothing on lt)
    (omega (arith, c.if-row-most.true)) (c.rows.invariant.1 said entries on are))

pub rows-preserved : goal.rows-preserved
rows-preserved c = (
  omega (arith, c.rows.invariant.0),
  λ said entries on are.
      (let lt : c.rows.at < length said = omega (arith, c.rows-test.true, c.len-len.ensures (Rows said) on) in
      one_put said c.args.most c.args.place c.rows.at entries c.rows.rows.items c.put_row.new.rows.items c.rows.out.items c.put_row.new.out.items (row_of c.in_ok-row.row) nothing lt
      (c.in_ok-row.ensures.only said nothing on lt) (omega (arith, c.if-row-most.false)) (c.rows.invariant.1 said entries on are) c.in_ok-put_row.ensures.put),
)

pub returns-clause-copied : goal.returns-clause-copied
returns-clause-copied c = λ said entries is are.
    (let on = on_page c.in_ok-page.page c.args.bytes.now _ c.start_of.result (Rows said) c.in_ok-page.ensures.place c.start_of.ensures is in
    let le : length said ≤ c.rows.at = omega (arith, c.rows-test.false, c.len-len.ensures (Rows said) on) in
    all_put said c.args.most c.args.place c.rows.at entries c.rows.rows.items c.rows.out.items le (c.rows.invariant.1 said entries on are))
