use Rattle.std.proofs.Common.{rules, SFits, ◌≡◌, ◌<◌, ◌∙◌, ◌+◌, suc, refl, ◌<ℤ◌, ◌≤ℤ◌, length, arith, pos, [], sym, subst, ℕ, w64}
use Rattle.std.proofs.lemmas.Int.{to_z-of_z, ints}
use Rattle.std.specs.Int.{w128}
use Rattle.tree_page.specs.Node.{Rows, Local}
use Rattle.tree_page.specs.Reading.{row_of}
use Rattle.tree_check.specs.Tails.{IsTail}
use Rattle.tree_check.proofs.Passed.{passed_memory}
use Rattle.tree_check.proofs.Rows.{plain_rows, more_rows, one_row, must_rise, all_rows, row_held}
use Rattle.tree_check.proofs.leaves.tails_of.Goals as goal

nothing : Local
nothing = record { size = 0; bytes = [] }

pub returns-in_err-row-clause-only : goal.returns-in_err-row-clause-only
returns-in_err-row-clause-only c = λ said is long rises.
    (let count = c.len-index-end.ensures (Rows said) is in
    absurd (c.in_err-row.ensures.only said (pos 0, nothing) is (omega (arith, count, c.rows-test.true))))

pub returns-then-rowid-above-clause-only : goal.returns-then-rowid-above-clause-only
returns-then-rowid-above-clause-only c = λ said is long rises.
    (let count = c.len-index-end.ensures (Rows said) is in
    let lt : c.rows.index < length said = omega (arith, count, c.rows-test.true) in
    let has = plain_rows c.args.usable c.rows.index said c.rows.tails.items _ _ _ _ _ _ (to_z-of_z w128 c.args.low c.ranges.low) c.rows.above-is (to_z-of_z w128 c.args.high c.ranges.high) (c.rows.invariant said is long) in
    let higher = must_rise c.args.usable _ _ _ c.rows.index said c.rows.tails.items (row_of c.in_ok-row.row) has lt (c.in_ok-row.ensures.only said (row_of c.in_ok-row.row) is lt) rises in
    let fits : SFits w64 c.in_ok-row.row.rowid = search rules in
    let wide : c.wide-rowid.result ≡ c.in_ok-row.row.rowid = c.wide-rowid.ensures ∙ to_z-of_z w64 c.in_ok-row.row.rowid fits in
    let same = to_z-of_z w128 c.wide-rowid.result (record { sfits = c.wide-rowid.type_inv }) in
    let above = c.rows.above-is in
    absurd (grind (arith, ints)))

pub returns-in_err-add_tail-clause-only : goal.returns-in_err-add_tail-clause-only
returns-in_err-add_tail-clause-only c = λ said is long rises.
    (let count = c.len-index-end.ensures (Rows said) is in
    let lt : c.rows.index < length said = omega (arith, count, c.rows-test.true) in
    passed_memory c.from_residual-in_err-add_tail.result c.in_err-add_tail.field-0.0 c.from_residual-in_err-add_tail.ensures.1
    (c.in_err-add_tail.ensures.added (row_held c.args.page.now.bytes c.args.page.now.start c.args.usable said c.rows.index (row_of c.in_ok-row.row) is long lt (c.in_ok-row.ensures.only said (row_of c.in_ok-row.row) is lt)
    c.saturating_sub-most.result c.saturating_sub-most.ensures)))

pub rows-preserved : goal.rows-preserved
rows-preserved c = λ said is long.
    (let count = c.len-index-end.ensures (Rows said) is in
    let lt : c.rows.index < length said = omega (arith, count, c.rows-test.true) in
    let there = c.in_ok-row.ensures.only said (row_of c.in_ok-row.row) is lt in
    let fits : SFits w64 c.in_ok-row.row.rowid = search rules in
    let wide : c.wide-rowid.result ≡ c.in_ok-row.row.rowid = c.wide-rowid.ensures ∙ to_z-of_z w64 c.in_ok-row.row.rowid fits in
    let added = c.in_ok-add_tail.ensures.added (row_held c.args.page.now.bytes c.args.page.now.start c.args.usable said c.rows.index (row_of c.in_ok-row.row) is long lt there c.saturating_sub-most.result c.saturating_sub-most.ensures) in
    let has = plain_rows c.args.usable c.rows.index said c.rows.tails.items _ _ _ _ _ _ refl c.rows.above-is refl (c.rows.invariant said is long) in
    let same = to_z-of_z w128 c.wide-rowid.result (record { sfits = c.wide-rowid.type_inv }) in
    let above = c.rows.above-is in
    let higher : c.rows.above <ℤ c.in_ok-row.row.rowid = grind (arith, ints) in
    let next : c.rows.index + 1 ≡ suc c.rows.index = omega arith in
    let tail = subst (λ (n : ℕ). IsTail c.args.usable n (row_of c.in_ok-row.row).1 added.0) c.saturating_sub-most.ensures added.2 in
    let one = one_row c.args.usable _ _ _ c.rows.index said c.rows.tails.items added.0 (row_of c.in_ok-row.row) has lt there higher tail in
    more_rows c.args.usable said _ _ _ _ _ _ _ _ (sym (same ∙ wide)) (sym next) (sym added.1) one)

pub returns-then-above-high-clause-only : goal.returns-then-above-high-clause-only
returns-then-above-high-clause-only c = λ said is long rises.
    (let count = c.len-index-end.ensures (Rows said) is in
    let has = plain_rows c.args.usable c.rows.index said c.rows.tails.items _ _ _ _ _ _ (to_z-of_z w128 c.args.low c.ranges.low) c.rows.above-is (to_z-of_z w128 c.args.high c.ranges.high) (c.rows.invariant said is long) in
    let all = all_rows c.args.usable _ _ _ c.rows.index said c.rows.tails.items has (omega (arith, count, c.rows-test.false)) in
    let le = all.1.1 rises in
    absurd (grind (arith, ints)))

pub returns-clause-found : goal.returns-clause-found
returns-clause-found c = λ said is long.
    (let count = c.len-index-end.ensures (Rows said) is in
    let has = plain_rows c.args.usable c.rows.index said c.rows.tails.items _ _ _ _ _ _ (to_z-of_z w128 c.args.low c.ranges.low) c.rows.above-is (to_z-of_z w128 c.args.high c.ranges.high) (c.rows.invariant said is long) in
    let all = all_rows c.args.usable _ _ _ c.rows.index said c.rows.tails.items has (omega (arith, count, c.rows-test.false)) in
    let high = to_z-of_z w128 c.args.high c.ranges.high in
    let above = c.rows.above-is in
    let le : c.rows.above ≤ℤ c.args.high = grind (arith, ints) in
    (all.1.0 le, all.0))
