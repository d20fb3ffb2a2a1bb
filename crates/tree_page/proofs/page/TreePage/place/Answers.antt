use Rattle.std.proofs.Common.{◌≡◌, ◌+◌, ◌-◌, ◌/◌, ◌<ℤ◌, ◌≤ℤ◌, ℤ, ℕ, Ok, sym, ap, subst, w64, arith}
use Rattle.std.proofs.lemmas.Int.{to_z-of_z, ints}
use Rattle.tree_page.specs.Reading.{below}
use Rattle.tree_page.proofs.Places.{Bounds, bounds_first, bounds_above, bounds_below, bounds_there}
use Rattle.tree_page.proofs.page.TreePage.place.Goals as goal

pub halves-init : goal.halves-init
halves-init c = (omega arith, bounds_first c.args.self.now _ c.len-high.result c.len-high.ensures)

pub returns-in_err-number-clause-only : goal.returns-in_err-number-clause-only
returns-in_err-number-clause-only c = λ node numbers is numbered rising.
    (let len = c.len-high.result in
    absurd (bounds_there c.args.self.now _ 0 len _ _ (bounds_first c.args.self.now c.args.rowid len c.len-high.ensures) (omega (arith, c.if-high-gt0.true)) c.in_err-number.ensures.only node numbers is numbered rising))

pub returns-then-branch-rowid-clause-only : goal.returns-then-branch-rowid-clause-only
returns-then-branch-rowid-clause-only c = λ node numbers is numbered rising.
    (let page = c.args.self.now in
    let len = c.len-high.result in
    let less : c.in_ok-number.field-0 <ℤ c.args.rowid = grind (arith, ints, c.if-branch-rowid.true) in
    let some = c.if-high-gt0.true in
    let bounds = bounds_above page c.args.rowid c.in_ok-number.field-0 0 len (len - 1) (bounds_first page c.args.rowid len c.len-high.ensures) (omega (arith, some)) c.in_ok-number.ensures.only less in
    let b = bounds node numbers is numbered rising in
    let same : len ≡ below c.args.rowid numbers = omega (arith, some, b.0, b.1) in
    ap (λ (n : ℕ). Ok n) same)

pub returns-in_err-number-2-clause-only : goal.returns-in_err-number-2-clause-only
returns-in_err-number-2-clause-only c = λ node numbers is numbered rising.
    absurd (bounds_there c.args.self.now _ c.halves.low c.halves.high _ _ c.halves.invariant.1 (omega (arith, c.halves-test.true)) c.in_err-number-2.ensures.only node numbers is numbered rising)

pub halves-preserved-then-branch-rowid-2 : goal.halves-preserved-then-branch-rowid-2
halves-preserved-then-branch-rowid-2 c =
    let page = c.args.self.now in
    let middle = c.halves.low + (c.halves.high - c.halves.low) / 2 in
    let plain = to_z-of_z w64 c.args.rowid c.ranges.rowid in
    let less : c.in_ok-number-2.field-0 <ℤ c.args.rowid = grind (arith, ints, c.if-branch-rowid-2.true) in
    let bounds : Bounds page c.args.rowid c.halves.low c.halves.high = subst (λ (z : ℤ). Bounds page z c.halves.low c.halves.high) plain c.halves.invariant.1 in (
      omega (arith, c.halves-test.true),
      subst (λ (z : ℤ). Bounds page z (middle + 1) c.halves.high) (sym plain) (bounds_above page c.args.rowid c.in_ok-number-2.field-0 c.halves.low c.halves.high middle bounds (omega (arith, c.halves-test.true)) c.in_ok-number-2.ensures.only less),
    )

pub halves-preserved : goal.halves-preserved
halves-preserved c =
    let page = c.args.self.now in
    let middle = c.halves.low + (c.halves.high - c.halves.low) / 2 in
    let plain = to_z-of_z w64 c.args.rowid c.ranges.rowid in
    let le : c.args.rowid ≤ℤ c.in_ok-number-2.field-0 = grind (arith, ints, c.if-branch-rowid-2.false) in
    let bounds : Bounds page c.args.rowid c.halves.low c.halves.high = subst (λ (z : ℤ). Bounds page z c.halves.low c.halves.high) plain c.halves.invariant.1 in (
      omega arith,
      subst (λ (z : ℤ). Bounds page z c.halves.low middle) (sym plain) (bounds_below page c.args.rowid c.in_ok-number-2.field-0 c.halves.low c.halves.high middle bounds (omega (arith, c.halves-test.true)) c.in_ok-number-2.ensures.only le),
    )

pub returns-clause-only : goal.returns-clause-only
returns-clause-only c = λ node numbers is numbered rising.
    let page = c.args.self.now in
    let plain = to_z-of_z w64 c.args.rowid c.ranges.rowid in
    let bounds : Bounds page c.args.rowid c.halves.low c.halves.high = subst (λ (z : ℤ). Bounds page z c.halves.low c.halves.high) plain c.halves.invariant.1 in
    let b = bounds node numbers is numbered rising in
    let same : c.halves.low ≡ below c.args.rowid numbers = omega (arith, c.halves-test.false, c.halves.invariant.0, b.0, b.1) in
    ap (λ (n : ℕ). Ok n) same
