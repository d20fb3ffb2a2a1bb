use Rattle.std.proofs.Common.{◌+◌, ◌<◌, ◌≡◌, ◌-◌, inl, inr, arith, length, sym}
use Rattle.tree_pack.proofs.Totals.{rooms_more, length-rooms}
use Rattle.tree_pack.proofs.cutting.part_len.Goals as goal

pub returns-then-saturating_sub-size : goal.returns-then-saturating_sub-size
returns-then-saturating_sub-size c =
    let i = c.cells.invariant in
    let lt : c.cells.count < length c.args.cells.now = omega (arith, c.cells-test.true, i.most_is) in
    let more = rooms_more c.cells.count c.cell_len-size.result c.args.cells.now _ lt c.cell_len-size.ensures in
    let len = length-rooms c.args.cells.now in
    let full = c.if-saturating_sub-size.true in
    let left = c.saturating_sub.ensures in
    record { some = i.some; behind = omega (arith, c.cells-test.true, i.most_is, len); fits = rw (sym i.sum_is) i.fits; enough = inr (inl (omega (arith, more, i.sum_is, full, left))); least = i.least }

pub cells-preserved : goal.cells-preserved
cells-preserved c =
    let i = c.cells.invariant in
    let lt : c.cells.count < length c.args.cells.now = omega (arith, c.cells-test.true, i.most_is) in
    let more = rooms_more c.cells.count c.cell_len-size.result c.args.cells.now _ lt c.cell_len-size.ensures in
    let room = c.if-saturating_sub-size.false in
    let left = c.saturating_sub.ensures in
    let back : c.cells.count + 1 - 1 ≡ c.cells.count = omega arith in
    record {
      some = omega arith;
      within = omega (arith, c.cells-test.true);
      most_is = i.most_is;
      sum_is = omega (arith, more, i.sum_is);
      fits = inr (omega (arith, room, left));
      least = inr (rw back (omega (arith, i.sum_is, c.if-goal-sum.false)));
    }
