use Rattle.std.proofs.Common.{◌+◌, ◌<◌, inl, inr, arith}
use Rattle.std.proofs.lemmas.List.{take_rest, length-drop}
use Rattle.tree_pack.specs.Parts.{total}
use Rattle.tree_pack.proofs.Totals.{rooms, part_more, part_last}
use Rattle.tree_pack.proofs.cutting.cut_on.Goals as goal

pub returns-then-left-up : goal.returns-then-left-up
returns-then-left-up c =
    part_last c.args.up c.args.room c.args.goal c.args.cells.now c.parts.left.now c.parts.counts.items (inl (omega (arith, c.if-left-up.true))) c.parts.invariant.so_far

pub returns : goal.returns
returns c =
    part_last c.args.up c.args.room c.args.goal c.args.cells.now c.parts.left.now c.parts.counts.items (inr (omega (arith, c.parts-test.false, c.room_of.ensures))) c.parts.invariant.so_far

pub parts-preserved : goal.parts-preserved
parts-preserved c =
    let k = c.part_len-count.result + c.args.up in
    let i = c.parts.invariant in
    let lt : c.args.room < total (rooms c.parts.left.now) = omega (arith, c.parts-test.true, c.room_of.ensures) in
    record {
      within = rw (take_rest c.parts.left.now k) (omega (arith, i.within, length-drop k c.parts.left.now));
      so_far = part_more c.args.up c.args.room c.args.goal c.args.cells.now c.parts.left.now c.parts.counts.items c.push.new.self.items c.part_len-count.result c.in_ok-push.ensures.items c.part_len-count.ensures lt i.so_far;
    }
