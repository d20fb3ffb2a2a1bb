use Rattle.std.proofs.Common.{◌≡◌, length, ap, arith}
use Rattle.std.proofs.lemmas.List.{length-append}
use Rattle.tree_pack.proofs.SplicingLemmas.{count_is, around_is}
use Rattle.tree_pack.proofs.splicing.cells_around.Goals as goal

pub append_cells-requires : goal.append_cells-requires
append_cells-requires c = omega (arith, c.in_ok-all.ensures.reserved, ap length c.in_ok-all.ensures.empty)

pub append_cells-requires-2 : goal.append_cells-requires-2
append_cells-requires-2 c =
    let empty = ap length c.in_ok-all.ensures.empty in
    let first = c.in_ok-append_cells.ensures.len in
    let second = ap length c.in_ok-extend_from_slice.ensures.items in
    omega (arith, c.in_ok-all.ensures.reserved, empty, first, second, length-append c.append_cells.new.out.items c.args.between.now, c.append_cells.ensures.capacity, c.extend_from_slice.ensures.capacity)

pub returns-in_err-append_cells-clause-around : goal.returns-in_err-append_cells-clause-around
returns-in_err-append_cells-clause-around c =
    λ a b is_a is_b within_a within_b. absurd (c.in_err-append_cells.ensures.put a is_a (omega arith) within_a)

pub returns-in_err-append_cells-2-clause-around : goal.returns-in_err-append_cells-2-clause-around
returns-in_err-append_cells-2-clause-around c =
    λ a b is_a is_b within_a within_b.
    let len : c.len-end.result ≡ length is_b.cells = omega (arith, c.len-end.ensures b is_b, count_is c.args.right.now.bytes c.args.right.now.start b is_b) in
    absurd (c.in_err-append_cells-2.ensures.put b is_b (omega (arith, within_b, len)) (omega (arith, len)))

pub returns-clause-around : goal.returns-clause-around
returns-clause-around c =
    λ a b is_a is_b within_a within_b.
    let len : c.len-end.result ≡ length is_b.cells = omega (arith, c.len-end.ensures b is_b, count_is c.args.right.now.bytes c.args.right.now.start b is_b) in
    let first = c.in_ok-append_cells.ensures.put a is_a (omega arith) within_a in
    let third = c.in_ok-append_cells-2.ensures.put b is_b (omega (arith, within_b, len)) (omega (arith, len)) in
    around_is c.in_ok-all.all.items c.append_cells.new.out.items c.extend_from_slice.new.self.items c.append_cells-2.new.out.items c.args.between.now is_a.cells is_b.cells c.args.to c.args.from c.len-end.result
    (omega (arith, within_b, len)) len c.in_ok-all.ensures.empty first c.in_ok-extend_from_slice.ensures.items third
