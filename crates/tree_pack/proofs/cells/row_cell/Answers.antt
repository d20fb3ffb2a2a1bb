use Rattle.std.proofs.Common.{ℤ, ◌≡◌, ◌++◌, ap, ◌∙◌}
use Rattle.std.specs.Int.{w64, cast_unsigned}
use Rattle.std.proofs.lemmas.Int.{to_z-of_z}
use Rattle.record.specs.Varint.{varint}
use Rattle.tree_pack.proofs.CellLemmas.{row_is, three_parts}
use Rattle.tree_pack.proofs.cells.row_cell.Goals as goal

pub returns-clause-exact : goal.returns-clause-exact
returns-clause-exact c =
    let rowid = c.args.rowid in
    let number : c.cast_unsigned-rowid.result ≡ cast_unsigned w64 rowid = c.cast_unsigned-rowid.ensures ∙ ap (λ (z : ℤ). cast_unsigned w64 z) (to_z-of_z w64 rowid c.ranges.rowid) in
    three_parts c.in_ok-cell.cell.items c.put_varint.new.out.items c.put_varint-2.new.out.items c.extend_from_slice.new.self.items (varint c.args.size) (varint (cast_unsigned w64 rowid)) c.args.held.now c.in_ok-cell.ensures.items
    c.in_ok-put_varint.ensures.exact (c.in_ok-put_varint-2.ensures.exact ∙ ap (λ n. c.put_varint.new.out.items ++ varint n) number) c.in_ok-extend_from_slice.ensures.items

pub returns-clause-is : goal.returns-clause-is
returns-clause-is c = λ usable held.
    row_is usable c.args.size c.args.rowid c.extend_from_slice.new.self.items c.args.held.now (c.ranges.size.fits) c.ranges.rowid (returns-clause-exact c) held
