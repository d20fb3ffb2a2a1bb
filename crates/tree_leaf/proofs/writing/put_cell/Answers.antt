use Rattle.std.proofs.Common.{ℤ, FitsSigned, ap, ◌∙◌, rules}
use Rattle.std.specs.Int.{w64, cast_unsigned}
use Rattle.std.proofs.lemmas.Int.{to_z-of_z}
use Rattle.tree_leaf.specs.Leaf.{entry_of}
use Rattle.tree_leaf.proofs.PutLemmas.{cell_parts}
use Rattle.tree_leaf.proofs.writing.put_cell.Goals as goal

pub returns : goal.returns
returns c =
    let rowid = c.args.cell.now.rowid in
    let numbered : FitsSigned w64 rowid = search rules in
    cell_parts c.args.out.now.items c.put_varint.new.out.items c.put_varint-2.new.out.items c.extend_from_slice.new.self.items (entry_of c.args.cell.now) c.cast_unsigned.result
    (c.cast_unsigned.ensures ∙ ap (λ (z : ℤ). cast_unsigned w64 z) (to_z-of_z w64 rowid numbered))
    c.in_ok-put_varint.ensures.exact c.in_ok-put_varint-2.ensures.exact c.in_ok-extend_from_slice.ensures.items
