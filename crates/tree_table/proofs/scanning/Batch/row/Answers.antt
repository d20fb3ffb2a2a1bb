use Rattle.std.proofs.Common.{ap, length, arith}
use Rattle.tree_table.proofs.Batches.{entries_counted}
use Rattle.tree_table.proofs.scanning.Batch.row.Goals as goal

pub nth_entry-requires : goal.nth_entry-requires
nth_entry-requires c =
    let counted = entries_counted 0 c.self.inside.rows.items c.self.inside.bytes.items in
    let same = ap length c.self.view_is in
    let all = ap length c.as_slice.ensures.value in
    omega (arith, counted, same, all, c.requires)
