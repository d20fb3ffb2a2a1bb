use Rattle.std.proofs.Common.{◌∙◌, sym, ap, length}
use Rattle.tree_table.proofs.Batches.{entries_counted}
use Rattle.tree_table.proofs.scanning.Batch.len.Goals as goal

pub returns : goal.returns
returns c = ap length c.as_slice.ensures.value ∙ sym (entries_counted 0 c.self.inside.rows.items c.self.inside.bytes.items) ∙ ap length c.self.view_is
