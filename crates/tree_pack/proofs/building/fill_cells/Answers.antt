use Rattle.std.proofs.Common.{[], ◌∙◌}
use Rattle.tree_pack.proofs.BuildingLemmas.{cells_filled}
use Rattle.tree_pack.proofs.building.fill_cells.Goals as goal

pub cells-preserved : goal.cells-preserved
cells-preserved c =
    let i = c.cells.invariant in
    let more = cells_filled c.cells.left.now (record { ref_ptr = (0, 0); now = [] }) c.cells.room c.copy_from_slice.new.self c.cells.end c.in-len1-up.len_at_least i.sum i.within c.copy_from_slice.ensures.after in
    record { sum = more.0; within = more.1; so_far = more.2 ∙ i.so_far }
