use Rattle.tree_leaf.proofs.PutLemmas.{first_within}
use Rattle.tree_leaf.proofs.writing.put_pointers.Goals as goal

pub cell_len-offset-requires : goal.cell_len-offset-requires
cell_len-offset-requires c = first_within c.cells.left.now _ c.cells.offset c.in-len1-up.len_at_least c.cells.invariant.1 c.cells.invariant.2
