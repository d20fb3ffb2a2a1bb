-- What a refused call says of what it should have answered.
use Rattle.std.proofs.Common.{pos, []}
use Rattle.tree_leaf.specs.Leaf.{Entry}

pub no_row : Entry
no_row = record { rowid = pos 0; payload = [] }
