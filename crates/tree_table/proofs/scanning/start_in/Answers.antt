use Rattle.std.proofs.Common.{pos}
use Rattle.tree_table.specs.declared.scanning.BatchRow.{BatchRow}
use Rattle.tree_table.proofs.Batches.{start_is}
use Rattle.tree_table.proofs.scanning.start_in.Goals as goal

abbrev nothing : BatchRow
nothing = record { rowid = pos 0; end = 0 }

pub returns-else-index-eq0 : goal.returns-else-index-eq0
returns-else-index-eq0 c = start_is 0 c.args.index c.args.rows.now nothing c.if-index-eq0.false c.requires
