use Rattle.tree_table.proofs.Scans.{from_least}
use Rattle.tree_table.proofs.scanning.Cursor.new.Goals as goal

pub returns-clause-first : goal.returns-clause-first
returns-clause-first c = λ pages size root rows used tree. from_least pages size root rows used tree
