use Rattle.tree_pack.proofs.Joins.{rows_joined, row_pieces}
use Rattle.tree_pack.proofs.laws.rows_are_joined.Goals as goal

pub returns-clause-whole : goal.returns-clause-whole
returns-clause-whole g c = λ key counts rows. rows_joined key counts rows

pub returns-clause-parts : goal.returns-clause-parts
returns-clause-parts g c = λ key counts rows. row_pieces key counts rows
