use Rattle.sql_lexer.proofs.Part as part
use Rattle.sql_lexer.proofs.laws.part_is_cut.Goals as goal

pub returns-clause-cuts : goal.returns-clause-cuts
returns-clause-cuts c = part.part_is_cut

pub returns-clause-ends : goal.returns-clause-ends
returns-clause-ends c = part.part_ends
