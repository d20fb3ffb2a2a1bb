use Rattle.sql_lexer.proofs.Whole.{one_way}
use Rattle.sql_lexer.proofs.laws.cut_in_one_way.Goals as goal

pub returns : goal.returns
returns c = one_way
