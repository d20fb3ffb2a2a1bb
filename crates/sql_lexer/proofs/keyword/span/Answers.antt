use Rattle.sql_lexer.proofs.Letters.{stands, stands_within}
use Rattle.sql_lexer.proofs.keyword.span.Goals as goal

pub returns-in-Some-clause-within : goal.returns-in-Some-clause-within
returns-in-Some-clause-within c = stands_within c.in-Some.n c.in-Some.ensures.0

pub returns-in-Some-clause-same : goal.returns-in-Some-clause-same
returns-in-Some-clause-same c = λ rest. stands c.in-Some.n c.args.first rest c.in-Some.ensures.0 c.in-Some.ensures.1
