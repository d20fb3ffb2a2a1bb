use Rattle.std.proofs.Common.{rules, arith, sym}
use Rattle.sql_lexer.proofs.Cuts.{space_cut, comment_cut}
use Rattle.sql_lexer.proofs.gap.piece.Goals as goal

pub returns-in-len1-up-clause-cut : goal.returns-in-len1-up-clause-cut
returns-in-len1-up-clause-cut c = space_cut c.args.text.now (omega arith) (search rules)

pub returns-in-Some-clause-cut : goal.returns-in-Some-clause-cut
returns-in-Some-clause-cut c = comment_cut c.args.text.now c.in-Some.len (sym c.in-Some.ensures.value)
