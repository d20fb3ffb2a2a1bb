use Rattle.std.proofs.Common.{Result, List, map, subst}
use Rattle.sqlval.specs.declared.fault.Fault.{Fault}
use Rattle.sqlval.specs.Gives.{Gives}
use Rattle.sql_lexer.specs.Lex.{Lexed, seen}
use Rattle.sql_lexer.proofs.Sound.{is_cut}
use Rattle.sql_lexer.proofs.Whole.{again}
use Rattle.sql_lexer.proofs.tokenizing.tokens.Goals as goal

pub returns-clause-found : goal.returns-clause-found
returns-clause-found c = is_cut (λ found. map seen found.items) c.args.text.now c.cut.result c.cut.ensures.exact c.cut.ensures.long

pub returns-clause-only : goal.returns-clause-only
returns-clause-only c = λ ts le cuts. subst (λ (r : Result (List Lexed) Fault). Gives (λ found. map seen found.items) c.cut.result r) (again c.args.text.now ts le cuts) c.cut.ensures.exact
