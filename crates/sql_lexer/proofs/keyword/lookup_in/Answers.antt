use Rattle.std.proofs.Common.{ap, ◌∙◌}
use Rattle.sql_lexer.specs.Lex.{lookup}
use Rattle.sql_lexer.proofs.Letters.{map_range}
use Rattle.sql_lexer.proofs.keyword.lookup_in.Goals as goal

pub returns : goal.returns
returns c = c.lookup.ensures ∙ ap (λ ks. lookup ks c.args.word.now) (map_range _ c.args.table.now c.args.from c.args.to)
