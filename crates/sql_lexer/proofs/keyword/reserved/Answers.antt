use Rattle.std.proofs.Common.{◌∙◌}
use Rattle.sql_lexer.proofs.Letters.{reserved_in}
use Rattle.sql_lexer.proofs.keyword.reserved.Goals as goal

pub returns-in-len1-up : goal.returns-in-len1-up
returns-in-len1-up c = c.lookup_in.ensures ∙ reserved_in c.span-from.result.0 c.span-from.result.1 c.args.word.now c.words_are_spelled.ensures c.in-len1-up.len_at_least c.span-from.ensures.same
