use Rattle.db_header.proofs.SpellingLemmas.{said_alone}
use Rattle.db_header.proofs.writing.size_pair.Goals as goal

pub returns-clause-value : goal.returns-clause-value
returns-clause-value c = said_alone c.args.n _ c.requires c.if-n-eq65536.false c.pair-2.ensures.value
