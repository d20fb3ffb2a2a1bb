use Rattle.db_header.proofs.SpellingLemmas.{two_bytes}
use Rattle.db_header.proofs.writing.pair.Goals as goal

pub returns-clause-only : goal.returns-clause-only
returns-clause-only c = rw c.to_be_bytes.ensures (two_bytes c.args.number)
