use Rattle.db_header.proofs.SpellingLemmas.{four_bytes}
use Rattle.db_header.proofs.writing.quad.Goals as goal

pub returns-clause-only : goal.returns-clause-only
returns-clause-only c = rw c.to_be_bytes.ensures (four_bytes c.args.n)
