use Rattle.wal.proofs.Changes.{page_one}
use Rattle.wal.proofs.laws.page_is_one.Goals as goal

pub returns : goal.returns
returns c = page_one
