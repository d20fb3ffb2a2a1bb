use Rattle.wal.proofs.Views.{seen_over}
use Rattle.wal.proofs.laws.commits_follow.Goals as goal

pub returns : goal.returns
returns c = seen_over
