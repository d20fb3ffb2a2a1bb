use Rattle.wal.proofs.Changes.{from_commit, to_commit}
use Rattle.wal.proofs.laws.commit_changes.Goals as goal

pub returns : goal.returns
returns c = λ db page_size frames pages last size bytes number content are. (from_commit db page_size frames pages last size bytes number content are, to_commit db page_size frames pages last size bytes number content are)
