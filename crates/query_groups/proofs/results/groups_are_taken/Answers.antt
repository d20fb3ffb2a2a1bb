use Rattle.query_groups.proofs.GroupsTaken.{all_taken}
use Rattle.query_groups.proofs.results.groups_are_taken.Goals as goal

pub returns : goal.returns
returns c = all_taken
