use Rattle.query_names.proofs.CalmConditions.{calm_is_good}
use Rattle.query_names.proofs.calm_is_not_refused.Goals as goal

pub returns : goal.returns
returns c = calm_is_good
