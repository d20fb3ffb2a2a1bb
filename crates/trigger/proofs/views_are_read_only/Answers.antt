use Rattle.trigger.proofs.ReadOnlyViews.{read_only}
use Rattle.trigger.proofs.views_are_read_only.Goals as goal

pub returns : goal.returns
returns c = read_only
