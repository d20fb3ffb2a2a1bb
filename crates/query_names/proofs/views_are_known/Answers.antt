use Rattle.query_names.proofs.KnownQueries.{known_views}
use Rattle.query_names.proofs.views_are_known.Goals as goal

pub returns : goal.returns
returns c = known_views
