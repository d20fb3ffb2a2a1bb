use Rattle.query_names.proofs.KnownQueries.{known_sources}
use Rattle.query_names.proofs.sources_are_known.Goals as goal

pub returns : goal.returns
returns c = known_sources
