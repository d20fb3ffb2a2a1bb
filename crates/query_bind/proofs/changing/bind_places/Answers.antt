use Rattle.query_bind.proofs.Quiet.{places_calm}
use Rattle.query_bind.proofs.changing.bind_places.Goals as goal

pub returns-clause-not_disk : goal.returns-clause-not_disk
returns-clause-not_disk c = places_calm (λ places. places.items) c.args.source.now c.args.names.now c.bind_each_place.result c.bind_each_place.ensures
