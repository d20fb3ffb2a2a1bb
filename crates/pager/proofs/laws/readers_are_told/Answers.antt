use Rattle.std.proofs.Common.{ap}
use Rattle.pager.specs.Maps.{pages_in}
use Rattle.pager.proofs.Sighting.{tells_read, view_told}
use Rattle.pager.proofs.laws.readers_are_told.Goals as goal

pub returns-clause-told : goal.returns-clause-told
returns-clause-told g c = λ snapshot a b told until. tells_read c.args.log.now snapshot a b told until

pub returns-clause-map : goal.returns-clause-map
returns-clause-map g c = λ snapshot a b told. ap pages_in (view_told c.args.log.now snapshot a b told)
