use Rattle.pager.proofs.WriterSights.{map_told, tells_write, writes_told}
use Rattle.pager.proofs.laws.writers_are_told.Goals as goal

pub returns-clause-told : goal.returns-clause-told
returns-clause-told g c = λ writer a w b sound page_size reads. tells_write c.args.log.now writer a w b sound page_size reads

pub returns-clause-sound : goal.returns-clause-sound
returns-clause-sound g c = λ writer a w b is. (let writes = writes_told c.args.log.now writer a w b is in writes.sound)

pub returns-clause-map : goal.returns-clause-map
returns-clause-map g c = λ writer a b told. map_told c.args.log.now writer a b told
