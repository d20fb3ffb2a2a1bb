use Rattle.catalog.specs.Listed.{is_trigger, triggers_in}
use Rattle.catalog.proofs.Sharing.{any_sought}
use Rattle.catalog.proofs.tables.Catalog.has_trigger.Goals as goal

pub returns : goal.returns
returns c = any_sought (is_trigger c.args.name.now) (triggers_in c.args.self.now) c.trigger.result c.is_some.result c.is_some.ensures c.trigger.ensures
