use Rattle.catalog.specs.Listed.{is_view, views_of}
use Rattle.catalog.proofs.Sharing.{any_sought}
use Rattle.catalog.proofs.tables.Catalog.has_view.Goals as goal

pub returns : goal.returns
returns c = any_sought (is_view c.args.name.now) (views_of c.args.self.now) c.view.result c.is_some.result c.is_some.ensures c.view.ensures
