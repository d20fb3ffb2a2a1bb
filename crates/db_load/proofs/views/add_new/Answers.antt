use Rattle.catalog.specs.Listed.{listed_in}
use Rattle.db_load.proofs.SchemaTables.{err_not_ok}
use Rattle.db_load.proofs.TreelessRows.{view_added, view_listed}
use Rattle.db_load.proofs.views.add_new.Goals as goal

pub returns-in-Ok-clause-tells : goal.returns-in-Ok-clause-tells
returns-in-Ok-clause-tells c = λ can.
    view_listed c.args.view (listed_in c.args.catalog.now) (listed_in c.add_view.new.self) c.add_view.result can.1 c.add_view.ensures.added c.add_view.ensures.refused

pub returns-in-Ok-clause-found : goal.returns-in-Ok-clause-found
returns-in-Ok-clause-found c =
    view_added c.args.view (listed_in c.args.catalog.now) (listed_in c.add_view.new.self) c.add_view.result c.in-Ok.ensures.found c.add_view.ensures.added

pub returns-in-Err-clause-tells : goal.returns-in-Err-clause-tells
returns-in-Err-clause-tells c = λ can. err_not_ok _ _ (c.in-Err.ensures.tells can.1)
