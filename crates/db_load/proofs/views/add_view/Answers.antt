use Rattle.std.proofs.Common.{subst, true}
use Rattle.catalog.specs.Listed.{listed_in}
use Rattle.catalog.specs.declared.tables.View.{View}
use Rattle.db_pages.specs.Schema.{ViewTold}
use Rattle.db_load.specs.Reading.{ReadsTold}
use Rattle.db_load.proofs.SchemaTables.{memory_of}
use Rattle.db_load.proofs.TreelessRows.{view_found}
use Rattle.db_load.proofs.views.add_view.Goals as goal

pub returns-in_err-view-clause-tells : goal.returns-in_err-view-clause-tells
returns-in_err-view-clause-tells c = λ view tells can.
    memory_of _ c.from_residual.result c.in_err-view.field-0.0 c.from_residual.ensures.1 (c.in_err-view.ensures.tells view tells)

pub returns-clause-tells : goal.returns-clause-tells
returns-clause-tells c = λ view tells.
    subst (λ (v : View). ReadsTold true (ViewTold v) (listed_in c.args.catalog.now) (listed_in c.add_new.new.catalog) c.add_new.result) (c.in_ok-view.ensures.tells view tells) c.add_new.ensures.tells

pub returns-clause-found : goal.returns-clause-found
returns-clause-found c = λ its_kind.
    view_found c.args.row.now c.in_ok-view.view (listed_in c.args.catalog.now) (listed_in c.add_new.new.catalog) c.add_new.result its_kind c.in_ok-view.ensures.found c.add_new.ensures.found
