use Rattle.catalog.proofs.ViewChanges.{lists_new_view, lists_other_views}
use Rattle.catalog.proofs.views_come_and_go.Goals as goal

pub returns-clause-new : goal.returns-clause-new
returns-clause-new c = lists_new_view

pub returns-clause-others : goal.returns-clause-others
returns-clause-others c = lists_other_views
