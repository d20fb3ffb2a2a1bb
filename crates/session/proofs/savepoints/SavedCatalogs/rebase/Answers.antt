use Rattle.session.proofs.SavedLists.{rebased_is}
use Rattle.session.proofs.savepoints.SavedCatalogs.rebase.Goals as goal

pub returns : goal.returns
returns c = rebased_is c.args.self.now c.forget_changes.new.self c.args.newest c.forget_changes.ensures.rest.0 c.forget_changes.ensures.rest.1 c.forget_changes.ensures.rest.2 c.forget_changes.ensures.items
